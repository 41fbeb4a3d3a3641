-- Nothing is captured in a formula that tells its names apart, where the new terms have known names.
use Rattle.std.proofs.Common.{◌≡◌, ℕ, Bool, true, false, not, ◌&&◌, ◌||◌, ◌==◌, if◌then◌else◌, List, [], ◌∷◌, Option, Some, None, refl, sym, ◌∙◌, ap, subst, eqb-true}
use Rattle.dl_term.specs.declared.syntax.Term.{Term, Num, Word, Var, Field', Row', Len, Msg, Add', Sub', Mul', If', more_of-Term as one, end_of-Term as end}
use Rattle.dl_term.specs.declared.syntax.Formula.{Formula, True, False, Eq, Lt, Le, Not', And', Or', Implies', All', Exists', Each', Any', more_of-Formula as one_formula, end_of-Formula as end_formula}
use Rattle.dl_model.specs.Sorts.{has}
use Rattle.dl_subst.specs.Change.{Change, mentions, at_place, captures_inside, term_captures, and_name, captures_under, captures}
use Rattle.dl_sequent.specs.Clean.{knows, is_unknown, is_told_apart}
use Rattle.dl_kernel.proofs.ApartLemmas.{left, right}

-- The new terms of a change have names of W and N. These don't stand among the variables and messages that are bound
-- around, nor does a name that is not known among V and M.
pub record IsQuiet (c : Change) (V M W N : List ℕ) (variable message : ℕ → Bool) : Type 0 where
  pub new : (t u : Term) → c.put t ≡ Some u → knows W N u ≡ true
  pub unknown : (x : ℕ) → is_unknown V M x ≡ true → is_unknown W N x ≡ true
  pub variables : (z : ℕ) → variable z ≡ true → has W z ≡ false
  pub messages : (z : ℕ) → message z ≡ true → has N z ≡ false

neither : (a b : Bool) → a ≡ false → b ≡ false → (a || b) ≡ false
neither true b h k = cc
neither false b h k = k

apart : (bound known : Bool) → (bound ≡ true → known ≡ false) → known ≡ true → bound ≡ false
apart true known h k = let none = h refl in cc
apart false known h k = refl

names-apart : (u : Term) (W N : List ℕ) (variable message : ℕ → Bool) → ((z : ℕ) → variable z ≡ true → has W z ≡ false) → ((z : ℕ) → message z ≡ true → has N z ≡ false) → knows W N u ≡ true → mentions variable message u ≡ false
names-apart (Num v) W N variable message p q k = refl
names-apart (Word sym v) W N variable message p q k = refl
names-apart (Var x) W N variable message p q k = apart (variable x) (has W x) (p x) k
names-apart (Field' label field _ (one node end)) W N variable message p q k = names-apart node W N variable message p q k
names-apart (Row' label field _ (one node end) _ (one index end)) W N variable message p q k =
    neither _ _ (names-apart node W N variable message p q (left _ _ k)) (names-apart index W N variable message p q (right _ _ k))
names-apart (Len label) W N variable message p q k = refl
names-apart (Msg m part) W N variable message p q k = apart (message m) (has N m) (q m) k
names-apart (Add' _ (one a end) _ (one b end)) W N variable message p q k =
    neither _ _ (names-apart a W N variable message p q (left _ _ k)) (names-apart b W N variable message p q (right _ _ k))
names-apart (Sub' _ (one a end) _ (one b end)) W N variable message p q k =
    neither _ _ (names-apart a W N variable message p q (left _ _ k)) (names-apart b W N variable message p q (right _ _ k))
names-apart (Mul' _ (one a end) _ (one b end)) W N variable message p q k =
    neither _ _ (names-apart a W N variable message p q (left _ _ k)) (names-apart b W N variable message p q (right _ _ k))
names-apart (If' _ (one a end) _ (one b end) _ (one x end) _ (one y end)) W N variable message p q k =
    let tested = left (knows W N a && knows W N b) (knows W N x && knows W N y) k in
    let chosen = right (knows W N a && knows W N b) (knows W N x && knows W N y) k in
    neither _ _ (neither _ _ (names-apart a W N variable message p q (left _ _ tested)) (names-apart b W N variable message p q (right _ _ tested)))
    (neither _ _ (names-apart x W N variable message p q (left _ _ chosen)) (names-apart y W N variable message p q (right _ _ chosen)))

module _ (c : Change) (V M W N : List ℕ) (variable message : ℕ → Bool) (h : IsQuiet c V M W N variable message) where
  place-quiet : (t : Term) (o : Option Term) → c.put t ≡ o → captures_inside c variable message t ≡ false → at_place variable message o (captures_inside c variable message t) ≡ false
  place-quiet t (Some u) e within = names-apart u W N variable message h.variables h.messages (h.new t u e)
  place-quiet t None e within = within

  inside-quiet : (t : Term) → captures_inside c variable message t ≡ false
  inside-quiet (Num v) = refl
  inside-quiet (Word sym v) = refl
  inside-quiet (Var x) = refl
  inside-quiet (Field' label field _ (one node end)) = place-quiet node (c.put node) refl (inside-quiet node)
  inside-quiet (Row' label field _ (one node end) _ (one index end)) =
      neither _ _ (place-quiet node (c.put node) refl (inside-quiet node)) (place-quiet index (c.put index) refl (inside-quiet index))
  inside-quiet (Len label) = refl
  inside-quiet (Msg m part) = refl
  inside-quiet (Add' _ (one a end) _ (one b end)) = neither _ _ (place-quiet a (c.put a) refl (inside-quiet a)) (place-quiet b (c.put b) refl (inside-quiet b))
  inside-quiet (Sub' _ (one a end) _ (one b end)) = neither _ _ (place-quiet a (c.put a) refl (inside-quiet a)) (place-quiet b (c.put b) refl (inside-quiet b))
  inside-quiet (Mul' _ (one a end) _ (one b end)) = neither _ _ (place-quiet a (c.put a) refl (inside-quiet a)) (place-quiet b (c.put b) refl (inside-quiet b))
  inside-quiet (If' _ (one a end) _ (one b end) _ (one x end) _ (one y end)) =
      neither _ _ (neither _ _ (place-quiet a (c.put a) refl (inside-quiet a)) (place-quiet b (c.put b) refl (inside-quiet b)))
      (neither _ _ (place-quiet x (c.put x) refl (inside-quiet x)) (place-quiet y (c.put y) refl (inside-quiet y)))

  term-quiet : (t : Term) → term_captures c variable message t ≡ false
  term-quiet t = place-quiet t (c.put t) refl (inside-quiet t)

either-bound : (names : List ℕ) (z y : ℕ) (rest : Bool) → ((z == y) || rest) ≡ true → has names y ≡ false → (rest ≡ true → has names z ≡ false) → has names z ≡ false
either-bound names z y rest h here there = by_test (z == y) refl h
  where
    by_test : (b : Bool) → (z == y) ≡ b → (b || rest) ≡ true → has names z ≡ false
    by_test true e h = ap (has names) (eqb-true z y e) ∙ here
    by_test false e h = there h

not-known : (a b : Bool) → (not a && b) ≡ true → a ≡ false
not-known true b h = cc
not-known false b h = refl

not-known-next : (a b : Bool) → (a && not b) ≡ true → b ≡ false
not-known-next true true h = cc
not-known-next true false h = refl
not-known-next false b h = cc

shorter : (a b c : Bool) → (not (a || b) && c) ≡ true → (not b && c) ≡ true
shorter true b c h = cc
shorter false b c h = h

shorter-next : (a b c : Bool) → (c && not (a || b)) ≡ true → (c && not b) ≡ true
shorter-next true b true h = cc
shorter-next true b false h = cc
shorter-next false b c h = h

below-variable : (c : Change) (V M W N : List ℕ) (variable message : ℕ → Bool) (y : ℕ) → IsQuiet c V M W N variable message → is_unknown V M y ≡ true → IsQuiet c (y ∷ V) M W N (and_name y variable) message
below-variable c V M W N variable message y h fresh = record {
  new = h.new;
  unknown = λ x k. h.unknown x (shorter (x == y) (has V x) (not (has M x)) k);
  variables = λ z k. either-bound W z y (variable z) k (not-known (has W y) (not (has N y)) (h.unknown y fresh)) (h.variables z);
  messages = h.messages;
}

below-message : (c : Change) (V M W N : List ℕ) (variable message : ℕ → Bool) (y : ℕ) → IsQuiet c V M W N variable message → is_unknown V M y ≡ true → IsQuiet c V (y ∷ M) W N variable (and_name y message)
below-message c V M W N variable message y h fresh = record {
  new = h.new;
  unknown = λ x k. h.unknown x (shorter-next (x == y) (has M x) (not (has V x)) k);
  variables = h.variables;
  messages = λ z k. either-bound N z y (message z) k (not-known-next (not (has W y)) (has N y) (h.unknown y fresh)) (h.messages z);
}

and-none : (a b : Bool) → b ≡ false → (a && b) ≡ false
and-none true b h = h
and-none false b h = refl

pub nothing-captured : (f : Formula) (c : Change) (V M W N : List ℕ) (variable message : ℕ → Bool) → IsQuiet c V M W N variable message → is_told_apart V M f ≡ true → captures_under c variable message f ≡ false
nothing-captured True c V M W N variable message h k = refl
nothing-captured False c V M W N variable message h k = refl
nothing-captured (Eq a b) c V M W N variable message h k = neither _ _ (term-quiet c V M W N variable message h a) (term-quiet c V M W N variable message h b)
nothing-captured (Lt a b) c V M W N variable message h k = neither _ _ (term-quiet c V M W N variable message h a) (term-quiet c V M W N variable message h b)
nothing-captured (Le a b) c V M W N variable message h k = neither _ _ (term-quiet c V M W N variable message h a) (term-quiet c V M W N variable message h b)
nothing-captured (Not' _ (one_formula f end_formula)) c V M W N variable message h k = nothing-captured f c V M W N variable message h k
nothing-captured (And' _ (one_formula f end_formula) _ (one_formula g end_formula)) c V M W N variable message h k =
    neither _ _ (nothing-captured f c V M W N variable message h (left _ _ k)) (nothing-captured g c V M W N variable message h (right _ _ k))
nothing-captured (Or' _ (one_formula f end_formula) _ (one_formula g end_formula)) c V M W N variable message h k =
    neither _ _ (nothing-captured f c V M W N variable message h (left _ _ k)) (nothing-captured g c V M W N variable message h (right _ _ k))
nothing-captured (Implies' _ (one_formula f end_formula) _ (one_formula g end_formula)) c V M W N variable message h k =
    neither _ _ (nothing-captured f c V M W N variable message h (left _ _ k)) (nothing-captured g c V M W N variable message h (right _ _ k))
nothing-captured (All' y _ (one_formula f end_formula)) c V M W N variable message h k =
    let fresh = left (is_unknown V M y) (is_told_apart (y ∷ V) M f) k in
    and-none (not (c.stops_at_variable y)) _ (nothing-captured f c (y ∷ V) M W N (and_name y variable) message (below-variable c V M W N variable message y h fresh) (right (is_unknown V M y) (is_told_apart (y ∷ V) M f) k))
nothing-captured (Exists' y _ (one_formula f end_formula)) c V M W N variable message h k =
    let fresh = left (is_unknown V M y) (is_told_apart (y ∷ V) M f) k in
    and-none (not (c.stops_at_variable y)) _ (nothing-captured f c (y ∷ V) M W N (and_name y variable) message (below-variable c V M W N variable message y h fresh) (right (is_unknown V M y) (is_told_apart (y ∷ V) M f) k))
nothing-captured (Each' y label tag _ (one_formula f end_formula)) c V M W N variable message h k =
    let fresh = left (is_unknown V M y) (is_told_apart V (y ∷ M) f) k in
    and-none (not (c.stops_at_message y)) _ (nothing-captured f c V (y ∷ M) W N variable (and_name y message) (below-message c V M W N variable message y h fresh) (right (is_unknown V M y) (is_told_apart V (y ∷ M) f) k))
nothing-captured (Any' y label tag _ (one_formula f end_formula)) c V M W N variable message h k =
    let fresh = left (is_unknown V M y) (is_told_apart V (y ∷ M) f) k in
    and-none (not (c.stops_at_message y)) _ (nothing-captured f c V (y ∷ M) W N variable (and_name y message) (below-message c V M W N variable message y h fresh) (right (is_unknown V M y) (is_told_apart V (y ∷ M) f) k))

-- the same where nothing is bound around
pub none-captured : (f : Formula) (c : Change) (V M W N : List ℕ) → ((t u : Term) → c.put t ≡ Some u → knows W N u ≡ true) → ((x : ℕ) → is_unknown V M x ≡ true → is_unknown W N x ≡ true) → is_told_apart V M f ≡ true → captures c f ≡ false
none-captured f c V M W N new unknown k =
    nothing-captured f c V M W N (λ x. false) (λ m. false) (record { new = new; unknown = unknown; variables = λ z e. absurd (cc); messages = λ z e. absurd (cc) }) k
