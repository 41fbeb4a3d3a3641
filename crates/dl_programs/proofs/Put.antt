-- Where a formula with terms put for variables holds.
use Rattle.std.proofs.Common.{◌≡◌, ℕ, ◌≤◌, ℤ, pos, Bool, true, false, not, ◌&&◌, ◌||◌, ◌==◌, if◌then◌else◌, int_lt, int_le, Option, Some, None, List, [], ◌∷◌, ◌++◌, length, refl, ◌∙◌, ap, sym, subst, eq-eqb, arith}
use mathlib.Core.Path.{ap₂, fun_ext}
use Rattle.std.specs.List.{AllByRecursion as Each}
use Rattle.std.specs.Ordering.{int_eq}
use Rattle.dl_term.specs.declared.syntax.Lab.{Lab}
use Rattle.dl_term.specs.declared.syntax.Lab.TheVariants.{Own, At}
use Rattle.dl_term.specs.declared.syntax.Part.{Part}
use Rattle.dl_term.specs.declared.syntax.Term.{Term, Num, Word, Var, Field', Row', Len, Msg, Add', Sub', Mul', If', more_of-Term as one, end_of-Term as end}
use Rattle.dl_term.specs.declared.syntax.Formula.{Formula, True, False, Eq, Lt, Le, Not', And', Or', Implies', All', Exists', Each', Any', more_of-Formula as one_formula, end_of-Formula as end_formula}
use Rattle.dl_term.specs.Syntax.{opened}
use Rattle.dl_term.specs.State.{State}
use Rattle.dl_term.specs.Names.{Meant, Stored, Names, with_number, with_message, label_of}
use Rattle.dl_term.specs.Meaning.{value, holds, part_in, every_below, some_below, every_message, some_message}
use Rattle.dl_term.specs.Measures.{has_variable, has_message}
use Rattle.dl_term.proofs.Agree.{skip-number, skip-message}
use Rattle.dl_model.specs.declared.protocol.Instances.{Instances}
use Rattle.dl_model.specs.Sorts.{has}
use Rattle.dl_model.specs.Words.{with_numbers}
use Rattle.dl_model.specs.Spoken.{bound_names}
use Rattle.dl_model.specs.Scopes.{FormulaIsKnown}
use Rattle.dl_model.proofs.Small.{or-both, or-left, or-right, or-true-left, or-true-right, eqb-other}
use Rattle.dl_subst.specs.Change.{Change, changed, mentions, at_place, captures_inside, term_captures, changed_term}
use Rattle.dl_subst.specs.Substitution.{put_for_variable, for_variable, substituted, term_for, put_for_variables, label_put, for_variables, terms_put}
use Rattle.dl_subst.proofs.Changed.{Reads, value-changed}
use Rattle.dl_wp.proofs.Model.{Covers}
use Rattle.dl_inv.proofs.Lists.{has-front, has-back, true-false}
use Rattle.dl_programs.proofs.Known.{file_scope, file-same}

-- nothing is bound around
abbrev pub none_bound : ℕ → Bool
none_bound x = false

mentions-none : (u : Term) → mentions none_bound none_bound u ≡ false
mentions-none (Num v) = refl
mentions-none (Word x v) = refl
mentions-none (Var x) = refl
mentions-none (Field' label field _ (one node end)) = mentions-none node
mentions-none (Row' label field _ (one node end) _ (one index end)) = or-both _ _ (mentions-none node) (mentions-none index)
mentions-none (Len label) = refl
mentions-none (Msg m part) = refl
mentions-none (Add' _ (one a end) _ (one b end)) = or-both _ _ (mentions-none a) (mentions-none b)
mentions-none (Sub' _ (one a end) _ (one b end)) = or-both _ _ (mentions-none a) (mentions-none b)
mentions-none (Mul' _ (one a end) _ (one b end)) = or-both _ _ (mentions-none a) (mentions-none b)
mentions-none (If' _ (one a end) _ (one b end) _ (one x end) _ (one y end)) =
    or-both _ _ (or-both _ _ (mentions-none a) (mentions-none b)) (or-both _ _ (mentions-none x) (mentions-none y))

place-quiet : (o : Option Term) (within : Bool) → within ≡ false → at_place none_bound none_bound o within ≡ false
place-quiet (Some u) within h = mentions-none u
place-quiet None within h = h

inside-quiet : (c : Change) (t : Term) → captures_inside c none_bound none_bound t ≡ false
inside-quiet c (Num v) = refl
inside-quiet c (Word x v) = refl
inside-quiet c (Var x) = refl
inside-quiet c (Field' label field _ (one node end)) = place-quiet (c.put node) _ (inside-quiet c node)
inside-quiet c (Row' label field _ (one node end) _ (one index end)) = or-both _ _ (place-quiet (c.put node) _ (inside-quiet c node)) (place-quiet (c.put index) _ (inside-quiet c index))
inside-quiet c (Len label) = refl
inside-quiet c (Msg m part) = refl
inside-quiet c (Add' _ (one a end) _ (one b end)) = or-both _ _ (place-quiet (c.put a) _ (inside-quiet c a)) (place-quiet (c.put b) _ (inside-quiet c b))
inside-quiet c (Sub' _ (one a end) _ (one b end)) = or-both _ _ (place-quiet (c.put a) _ (inside-quiet c a)) (place-quiet (c.put b) _ (inside-quiet c b))
inside-quiet c (Mul' _ (one a end) _ (one b end)) = or-both _ _ (place-quiet (c.put a) _ (inside-quiet c a)) (place-quiet (c.put b) _ (inside-quiet c b))
inside-quiet c (If' _ (one a end) _ (one b end) _ (one x end) _ (one y end)) =
    or-both _ _ (or-both _ _ (place-quiet (c.put a) _ (inside-quiet c a)) (place-quiet (c.put b) _ (inside-quiet c b)))
    (or-both _ _ (place-quiet (c.put x) _ (inside-quiet c x)) (place-quiet (c.put y) _ (inside-quiet c y)))

term-quiet : (c : Change) (t : Term) → term_captures c none_bound none_bound t ≡ false
term-quiet c t = place-quiet (c.put t) _ (inside-quiet c t)

-- ---- changes at variables alone

module _ (c : Change) (state : State) (given : ℕ → Bool) (place : (t u : Term) → c.put t ≡ Some u → (y : ℕ) × (t ≡ Var y) × (given y ≡ true)) where
  -- the name is not given, stands in no new term, and stops nothing
  pub record IsApart (y : ℕ) : Type 0 where
    pub other : given y ≡ false
    pub variable : (t u : Term) → c.put t ≡ Some u → has_variable u y ≡ false
    pub message : (t u : Term) → c.put t ≡ Some u → has_message u y ≡ false
    pub goes_on : c.stops_at_variable y ≡ false
    pub goes_in : c.stops_at_message y ≡ false

  abbrev pub AreApart : List ℕ → Type 0
  AreApart bound = (y : ℕ) → has bound y ≡ true → IsApart y

  apart-front : (xs ys : List ℕ) → AreApart (xs ++ ys) → AreApart xs
  apart-front xs ys h y there = h y (has-front xs ys y there)

  apart-back : (xs ys : List ℕ) → AreApart (xs ++ ys) → AreApart ys
  apart-back xs ys h y there = h y (has-back xs ys y there)

  apart-rest : (x : ℕ) (xs : List ℕ) → AreApart (x ∷ xs) → AreApart xs
  apart-rest x xs h y there = h y (or-true-right (y == x) (has xs y) there)

  apart-first : (x : ℕ) (xs : List ℕ) → AreApart (x ∷ xs) → IsApart x
  apart-first x xs h = h x (or-true-left (x == x) (has xs x) (eq-eqb x x refl))

  abbrev Reading : Names → Names → Type 0
  Reading new old = Reads c none_bound none_bound new old state

  -- a name that is given is not the one that is bound
  skip-given : (x y : ℕ) (k : ℤ) (old : Names) → given x ≡ false → given y ≡ true → old.number y ≡ (if y == x then k else old.number y)
  skip-given x y k old free there = sym (ap (λ b. if b then k else old.number y) (eqb-other y x (λ e. true-false (given y) there (ap given e ∙ free))))

  under-variable : (new old : Names) (x : ℕ) (k : ℤ) → IsApart x → Reading new old → Reading (with_number new x k) (with_number old x k)
  under-variable new old x k a r = record {
    own = r.own;
    place = λ t u e clear.
        let p = place t u e in
        skip-number u x k new state (a.variable t u e) ∙ r.place t u e clear
        ∙ subst (λ s. value s old state ≡ value s (with_number old x k) state) (sym p.1) (skip-given x p.0 k old a.other p.2);
    number = λ z none. ap (λ n. if z == x then k else n) (r.number z none);
    part = r.part;
  }

  under-message : (new old : Names) (m : ℕ) (meant : Meant) → IsApart m → Reading new old → Reading (with_message new m meant) (with_message old m meant)
  under-message new old m meant a r = record {
    own = r.own;
    place = λ t u e clear.
        let p = place t u e in
        skip-message u m meant new state (a.message t u e) ∙ r.place t u e clear
        ∙ subst (λ s. value s old state ≡ value s (with_message old m meant) state) (sym p.1) refl;
    number = r.number;
    part = λ k p none. at (k == m) k p none;
  }
    where
      at : (b : Bool) (k : ℕ) (p : Part) → c.put (Msg k p) ≡ None → part_in state (if b then Some meant else new.message k) p ≡ part_in state (if b then Some meant else old.message k) p
      at true k p none = refl
      at false k p none = r.part k p none

  body-on : (b : Bool) (f g : Formula) (n : Names) → b ≡ false → holds (if b then f else g) n state ≡ holds g n state
  body-on true f g n e = cc
  body-on false f g n e = refl

  at-term : (t : Term) (new old : Names) → Reading new old → value (changed_term c t) new state ≡ value t old state
  at-term t new old r = value-changed c none_bound none_bound new old state r t (term-quiet c t)

  pub holds-put : (f : Formula) (new old : Names) → AreApart (bound_names f) → Reading new old → holds (changed c f) new state ≡ holds f old state
  unfolding opened
  holds-put True new old a r = refl
  holds-put False new old a r = refl
  holds-put (Eq s t) new old a r = ap₂ int_eq (at-term s new old r) (at-term t new old r)
  holds-put (Lt s t) new old a r = ap₂ int_lt (at-term s new old r) (at-term t new old r)
  holds-put (Le s t) new old a r = ap₂ int_le (at-term s new old r) (at-term t new old r)
  holds-put (Not' _ (one_formula f end_formula)) new old a r = ap not (holds-put f new old a r)
  holds-put (And' _ (one_formula f end_formula) _ (one_formula g end_formula)) new old a r =
      ap₂ ◌&&◌ (holds-put f new old (apart-front (bound_names f) (bound_names g) a) r) (holds-put g new old (apart-back (bound_names f) (bound_names g) a) r)
  holds-put (Or' _ (one_formula f end_formula) _ (one_formula g end_formula)) new old a r =
      ap₂ ◌||◌ (holds-put f new old (apart-front (bound_names f) (bound_names g) a) r) (holds-put g new old (apart-back (bound_names f) (bound_names g) a) r)
  holds-put (Implies' _ (one_formula f end_formula) _ (one_formula g end_formula)) new old a r =
      ap₂ (λ p q. not p || q) (holds-put f new old (apart-front (bound_names f) (bound_names g) a) r) (holds-put g new old (apart-back (bound_names f) (bound_names g) a) r)
  holds-put (All' x _ (one_formula f end_formula)) new old a r =
      let first = apart-first x (bound_names f) a in
      ap (every_below state.nodes) (fun_ext (λ k. body-on (c.stops_at_variable x) f (changed c f) (with_number new x (pos k)) first.goes_on
      ∙ holds-put f (with_number new x (pos k)) (with_number old x (pos k)) (apart-rest x (bound_names f) a) (under-variable new old x (pos k) first r)))
  holds-put (Exists' x _ (one_formula f end_formula)) new old a r =
      let first = apart-first x (bound_names f) a in
      ap (some_below state.nodes) (fun_ext (λ k. body-on (c.stops_at_variable x) f (changed c f) (with_number new x (pos k)) first.goes_on
      ∙ holds-put f (with_number new x (pos k)) (with_number old x (pos k)) (apart-rest x (bound_names f) a) (under-variable new old x (pos k) first r)))
  holds-put (Each' m label tag _ (one_formula f end_formula)) new old a r =
      let first = apart-first m (bound_names f) a in
      let o = r.own label in
      let at = label_of new.own (c.label label) in
      let v = λ (id : ℕ). body-on (c.stops_at_message m) f (changed c f) (with_message new m (Stored at id)) first.goes_in
      ∙ holds-put f (with_message new m (Stored at id)) (with_message old m (Stored at id)) (apart-rest m (bound_names f) a) (under-message new old m (Stored at id) first r) in
      (λ j. every_message state at tag (λ id. v id j))
      ∙ (λ j. every_message state (o j) tag (λ id. holds f (with_message old m (Stored (o j) id)) state))
  holds-put (Any' m label tag _ (one_formula f end_formula)) new old a r =
      let first = apart-first m (bound_names f) a in
      let o = r.own label in
      let at = label_of new.own (c.label label) in
      let v = λ (id : ℕ). body-on (c.stops_at_message m) f (changed c f) (with_message new m (Stored at id)) first.goes_in
      ∙ holds-put f (with_message new m (Stored at id)) (with_message old m (Stored at id)) (apart-rest m (bound_names f) a) (under-message new old m (Stored at id) first r) in
      (λ j. some_message state at tag (λ id. v id j))
      ∙ (λ j. some_message state (o j) tag (λ id. holds f (with_message old m (Stored (o j) id)) state))

-- ---- a term for one variable

put-at : (x y : ℕ) (new u : Term) (b : Bool) → (y == x) ≡ b → (if b then Some new else None) ≡ Some u → (z : ℕ) × (Var y ≡ Var z) × ((z == x) ≡ true) × (u ≡ new)
put-at x y new u true e h = (y, refl, e, cc)
put-at x y new u false e h = cc

put-variable : (x : ℕ) (new t u : Term) → put_for_variable x new t ≡ Some u → (y : ℕ) × (t ≡ Var y) × ((y == x) ≡ true) × (u ≡ new)
put-variable x new (Var y) u h = put-at x y new u (y == x) refl h
put-variable x new (Num v) u h = cc
put-variable x new (Word s v) u h = cc
put-variable x new (Field' label field _ (one node end)) u h = cc
put-variable x new (Row' label field _ (one node end) _ (one index end)) u h = cc
put-variable x new (Len label) u h = cc
put-variable x new (Msg m part) u h = cc
put-variable x new (Add' _ (one a end) _ (one b end)) u h = cc
put-variable x new (Sub' _ (one a end) _ (one b end)) u h = cc
put-variable x new (Mul' _ (one a end) _ (one b end)) u h = cc
put-variable x new (If' _ (one a end) _ (one b end) _ (one c end) _ (one d end)) u h = cc

-- a name that a quantifier may bind without capture
pub record Spared (x : ℕ) (new : Term) (y : ℕ) : Type 0 where
  pub other : (y == x) ≡ false
  pub variable : has_variable new y ≡ false
  pub message : has_message new y ≡ false

pub substituted-holds : (f : Formula) (x : ℕ) (new : Term) (names : Names) (state : State) → ((y : ℕ) → has (bound_names f) y ≡ true → Spared x new y)
    → holds (substituted f x new) names state ≡ holds f (with_number names x (value new names state)) state
substituted-holds f x new names state spared =
    holds-put (for_variable x new) state (λ y. y == x) (λ t u e. let p = put-variable x new t u e in (p.0, p.1, p.2)) f names (with_number names x (value new names state))
    (λ y there. let s = spared y there in record {
      other = s.other;
      variable = λ t u e. subst (λ w. has_variable w y ≡ false) (sym (put-variable x new t u e).3) s.variable;
      message = λ t u e. subst (λ w. has_message w y ≡ false) (sym (put-variable x new t u e).3) s.message;
      goes_on = s.other;
      goes_in = refl;
    })
    (record {
      own = λ l. refl;
      place = λ t u e clear.
          let p = put-variable x new t u e in
          ap (λ w. value w names state) p.3
          ∙ sym (ap (λ b. if b then value new names state else names.number p.0) p.2)
          ∙ ap (λ s. value s (with_number names x (value new names state)) state) (sym p.1);
      number = λ z none. kept z (z == x) none;
      part = λ m p none. refl;
    })
  where
    kept : (z : ℕ) (b : Bool) → (if b then Some new else None) ≡ None → names.number z ≡ (if b then value new names state else names.number z)
    kept z true h = cc
    kept z false h = refl

-- ---- terms for several variables

puts-at : (xs : List ℕ) (terms : List Term) (y : ℕ) (u : Term) (b : Bool) → has xs y ≡ b → (if b then Some (term_for (Num (pos 0)) xs terms y) else None) ≡ Some u
    → (z : ℕ) × (Var y ≡ Var z) × (has xs z ≡ true) × (u ≡ term_for (Num (pos 0)) xs terms z)
puts-at xs terms y u true e h = (y, refl, e, cc)
puts-at xs terms y u false e h = cc

put-variables : (xs : List ℕ) (terms : List Term) (t u : Term) → put_for_variables xs terms t ≡ Some u → (y : ℕ) × (t ≡ Var y) × (has xs y ≡ true) × (u ≡ term_for (Num (pos 0)) xs terms y)
put-variables xs terms (Var y) u h = puts-at xs terms y u (has xs y) refl h
put-variables xs terms (Num v) u h = cc
put-variables xs terms (Word s v) u h = cc
put-variables xs terms (Field' label field _ (one node end)) u h = cc
put-variables xs terms (Row' label field _ (one node end) _ (one index end)) u h = cc
put-variables xs terms (Len label) u h = cc
put-variables xs terms (Msg m part) u h = cc
put-variables xs terms (Add' _ (one a end) _ (one b end)) u h = cc
put-variables xs terms (Sub' _ (one a end) _ (one b end)) u h = cc
put-variables xs terms (Mul' _ (one a end) _ (one b end)) u h = cc
put-variables xs terms (If' _ (one a end) _ (one b end) _ (one c end) _ (one d end)) u h = cc

choose-lacks : (P : Term → Type 0) (b : Bool) (s t : Term) → P s → P t → P (if b then s else t)
choose-lacks P true s t h k = h
choose-lacks P false s t h k = k

term-for-is : (P : Term → Type 0) (found : Term) (xs : List ℕ) (terms : List Term) (z : ℕ) → P found → Each P terms → P (term_for found xs terms z)
term-for-is P found [] terms z h k = h
term-for-is P found (x ∷ xs) [] z h k = h
term-for-is P found (x ∷ xs) (t ∷ ts) z h k = term-for-is P (if z == x then t else found) xs ts z (choose-lacks P (z == x) t found k.0 h) k.1

-- a name that a quantifier may bind without capture
pub record AllSpared (xs : List ℕ) (terms : List Term) (y : ℕ) : Type 0 where
  pub other : has xs y ≡ false
  pub variable : Each (λ t. has_variable t y ≡ false) terms
  pub message : Each (λ t. has_message t y ≡ false) terms

-- the number of a name where the terms are put
abbrev pub number_put : Names → State → List ℕ → List Term → ℕ → ℤ
number_put names state xs terms z = if has xs z then value (term_for (Num (pos 0)) xs terms z) names state else names.number z

abbrev names_put : Names → State → List ℕ → List Term → Names
names_put names state xs terms = record { own = names.own; number = number_put names state xs terms; message = names.message }

put-holds : (f : Formula) (xs : List ℕ) (terms : List Term) (names : Names) (state : State) → ((y : ℕ) → has (bound_names f) y ≡ true → AllSpared xs terms y)
    → holds (terms_put f xs terms Own) names state ≡ holds f (names_put names state xs terms) state
put-holds f xs terms names state spared =
    holds-put (for_variables xs terms Own) state (has xs) (λ t u e. let p = put-variables xs terms t u e in (p.0, p.1, p.2)) f names (names_put names state xs terms)
    (λ y there. let s = spared y there in record {
      other = s.other;
      variable = λ t u e. subst (λ w. has_variable w y ≡ false) (sym (put-variables xs terms t u e).3) (term-for-is (λ w. has_variable w y ≡ false) (Num (pos 0)) xs terms (put-variables xs terms t u e).0 refl s.variable);
      message = λ t u e. subst (λ w. has_message w y ≡ false) (sym (put-variables xs terms t u e).3) (term-for-is (λ w. has_message w y ≡ false) (Num (pos 0)) xs terms (put-variables xs terms t u e).0 refl s.message);
      goes_on = refl;
      goes_in = refl;
    })
    (record {
      own = told;
      place = λ t u e clear.
          let p = put-variables xs terms t u e in
          ap (λ w. value w names state) p.3
          ∙ sym (ap (λ b. if b then value (term_for (Num (pos 0)) xs terms p.0) names state else names.number p.0) p.2)
          ∙ ap (λ s. value s (names_put names state xs terms) state) (sym p.1);
      number = λ z none. kept z (has xs z) none;
      part = λ m p none. refl;
    })
  where
    told : (l : Lab) → label_of names.own (label_put Own l) ≡ label_of names.own l
    told Own = refl
    told (At l) = refl

    kept : (z : ℕ) (b : Bool) → (if b then Some (term_for (Num (pos 0)) xs terms z) else None) ≡ None → names.number z ≡ (if b then value (term_for (Num (pos 0)) xs terms z) names state else names.number z)
    kept z true h = cc
    kept z false h = refl

-- ---- formulas of the file

module _ (inst : Instances) (variables : List ℕ) (f : Formula) (known : FormulaIsKnown (file_scope inst variables) f) (state : State) where
  pub substituted-same : (x : ℕ) (new : Term) (names m : Names) → ((y : ℕ) → has (bound_names f) y ≡ true → Spared x new y)
      → ((z : ℕ) → has variables z ≡ true → (if z == x then value new names state else names.number z) ≡ m.number z) → holds (substituted f x new) names state ≡ holds f m state
  substituted-same x new names m spared same = substituted-holds f x new names state spared ∙ file-same inst variables f (with_number names x (value new names state)) m state known same

  pub put-same : (xs : List ℕ) (terms : List Term) (names m : Names) → ((y : ℕ) → has (bound_names f) y ≡ true → AllSpared xs terms y)
      → ((z : ℕ) → has variables z ≡ true → number_put names state xs terms z ≡ m.number z) → holds (terms_put f xs terms Own) names state ≡ holds f m state
  put-same xs terms names m spared same = put-holds f xs terms names state spared ∙ file-same inst variables f (names_put names state xs terms) m state known same

-- ---- terms that have the values of numbers

choose-value : (b : Bool) (s t : Term) (names : Names) (state : State) (v w : ℤ) → value s names state ≡ v → (b ≡ false → value t names state ≡ w) → value (if b then s else t) names state ≡ (if b then v else w)
choose-value true s t names state v w h k = h
choose-value false s t names state v w h k = k refl

pub put-number : (names : Names) (state : State) (xs : List ℕ) (terms : List Term) (values : List ℤ) (found : Term) (base : Names) (y : ℕ) → Covers names state xs terms values → length xs ≤ length values
    → (has xs y ≡ false → value found names state ≡ base.number y) → value (term_for found xs terms y) names state ≡ (with_numbers base xs values).number y
put-number names state [] terms values found base y c few h = h refl
put-number names state (x ∷ xs) [] [] found base y c few h = absurd (omega (few, arith))
put-number names state (x ∷ xs) [] (v ∷ vs) found base y c few h = absurd c
put-number names state (x ∷ xs) (t ∷ ts) [] found base y c few h = absurd c
put-number names state (x ∷ xs) (t ∷ ts) (v ∷ vs) found base y c few h =
    put-number names state xs ts vs (if y == x then t else found) (with_number base x v) y c.1 (omega (few, arith))
    (λ lack. choose-value (y == x) t found names state v (base.number y) c.0 (λ e. h (or-both (y == x) (has xs y) e lack)))

pub later-number : (base : Names) (xs : List ℕ) (values : List ℤ) (y : ℕ) → has xs y ≡ false → (with_numbers base xs values).number y ≡ base.number y
later-number base [] values y h = refl
later-number base (x ∷ xs) [] y h = refl
later-number base (x ∷ xs) (v ∷ vs) y h = later-number (with_number base x v) xs vs y (or-right (y == x) (has xs y) h) ∙ ap (λ b. if b then v else base.number y) (or-left (y == x) (has xs y) h)

-- Where terms with these values are put for the names, the numbers are those of the names with these numbers.
pub put-numbers : (names : Names) (state : State) (xs : List ℕ) (terms : List Term) (values : List ℤ) (base : Names) (y : ℕ) → Covers names state xs terms values → length xs ≤ length values
    → (has xs y ≡ false → names.number y ≡ base.number y) → number_put names state xs terms y ≡ (with_numbers base xs values).number y
put-numbers names state xs terms values base y c few h = at (has xs y) refl
  where
    at : (b : Bool) → has xs y ≡ b → (if b then value (term_for (Num (pos 0)) xs terms y) names state else names.number y) ≡ (with_numbers base xs values).number y
    at true e = put-number names state xs terms values (Num (pos 0)) base y c few (λ lack. absurd (true-false (has xs y) e lack))
    at false e = h e ∙ sym (later-number base xs values y e)
