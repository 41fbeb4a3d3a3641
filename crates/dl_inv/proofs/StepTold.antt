-- The goals of obligations tell their names apart, and so do guards, hooks and what updates must fit.
use Rattle.std.proofs.Common.{◌≡◌, ℕ, pos, Bool, true, false, ◌==◌, if◌then◌else◌, Option, Some, None, List, [], ◌∷◌, refl, ◌∙◌, ap, sym, subst, eq-eqb, eqb-true, inl, inr}
use Rattle.std.specs.List.{AllByRecursion as Each}
use Rattle.dl_term.specs.declared.syntax.Lab.{Lab}
use Rattle.dl_term.specs.declared.syntax.Part.{Part}
use Rattle.dl_term.specs.declared.syntax.Part.TheVariants.{Id, From, To, Live, Arg}
use Rattle.dl_term.specs.declared.syntax.Term.{Term, Num, Word, Var, Field, Field', Row, Row', Len, Msg, Add', Sub', Mul', If, If', more_of-Term as one, end_of-Term as end}
use Rattle.dl_term.specs.declared.syntax.Formula.{Formula, True, False, Eq, Lt, Le, Not', And', Or', Implies', All', Exists', Each', Any', more_of-Formula as one_formula, end_of-Formula as end_formula}
use Rattle.dl_term.specs.Syntax.{opened}
use Rattle.dl_term.specs.Same.{same_term}
use Rattle.dl_model.specs.declared.protocol.Update.{Update}
use Rattle.dl_model.specs.Sorts.{has}
use Rattle.dl_model.specs.Spoken.{bound_names}
use Rattle.dl_model.specs.Words.{me_word}
use Rattle.dl_model.specs.Scopes.{Scope, with_variable, with_message, TermIsKnown, FormulaIsKnown}
use Rattle.dl_model.proofs.Small.{and-both, or-left, or-right, or-both, or-true-left, or-true-right, either-true}
use Rattle.dl_sequent.specs.Clean.{knows, is_unknown, is_told_apart}
use Rattle.dl_subst.specs.declared.message.NewMessage.{NewMessage}
use Rattle.dl_subst.specs.Change.{Change, changed_term, changed}
use Rattle.dl_subst.specs.Substitution.{new_part, put_for_message, for_message, for_own}
use Rattle.dl_wp.specs.Choices.{constant, differ, pick}
use Rattle.dl_wp.specs.Steps.{Move, Sends, Receives, Step, as_seen, label_seen, seen, seen_index, argument_of, names_in_step}
use Rattle.dl_wp.specs.Before.{update_at, field_before, row_before, len_before, live_before, part_before, term_before, is_over, bound_over, each_before, any_before, before}
use Rattle.dl_inv.specs.Steps.{put_in_step}
use Rattle.dl_inv.proofs.Lists.{lacked, true-false}
use Rattle.dl_inv.proofs.Told.{unknown-is, is-no-variable, is-no-message, Inside, inside-front, inside-back, inside-unknown, inside-variable, inside-message, Passes, changed-told}

-- ---- terms over some names

-- the term is known wherever these variables and messages are
abbrev pub IsWithin : List ℕ → List ℕ → Term → Type 0
IsWithin vs ks t = (vars messages : List ℕ) → ((n : ℕ) → has vs n ≡ true → has vars n ≡ true) → ((n : ℕ) → has ks n ≡ true → has messages n ≡ true) → knows vars messages t ≡ true

-- these variables and messages are known
pub record Wide (vs ks vars messages : List ℕ) : Type 0 where
  pub variables : (n : ℕ) → has vs n ≡ true → has vars n ≡ true
  pub messages_in : (n : ℕ) → has ks n ≡ true → has messages n ≡ true

pub wide-variable : (vs ks vars messages : List ℕ) (y : ℕ) → Wide vs ks vars messages → Wide vs ks (y ∷ vars) messages
wide-variable vs ks vars messages y w = record { variables = λ n m. or-true-right (n == y) (has vars n) (w.variables n m); messages_in = w.messages_in }

pub wide-message : (vs ks vars messages : List ℕ) (y : ℕ) → Wide vs ks vars messages → Wide vs ks vars (y ∷ messages)
wide-message vs ks vars messages y w = record { variables = w.variables; messages_in = λ n m. or-true-right (n == y) (has messages n) (w.messages_in n m) }

choice-has : (P : Term → Type 0) (b : Bool) (s t : Term) → P s → P t → P (if b then s else t)
choice-has P true s t h k = h
choice-has P false s t h k = k

argument-has : (P : Term → Type 0) (found : Term) (syms : List ℕ) (terms : List Term) (x : ℕ) → P found → Each P terms → P (argument_of found syms terms x)
argument-has P found [] terms x h k = h
argument-has P found (y ∷ ys) [] x h k = h
argument-has P found (y ∷ ys) (t ∷ ts) x h k = argument-has P (if x == y then t else found) ys ts x (choice-has P (x == y) t found k.0 h) k.1

-- what holds of the node, the other node, 0 and the arguments holds of each term of the step
pub named-has : (P : Term → Type 0) (node : Term) (word : ℕ) (other : Term) (syms : List ℕ) (terms : List Term) (x : ℕ) → P node → P other → P (Num (pos 0)) → Each P terms → P (names_in_step node word other syms terms x)
named-has P node word other syms terms x h k z e =
    argument-has P (if x == word then other else if x == me_word then node else Num (pos 0)) syms terms x
    (choice-has P (x == word) other (if x == me_word then node else Num (pos 0)) k (choice-has P (x == me_word) node (Num (pos 0)) h z)) e

pub seen-known : (label : Lab) (named : ℕ → Term) (vars messages : List ℕ) → ((x : ℕ) → knows vars messages (named x) ≡ true) → (t : Term) → knows vars messages (changed_term (as_seen label named) t) ≡ true
unfolding opened
seen-known label named vars messages h (Num n) = refl
seen-known label named vars messages h (Word x n) = refl
seen-known label named vars messages h (Var x) = h x
seen-known label named vars messages h (Field' l field _ (one node end)) = seen-known label named vars messages h node
seen-known label named vars messages h (Row' l field _ (one node end) _ (one index end)) = and-both _ _ (seen-known label named vars messages h node) (seen-known label named vars messages h index)
seen-known label named vars messages h (Len l) = refl
seen-known label named vars messages h (Msg k part) = refl
seen-known label named vars messages h (Add' _ (one a end) _ (one b end)) = and-both _ _ (seen-known label named vars messages h a) (seen-known label named vars messages h b)
seen-known label named vars messages h (Sub' _ (one a end) _ (one b end)) = and-both _ _ (seen-known label named vars messages h a) (seen-known label named vars messages h b)
seen-known label named vars messages h (Mul' _ (one a end) _ (one b end)) = and-both _ _ (seen-known label named vars messages h a) (seen-known label named vars messages h b)
seen-known label named vars messages h (If' _ (one a end) _ (one b end) _ (one x end) _ (one y end)) =
    and-both _ _ (and-both _ _ (seen-known label named vars messages h a) (seen-known label named vars messages h b)) (and-both _ _ (seen-known label named vars messages h x) (seen-known label named vars messages h y))

pick-known : (vars messages : List ℕ) (a b x y : Term) → knows vars messages a ≡ true → knows vars messages b ≡ true → knows vars messages x ≡ true → knows vars messages y ≡ true → knows vars messages (pick a b x y) ≡ true
unfolding opened
pick-known vars messages a b x y p q r s = go (same_term a b) (differ (constant a) (constant b))
  where
    go : (c d : Bool) → knows vars messages (if c then x else if d then y else If a b x y) ≡ true
    go true d = r
    go false true = s
    go false false = and-both _ _ (and-both _ _ p q) (and-both _ _ r s)

-- ---- the parts of a message that is sent

module _ (vs ks : List ℕ) (k : ℕ) (new : NewMessage) (parts : (part : Part) → IsWithin vs ks (new_part new part)) where
  record Replaced (v m vars messages : List ℕ) : Type 0 where
    variables : (x : ℕ) → has v x ≡ true → has vars x ≡ true
    back : (x : ℕ) → has vars x ≡ true → has v x ≡ true
    there : has m k ≡ true
    messages_in : (x : ℕ) → has m x ≡ true → (x == k) ≡ false → has messages x ≡ true
    messages_back : (x : ℕ) → has messages x ≡ true → has m x ≡ true
    wide : Wide vs ks vars messages

  no-true : (a b : Bool) → (a ≡ true → b ≡ true) → b ≡ false → a ≡ false
  no-true true b h e = absurd (true-false b (h refl) e)
  no-true false b h e = refl

  part-place : (b : Bool) (part : Part) (u : Term) (vars messages : List ℕ) → Wide vs ks vars messages → (if b then Some (new_part new part) else None) ≡ Some u → knows vars messages u ≡ true
  part-place true part u vars messages w e = let same : new_part new part ≡ u = cc in subst (λ t. knows vars messages t ≡ true) same (parts part vars messages w.variables w.messages_in)
  part-place false part u vars messages w e = cc

  placed : (v m vars messages : List ℕ) → Replaced v m vars messages → (t u : Term) → put_for_message k new t ≡ Some u → knows v m t ≡ true → knows vars messages u ≡ true
  placed v m vars messages r (Msg n part) u e h = part-place (n == k) part u vars messages r.wide e
  placed v m vars messages r _ u e h = cc

  kept-part : (b : Bool) (x : Term) → (if b then Some x else None) ≡ None → b ≡ false
  kept-part true x e = cc
  kept-part false x e = refl

  more : (xs zs : List ℕ) (y x : ℕ) → (has xs x ≡ true → has zs x ≡ true) → has (y ∷ xs) x ≡ true → has (y ∷ zs) x ≡ true
  more xs zs y x h m = elim (either-true (x == y) (has xs x) m) [ inl e ↦ or-true-left (x == y) (has zs x) e | inr e ↦ or-true-right (x == y) (has zs x) (h e) ]

  replacing : (whole : List ℕ) → Passes (for_message k new) whole Replaced
  replacing whole = record {
    place = placed;
    number = λ v m vars messages r x e h. r.variables x h;
    part = λ v m vars messages r x p e h. r.messages_in x h (kept-part (x == k) (new_part new p) e);
    unknown = λ v m vars messages r y w h. unknown-is vars messages y (no-true (has vars y) (has v y) (r.back y) (is-no-variable v m y h)) (no-true (has messages y) (has m y) (r.messages_back y) (is-no-message v m y h));
    goes = λ v m vars messages r y h. (refl, turned y k (lacked m k y r.there (is-no-message v m y h)));
    variable = λ v m vars messages r y h. record {
      variables = λ x. more v vars y x (r.variables x);
      back = λ x. more vars v y x (r.back x);
      there = r.there;
      messages_in = r.messages_in;
      messages_back = r.messages_back;
      wide = wide-variable vs ks vars messages y r.wide;
    };
    message = λ v m vars messages r y h. record {
      variables = r.variables;
      back = r.back;
      there = or-true-right (k == y) (has m k) r.there;
      messages_in = λ x g n. more m messages y x (λ i. r.messages_in x i n) g;
      messages_back = λ x. more messages m y x (r.messages_back x);
      wide = wide-message vs ks vars messages y r.wide;
    };
  }
    where
      turned : (y k : ℕ) → (k == y) ≡ false → (y == k) ≡ false
      turned y k e = go (y == k) refl
        where
          go : (b : Bool) → (y == k) ≡ b → (y == k) ≡ false
          go true f = absurd (true-false (k == y) (eq-eqb k y (sym (eqb-true y k f))) e)
          go false f = f

  pub replaced-told : (f : Formula) (vars messages : List ℕ) → Wide vs ks vars messages → is_told_apart vars (k ∷ messages) f ≡ true → is_told_apart vars messages (changed (for_message k new) f) ≡ true
  replaced-told f vars messages w h =
      changed-told (for_message k new) (bound_names f) Replaced (replacing (bound_names f)) f vars (k ∷ messages) vars messages (λ y m. m) (record {
        variables = λ x m. m;
        back = λ x m. m;
        there = or-true-left (k == k) (has messages k) (eq-eqb k k refl);
        messages_in = λ x m n. elim (either-true (x == k) (has messages x) m) [ inl e ↦ absurd (true-false (x == k) e n) | inr e ↦ e ];
        messages_back = λ x m. or-true-right (x == k) (has messages x) m;
        wide = w;
      }) h

-- ---- a formula before a step

abbrev pub MovesWithin : List ℕ → List ℕ → Move → Type 0
MovesWithin vs ks (Sends new) = (part : Part) → IsWithin vs ks (new_part new part)
MovesWithin vs ks (Receives k) = has ks k ≡ true

pub record StepWithin (vs ks : List ℕ) (step : Step) : Type 0 where
  pub node : IsWithin vs ks step.node
  pub named : (x : ℕ) → IsWithin vs ks (step.named x)
  pub move : MovesWithin vs ks step.move

len-known : (move : Move) (here : Bool) (label : Lab) (vars messages : List ℕ) → knows vars messages (len_before move here label) ≡ true
unfolding opened
len-known (Sends new) true label vars messages = refl
len-known (Sends new) false label vars messages = refl
len-known (Receives k) here label vars messages = refl

live-known : (vs ks : List ℕ) (move : Move) (over : Bool) (m : ℕ) (vars messages : List ℕ) → MovesWithin vs ks move → Wide vs ks vars messages → has messages m ≡ true → knows vars messages (live_before move over m) ≡ true
unfolding opened
live-known vs ks (Receives k) true m vars messages h w i = and-both _ _ (and-both _ _ i (w.messages_in k h)) i
live-known vs ks (Receives k) false m vars messages h w i = i
live-known vs ks (Sends new) over m vars messages h w i = i

part-known : (vs ks : List ℕ) (move : Move) (over : Bool) (m : ℕ) (part : Part) (vars messages : List ℕ) → MovesWithin vs ks move → Wide vs ks vars messages → has messages m ≡ true → knows vars messages (part_before move over m part) ≡ true
part-known vs ks move over m Live vars messages h w i = live-known vs ks move over m vars messages h w i
part-known vs ks move over m Id vars messages h w i = i
part-known vs ks move over m From vars messages h w i = i
part-known vs ks move over m To vars messages h w i = i
part-known vs ks move over m (Arg k) vars messages h w i = i

each-told : (vs ks : List ℕ) (move : Move) (is : Bool) (m : ℕ) (label : Lab) (tag : ℕ) (f : Formula) (vars messages : List ℕ) → MovesWithin vs ks move → Wide vs ks vars messages → is_unknown vars messages m ≡ true → is_told_apart vars (m ∷ messages) f ≡ true
    → is_told_apart vars messages (each_before move is m label tag f) ≡ true
unfolding opened
each-told vs ks (Sends new) true m label tag f vars messages h w u t = and-both _ _ (and-both _ _ u t) (replaced-told vs ks m new h f vars messages w t)
each-told vs ks (Sends new) false m label tag f vars messages h w u t = and-both _ _ u t
each-told vs ks (Receives k) is m label tag f vars messages h w u t = and-both _ _ u t

any-told : (vs ks : List ℕ) (move : Move) (is : Bool) (m : ℕ) (label : Lab) (tag : ℕ) (f : Formula) (vars messages : List ℕ) → MovesWithin vs ks move → Wide vs ks vars messages → is_unknown vars messages m ≡ true → is_told_apart vars (m ∷ messages) f ≡ true
    → is_told_apart vars messages (any_before move is m label tag f) ≡ true
unfolding opened
any-told vs ks (Sends new) true m label tag f vars messages h w u t = and-both _ _ (and-both _ _ u t) (replaced-told vs ks m new h f vars messages w t)
any-told vs ks (Sends new) false m label tag f vars messages h w u t = and-both _ _ u t
any-told vs ks (Receives k) is m label tag f vars messages h w u t = and-both _ _ u t

module _ (vs ks : List ℕ) (step : Step) (within : StepWithin vs ks step) where
  pub value-known : (t : Term) → IsWithin vs ks (seen step t)
  value-known t vars messages p q = seen-known step.label step.named vars messages (λ x. within.named x vars messages p q) t

  index-known : (o : Option Term) → IsWithin vs ks (seen_index step o)
  index-known (Some t) vars messages p q = value-known t vars messages p q
  index-known None vars messages p q = refl

  field-known : (o : Option Update) (label : Lab) (field : ℕ) (node : Term) (vars messages : List ℕ) → Wide vs ks vars messages → knows vars messages node ≡ true → knows vars messages (field_before step o node (Field label field node)) ≡ true
  unfolding opened
  field-known None label field node vars messages w h = h
  field-known (Some u) label field node vars messages w h = pick-known vars messages node step.node (seen step u.value) (Field label field node) h (within.node vars messages w.variables w.messages_in) (value-known u.value vars messages w.variables w.messages_in) h

  row-known : (o : Option Update) (label : Lab) (field : ℕ) (node index : Term) (vars messages : List ℕ) → Wide vs ks vars messages → knows vars messages node ≡ true → knows vars messages index ≡ true → knows vars messages (row_before step o node index (Row label field node index)) ≡ true
  unfolding opened
  row-known None label field node index vars messages w h k = and-both _ _ h k
  row-known (Some u) label field node index vars messages w h k =
      let old = and-both (knows vars messages node) (knows vars messages index) h k in
      pick-known vars messages node step.node (pick index (seen_index step u.index) (seen step u.value) (Row label field node index)) (Row label field node index) h (within.node vars messages w.variables w.messages_in)
      (pick-known vars messages index (seen_index step u.index) (seen step u.value) (Row label field node index) k (index-known u.index vars messages w.variables w.messages_in) (value-known u.value vars messages w.variables w.messages_in) old) old

  term-told : (t : Term) (scope : Scope) (over : ℕ → Bool) (vars messages : List ℕ) → TermIsKnown scope t → ((x : ℕ) → has scope.variables x ≡ true → has vars x ≡ true) → ((m : ℕ) → has scope.messages m ≡ true → has messages m ≡ true)
      → Wide vs ks vars messages → knows vars messages (term_before step over t) ≡ true
  unfolding opened
  term-told (Num n) scope over vars messages h p q w = refl
  term-told (Word x n) scope over vars messages h p q w = refl
  term-told (Var x) scope over vars messages h p q w = p x h
  term-told (Field' label field _ (one node end)) scope over vars messages h p q w =
      field-known (update_at step label field) label field (term_before step over node) vars messages w (term-told node scope over vars messages h.1 p q w)
  term-told (Row' label field _ (one node end) _ (one index end)) scope over vars messages h p q w =
      row-known (update_at step label field) label field (term_before step over node) (term_before step over index) vars messages w (term-told node scope over vars messages h.1 p q w) (term-told index scope over vars messages h.2 p q w)
  term-told (Len label) scope over vars messages h p q w = len-known step.move _ label vars messages
  term-told (Msg m part) scope over vars messages h p q w = part-known vs ks step.move (over m) m part vars messages within.move w (q m h.0)
  term-told (Add' _ (one a end) _ (one b end)) scope over vars messages h p q w = and-both _ _ (term-told a scope over vars messages h.0 p q w) (term-told b scope over vars messages h.1 p q w)
  term-told (Sub' _ (one a end) _ (one b end)) scope over vars messages h p q w = and-both _ _ (term-told a scope over vars messages h.0 p q w) (term-told b scope over vars messages h.1 p q w)
  term-told (Mul' _ (one a end) _ (one b end)) scope over vars messages h p q w = and-both _ _ (term-told a scope over vars messages h.0 p q w) (term-told b scope over vars messages h.1 p q w)
  term-told (If' _ (one a end) _ (one b end) _ (one x end) _ (one y end)) scope over vars messages h p q w =
      and-both _ _ (and-both _ _ (term-told a scope over vars messages h.0 p q w) (term-told b scope over vars messages h.1 p q w)) (and-both _ _ (term-told x scope over vars messages h.2 p q w) (term-told y scope over vars messages h.3 p q w))

  pub before-told : (f : Formula) (scope : Scope) (over : ℕ → Bool) (vars messages : List ℕ) → FormulaIsKnown scope f → Inside scope vars messages (bound_names f) → Wide vs ks vars messages → is_told_apart vars messages (before step over f) ≡ true
  unfolding opened
  before-told True scope over vars messages h i w = refl
  before-told False scope over vars messages h i w = refl
  before-told (Eq a b) scope over vars messages h i w = and-both _ _ (term-told a scope over vars messages h.0 i.variables i.messages_in w) (term-told b scope over vars messages h.1 i.variables i.messages_in w)
  before-told (Lt a b) scope over vars messages h i w = and-both _ _ (term-told a scope over vars messages h.0 i.variables i.messages_in w) (term-told b scope over vars messages h.1 i.variables i.messages_in w)
  before-told (Le a b) scope over vars messages h i w = and-both _ _ (term-told a scope over vars messages h.0 i.variables i.messages_in w) (term-told b scope over vars messages h.1 i.variables i.messages_in w)
  before-told (Not' _ (one_formula f end_formula)) scope over vars messages h i w = before-told f scope over vars messages h i w
  before-told (And' _ (one_formula f end_formula) _ (one_formula g end_formula)) scope over vars messages h i w =
      and-both _ _ (before-told f scope over vars messages h.0 (inside-front scope vars messages (bound_names f) (bound_names g) i) w) (before-told g scope over vars messages h.1 (inside-back scope vars messages (bound_names f) (bound_names g) i) w)
  before-told (Or' _ (one_formula f end_formula) _ (one_formula g end_formula)) scope over vars messages h i w =
      and-both _ _ (before-told f scope over vars messages h.0 (inside-front scope vars messages (bound_names f) (bound_names g) i) w) (before-told g scope over vars messages h.1 (inside-back scope vars messages (bound_names f) (bound_names g) i) w)
  before-told (Implies' _ (one_formula f end_formula) _ (one_formula g end_formula)) scope over vars messages h i w =
      and-both _ _ (before-told f scope over vars messages h.0 (inside-front scope vars messages (bound_names f) (bound_names g) i) w) (before-told g scope over vars messages h.1 (inside-back scope vars messages (bound_names f) (bound_names g) i) w)
  before-told (All' x _ (one_formula f end_formula)) scope over vars messages h i w =
      and-both _ _ (inside-unknown scope vars messages x (bound_names f) h.0 i) (before-told f (with_variable scope x) over (x ∷ vars) messages h.1 (inside-variable scope vars messages x (bound_names f) i) (wide-variable vs ks vars messages x w))
  before-told (Exists' x _ (one_formula f end_formula)) scope over vars messages h i w =
      and-both _ _ (inside-unknown scope vars messages x (bound_names f) h.0 i) (before-told f (with_variable scope x) over (x ∷ vars) messages h.1 (inside-variable scope vars messages x (bound_names f) i) (wide-variable vs ks vars messages x w))
  before-told (Each' m label tag _ (one_formula f end_formula)) scope over vars messages h i w =
      each-told vs ks step.move (is_over step label tag) m label tag (before step (bound_over over m (is_over step label tag)) f) vars messages within.move w (inside-unknown scope vars messages m (bound_names f) h.0 i)
      (before-told f (with_message scope m) (bound_over over m (is_over step label tag)) vars (m ∷ messages) h.2 (inside-message scope vars messages m (bound_names f) i) (wide-message vs ks vars messages m w))
  before-told (Any' m label tag _ (one_formula f end_formula)) scope over vars messages h i w =
      any-told vs ks step.move (is_over step label tag) m label tag (before step (bound_over over m (is_over step label tag)) f) vars messages within.move w (inside-unknown scope vars messages m (bound_names f) h.0 i)
      (before-told f (with_message scope m) (bound_over over m (is_over step label tag)) vars (m ∷ messages) h.2 (inside-message scope vars messages m (bound_names f) i) (wide-message vs ks vars messages m w))

-- ---- a guard or hook in a step

module _ (label : Lab) (word : ℕ) (syms : List ℕ) (named : ℕ → Term) (vs ks whole : List ℕ) (within : (x : ℕ) → IsWithin vs ks (named x)) where
  abbrev given : List ℕ
  given = me_word ∷ word ∷ syms

  abbrev here : Change
  here = record { put = put_in_step word syms named; label = label_seen label; stops_at_variable = λ x. false; stops_at_message = λ m. false }

  record Seen (v m vars messages : List ℕ) : Type 0 where
    given_in : (x : ℕ) → has given x ≡ true → has v x ≡ true
    others : (x : ℕ) → has v x ≡ true → has given x ≡ false → has vars x ≡ true
    messages_in : (k : ℕ) → has m k ≡ true → has messages k ≡ true
    wide : Wide vs ks vars messages
    apart : (y : ℕ) → has whole y ≡ true → has v y ≡ false → has m y ≡ false → (has vars y ≡ false) × (has messages y ≡ false)

  named-place : (b : Bool) (x : ℕ) (u : Term) (vars messages : List ℕ) → Wide vs ks vars messages → (if b then Some (named x) else None) ≡ Some u → knows vars messages u ≡ true
  named-place true x u vars messages w e = let same : named x ≡ u = cc in subst (λ t. knows vars messages t ≡ true) same (within x vars messages w.variables w.messages_in)
  named-place false x u vars messages w e = cc

  seen-placed : (v m vars messages : List ℕ) → Seen v m vars messages → (t u : Term) → put_in_step word syms named t ≡ Some u → knows v m t ≡ true → knows vars messages u ≡ true
  seen-placed v m vars messages r (Var x) u e h = named-place (has given x) x u vars messages r.wide e
  seen-placed v m vars messages r _ u e h = cc

  not-given : (b : Bool) (x : Term) → (if b then Some x else None) ≡ None → b ≡ false
  not-given true x e = cc
  not-given false x e = refl

  seeing : Passes here whole Seen
  seeing = record {
    place = seen-placed;
    number = λ v m vars messages r x e h. r.others x h (not-given (has given x) (named x) e);
    part = λ v m vars messages r k p e h. r.messages_in k h;
    unknown = λ v m vars messages r y w h. let a = r.apart y w (is-no-variable v m y h) (is-no-message v m y h) in unknown-is vars messages y a.0 a.1;
    goes = λ v m vars messages r y h. (refl, refl);
    variable = λ v m vars messages r y h. record {
      given_in = λ x g. or-true-right (x == y) (has v x) (r.given_in x g);
      others = λ x g n. elim (either-true (x == y) (has v x) g) [ inl e ↦ or-true-left (x == y) (has vars x) e | inr e ↦ or-true-right (x == y) (has vars x) (r.others x e n) ];
      messages_in = r.messages_in;
      wide = wide-variable vs ks vars messages y r.wide;
      apart = λ z w g n. let a = r.apart z w (or-right (z == y) (has v z) g) n in (or-both (z == y) (has vars z) (or-left (z == y) (has v z) g) a.0, a.1);
    };
    message = λ v m vars messages r y h. record {
      given_in = r.given_in;
      others = r.others;
      messages_in = λ k g. elim (either-true (k == y) (has m k) g) [ inl e ↦ or-true-left (k == y) (has messages k) e | inr e ↦ or-true-right (k == y) (has messages k) (r.messages_in k e) ];
      wide = wide-message vs ks vars messages y r.wide;
      apart = λ z w g n. let a = r.apart z w g (or-right (z == y) (has m z) n) in (a.0, or-both (z == y) (has messages z) (or-left (z == y) (has m z) n) a.1);
    };
  }

  -- what is told apart with the given names is told apart in the step, where none of its quantifiers binds a name of the step
  pub in-step-told : (f : Formula) → ((y : ℕ) → has (bound_names f) y ≡ true → has whole y ≡ true) → ((y : ℕ) → has whole y ≡ true → (has vs y ≡ false) × (has ks y ≡ false)) → is_told_apart given [] f ≡ true
      → is_told_apart vs ks (changed here f) ≡ true
  in-step-told f binds clear h = changed-told here whole Seen seeing f given [] vs ks binds (record {
    given_in = λ x g. g;
    others = λ x g n. absurd (true-false (has given x) g n);
    messages_in = λ k g. cc;
    wide = record { variables = λ n m. m; messages_in = λ n m. m };
    apart = λ y w g n. clear y w;
  }) h

-- ---- a label in place of `self`

abbrev Same : (v m vars messages : List ℕ) → Type 0
Same v m vars messages = (v ≡ vars) × (m ≡ messages)

owning : (own : ℕ) (whole : List ℕ) → Passes (for_own own) whole Same
owning own whole = record {
  place = λ v m vars messages r t u e h. cc;
  number = λ v m vars messages r x e h. subst (λ xs. has xs x ≡ true) r.0 h;
  part = λ v m vars messages r k p e h. subst (λ xs. has xs k ≡ true) r.1 h;
  unknown = λ v m vars messages r y w h. (λ i. is_unknown (sym r.0 i) (sym r.1 i) y) ∙ h;
  goes = λ v m vars messages r y h. (refl, refl);
  variable = λ v m vars messages r y h. (ap (λ xs. y ∷ xs) r.0, r.1);
  message = λ v m vars messages r y h. (r.0, ap (λ xs. y ∷ xs) r.1);
}

pub labelled-told : (own : ℕ) (f : Formula) (vars messages : List ℕ) → is_told_apart vars messages f ≡ true → is_told_apart vars messages (changed (for_own own) f) ≡ true
labelled-told own f vars messages h = changed-told (for_own own) (bound_names f) Same (owning own (bound_names f)) f vars messages vars messages (λ y m. m) (refl, refl) h
