-- A guard or a hook in a step holds where it holds with the names of the model.
use Rattle.std.proofs.Common.{◌≡◌, ℕ, ℤ, pos, ◌+ℤ◌, ◌-ℤ◌, ◌*ℤ◌, Bool, true, false, not, ◌&&◌, ◌||◌, ◌==◌, if◌then◌else◌, int_lt, int_le, Option, Some, None, List, [], ◌∷◌, ◌++◌, unwrap_or, length, refl, ◌∙◌, ap, sym, subst, eq-eqb}
use mathlib.Core.Path.{ap₂, fun_ext}
use Rattle.std.proofs.lemmas.Bool.{false≢true}
use Rattle.std.specs.Prelude.{is_some}
use Rattle.std.specs.Ordering.{int_eq}
use Rattle.dl_term.specs.declared.syntax.Lab.{Lab}
use Rattle.dl_term.specs.declared.syntax.Term.{Term, Num, Word, Var, Field', Row', Len, Msg, Add', Sub', Mul', If', more_of-Term as one, end_of-Term as end}
use Rattle.dl_term.specs.declared.syntax.Formula.{Formula, True, False, Eq, Lt, Le, Not', And', Or', Implies', All', Exists', Each', Any', more_of-Formula as one_formula, end_of-Formula as end_formula}
use Rattle.dl_term.specs.Syntax.{opened}
use Rattle.dl_term.specs.State.{State, field_at, soup_at}
use Rattle.dl_term.specs.Names.{Names, with_number, label_of}
use Rattle.dl_term.specs.Meaning.{value, holds, every_below, some_below}
use Rattle.dl_term.specs.Measures.{has_variable}
use Rattle.dl_term.proofs.Agree.{skip-number}
use Rattle.dl_model.specs.declared.protocol.Protocol.{Protocol}
use Rattle.dl_model.specs.Sorts.{has}
use Rattle.dl_model.specs.Words.{me_word}
use Rattle.dl_model.specs.Spoken.{bound_names}
use Rattle.dl_model.specs.Scopes.{Scope, is_fresh, is_local, TermIsKnown, FormulaIsKnown}
use Rattle.dl_model.proofs.Small.{and-left, and-right, or-left, or-true-left, or-true-right}
use Rattle.dl_subst.specs.Change.{Change, changed_term, changed}
use Rattle.dl_wp.specs.Steps.{label_seen}
use Rattle.dl_inv.specs.Steps.{put_in_step}
use Rattle.dl_inv.proofs.Lists.{has-front, has-back, lacked}
use Rattle.dl_sound.proofs.Bridge.{field-there}

-- these names, and no messages
abbrev pub scope_of : (Lab → Option Protocol) → List ℕ → Scope
scope_of spoken vars = record { protocol = spoken; variables = vars; messages = [] }

not-false : (b : Bool) → not b ≡ true → b ≡ false
not-false true h = cc
not-false false h = refl

fresh-is : (spoken : Lab → Option Protocol) (vars : List ℕ) (x : ℕ) → is_fresh (scope_of spoken vars) x ≡ true → has vars x ≡ false
fresh-is spoken vars x h = or-left (has vars x) false (not-false _ (and-right _ _ h))

module _ (label : Lab) (word : ℕ) (syms : List ℕ) (named : ℕ → Term) (state : State) (spoken : Lab → Option Protocol) where
  abbrev pub given : List ℕ
  given = me_word ∷ word ∷ syms

  abbrev pub seen_here : Change
  seen_here = record { put = put_in_step word syms named; label = label_seen label; stops_at_variable = λ x. false; stops_at_message = λ m. false }

  -- With names `new` the step's terms read as the names `old` do. Of the variables in scope those that aren't given are bound.
  pub record InStep (vars : List ℕ) (new old : Names) : Type 0 where
    pub own : (l : Lab) → is_some (spoken l) ≡ true → label_of new.own (label_seen label l) ≡ label_of old.own l
    pub numbers : (x : ℕ) → has given x ≡ true → value (named x) new state ≡ old.number x
    pub others : (x : ℕ) → has vars x ≡ true → has given x ≡ false → new.number x ≡ old.number x
    pub within : (x : ℕ) → has given x ≡ true → has vars x ≡ true

  -- no step's term speaks of a name that the formula binds
  abbrev pub IsApart : List ℕ → Type 0
  IsApart bound = (y : ℕ) → has bound y ≡ true → (x : ℕ) → has given x ≡ true → has_variable (named x) y ≡ false

  apart-front : (xs ys : List ℕ) → IsApart (xs ++ ys) → IsApart xs
  apart-front xs ys h y there = h y (has-front xs ys y there)

  apart-back : (xs ys : List ℕ) → IsApart (xs ++ ys) → IsApart ys
  apart-back xs ys h y there = h y (has-back xs ys y there)

  apart-rest : (x : ℕ) (xs : List ℕ) → IsApart (x ∷ xs) → IsApart xs
  apart-rest x xs h y there = h y (or-true-right (y == x) (has xs y) there)

  apart-first : (x : ℕ) (xs : List ℕ) → IsApart (x ∷ xs) → (z : ℕ) → has given z ≡ true → has_variable (named z) x ≡ false
  apart-first x xs h = h x (or-true-left (x == x) (has xs x) (eq-eqb x x refl))

  -- below a quantifier
  under : (vars : List ℕ) (new old : Names) (x : ℕ) (k : ℤ) → has vars x ≡ false → ((z : ℕ) → has given z ≡ true → has_variable (named z) x ≡ false) → InStep vars new old
      → InStep (x ∷ vars) (with_number new x k) (with_number old x k)
  under vars new old x k fresh clear i = record {
    own = i.own;
    numbers = λ z m. skip-number (named z) x k new state (clear z m) ∙ i.numbers z m ∙ sym (ap (λ b. if b then k else old.number z) (lacked vars z x (i.within z m) fresh));
    others = λ z m n. other z (z == x) refl m n;
    within = λ z m. or-true-right (z == x) (has vars z) (i.within z m);
  }
    where
      other : (z : ℕ) (b : Bool) → (z == x) ≡ b → ((z == x) || has vars z) ≡ true → has given z ≡ false → (if z == x then k else new.number z) ≡ (if z == x then k else old.number z)
      other z true e m n = ap (λ b. if b then k else new.number z) e ∙ sym (ap (λ b. if b then k else old.number z) e)
      other z false e m n = ap (λ b. if b then k else new.number z) e ∙ i.others z (subst (λ b. (b || has vars z) ≡ true) e m) n ∙ sym (ap (λ b. if b then k else old.number z) e)

  variable-in : (x : ℕ) (b : Bool) (vars : List ℕ) (new old : Names) → has given x ≡ b → has vars x ≡ true → InStep vars new old → value (unwrap_or (if b then Some (named x) else None) (Var x)) new state ≡ old.number x
  variable-in x true vars new old e h i = i.numbers x e
  variable-in x false vars new old e h i = i.others x h e

  value-in : (t : Term) (vars : List ℕ) (new old : Names) → TermIsKnown (scope_of spoken vars) t → InStep vars new old → value (changed_term seen_here t) new state ≡ value t old state
  unfolding opened
  value-in (Num v) vars new old h i = refl
  value-in (Word x v) vars new old h i = refl
  value-in (Var x) vars new old h i = variable-in x (has given x) vars new old refl h i
  value-in (Field' l f _ (one n end)) vars new old h i =
      let o = i.own l (field-there (spoken l) f false h.0) in
      let v = value-in n vars new old h.1 i in
      λ j. field_at state (o j) f (v j) (pos 0)
  value-in (Row' l f _ (one n end) _ (one index end)) vars new old h i =
      let o = i.own l (field-there (spoken l) f true h.0) in
      let v = value-in n vars new old h.1 i in
      let w = value-in index vars new old h.2 i in
      λ j. field_at state (o j) f (v j) (w j)
  value-in (Len l) vars new old h i = let o = i.own l h in λ j. pos (length (soup_at state (o j)))
  value-in (Msg m part) vars new old h i = absurd (false≢true h.0)
  value-in (Add' _ (one a end) _ (one b end)) vars new old h i = ap₂ ◌+ℤ◌ (value-in a vars new old h.0 i) (value-in b vars new old h.1 i)
  value-in (Sub' _ (one a end) _ (one b end)) vars new old h i = ap₂ ◌-ℤ◌ (value-in a vars new old h.0 i) (value-in b vars new old h.1 i)
  value-in (Mul' _ (one a end) _ (one b end)) vars new old h i = ap₂ ◌*ℤ◌ (value-in a vars new old h.0 i) (value-in b vars new old h.1 i)
  value-in (If' _ (one a end) _ (one b end) _ (one x end) _ (one y end)) vars new old h i =
      let p = value-in a vars new old h.0 i in
      let q = value-in b vars new old h.1 i in
      let r = value-in x vars new old h.2 i in
      let s = value-in y vars new old h.3 i in
      λ j. if int_eq (p j) (q j) then r j else s j

  pub holds-in : (f : Formula) (vars : List ℕ) (new old : Names) → FormulaIsKnown (scope_of spoken vars) f → is_local f ≡ true → IsApart (bound_names f) → InStep vars new old → holds (changed seen_here f) new state ≡ holds f old state
  unfolding opened
  holds-in True vars new old h l a i = refl
  holds-in False vars new old h l a i = refl
  holds-in (Eq s t) vars new old h l a i = ap₂ int_eq (value-in s vars new old h.0 i) (value-in t vars new old h.1 i)
  holds-in (Lt s t) vars new old h l a i = ap₂ int_lt (value-in s vars new old h.0 i) (value-in t vars new old h.1 i)
  holds-in (Le s t) vars new old h l a i = ap₂ int_le (value-in s vars new old h.0 i) (value-in t vars new old h.1 i)
  holds-in (Not' _ (one_formula f end_formula)) vars new old h l a i = ap not (holds-in f vars new old h l a i)
  holds-in (And' _ (one_formula f end_formula) _ (one_formula g end_formula)) vars new old h l a i =
      ap₂ ◌&&◌ (holds-in f vars new old h.0 (and-left _ _ l) (apart-front (bound_names f) (bound_names g) a) i) (holds-in g vars new old h.1 (and-right _ _ l) (apart-back (bound_names f) (bound_names g) a) i)
  holds-in (Or' _ (one_formula f end_formula) _ (one_formula g end_formula)) vars new old h l a i =
      ap₂ ◌||◌ (holds-in f vars new old h.0 (and-left _ _ l) (apart-front (bound_names f) (bound_names g) a) i) (holds-in g vars new old h.1 (and-right _ _ l) (apart-back (bound_names f) (bound_names g) a) i)
  holds-in (Implies' _ (one_formula f end_formula) _ (one_formula g end_formula)) vars new old h l a i =
      ap₂ (λ p q. not p || q) (holds-in f vars new old h.0 (and-left _ _ l) (apart-front (bound_names f) (bound_names g) a) i) (holds-in g vars new old h.1 (and-right _ _ l) (apart-back (bound_names f) (bound_names g) a) i)
  holds-in (All' x _ (one_formula f end_formula)) vars new old h l a i =
      ap (every_below state.nodes) (fun_ext (λ node. holds-in f (x ∷ vars) (with_number new x (pos node)) (with_number old x (pos node)) h.1 l (apart-rest x (bound_names f) a)
      (under vars new old x (pos node) (fresh-is spoken vars x h.0) (apart-first x (bound_names f) a) i)))
  holds-in (Exists' x _ (one_formula f end_formula)) vars new old h l a i =
      ap (some_below state.nodes) (fun_ext (λ node. holds-in f (x ∷ vars) (with_number new x (pos node)) (with_number old x (pos node)) h.1 l (apart-rest x (bound_names f) a)
      (under vars new old x (pos node) (fresh-is spoken vars x h.0) (apart-first x (bound_names f) a) i)))
  holds-in (Each' m lab tag _ (one_formula f end_formula)) vars new old h l a i = absurd (false≢true l)
  holds-in (Any' m lab tag _ (one_formula f end_formula)) vars new old h l a i = absurd (false≢true l)
