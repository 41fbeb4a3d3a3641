-- What is known in a scope means one thing for all names that agree on the scope, is about the file, and binds no name of the scope.
use Rattle.std.proofs.Common.{◌≡◌, ℕ, ℤ, pos, ◌+ℤ◌, ◌-ℤ◌, ◌*ℤ◌, Bool, true, false, not, ◌&&◌, ◌||◌, ◌==◌, if◌then◌else◌, int_lt, int_le, Some, None, List, [], ◌∷◌, length, refl, ◌∙◌, ap, inl, inr}
use mathlib.Core.Path.{ap₂, fun_ext}
use Rattle.std.proofs.lemmas.Bool.{false≢true}
use Rattle.std.specs.Prelude.{is_some}
use Rattle.std.specs.Ordering.{int_eq}
use Rattle.dl_term.specs.declared.syntax.Lab.{Lab}
use Rattle.dl_term.specs.declared.syntax.Lab.TheVariants.{Own, At}
use Rattle.dl_term.specs.declared.syntax.Part.{Part}
use Rattle.dl_term.specs.declared.syntax.Part.TheVariants.{Id, From, To, Live, Arg}
use Rattle.dl_term.specs.declared.syntax.Term.{Term, Num, Word, Var, Field', Row', Len, Msg, Add', Sub', Mul', If', more_of-Term as one, end_of-Term as end}
use Rattle.dl_term.specs.declared.syntax.Formula.{Formula, True, False, Eq, Lt, Le, Not', And', Or', Implies', All', Exists', Each', Any', more_of-Formula as one_formula, end_of-Formula as end_formula}
use Rattle.dl_term.specs.State.{State, field_at, soup_at}
use Rattle.dl_term.specs.Names.{Meant, Stored, Names, with_number, with_message, label_of}
use Rattle.dl_term.specs.Meaning.{value, holds, part_in, every_below, some_below, every_message, some_message}
use Rattle.dl_model.specs.declared.protocol.Instances.{Instances}
use Rattle.dl_model.specs.Sorts.{has}
use Rattle.dl_model.specs.Spoken.{bound_names}
use Rattle.dl_model.specs.Scopes.{Scope, file_label, is_fresh, with_variable, with_message as message_known, TermIsKnown, FormulaIsKnown}
use Rattle.dl_model.proofs.Small.{and-right, or-left, or-both, or-true-left, or-true-right, either-true}
use Rattle.dl_subst.specs.Change.{and_name}
use Rattle.dl_wp.specs.Conditions.{part_fits, TermFits, FormulaFits, IsAbout}
use Rattle.dl_inv.proofs.Lists.{lacked, lacks-all}
use Rattle.dl_sound.proofs.Bridge.{field-there, tag-there}

-- ---- names that agree on a scope

pub record Like (scope : Scope) (n m : Names) : Type 0 where
  pub labels : (l : Lab) → is_some (scope.protocol l) ≡ true → label_of n.own l ≡ label_of m.own l
  pub numbers : (x : ℕ) → has scope.variables x ≡ true → n.number x ≡ m.number x
  pub messages : (k : ℕ) → has scope.messages k ≡ true → n.message k ≡ m.message k

like-number : (scope : Scope) (n m : Names) (x : ℕ) (k : ℤ) → Like scope n m → Like (with_variable scope x) (with_number n x k) (with_number m x k)
like-number scope n m x k h = record {
  labels = h.labels;
  numbers = λ z there. same (z == x) z there;
  messages = h.messages;
}
  where
    same : (b : Bool) (z : ℕ) → (b || has scope.variables z) ≡ true → (if b then k else n.number z) ≡ (if b then k else m.number z)
    same true z there = refl
    same false z there = h.numbers z there

like-message : (scope : Scope) (n m : Names) (k : ℕ) (meant : Meant) → Like scope n m → Like (message_known scope k) (with_message n k meant) (with_message m k meant)
like-message scope n m k meant h = record {
  labels = h.labels;
  numbers = h.numbers;
  messages = λ z there. same (z == k) z there;
}
  where
    same : (b : Bool) (z : ℕ) → (b || has scope.messages z) ≡ true → (if b then Some meant else n.message z) ≡ (if b then Some meant else m.message z)
    same true z there = refl
    same false z there = h.messages z there

pub value-like : (t : Term) (scope : Scope) (n m : Names) (state : State) → TermIsKnown scope t → Like scope n m → value t n state ≡ value t m state
value-like (Num v) scope n m state h i = refl
value-like (Word x v) scope n m state h i = refl
value-like (Var x) scope n m state h i = i.numbers x h
value-like (Field' l f _ (one node end)) scope n m state h i =
    let o = i.labels l (field-there (scope.protocol l) f false h.0) in
    let v = value-like node scope n m state h.1 i in
    λ j. field_at state (o j) f (v j) (pos 0)
value-like (Row' l f _ (one node end) _ (one index end)) scope n m state h i =
    let o = i.labels l (field-there (scope.protocol l) f true h.0) in
    let v = value-like node scope n m state h.1 i in
    let w = value-like index scope n m state h.2 i in
    λ j. field_at state (o j) f (v j) (w j)
value-like (Len l) scope n m state h i = let o = i.labels l h in λ j. pos (length (soup_at state (o j)))
value-like (Msg k part) scope n m state h i = ap (λ o. part_in state o part) (i.messages k h.0)
value-like (Add' _ (one a end) _ (one b end)) scope n m state h i = ap₂ ◌+ℤ◌ (value-like a scope n m state h.0 i) (value-like b scope n m state h.1 i)
value-like (Sub' _ (one a end) _ (one b end)) scope n m state h i = ap₂ ◌-ℤ◌ (value-like a scope n m state h.0 i) (value-like b scope n m state h.1 i)
value-like (Mul' _ (one a end) _ (one b end)) scope n m state h i = ap₂ ◌*ℤ◌ (value-like a scope n m state h.0 i) (value-like b scope n m state h.1 i)
value-like (If' _ (one a end) _ (one b end) _ (one x end) _ (one y end)) scope n m state h i =
    let p = value-like a scope n m state h.0 i in
    let q = value-like b scope n m state h.1 i in
    let r = value-like x scope n m state h.2 i in
    let s = value-like y scope n m state h.3 i in
    λ j. if int_eq (p j) (q j) then r j else s j

pub holds-like : (f : Formula) (scope : Scope) (n m : Names) (state : State) → FormulaIsKnown scope f → Like scope n m → holds f n state ≡ holds f m state
holds-like True scope n m state h i = refl
holds-like False scope n m state h i = refl
holds-like (Eq a b) scope n m state h i = ap₂ int_eq (value-like a scope n m state h.0 i) (value-like b scope n m state h.1 i)
holds-like (Lt a b) scope n m state h i = ap₂ int_lt (value-like a scope n m state h.0 i) (value-like b scope n m state h.1 i)
holds-like (Le a b) scope n m state h i = ap₂ int_le (value-like a scope n m state h.0 i) (value-like b scope n m state h.1 i)
holds-like (Not' _ (one_formula f end_formula)) scope n m state h i = ap not (holds-like f scope n m state h i)
holds-like (And' _ (one_formula f end_formula) _ (one_formula g end_formula)) scope n m state h i = ap₂ ◌&&◌ (holds-like f scope n m state h.0 i) (holds-like g scope n m state h.1 i)
holds-like (Or' _ (one_formula f end_formula) _ (one_formula g end_formula)) scope n m state h i = ap₂ ◌||◌ (holds-like f scope n m state h.0 i) (holds-like g scope n m state h.1 i)
holds-like (Implies' _ (one_formula f end_formula) _ (one_formula g end_formula)) scope n m state h i =
    ap₂ (λ p q. not p || q) (holds-like f scope n m state h.0 i) (holds-like g scope n m state h.1 i)
holds-like (All' x _ (one_formula f end_formula)) scope n m state h i =
    ap (every_below state.nodes) (fun_ext (λ k. holds-like f (with_variable scope x) (with_number n x (pos k)) (with_number m x (pos k)) state h.1 (like-number scope n m x (pos k) i)))
holds-like (Exists' x _ (one_formula f end_formula)) scope n m state h i =
    ap (some_below state.nodes) (fun_ext (λ k. holds-like f (with_variable scope x) (with_number n x (pos k)) (with_number m x (pos k)) state h.1 (like-number scope n m x (pos k) i)))
holds-like (Each' msg label tag _ (one_formula f end_formula)) scope n m state h i =
    let o = i.labels label (tag-there (scope.protocol label) tag h.1) in
    let v = λ (id : ℕ). holds-like f (message_known scope msg) (with_message n msg (Stored (label_of n.own label) id)) (with_message m msg (Stored (label_of n.own label) id)) state h.2 (like-message scope n m msg (Stored (label_of n.own label) id) i) in
    (λ j. every_message state (label_of n.own label) tag (λ id. v id j))
    ∙ (λ j. every_message state (o j) tag (λ id. holds f (with_message m msg (Stored (o j) id)) state))
holds-like (Any' msg label tag _ (one_formula f end_formula)) scope n m state h i =
    let o = i.labels label (tag-there (scope.protocol label) tag h.1) in
    let v = λ (id : ℕ). holds-like f (message_known scope msg) (with_message n msg (Stored (label_of n.own label) id)) (with_message m msg (Stored (label_of n.own label) id)) state h.2 (like-message scope n m msg (Stored (label_of n.own label) id) i) in
    (λ j. some_message state (label_of n.own label) tag (λ id. v id j))
    ∙ (λ j. some_message state (o j) tag (λ id. holds f (with_message m msg (Stored (o j) id)) state))

-- ---- formulas of the file

-- these variables, and no messages
abbrev pub file_scope : Instances → List ℕ → Scope
file_scope inst variables = record { protocol = file_label inst; variables = variables; messages = [] }

-- A formula of the file has no `self` and no free message, so names need to agree on variables alone.
pub file-same : (inst : Instances) (variables : List ℕ) (f : Formula) (n m : Names) (state : State) → FormulaIsKnown (file_scope inst variables) f
    → ((x : ℕ) → has variables x ≡ true → n.number x ≡ m.number x) → holds f n state ≡ holds f m state
file-same inst variables f n m state h same = holds-like f (file_scope inst variables) n m state h (record { labels = told; numbers = same; messages = λ k there. absurd (false≢true there) })
  where
    told : (l : Lab) → is_some (file_label inst l) ≡ true → label_of n.own l ≡ label_of m.own l
    told Own there = absurd (false≢true there)
    told (At l) there = refl

-- ---- what is bound

fresh-variable : (scope : Scope) (x : ℕ) → is_fresh scope x ≡ true → has scope.variables x ≡ false
fresh-variable scope x h = or-left (has scope.variables x) (has scope.messages x) (not-false _ (and-right _ _ h))
  where
    not-false : (b : Bool) → not b ≡ true → b ≡ false
    not-false true e = cc
    not-false false e = refl

-- a name of the scope is bound nowhere
pub binds-none : (f : Formula) (scope : Scope) (y : ℕ) → FormulaIsKnown scope f → has scope.variables y ≡ true → has (bound_names f) y ≡ false
binds-none True scope y h there = refl
binds-none False scope y h there = refl
binds-none (Eq a b) scope y h there = refl
binds-none (Lt a b) scope y h there = refl
binds-none (Le a b) scope y h there = refl
binds-none (Not' _ (one_formula f end_formula)) scope y h there = binds-none f scope y h there
binds-none (And' _ (one_formula f end_formula) _ (one_formula g end_formula)) scope y h there = lacks-all (bound_names f) (bound_names g) y (binds-none f scope y h.0 there) (binds-none g scope y h.1 there)
binds-none (Or' _ (one_formula f end_formula) _ (one_formula g end_formula)) scope y h there = lacks-all (bound_names f) (bound_names g) y (binds-none f scope y h.0 there) (binds-none g scope y h.1 there)
binds-none (Implies' _ (one_formula f end_formula) _ (one_formula g end_formula)) scope y h there = lacks-all (bound_names f) (bound_names g) y (binds-none f scope y h.0 there) (binds-none g scope y h.1 there)
binds-none (All' x _ (one_formula f end_formula)) scope y h there =
    or-both (y == x) (has (bound_names f) y) (lacked scope.variables y x there (fresh-variable scope x h.0)) (binds-none f (with_variable scope x) y h.1 (or-true-right (y == x) (has scope.variables y) there))
binds-none (Exists' x _ (one_formula f end_formula)) scope y h there =
    or-both (y == x) (has (bound_names f) y) (lacked scope.variables y x there (fresh-variable scope x h.0)) (binds-none f (with_variable scope x) y h.1 (or-true-right (y == x) (has scope.variables y) there))
binds-none (Each' m label tag _ (one_formula f end_formula)) scope y h there =
    or-both (y == m) (has (bound_names f) y) (lacked scope.variables y m there (fresh-variable scope m h.0)) (binds-none f (message_known scope m) y h.2 there)
binds-none (Any' m label tag _ (one_formula f end_formula)) scope y h there =
    or-both (y == m) (has (bound_names f) y) (lacked scope.variables y m there (fresh-variable scope m h.0)) (binds-none f (message_known scope m) y h.2 there)

-- ---- about the file

part-bound : (part : Part) → part_fits true part ≡ true
part-bound Id = refl
part-bound From = refl
part-bound To = refl
part-bound Live = refl
part-bound (Arg k) = refl

pub term-about : (t : Term) (scope : Scope) (bound : ℕ → Bool) → TermIsKnown scope t → ((m : ℕ) → has scope.messages m ≡ true → bound m ≡ true) → TermFits scope.protocol bound t
term-about (Num v) scope bound h c = tt
term-about (Word x v) scope bound h c = tt
term-about (Var x) scope bound h c = tt
term-about (Field' label field _ (one node end)) scope bound h c = (h.0, term-about node scope bound h.1 c)
term-about (Row' label field _ (one node end) _ (one index end)) scope bound h c = (h.0, term-about node scope bound h.1 c, term-about index scope bound h.2 c)
term-about (Len label) scope bound h c = h
term-about (Msg m part) scope bound h c = ap (λ b. part_fits b part) (c m h.0) ∙ part-bound part
term-about (Add' _ (one a end) _ (one b end)) scope bound h c = (term-about a scope bound h.0 c, term-about b scope bound h.1 c)
term-about (Sub' _ (one a end) _ (one b end)) scope bound h c = (term-about a scope bound h.0 c, term-about b scope bound h.1 c)
term-about (Mul' _ (one a end) _ (one b end)) scope bound h c = (term-about a scope bound h.0 c, term-about b scope bound h.1 c)
term-about (If' _ (one a end) _ (one b end) _ (one x end) _ (one y end)) scope bound h c =
    (term-about a scope bound h.0 c, term-about b scope bound h.1 c, term-about x scope bound h.2 c, term-about y scope bound h.3 c)

under : (scope : Scope) (bound : ℕ → Bool) (m : ℕ) → ((k : ℕ) → has scope.messages k ≡ true → bound k ≡ true) → (k : ℕ) → has (m ∷ scope.messages) k ≡ true → and_name m bound k ≡ true
under scope bound m c k h = elim (either-true (k == m) (has scope.messages k) h) [
  | inl e ↦ or-true-left (k == m) (bound k) e
  | inr e ↦ or-true-right (k == m) (bound k) (c k e)
]

pub formula-about : (f : Formula) (scope : Scope) (bound : ℕ → Bool) → FormulaIsKnown scope f → ((m : ℕ) → has scope.messages m ≡ true → bound m ≡ true) → FormulaFits scope.protocol bound f
formula-about True scope bound h c = tt
formula-about False scope bound h c = tt
formula-about (Eq a b) scope bound h c = (term-about a scope bound h.0 c, term-about b scope bound h.1 c)
formula-about (Lt a b) scope bound h c = (term-about a scope bound h.0 c, term-about b scope bound h.1 c)
formula-about (Le a b) scope bound h c = (term-about a scope bound h.0 c, term-about b scope bound h.1 c)
formula-about (Not' _ (one_formula f end_formula)) scope bound h c = formula-about f scope bound h c
formula-about (And' _ (one_formula f end_formula) _ (one_formula g end_formula)) scope bound h c = (formula-about f scope bound h.0 c, formula-about g scope bound h.1 c)
formula-about (Or' _ (one_formula f end_formula) _ (one_formula g end_formula)) scope bound h c = (formula-about f scope bound h.0 c, formula-about g scope bound h.1 c)
formula-about (Implies' _ (one_formula f end_formula) _ (one_formula g end_formula)) scope bound h c = (formula-about f scope bound h.0 c, formula-about g scope bound h.1 c)
formula-about (All' x _ (one_formula f end_formula)) scope bound h c = formula-about f (with_variable scope x) bound h.1 c
formula-about (Exists' x _ (one_formula f end_formula)) scope bound h c = formula-about f (with_variable scope x) bound h.1 c
formula-about (Each' m label tag _ (one_formula f end_formula)) scope bound h c =
    (tag-there (scope.protocol label) tag h.1, formula-about f (message_known scope m) (and_name m bound) h.2 (under scope bound m c))
formula-about (Any' m label tag _ (one_formula f end_formula)) scope bound h c =
    (tag-there (scope.protocol label) tag h.1, formula-about f (message_known scope m) (and_name m bound) h.2 (under scope bound m c))

pub file-about : (inst : Instances) (variables : List ℕ) (f : Formula) → FormulaIsKnown (file_scope inst variables) f → IsAbout inst None f
file-about inst variables f h = formula-about f (file_scope inst variables) (λ m. false) h (λ m there. absurd (false≢true there))
