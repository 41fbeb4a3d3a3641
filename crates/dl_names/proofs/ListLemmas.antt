-- Going past lists and their parts.
use Rattle.std.proofs.Common.{◌≡◌, ℕ, suc, Bool, true, false, List, [], ◌∷◌, ◌++◌, Option, Some, None, length, map, refl, ap, sym, ◌∙◌, ◌+◌, ◌<◌, ◌≤◌, drop, get_or, drop-cons, add-one, slice_get, arith, inl, inr, ◌&&◌, if◌then◌else◌}
use Rattle.std.proofs.Math.ListN.{drop_of_length-le}
use Rattle.std.specs.List.{list_all}
use Rattle.std.specs.Prelude.{Result, Ok, Err, OnOk}
use Rattle.std.specs.Str.{bytes_eq}
use Rattle.dl_tree.specs.declared.tree.Place.{Place}
use Rattle.dl_tree.specs.declared.tree.Tree.{Tree}
use Rattle.dl_tree.specs.declared.tree.Tree.TheVariants as tree
use Rattle.dl_forms.specs.Context.{Text}
use Rattle.dl_forms.specs.declared.fault.FormFault.{FormFault}
use Rattle.dl_forms.specs.declared.fault.FormFault.TheVariants.{At, Memory}
use Rattle.dl_forms.specs.Judge.{Fault, ◌or_else◌, text_of}
use Rattle.dl_forms.specs.Read.{IsFault}
use Rattle.dl_forms.proofs.NameLemmas.{split}
use Rattle.dl_notation.specs.declared.role.Role.{Role}
use Rattle.dl_notation.specs.declared.role.Role.TheVariants.{Number, Name, Constant, Way, Formula, Term}
use Rattle.dl_notation.specs.declared.role.Role.TheVariants as role
use Rattle.dl_notation.specs.declared.role.ListRole.{ListRole}
use Rattle.dl_notation.specs.declared.role.ListRole.TheVariants as list
use Rattle.dl_notation.specs.declared.role.NameRole.{NameRole}
use Rattle.dl_notation.specs.declared.role.NameRole.TheVariants as name
use Rattle.dl_notation.specs.Notation.{Form, fits, form_named, form_with, headed, headless}
use Rattle.dl_notation.specs.Trees.{laid_out, with_parts}
use Rattle.dl_notation.specs.Environment.{Environment}
use Rattle.dl_notation.specs.Behind.{behind_part, entered, left_behind, list_behind, with_obligation}
use Rattle.dl_notation.specs.Judge.{OfNames, list_fault}
use Rattle.dl_notation.specs.Parts.{laid_fault, parts_behind, parts_fault, role_at, role_or}
use Rattle.dl_notation.specs.Rules.{list_rule_of_names}
use Rattle.dl_notation.proofs.FaultLemmas.{drop-None, drop-Some, list_fault-List, list_fault-Num, list_fault-Sym, no_role}
use Rattle.dl_notation.proofs.BehindLemmas.{list_behind-List}
use Rattle.dl_scope.specs.declared.scope.Scope.{Scope}
use Rattle.dl_scope.specs.declared.walk.Walk.{Walk}
use Rattle.dl_names.specs.Steps.{PassesForm, PassesLaid, PassesList, is_closed, is_quiet, is_quiet_form, has_no_rest, laid, left_by, left_open}
use Rattle.dl_scope.specs.Walked.{environment, reset}

-- ---- a list by its form

module _ (env after : Environment) (l : ListRole) (items : List Tree) (p : Place) where
  -- a list that begins with no word
  pub fault_of_form : (form : Form) → headless l ≡ Some form → fits form (length items) ≡ true →
      list_fault (tree.List items p) (OfNames env) l ≡ laid_fault (OfNames env) l p (Some (form, [], items))
  fault_of_form form is fit = list_fault-List items p (OfNames env) l ∙ rw (is, fit) refl

  pub fault_of_unfit : (form : Form) → headless l ≡ Some form → fits form (length items) ≡ false → list_fault (tree.List items p) (OfNames env) l ≡ Some (10, p)
  fault_of_unfit form is unfit = list_fault-List items p (OfNames env) l ∙ rw (is, unfit) refl

  pub passes_form : (form : Form) (word : Text) → headless l ≡ Some form → fits form (length items) ≡ true → word ≡ [] → PassesLaid env l p (Some (form, word, items)) after → PassesList env l (tree.List items p) after
  passes_form form word is fit empty passes = record {
    faultless = fault_of_form form is fit ∙ (rw empty at passes.faultless);
    behind = (rw empty at passes.behind) ∙ sym (list_behind-List items p l env ∙ rw (is, fit) refl);
  }

-- a list that begins with a word
pub fault_of_nothing : (env : Environment) (l : ListRole) (items : List Tree) (p : Place) → headless l ≡ None → length items ≡ 0 → list_fault (tree.List items p) (OfNames env) l ≡ Some (10, p)
fault_of_nothing env l [] p is empty = list_fault-List [] p (OfNames env) l ∙ rw is refl
fault_of_nothing env l (first ∷ parts) p is empty = absurd (omega (arith, empty))

module _ (env after : Environment) (l : ListRole) (first : Tree) (parts : List Tree) (p : Place) where
  pub fault_of_headed : headless l ≡ None →
      list_fault (tree.List (first ∷ parts) p) (OfNames env) l ≡ laid_fault (OfNames env) l p (with_parts (text_of first) parts (form_named (text_of first) (length parts) (headed l)))
  fault_of_headed is = list_fault-List (first ∷ parts) p (OfNames env) l ∙ rw is refl

  pub passes_headed : headless l ≡ None → PassesLaid env l p (with_parts (text_of first) parts (form_named (text_of first) (length parts) (headed l))) after →
      PassesList env l (tree.List (first ∷ parts) p) after
  passes_headed is passes = record {
    faultless = fault_of_headed is ∙ passes.faultless;
    behind = passes.behind ∙ sym (list_behind-List (first ∷ parts) p l env ∙ rw is refl);
  }

-- a list that breaks no rule as a whole
module _ (env after : Environment) (l : ListRole) (p : Place) (word : Text) (fixed : List Role) (rest : Option Role) (parts : List Tree) where
  pub fault_of_parts : list_rule_of_names env l word parts ≡ None → laid_fault (OfNames env) l p (laid word fixed rest parts) ≡ parts_fault (OfNames (entered env l word)) fixed rest parts
  fault_of_parts none = rw none refl

  pub passes_laid : list_rule_of_names env l word parts ≡ None → PassesForm env l word fixed rest parts after → PassesLaid env l p (laid word fixed rest parts) after
  passes_laid none passes = record { faultless = fault_of_parts none ∙ passes.faultless; behind = passes.behind }

-- ---- an obligation's parts change nothing but what the item has named

quiet_name : (env : Environment) (scope : Scope) (n : NameRole) (part : Tree) → is_quiet (Name n) ≡ true → reset (behind_part env (Name n) part) scope ≡ reset env scope
quiet_name env scope name.NewNode part h = cc
quiet_name env scope name.NewSort part h = cc
quiet_name env scope name.NewEnumerator part h = cc
quiet_name env scope name.NewProtocol part h = cc
quiet_name env scope name.NewField part h = cc
quiet_name env scope name.NewTag part h = cc
quiet_name env scope name.NewLabel part h = cc
quiet_name env scope name.NewHook part h = cc
quiet_name env scope name.NewWorld part h = cc
quiet_name env scope name.NewInvariant part h = cc
quiet_name env scope name.NewProcedure part h = cc
quiet_name env scope name.NewArgument part h = cc
quiet_name env scope name.NewHookArgument part h = cc
quiet_name env scope name.NewParameter part h = cc
quiet_name env scope name.NewLocal part h = cc
quiet_name env scope name.NewStepName part h = cc
quiet_name env scope name.NewOpened part h = cc
quiet_name env scope name.NewHypothesis part h = cc
quiet_name env scope name.NewLastHypothesis part h = cc
quiet_name env scope name.Sort part h = cc
quiet_name env scope name.Protocol part h = refl
quiet_name env scope name.Label part h = refl
quiet_name env scope name.Core part h = cc
quiet_name env scope name.Client part h = cc
quiet_name env scope name.HookTag part h = cc
quiet_name env scope name.ListedLabel part h = cc
quiet_name env scope name.ListedHook part h = cc
quiet_name env scope name.World part h = cc
quiet_name env scope name.Invariant part h = refl
quiet_name env scope name.UpdatedField part h = cc
quiet_name env scope name.SentTag part h = cc
quiet_name env scope name.ReceivedTag part h = cc
quiet_name env scope name.Target part h = cc
quiet_name env scope name.ReadField part h = cc
quiet_name env scope name.Callee part h = cc
quiet_name env scope name.Procedure part h = refl
quiet_name env scope name.Node part h = refl
quiet_name env scope name.DeployedNode part h = cc
quiet_name env scope name.Claimed part h = refl
quiet_name env scope name.ProtocolTag part h = refl
quiet_name env scope name.StepTag part h = refl
quiet_name env scope name.Hypothesis part h = cc
quiet_name env scope name.Rewritten part h = cc

quiet_part : (env : Environment) (scope : Scope) (q : Role) (part : Tree) → is_quiet q ≡ true → reset (behind_part env q part) scope ≡ reset env scope
quiet_part env scope (Number n) part h = refl
quiet_part env scope (Name n) part h = quiet_name env scope n part h
quiet_part env scope Constant part h = cc
quiet_part env scope Way part h = refl
quiet_part env scope (Formula f) part h = cc
quiet_part env scope (Term t) part h = cc
quiet_part env scope (role.List l) part h = cc

first_true : (a b : Bool) → (a && b) ≡ true → a ≡ true
first_true true b h = refl
first_true false b h = cc

second_true : (a b : Bool) → (a && b) ≡ true → b ≡ true
second_true true b h = h
second_true false b h = cc

quiet_parts : (env : Environment) (scope : Scope) (fixed : List Role) (rest : Option Role) (parts : List Tree) → list_all is_quiet fixed ≡ true → has_no_rest rest ≡ true →
    reset (parts_behind fixed rest parts env) scope ≡ reset env scope
quiet_parts env scope [] None parts h none = refl
quiet_parts env scope [] (Some q) parts h none = cc
quiet_parts env scope (q ∷ qs) rest [] h none = refl
quiet_parts env scope (q ∷ qs) rest (part ∷ parts) h none =
    quiet_parts (behind_part env q part) scope qs rest parts (second_true (is_quiet q) (list_all is_quiet qs) h) none
    ∙ quiet_part env scope q part (first_true (is_quiet q) (list_all is_quiet qs) h)

-- the forms of an obligation
abbrev all_quiet : List (Text × Form) → Type 0
all_quiet [] = Unit {0}
all_quiet (entry ∷ entries) = (is_quiet_form list.Obligation entry.1.fixed entry.1.rest ≡ true) × all_quiet entries

quiet_named : (word : Text) (count : ℕ) (entries : List (Text × Form)) → all_quiet entries → (form : Form) → form_named word count entries ≡ Some form → is_quiet_form list.Obligation form.fixed form.rest ≡ true
quiet_named word count [] all form h = cc
quiet_named word count (entry ∷ entries) all form h = elim (split (bytes_eq word entry.0 && fits entry.1 count)) [
  | inl e ↦ (let is : entry.1 ≡ form = (let k = rw e at h in cc) in rw (← is) all.0)
  | inr e ↦ quiet_named word count entries all.1 form (rw e at h)
]

pub quiet_headed : (l : ListRole) (word : Text) (count : ℕ) (form : Form) → form_named word count (headed l) ≡ Some form → is_quiet_form l form.fixed form.rest ≡ true
quiet_headed list.File word count form h = refl
quiet_headed list.Nodes word count form h = refl
quiet_headed list.Item word count form h = refl
quiet_headed list.SortBody word count form h = refl
quiet_headed list.ProtocolPart word count form h = refl
quiet_headed list.Arguments word count form h = refl
quiet_headed list.Argument word count form h = refl
quiet_headed list.Send word count form h = refl
quiet_headed list.Receive word count form h = refl
quiet_headed list.Update word count form h = refl
quiet_headed list.HookArguments word count form h = refl
quiet_headed list.WorldLabels word count form h = refl
quiet_headed list.WorldHooks word count form h = refl
quiet_headed list.Composition word count form h = refl
quiet_headed list.Parameters word count form h = refl
quiet_headed list.Parameter word count form h = refl
quiet_headed list.Locals word count form h = refl
quiet_headed list.Precondition word count form h = refl
quiet_headed list.Postcondition word count form h = refl
quiet_headed list.Body word count form h = refl
quiet_headed list.Return word count form h = refl
quiet_headed list.Command word count form h = refl
quiet_headed list.Targets word count form h = refl
quiet_headed list.Then word count form h = refl
quiet_headed list.Else word count form h = refl
quiet_headed list.Program word count form h = refl
quiet_headed list.Obligation word count form h = quiet_named word count (headed list.Obligation) (refl, (refl, (refl, (refl, (refl, (refl, (refl, (refl, (refl, (refl, (refl, (refl, (refl, (refl, (refl, tt))))))))))))))) form h
quiet_headed list.StepNames word count form h = refl
quiet_headed list.Script word count form h = refl
quiet_headed list.Certificate word count form h = refl
quiet_headed list.Multiple word count form h = refl

pub quiet_headless : (l : ListRole) (form : Form) → headless l ≡ Some form → is_quiet_form l form.fixed form.rest ≡ true
quiet_headless list.File form h = refl
quiet_headless list.Nodes form h = refl
quiet_headless list.Item form h = refl
quiet_headless list.SortBody form h = refl
quiet_headless list.ProtocolPart form h = refl
quiet_headless list.Arguments form h = refl
quiet_headless list.Argument form h = refl
quiet_headless list.Send form h = refl
quiet_headless list.Receive form h = refl
quiet_headless list.Update form h = refl
quiet_headless list.HookArguments form h = refl
quiet_headless list.WorldLabels form h = refl
quiet_headless list.WorldHooks form h = refl
quiet_headless list.Composition form h = refl
quiet_headless list.Parameters form h = refl
quiet_headless list.Parameter form h = refl
quiet_headless list.Locals form h = refl
quiet_headless list.Precondition form h = refl
quiet_headless list.Postcondition form h = refl
quiet_headless list.Body form h = refl
quiet_headless list.Return form h = refl
quiet_headless list.Command form h = refl
quiet_headless list.Targets form h = refl
quiet_headless list.Then form h = refl
quiet_headless list.Else form h = refl
quiet_headless list.Program form h = refl
quiet_headless list.Obligation form h = cc
quiet_headless list.StepNames form h = refl
quiet_headless list.Script form h = refl
quiet_headless list.Certificate form h = refl
quiet_headless list.Multiple form h = refl

-- ---- what stands behind a list

pub left-open : (before inside : Environment) (l : ListRole) (word : Text) (parts : List Tree) → is_closed l ≡ false → left_behind before inside l word parts ≡ left_open l inside
left-open before inside list.File word parts h = refl
left-open before inside list.Nodes word parts h = refl
left-open before inside list.Item word parts h = cc
left-open before inside list.SortBody word parts h = refl
left-open before inside list.ProtocolPart word parts h = cc
left-open before inside list.Arguments word parts h = refl
left-open before inside list.Argument word parts h = refl
left-open before inside list.Send word parts h = cc
left-open before inside list.Receive word parts h = cc
left-open before inside list.Update word parts h = refl
left-open before inside list.HookArguments word parts h = refl
left-open before inside list.WorldLabels word parts h = refl
left-open before inside list.WorldHooks word parts h = refl
left-open before inside list.Composition word parts h = refl
left-open before inside list.Parameters word parts h = refl
left-open before inside list.Parameter word parts h = refl
left-open before inside list.Locals word parts h = refl
left-open before inside list.Precondition word parts h = refl
left-open before inside list.Postcondition word parts h = refl
left-open before inside list.Body word parts h = refl
left-open before inside list.Return word parts h = refl
left-open before inside list.Command word parts h = cc
left-open before inside list.Targets word parts h = refl
left-open before inside list.Then word parts h = refl
left-open before inside list.Else word parts h = refl
left-open before inside list.Program word parts h = refl
left-open before inside list.Obligation word parts h = cc
left-open before inside list.StepNames word parts h = refl
left-open before inside list.Script word parts h = cc
left-open before inside list.Certificate word parts h = refl
left-open before inside list.Multiple word parts h = refl

obligation_reset : (w : Walk) (word : Text) (fixed : List Role) (rest : Option Role) (parts : List Tree) → is_quiet_form list.Obligation fixed rest ≡ true →
    reset (parts_behind fixed rest parts (entered (environment w) list.Obligation word)) w.scope ≡ environment w
obligation_reset w word fixed rest parts h =
    quiet_parts (entered (environment w) list.Obligation word) w.scope fixed rest parts (first_true (list_all is_quiet fixed) (has_no_rest rest) h) (second_true (list_all is_quiet fixed) (has_no_rest rest) h)

pub left-closed : (w : Walk) (l : ListRole) (word : Text) (fixed : List Role) (rest : Option Role) (parts : List Tree) → is_closed l ≡ true → is_quiet_form l fixed rest ≡ true →
    left_behind (environment w) (parts_behind fixed rest parts (entered (environment w) l word)) l word parts
    ≡ left_by l word parts (parts_behind fixed rest parts (entered (environment w) l word)) w.scope
left-closed w list.File word fixed rest parts h quiet = cc
left-closed w list.Nodes word fixed rest parts h quiet = cc
left-closed w list.Item word fixed rest parts h quiet = refl
left-closed w list.SortBody word fixed rest parts h quiet = cc
left-closed w list.ProtocolPart word fixed rest parts h quiet = refl
left-closed w list.Arguments word fixed rest parts h quiet = cc
left-closed w list.Argument word fixed rest parts h quiet = cc
left-closed w list.Send word fixed rest parts h quiet = refl
left-closed w list.Receive word fixed rest parts h quiet = refl
left-closed w list.Update word fixed rest parts h quiet = cc
left-closed w list.HookArguments word fixed rest parts h quiet = cc
left-closed w list.WorldLabels word fixed rest parts h quiet = cc
left-closed w list.WorldHooks word fixed rest parts h quiet = cc
left-closed w list.Composition word fixed rest parts h quiet = cc
left-closed w list.Parameters word fixed rest parts h quiet = cc
left-closed w list.Parameter word fixed rest parts h quiet = cc
left-closed w list.Locals word fixed rest parts h quiet = cc
left-closed w list.Precondition word fixed rest parts h quiet = cc
left-closed w list.Postcondition word fixed rest parts h quiet = cc
left-closed w list.Body word fixed rest parts h quiet = cc
left-closed w list.Return word fixed rest parts h quiet = cc
left-closed w list.Command word fixed rest parts h quiet = refl
left-closed w list.Targets word fixed rest parts h quiet = cc
left-closed w list.Then word fixed rest parts h quiet = cc
left-closed w list.Else word fixed rest parts h quiet = cc
left-closed w list.Program word fixed rest parts h quiet = cc
left-closed w list.Obligation word fixed rest parts h quiet = sym (ap (λ (env : Environment). with_obligation env word parts) (obligation_reset w word fixed rest parts quiet))
left-closed w list.StepNames word fixed rest parts h quiet = cc
left-closed w list.Script word fixed rest parts h quiet = refl
left-closed w list.Certificate word fixed rest parts h quiet = cc
left-closed w list.Multiple word fixed rest parts h quiet = cc

-- ---- the parts from the one at i on

parts_behind-at : (env : Environment) (fixed : List Role) (rest : Option Role) (parts : List Tree) (i : ℕ) (q : Role) (part : Tree) (first : Option Role) →
    slice_get fixed i ≡ first → role_or first rest ≡ Some q → drop i parts ≡ part ∷ drop (suc i) parts →
    parts_behind (drop i fixed) rest (drop i parts) env ≡ parts_behind (drop (suc i) fixed) rest (drop (suc i) parts) (behind_part env q part)
parts_behind-at env fixed rest parts i q part (Some r) at_i is there =
    let same : r ≡ q = cc in
    rw (drop-Some fixed i r at_i, there, same) refl
parts_behind-at env fixed rest parts i q part None at_i is there =
    rw ((drop-None fixed i at_i).0, (drop-None fixed i at_i).1, there, is) refl

pub parts_behind-drop : (env : Environment) (fixed : List Role) (rest : Option Role) (parts : List Tree) (i : ℕ) (q : Role) (part : Tree) →
    role_at fixed rest i ≡ Some q → i < length parts → part ≡ get_or parts i part →
    parts_behind (drop i fixed) rest (drop i parts) env ≡ parts_behind (drop (i + 1) fixed) rest (drop (i + 1) parts) (behind_part env q part)
parts_behind-drop env fixed rest parts i q part is few part_is =
    let there : drop i parts ≡ part ∷ drop (suc i) parts = rw (drop-cons parts i part few, ← part_is) refl in
    rw add-one (parts_behind-at env fixed rest parts i q part (slice_get fixed i) refl is there)

-- past the parts, and past the form
pub parts_behind-past : (env : Environment) (fixed : List Role) (rest : Option Role) (parts : List Tree) (i : ℕ) → length parts ≤ i → parts_behind fixed rest (drop i parts) env ≡ env
parts_behind-past env fixed rest parts i h = rw (drop_of_length-le parts h) (none fixed rest)
  where
    none : (fixed : List Role) (rest : Option Role) → parts_behind fixed rest [] env ≡ env
    none [] None = refl
    none [] (Some q) = refl
    none (q ∷ qs) rest = refl

pub parts_behind-beyond : (env : Environment) (fixed : List Role) (rest : Option Role) (parts : List Tree) (i : ℕ) → role_at fixed rest i ≡ None → parts_behind (drop i fixed) rest (drop i parts) env ≡ env
parts_behind-beyond env fixed rest parts i none =
    let past = no_role fixed rest i (slice_get fixed i) refl none in
    rw (past.0, past.1) refl

-- ---- answers

-- a fault of the first of two is a fault of both
pub is_fault-first : (whole f later : Option Fault) (e : FormFault) → whole ≡ (f or_else later) → IsFault f e → IsFault whole e
is_fault-first whole f later Memory is h = tt
is_fault-first whole f later (At rule place) is h = is ∙ rw h refl

pub on_ok : {A E : Type 0} (r : Result A E) (P Q : Type 0) → (P → Q) → OnOk r P → OnOk r Q
on_ok (Ok x) P Q f h = f h
on_ok (Err e) P Q f h = h

pub ruleset lists = (list_fault-Num, list_fault-Sym, list_fault-List, fault_of_nothing, fault_of_parts, passes_laid, quiet_headed, quiet_headless)
