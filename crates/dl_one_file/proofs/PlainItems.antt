-- A file without fault is plain.
use Rattle.std.proofs.Common.{◌≡◌, ℕ, Bool, true, false, List, [], ◌∷◌, length, Option, Some, None, refl, ap, sym, subst, ◌∙◌, eqb-true, arith, ◌⊎◌, inl, inr}
use Rattle.std.specs.Prelude.{◌&&◌, not, is_some, codes}
use Rattle.std.specs.List.{list_all, list_any, AllByRecursion as Each}
use Rattle.std.specs.Str.{bytes_eq}
use Rattle.std.proofs.lemmas.Slice.Eq.{bytes_eq-Decides}
use mathlib.Core.Former.{Count}
use Rattle.dl_tree.specs.declared.tree.Place.{Place}
use Rattle.dl_tree.specs.declared.tree.Tree.{Tree, Num, Sym, List', Row_of-Tree, end_of-Tree, more_of-Tree, items-the_row-Tree as items}
use Rattle.dl_tree.specs.declared.tree.Tree.TheVariants as tree
use Rattle.dl_tree.specs.TreePlace.{place_of}
use Rattle.dl_forms.specs.declared.position.Position.TheVariants as position
use Rattle.dl_forms.specs.Context.{Text, look_up, is_among}
use Rattle.dl_forms.specs.Judge.{at, rule_if, is_name, text_of, fault}
use Rattle.dl_notation.specs.declared.role.Role.{Role}
use Rattle.dl_notation.specs.declared.role.Role.TheVariants.{Number, Name, Constant, Way, Formula, Term}
use Rattle.dl_notation.specs.declared.role.Role.TheVariants as role
use Rattle.dl_notation.specs.declared.role.NumberRole.{NumberRole}
use Rattle.dl_notation.specs.declared.role.NumberRole.TheVariants as number
use Rattle.dl_notation.specs.declared.role.NameRole.{NameRole}
use Rattle.dl_notation.specs.declared.role.NameRole.TheVariants as name
use Rattle.dl_notation.specs.declared.role.ListRole.{ListRole}
use Rattle.dl_notation.specs.declared.role.ListRole.TheVariants as list
use Rattle.dl_notation.specs.Notation.{Form, headless, headed, has_room, fits, form_named, form_with, only}
use Rattle.dl_notation.specs.Trees.{with_parts, laid_as, laid_out}
use Rattle.dl_notation.specs.Environment.{Environment, nothing}
use Rattle.dl_notation.specs.Behind.{entered, behind_part, list_behind, left_behind}
use Rattle.dl_notation.specs.Rules.{name_rule, formula_stage, term_stage, lists, knows}
use Rattle.dl_notation.specs.Judge.{Stage, OfNames, number_fault, name_fault, constant_fault, way_fault, list_rule, list_fault}
use Rattle.dl_notation.specs.Parts.{part_fault, parts_fault, laid_fault, parts_behind, laid_behind}
use Rattle.dl_notation.proofs.TreeLemmas.{parts_of-List}
use Rattle.dl_notation.proofs.FaultLemmas.{list_fault-Num, list_fault-Sym, list_fault-List}
use Rattle.dl_notation.proofs.BehindLemmas.{list_behind-List}
use Rattle.dl_one_file.specs.Plain.{has_text, is_list, is_length_of_int, is_unknown, has_unknown, is_plain_tree}
use Rattle.dl_one_file.proofs.Trees.{apart, first, second, plain-Num, plain-Sym, IsFine, IsKnown, IsPlain, atom-known}
use Rattle.dl_one_file.proofs.Flatten.{list-of, has-none, whole-list}
use Rattle.dl_one_file.proofs.Names.{other-way}
use Rattle.dl_one_file.proofs.PlainFormulas.{no-faults, is-fault, formula-plain}
use Rattle.dl_one_file.proofs.PlainNames.{CleanThere, clean-first, broken, first-rule, no-rule, declared-not-int, introduced-not-int, named-clean, entered-clean, Declared, left-clean, formula-clean, term-clean}

split : (b : Bool) → (b ≡ true) ⊎ (b ≡ false)
split true = inl refl
split false = inr refl

-- ---- the table

-- an argument with its sort may be written `(len int)`
abbrev is_argument : ListRole → Bool
is_argument list.Argument = true
is_argument list.Parameter = true
is_argument _ = false

abbrev is_free : Role → Bool
is_free (role.List l) = not (is_argument l)
is_free _ = true

abbrev is_free_rest : Option Role → Bool
is_free_rest (Some q) = is_free q
is_free_rest None = true

abbrev free_form : Form → Bool
free_form form = list_all is_free form.fixed && is_free_rest form.rest

-- a form with its word holds no argument, and the word is another one than `len`
abbrev free_entry : Text × Form → Bool
free_entry entry = has_text entry.0 && (not (bytes_eq entry.0 (codes "len")) && free_form entry.1)

headed-free : (l : ListRole) → list_all free_entry (headed l) ≡ true
headed-free list.File = refl
headed-free list.Nodes = refl
headed-free list.Item = refl
headed-free list.SortBody = refl
headed-free list.ProtocolPart = refl
headed-free list.Arguments = refl
headed-free list.Argument = refl
headed-free list.Send = refl
headed-free list.Receive = refl
headed-free list.Update = refl
headed-free list.HookArguments = refl
headed-free list.WorldLabels = refl
headed-free list.WorldHooks = refl
headed-free list.Composition = refl
headed-free list.Parameters = refl
headed-free list.Parameter = refl
headed-free list.Locals = refl
headed-free list.Precondition = refl
headed-free list.Postcondition = refl
headed-free list.Body = refl
headed-free list.Return = refl
headed-free list.Command = refl
headed-free list.Targets = refl
headed-free list.Then = refl
headed-free list.Else = refl
headed-free list.Program = refl
headed-free list.Obligation = refl
headed-free list.StepNames = refl
headed-free list.Script = refl
headed-free list.Certificate = refl
headed-free list.Multiple = refl

-- the entry that is chosen
named-free : (word : Text) (count : ℕ) (entries : List (Text × Form)) (form : Form) → list_all free_entry entries ≡ true → form_named word count entries ≡ Some form → free_entry (word, form) ≡ true
named-free word count [] form all h = cc
named-free word count (entry ∷ entries) form all h =
    elim (split (bytes_eq word entry.0 && fits entry.1 count)) [
      | inl e ↦ (let is : entry.1 ≡ form = (let k = rw e at h in cc) in
          let same : word ≡ entry.0 = (bytes_eq-Decides word entry.0).0 (first (bytes_eq word entry.0) (fits entry.1 count) e) in
          (λ i. free_entry (same i, sym is i)) ∙ first (free_entry entry) (list_all free_entry entries) all)
      | inr e ↦ named-free word count entries form (second (free_entry entry) (list_all free_entry entries) all) (rw e at h)
    ]

named-fits : (word : Text) (count : ℕ) (entries : List (Text × Form)) (form : Form) → form_named word count entries ≡ Some form → fits form count ≡ true
named-fits word count [] form h = cc
named-fits word count (entry ∷ entries) form h =
    elim (split (bytes_eq word entry.0 && fits entry.1 count)) [
      | inl e ↦ (let is : entry.1 ≡ form = (let k = rw e at h in cc) in
          ap (λ (f : Form). fits f count) (sym is) ∙ second (bytes_eq word entry.0) (fits entry.1 count) e)
      | inr e ↦ named-fits word count entries form (rw e at h)
    ]

with-fits : (count : ℕ) (form other : Form) → form_with count form ≡ Some other → (form ≡ other) × (fits form count ≡ true)
with-fits count form other h =
    elim (split (fits form count)) [
      | inl e ↦ ((let k = rw e at h in cc), e)
      | inr e ↦ (let k = rw e at h in cc)
    ]

-- a list without a word holds no argument, or is one of arguments
abbrev Holds : Form → Type 0
Holds form = (l : ListRole) × (form ≡ record { fixed = []; rest = Some (role.List l) })

headless-free : (l : ListRole) (form : Form) → headless l ≡ Some form → (free_form form ≡ true) ⊎ Holds form
headless-free list.Arguments form is = let same : record { fixed = []; rest = Some (role.List list.Argument) } ≡ form = cc in inr (list.Argument, sym same)
headless-free list.Argument form is = let same : record { fixed = Name name.NewArgument ∷ Name name.Sort ∷ []; rest = None } ≡ form = cc in inl (ap free_form (sym same))
headless-free list.HookArguments form is = let same : record { fixed = []; rest = Some (Name name.NewHookArgument) } ≡ form = cc in inl (ap free_form (sym same))
headless-free list.Parameters form is = let same : record { fixed = []; rest = Some (role.List list.Parameter) } ≡ form = cc in inr (list.Parameter, sym same)
headless-free list.Parameter form is = let same : record { fixed = Name name.NewParameter ∷ Name name.Sort ∷ []; rest = None } ≡ form = cc in inl (ap free_form (sym same))
headless-free list.Targets form is = let same : record { fixed = []; rest = Some (Name name.Target) } ≡ form = cc in inl (ap free_form (sym same))
headless-free list.Program form is = let same : record { fixed = Name name.DeployedNode ∷ Name name.Procedure ∷ []; rest = Some Constant } ≡ form = cc in inl (ap free_form (sym same))
headless-free list.Multiple form is = let same : record { fixed = Number number.Integer ∷ role.List list.Certificate ∷ []; rest = None } ≡ form = cc in inl (ap free_form (sym same))
headless-free _ form is = cc

-- each part has a role
abbrev Covered : List Role → Option Role → List Tree → Type 0
Covered qs rest [] = Unit {0}
Covered (q ∷ qs) rest (part ∷ parts) = Covered qs rest parts
Covered [] (Some q) (part ∷ parts) = Covered [] (Some q) parts
Covered [] None (part ∷ parts) = ⊥

covered-some : (qs : List Role) (q : Role) (parts : List Tree) → Covered qs (Some q) parts
covered-some [] q [] = tt
covered-some (r ∷ qs) q [] = tt
covered-some [] q (part ∷ parts) = covered-some [] q parts
covered-some (r ∷ qs) q (part ∷ parts) = covered-some qs q parts

covered-none : (qs : List Role) (parts : List Tree) → length qs ≡ length parts → Covered qs None parts
covered-none [] [] e = tt
covered-none (q ∷ qs) [] e = tt
covered-none [] (part ∷ parts) e = absurd (omega (arith, e))
covered-none (q ∷ qs) (part ∷ parts) e = covered-none qs parts (omega (arith, e))

covered-by : (fixed : List Role) (rest : Option Role) (parts : List Tree) → has_room rest (length fixed) (length parts) ≡ true → Covered fixed rest parts
covered-by fixed None parts h = covered-none fixed parts (eqb-true (length fixed) (length parts) h)
covered-by fixed (Some q) parts h = covered-some fixed q parts

-- ---- parts that are no lists

number-plain : (n : NumberRole) (part : Tree) → number_fault n part ≡ None → IsPlain part
number-plain n (Num v p) h = (plain-Num v p, atom-known (Num v p) refl)
number-plain n (Sym name p) h = absurd (is-fault (10, p) h)
number-plain n (List' s row p) h = absurd (is-fault (10, p) h)

-- a number has no text
number-text : (n : NumberRole) (part : Tree) → number_fault n part ≡ None → bytes_eq (text_of part) (codes "len") ≡ false
number-text n (Num v p) h = refl
number-text n (Sym name p) h = absurd (is-fault (10, p) h)
number-text n (List' s row p) h = refl

name-text : (text : Text) → is_name text ≡ true → has_text text ≡ true
name-text [] h = h
name-text (b ∷ bs) h = refl

symbol-plain : (text : Text) (p : Place) → has_text text ≡ true → IsPlain (Sym text p)
symbol-plain text p h = (plain-Sym text p ∙ h, atom-known (Sym text p) refl)

name-plain : (part : Tree) → name_fault part ≡ None → IsPlain part
name-plain (Num v p) h = absurd (is-fault (10, p) h)
name-plain (Sym text p) h =
    elim (split (is_name text))
    [ inl e ↦ symbol-plain text p (name-text text e) | inr e ↦ absurd (is-fault (10, p) (rw e at h)) ]
name-plain (List' s row p) h = absurd (is-fault (10, p) h)

constant-plain : (part : Tree) → constant_fault part ≡ None → IsPlain part
constant-plain (Num v p) h = (plain-Num v p, atom-known (Num v p) refl)
constant-plain (Sym text p) h =
    elim (split (is_name text))
    [ inl e ↦ symbol-plain text p (name-text text e) | inr e ↦ absurd (is-fault (10, p) (rw e at h)) ]
constant-plain (List' s row p) h = absurd (is-fault (10, p) h)

way-plain : (part : Tree) → way_fault part ≡ None → IsPlain part
way-plain (Num v p) h = absurd (is-fault (10, p) h)
way-plain (Sym [] p) h = absurd (is-fault (10, p) h)
way-plain (Sym (b ∷ bs) p) h = symbol-plain (b ∷ bs) p refl
way-plain (List' s row p) h = absurd (is-fault (10, p) h)

-- the rule of a name
name-rule : (env : Environment) (n : NameRole) (part : Tree) → part_fault (OfNames env) (Name n) part ≡ None → name_rule env n (text_of part) ≡ None
name-rule env n part h = no-rule (name_rule env n (text_of part)) (place_of part) (no-faults (name_fault part) (at (name_rule env n (text_of part)) (place_of part)) h).1

-- a part of a list's role is a list
list-is : (part : Tree) (stage : Stage) (l : ListRole) → list_fault part stage l ≡ None → is_list part ≡ true
list-is (Num v p) stage l h = absurd (is-fault (10, p) (sym (list_fault-Num v p stage l) ∙ h))
list-is (Sym name p) stage l h = absurd (is-fault (10, p) (sym (list_fault-Sym name p stage l) ∙ h))
list-is (List' s row p) stage l h = refl

list-text : (part : Tree) → is_list part ≡ true → bytes_eq (text_of part) (codes "len") ≡ false
list-text (Num v p) h = refl
list-text (Sym name p) h = absurd (apart h)
list-text (List' s row p) h = refl

-- ---- lengths of unknown labels

no-and : (b : Bool) → (b && false) ≡ false
no-and true = refl
no-and false = refl

first-other : (word : Tree) (parts : List Tree) → bytes_eq (text_of word) (codes "len") ≡ false → is_length_of_int (word ∷ parts) ≡ false
first-other word [] h = refl
first-other word (label ∷ []) h = ap (λ b. b && bytes_eq (text_of label) (codes "int")) h
first-other word (label ∷ other ∷ parts) h = refl

second-other : (word label : Tree) → bytes_eq (codes "int") (text_of label) ≡ false → is_length_of_int (word ∷ label ∷ []) ≡ false
second-other word label h =
    ap (λ b. bytes_eq (text_of word) (codes "len") && b) (other-way (codes "int") (text_of label) h) ∙ no-and (bytes_eq (text_of word) (codes "len"))

-- what is known is not `int`
known-not-int : (text : Text) (test : Text → Bool) → test (codes "int") ≡ false → rule_if 11 (not (test text)) ≡ None → bytes_eq (codes "int") text ≡ false
known-not-int text test clean h =
    elim (split (bytes_eq (codes "int") text)) [
      | inl e ↦ (let is : codes "int" ≡ text = (bytes_eq-Decides (codes "int") text).0 e in
          let no : not (test text) ≡ false = broken 11 (not (test text)) h in
          let yes : not (test text) ≡ true = ap not (ap test (sym is) ∙ clean) in
          absurd (apart (sym no ∙ yes)))
      | inr e ↦ e
    ]

headless-known : (l : ListRole) (form : Form) → headless l ≡ Some form → (env : Environment) → CleanThere env → (parts : List Tree) → parts_fault (OfNames env) form.fixed form.rest parts ≡ None → is_argument l ≡ false →
    is_length_of_int parts ≡ false
headless-known l form is env clean [] h free = refl
headless-known l form is env clean (x ∷ []) h free = refl
headless-known l form is env clean (x ∷ y ∷ z ∷ parts) h free = refl
headless-known list.Arguments form is env clean (x ∷ y ∷ []) h free =
    let same : record { fixed = []; rest = Some (role.List list.Argument) } ≡ form = cc in
    let k : parts_fault (OfNames env) [] (Some (role.List list.Argument)) (x ∷ y ∷ []) ≡ None = ap (λ (f : Form). parts_fault (OfNames env) f.fixed f.rest (x ∷ y ∷ [])) same ∙ h in
    first-other x (y ∷ []) (list-text x (list-is x (OfNames env) list.Argument (no-faults (list_fault x (OfNames env) list.Argument) _ k).0))
headless-known list.Parameters form is env clean (x ∷ y ∷ []) h free =
    let same : record { fixed = []; rest = Some (role.List list.Parameter) } ≡ form = cc in
    let k : parts_fault (OfNames env) [] (Some (role.List list.Parameter)) (x ∷ y ∷ []) ≡ None = ap (λ (f : Form). parts_fault (OfNames env) f.fixed f.rest (x ∷ y ∷ [])) same ∙ h in
    first-other x (y ∷ []) (list-text x (list-is x (OfNames env) list.Parameter (no-faults (list_fault x (OfNames env) list.Parameter) _ k).0))
headless-known list.Argument form is env clean (x ∷ y ∷ []) h free = absurd (apart (sym free))
headless-known list.Parameter form is env clean (x ∷ y ∷ []) h free = absurd (apart (sym free))
headless-known list.HookArguments form is env clean (x ∷ y ∷ []) h free =
    let same : record { fixed = []; rest = Some (Name name.NewHookArgument) } ≡ form = cc in
    let k : parts_fault (OfNames env) [] (Some (Name name.NewHookArgument)) (x ∷ y ∷ []) ≡ None = ap (λ (f : Form). parts_fault (OfNames env) f.fixed f.rest (x ∷ y ∷ [])) same ∙ h in
    let there : Environment = behind_part env (Name name.NewHookArgument) x in
    let later : part_fault (OfNames there) (Name name.NewHookArgument) y ≡ None =
    (no-faults (part_fault (OfNames there) (Name name.NewHookArgument) y) None (no-faults (part_fault (OfNames env) (Name name.NewHookArgument) x) _ k).1).0 in
    second-other x y (introduced-not-int there (text_of y) (name-rule there name.NewHookArgument y later))
headless-known list.Targets form is env clean (x ∷ y ∷ []) h free =
    let same : record { fixed = []; rest = Some (Name name.Target) } ≡ form = cc in
    let k : parts_fault (OfNames env) [] (Some (Name name.Target)) (x ∷ y ∷ []) ≡ None = ap (λ (f : Form). parts_fault (OfNames env) f.fixed f.rest (x ∷ y ∷ [])) same ∙ h in
    let there : Environment = behind_part env (Name name.Target) x in
    let later : part_fault (OfNames there) (Name name.Target) y ≡ None =
    (no-faults (part_fault (OfNames there) (Name name.Target) y) None (no-faults (part_fault (OfNames env) (Name name.Target) x) _ k).1).0 in
    let rule : lists there (is_among (text_of y) env.locals) (text_of y) ≡ None = name-rule there name.Target y later in
    second-other x y (known-not-int (text_of y) (λ (text : Text). is_among text env.locals) clean.locals_clean (first-rule (knows (is_among (text_of y) env.locals)) _ rule))
headless-known list.Program form is env clean (x ∷ y ∷ []) h free =
    let same : record { fixed = Name name.DeployedNode ∷ Name name.Procedure ∷ []; rest = Some Constant } ≡ form = cc in
    let k : parts_fault (OfNames env) (Name name.DeployedNode ∷ Name name.Procedure ∷ []) (Some Constant) (x ∷ y ∷ []) ≡ None = ap (λ (f : Form). parts_fault (OfNames env) f.fixed f.rest (x ∷ y ∷ [])) same ∙ h in
    let there : Environment = behind_part env (Name name.DeployedNode) x in
    let later : part_fault (OfNames there) (Name name.Procedure) y ≡ None =
    (no-faults (part_fault (OfNames there) (Name name.Procedure) y) None (no-faults (part_fault (OfNames env) (Name name.DeployedNode) x) _ k).1).0 in
    let rule : knows (is_some (look_up (text_of y) env.procedures)) ≡ None = name-rule there name.Procedure y later in
    second-other x y (known-not-int (text_of y) (λ (text : Text). is_some (look_up text env.procedures)) (ap is_some clean.procedures_clean) rule)
headless-known list.Multiple form is env clean (x ∷ y ∷ []) h free =
    let same : record { fixed = Number number.Integer ∷ role.List list.Certificate ∷ []; rest = None } ≡ form = cc in
    let k : parts_fault (OfNames env) (Number number.Integer ∷ role.List list.Certificate ∷ []) None (x ∷ y ∷ []) ≡ None = ap (λ (f : Form). parts_fault (OfNames env) f.fixed f.rest (x ∷ y ∷ [])) same ∙ h in
    let here : part_fault (OfNames env) (Number number.Integer) x ≡ None = (no-faults (part_fault (OfNames env) (Number number.Integer) x) _ k).0 in
    first-other x (y ∷ []) (number-text number.Integer x (no-faults (number_fault number.Integer x) _ here).0)
headless-known _ form is env clean (x ∷ y ∷ []) h free = cc

-- ---- items

label-form : (count : ℕ) (form : Form) → form_named (codes "label") count (headed list.Item) ≡ Some form → form.fixed ≡ Name name.NewLabel ∷ Name name.Protocol ∷ []
label-form count form h =
    elim (split (fits (only (Name name.NewLabel ∷ Name name.Protocol ∷ [])) count)) [
      | inl e ↦ (let k : only (Name name.NewLabel ∷ Name name.Protocol ∷ []) ≡ form = (let j = rw e at h in cc) in ap (λ (f : Form). f.fixed) (sym k))
      | inr e ↦ (let j = rw e at h in cc)
    ]

abbrev proc_roles : List Role
proc_roles = Name name.NewProcedure ∷ Name name.World ∷ role.List list.Parameters ∷ role.List list.Locals ∷ role.List list.Precondition ∷ role.List list.Postcondition ∷ role.List list.Body ∷ role.List list.Return ∷ []

proc-form : (count : ℕ) (form : Form) → form_named (codes "proc") count (headed list.Item) ≡ Some form → form.fixed ≡ proc_roles
proc-form count form h =
    elim (split (fits (only proc_roles) count)) [
      | inl e ↦ (let k : only proc_roles ≡ form = (let j = rw e at h in cc) in ap (λ (f : Form). f.fixed) (sym k))
      | inr e ↦ (let j = rw e at h in cc)
    ]

declared-item : (env : Environment) (word : Text) (parts : List Tree) (form : Form) → form_named word (length parts) (headed list.Item) ≡ Some form → parts_fault (OfNames env) form.fixed form.rest parts ≡ None → Declared word parts
declared-item env word parts form named h = record {
  label = λ e first rest is.
      (let same : word ≡ codes "label" = (bytes_eq-Decides word (codes "label")).0 e in
      let fixed : form.fixed ≡ Name name.NewLabel ∷ Name name.Protocol ∷ [] = label-form (length parts) form (ap (λ w. form_named w (length parts) (headed list.Item)) (sym same) ∙ named) in
      let k : parts_fault (OfNames env) (Name name.NewLabel ∷ Name name.Protocol ∷ []) form.rest (first ∷ rest) ≡ None = (λ i. parts_fault (OfNames env) (sym fixed i) form.rest (sym is i)) ∙ h in
      declared-not-int env (text_of first) (name-rule env name.NewLabel first (no-faults (part_fault (OfNames env) (Name name.NewLabel) first) _ k).0));
  procedure = λ e first rest is.
      (let same : word ≡ codes "proc" = (bytes_eq-Decides word (codes "proc")).0 e in
      let fixed : form.fixed ≡ proc_roles = proc-form (length parts) form (ap (λ w. form_named w (length parts) (headed list.Item)) (sym same) ∙ named) in
      let k : parts_fault (OfNames env) proc_roles form.rest (first ∷ rest) ≡ None = (λ i. parts_fault (OfNames env) (sym fixed i) form.rest (sym is i)) ∙ h in
      declared-not-int env (text_of first) (name-rule env name.NewProcedure first (no-faults (part_fault (OfNames env) (Name name.NewProcedure) first) _ k).0));
}

-- ---- trees

record PartGood (env : Environment) (q : Role) (part : Tree) : Type 0 where
  fine : IsFine part
  known : is_free q ≡ true → IsKnown part
  clean : CleanThere (behind_part env q part)

record PartsGood (env : Environment) (qs : List Role) (rest : Option Role) (parts : List Tree) : Type 0 where
  fine : Each IsFine parts
  known : (list_all is_free qs && is_free_rest rest) ≡ true → Each IsKnown parts
  clean : CleanThere (parts_behind qs rest parts env)

record ListGood (env : Environment) (l : ListRole) (t : Tree) : Type 0 where
  fine : IsFine t
  known : is_argument l ≡ false → IsKnown t
  clean : CleanThere (list_behind t l env)

plain-part : (env : Environment) (q : Role) (part : Tree) → IsPlain part → CleanThere (behind_part env q part) → PartGood env q part
plain-part env q part plain clean = record { fine = plain.0; known = λ free. plain.1; clean = clean }

nothing-behind : (qs : List Role) (rest : Option Role) (env : Environment) → parts_behind qs rest [] env ≡ env
nothing-behind [] None env = refl
nothing-behind [] (Some q) env = refl
nothing-behind (q ∷ qs) rest env = refl

word-fine : (first : Tree) → has_text (text_of first) ≡ true → IsFine first
word-fine (Num v p) h = absurd (apart h)
word-fine (Sym name p) h = plain-Sym name p ∙ h
word-fine (List' s row p) h = absurd (apart h)

no-not-true : (b : Bool) → not b ≡ true → b ≡ false
no-not-true true h = sym h
no-not-true false h = refl

both-true : (a b : Bool) → a ≡ true → b ≡ true → (a && b) ≡ true
both-true true b ha hb = hb
both-true false b ha hb = ha

-- a list that begins with a word
word-good : (env inside : Environment) (l : ListRole) (first : Tree) (parts : List Tree) (p : Place) (form : Form) → free_entry (text_of first, form) ≡ true → PartsGood inside form.fixed form.rest parts →
    CleanThere (list_behind (tree.List (first ∷ parts) p) l env) → ListGood env l (tree.List (first ∷ parts) p)
word-good env inside l first parts p form entry good clean =
    let text : has_text (text_of first) ≡ true = first-of-two entry in
    let others : (not (bytes_eq (text_of first) (codes "len")) && free_form form) ≡ true = second (has_text (text_of first)) _ entry in
    let other : bytes_eq (text_of first) (codes "len") ≡ false = no-not-true _ (first-of others) in
    let free : free_form form ≡ true = second (not (bytes_eq (text_of first) (codes "len"))) _ others in
    record {
      fine = list-of (first ∷ parts) p (has-none first parts (good.known free)) (word-fine first text, good.fine);
      known = λ _. ap is_length_of_int (parts_of-List (first ∷ parts) p) ∙ first-other first parts other;
      clean = clean;
    }
  where
    first-of-two : free_entry (text_of first, form) ≡ true → has_text (text_of first) ≡ true
    first-of-two h = left _ _ h
      where
        left : (a b : Bool) → (a && b) ≡ true → a ≡ true
        left true b h = refl
        left false b h = h

    first-of : (not (bytes_eq (text_of first) (codes "len")) && free_form form) ≡ true → not (bytes_eq (text_of first) (codes "len")) ≡ true
    first-of h = left _ _ h
      where
        left : (a b : Bool) → (a && b) ≡ true → a ≡ true
        left true b h = refl
        left false b h = h

-- one that begins with no word
has-by : (stage : Stage) (form : Form) (inside : Environment) (parts : List Tree) → (free_form form ≡ true) ⊎ Holds form → parts_fault stage form.fixed form.rest parts ≡ None → PartsGood inside form.fixed form.rest parts → has_unknown parts ≡ false
has-by stage form inside [] kind h good = refl
has-by stage form inside (x ∷ parts) (inl free) h good = has-none x parts (good.known free).1
has-by stage form inside (x ∷ parts) (inr (l, same)) h good =
    let k : parts_fault stage [] (Some (role.List l)) (x ∷ parts) ≡ None = ap (λ (f : Form). parts_fault stage f.fixed f.rest (x ∷ parts)) (sym same) ∙ h in
    let is : is_list x ≡ true = list-is x stage l (no-faults (list_fault x stage l) _ k).0 in
    ap (λ b. not b && list_any is_unknown parts) is

-- what is shown of each tree
abbrev IsGood : Tree → Type 0
IsGood t = (env : Environment) (l : ListRole) → CleanThere env → list_fault t (OfNames env) l ≡ None → ListGood env l t

part-good : (part : Tree) → IsGood part → (env : Environment) (q : Role) → CleanThere env → part_fault (OfNames env) q part ≡ None → PartGood env q part
part-good part each env (Number n) clean h = plain-part env (Number n) part (number-plain n part (no-faults (number_fault n part) _ h).0) clean
part-good part each env (Name n) clean h =
    plain-part env (Name n) part (name-plain part (no-faults (name_fault part) _ h).0) (named-clean env n (text_of part) (name-rule env n part h) clean)
part-good part each env Constant clean h = plain-part env Constant part (constant-plain part (no-faults (constant_fault part) _ h).0) clean
part-good part each env Way clean h = plain-part env Way part (way-plain part h) clean
part-good part each env (Formula f) clean h = plain-part env (Formula f) part (formula-plain part (formula_stage env f) position.Formula (formula-clean env f clean) h) clean
part-good part each env (Term t) clean h =
    plain-part env (Term t) part (formula-plain part (term_stage env t part) position.Term (term-clean env t part clean) (no-faults (fault part (term_stage env t part) position.Term) _ h).0) clean
part-good part each env (role.List l) clean h =
    let good : ListGood env l part = each env l clean h in
    record { fine = good.fine; known = λ free. good.known (no-not-true (is_argument l) free); clean = good.clean }

parts-good : (parts : List Tree) → Each IsGood parts → (env : Environment) (qs : List Role) (rest : Option Role) → Covered qs rest parts → CleanThere env → parts_fault (OfNames env) qs rest parts ≡ None → PartsGood env qs rest parts
parts-good [] each env qs rest covered clean h = record { fine = tt; known = λ free. tt; clean = subst CleanThere (sym (nothing-behind qs rest env)) clean }
parts-good (t ∷ parts) each env (q ∷ qs) rest covered clean h =
    let there : Environment = behind_part env q t in
    let both = no-faults (part_fault (OfNames env) q t) (parts_fault (OfNames there) qs rest parts) h in
    let good : PartGood env q t = part-good t each.0 env q clean both.0 in
    let more : PartsGood there qs rest parts = parts-good parts each.1 there qs rest covered good.clean both.1 in
    record {
      fine = (good.fine, more.fine);
      known = λ free. (let all : list_all is_free (q ∷ qs) ≡ true = first (list_all is_free (q ∷ qs)) (is_free_rest rest) free in (
        good.known (first (is_free q) (list_all is_free qs) all),
        more.known (both-true (list_all is_free qs) (is_free_rest rest) (second (is_free q) (list_all is_free qs) all) (second (list_all is_free (q ∷ qs)) (is_free_rest rest) free)),
      ));
      clean = more.clean;
    }
parts-good (t ∷ parts) each env [] (Some q) covered clean h =
    let there : Environment = behind_part env q t in
    let both = no-faults (part_fault (OfNames env) q t) (parts_fault (OfNames there) [] (Some q) parts) h in
    let good : PartGood env q t = part-good t each.0 env q clean both.0 in
    let more : PartsGood there [] (Some q) parts = parts-good parts each.1 there [] (Some q) covered good.clean both.1 in
    record { fine = (good.fine, more.fine); known = λ free. (good.known free, more.known free); clean = more.clean }
parts-good (t ∷ parts) each env [] None covered clean h = absurd covered

word-by : (head : Tree) (parts : List Tree) (p : Place) → Each IsGood parts → (env : Environment) (l : ListRole) → headless l ≡ None → (form : Option Form) →
    form_named (text_of head) (length parts) (headed l) ≡ form → CleanThere env → laid_fault (OfNames env) l p (with_parts (text_of head) parts form) ≡ None → ListGood env l (tree.List (head ∷ parts) p)
word-by head parts p each env l is None found clean h = absurd (is-fault (10, p) h)
word-by head parts p each env l is (Some form) found clean h =
    let word : Text = text_of head in
    let inside : Environment = entered env l word in
    let faults : parts_fault (OfNames inside) form.fixed form.rest parts ≡ None = (no-faults (at (list_rule (OfNames env) l word parts) p) (parts_fault (OfNames inside) form.fixed form.rest parts) h).1 in
    let good : PartsGood inside form.fixed form.rest parts =
    parts-good parts each inside form.fixed form.rest (covered-by form.fixed form.rest parts (named-fits word (length parts) (headed l) form found)) (entered-clean env l word clean) faults in
    let laid : laid_out text_of l (head ∷ parts) ≡ Some (form, word, parts) = ap (laid_as text_of l (head ∷ parts)) is ∙ ap (with_parts word parts) found in
    let declared : l ≡ list.Item → Declared word parts = (λ item. declared-item inside word parts form (ap (λ l. form_named word (length parts) (headed l)) (sym item) ∙ found) faults) in
    let clean_left : CleanThere (left_behind env (parts_behind form.fixed form.rest parts inside) l word parts) = left-clean env (parts_behind form.fixed form.rest parts inside) l word parts declared clean good.clean in
    word-good env inside l head parts p form (named-free word (length parts) (headed l) form (headed-free l) found) good
    (subst CleanThere (sym (list_behind-List (head ∷ parts) p l env ∙ ap (λ o. laid_behind l o env) laid)) clean_left)

headless-good : (parts : List Tree) (p : Place) → Each IsGood parts → (env : Environment) (l : ListRole) (form : Form) → headless l ≡ Some form → (laid : Option Form) → form_with (length parts) form ≡ laid → CleanThere env →
    laid_fault (OfNames env) l p (with_parts [] parts laid) ≡ None → ListGood env l (tree.List parts p)
headless-good parts p each env l form is None found clean h = absurd (is-fault (10, p) h)
headless-good parts p each env l form is (Some other) found clean h =
    let inside : Environment = entered env l [] in
    let same = with-fits (length parts) form other found in
    let other_is : headless l ≡ Some other = is ∙ ap Some same.0 in
    let room : fits other (length parts) ≡ true = ap (λ (f : Form). fits f (length parts)) (sym same.0) ∙ same.1 in
    let faults : parts_fault (OfNames inside) other.fixed other.rest parts ≡ None = (no-faults (at (list_rule (OfNames env) l [] parts) p) (parts_fault (OfNames inside) other.fixed other.rest parts) h).1 in
    let good : PartsGood inside other.fixed other.rest parts = parts-good parts each inside other.fixed other.rest (covered-by other.fixed other.rest parts room) (entered-clean env l [] clean) faults in
    let laid : laid_out text_of l parts ≡ Some (other, [], parts) = ap (laid_as text_of l parts) is ∙ ap (with_parts [] parts) found in
    let declared : l ≡ list.Item → Declared [] parts = (λ item. record { label = λ e head rest is. absurd (apart e); procedure = λ e head rest is. absurd (apart e) }) in
    let clean_left : CleanThere (left_behind env (parts_behind other.fixed other.rest parts inside) l [] parts) = left-clean env (parts_behind other.fixed other.rest parts inside) l [] parts declared clean good.clean in
    record {
      fine = list-of parts p (has-by (OfNames inside) other inside parts (headless-free l other other_is) faults good) good.fine;
      known = λ free. ap is_length_of_int (parts_of-List parts p) ∙ headless-known l other other_is inside (entered-clean env l [] clean) parts faults free;
      clean = subst CleanThere (sym (list_behind-List parts p l env ∙ ap (λ o. laid_behind l o env) laid)) clean_left;
    }

good-by : (parts : List Tree) (p : Place) → Each IsGood parts → (env : Environment) (l : ListRole) (form : Option Form) → headless l ≡ form → CleanThere env →
    laid_fault (OfNames env) l p (laid_as text_of l parts form) ≡ None → ListGood env l (tree.List parts p)
good-by parts p each env l (Some form) is clean h = headless-good parts p each env l form is (form_with (length parts) form) refl clean h
good-by [] p each env l None is clean h = absurd (is-fault (10, p) h)
good-by (head ∷ parts) p each env l None is clean h = word-by head parts p each.1 env l is (form_named (text_of head) (length parts) (headed l)) refl clean h

list-good : (parts : List Tree) (p : Place) → Each IsGood parts → IsGood (tree.List parts p)
list-good parts p each env l clean h = good-by parts p each env l (headless l) refl clean (sym (list_fault-List parts p (OfNames env) l) ∙ h)

mutual
  tree-good : (t : Tree) → IsGood t
  tree-good (Num v p) = λ env l clean h. absurd (is-fault (10, p) (sym (list_fault-Num v p (OfNames env) l) ∙ h))
  tree-good (Sym name p) = λ env l clean h. absurd (is-fault (10, p) (sym (list_fault-Sym name p (OfNames env) l) ∙ h))
  tree-good (List' shape row p) = subst IsGood (sym (whole-list shape row p)) (list-good (items _ row) p (row-good _ row))

  row-good : (n : Count) (row : Row_of-Tree n) → Each IsGood (items n row)
  row-good n end_of-Tree = tt
  row-good n (more_of-Tree t rest) = (tree-good t, row-good _ rest)

-- A file without a fault of names and sorts is plain.
pub faultless-plain : (t : Tree) → list_fault t (OfNames nothing) list.File ≡ None → is_plain_tree t ≡ true
faultless-plain t h = let good : ListGood nothing list.File t = tree-good t nothing list.File clean-first h in good.fine
