-- The rules of forms, names and sorts that a tree breaks.
use Rattle.std.proofs.Common.{ℕ, ℤ, Bool, false, ◌==◌, List, [], ◌∷◌, length, Option, Some, None, refl, sym, subst}
use Rattle.std.specs.Prelude.{not, ◌||◌, ◌&&◌, is_some, codes}
use Rattle.std.specs.List.{AllByRecursion as Each}
use Rattle.std.specs.Str.{bytes_eq}
use mathlib.Core.Former.{Count}
use Rattle.dl_tree.specs.declared.tree.Place.{Place}
use Rattle.dl_tree.specs.declared.tree.Tree.{Tree, Num, Sym, List', Row_of-Tree, end_of-Tree, more_of-Tree, items-the_row-Tree as items}
use Rattle.dl_tree.specs.declared.tree.Tree.TheVariants as tree
use Rattle.dl_tree.specs.TreePlace.{place_of}
use Rattle.dl_forms.specs.declared.position.Position.TheVariants as position
use Rattle.dl_forms.specs.Context.{Text, is_among, look_up}
use Rattle.dl_forms.specs.Judge.{at, rule_if, is_name, text_of, fault}
use Rattle.dl_forms.specs.Judge as inner
use Rattle.dl_forms.specs.Table.{reserved}
use Rattle.dl_notation.specs.declared.role.Role.{Role}
use Rattle.dl_notation.specs.declared.role.Role.TheVariants.{Number, Name, Constant, Way, Formula, Term}
use Rattle.dl_notation.specs.declared.role.Role.TheVariants as role
use Rattle.dl_notation.specs.declared.role.NumberRole.{NumberRole}
use Rattle.dl_notation.specs.declared.role.NumberRole.TheVariants as number
use Rattle.dl_notation.specs.declared.role.NameRole.{NameRole}
use Rattle.dl_notation.specs.declared.role.NameRole.TheVariants as name
use Rattle.dl_notation.specs.declared.role.ListRole.{ListRole}
use Rattle.dl_notation.specs.declared.role.ListRole.TheVariants as list
use Rattle.dl_notation.specs.declared.role.TermRole.{TermRole}
use Rattle.dl_notation.specs.declared.role.TermRole.TheVariants as term
use Rattle.dl_notation.specs.Notation.{Form, headless, headed, form_named, form_with}
use Rattle.dl_notation.specs.Trees.{with_parts, laid_as}
use Rattle.dl_notation.specs.Environment.{Environment, nothing, sort_named, tag_of, row_of}
use Rattle.dl_notation.specs.Behind.{has}
use Rattle.dl_notation.specs.Values.{is_outside, is_first_outside}
use Rattle.dl_notation.specs.Obligations.{has_number, is_proved, obligation_name, procedure_named}
use Rattle.dl_notation.specs.Rules.{◌or_rule◌, knows, declares, declares_within, in_scope, supposes, introduces, lists, is_received, name_rule, number_rule, wanted_sort, word_rule, constant_rule, is_full, is_full_protocol, is_other_count, update_misses_index, misses_arguments, program_misses_constants, is_no_sort, list_rule_of_names, formula_stage, term_stage, term_rule}
use Rattle.dl_notation.specs.Judge.{Stage, OfForms, OfNames, fits_number, number_fault, name_fault, constant_fault, way_fault, lacks_deployment, list_rule, inside, behind, list_fault, file_fault}
use Rattle.dl_notation.specs.Parts.{part_fault, parts_fault, laid_fault}
use Rattle.dl_notation.proofs.FaultLemmas.{list_fault-Num, list_fault-Sym, list_fault-List}
use Rattle.dl_check.proofs.FormRules.{IsByRule, HasRule, if-by, at-has, one-has, first-has, whole-list, form-ruled}

-- ---- names

or-by : (a b : Option ℕ) → IsByRule a → IsByRule b → IsByRule (a or_rule b)
or-by None b h k = k
or-by (Some rule) b h k = h

knows-by : (known : Bool) → IsByRule (knows known)
knows-by known = if-by 11 refl (not known)

declares-by : (env : Environment) (text : Text) → IsByRule (declares env text)
declares-by env text = if-by 12 refl (is_among text reserved || is_among text env.declared)

within-by : {X : Type 0} (names : List (Text × X)) (text : Text) → IsByRule (declares_within names text)
within-by names text = if-by 12 refl (is_among text reserved || is_some (look_up text names))

supposes-by : (env : Environment) (text : Text) → IsByRule (supposes env text)
supposes-by env text = if-by 13 refl (is_among text reserved || (is_among text env.declared || is_among text (in_scope env)))

introduces-by : (env : Environment) (text : Text) → IsByRule (introduces env text)
introduces-by env text =
    if-by 13 refl (is_among text reserved || (is_among text env.declared || (is_among text (in_scope env) || is_among text env.quantified)))

lists-by : (env : Environment) (known : Bool) (text : Text) → IsByRule (lists env known text)
lists-by env known text = or-by (knows known) (rule_if 12 (is_among text env.listed)) (knows-by known) (if-by 12 refl (is_among text env.listed))

-- so many may be declared
counted-by : (o : Option ℕ) (full : Bool) → IsByRule o → IsByRule (o or_rule rule_if 33 full)
counted-by o full h = or-by o (rule_if 33 full) h (if-by 33 refl full)

name-by : (env : Environment) (n : NameRole) (text : Text) → IsByRule (name_rule env n text)
name-by env name.NewNode text = counted-by (declares env text) (has 16 env.nodes) (declares-by env text)
name-by env name.NewSort text = declares-by env text
name-by env name.NewEnumerator text = counted-by (declares env text) (has 256 env.listed) (declares-by env text)
name-by env name.NewProtocol text = declares-by env text
name-by env name.NewField text = within-by env.own.fields text
name-by env name.NewTag text = within-by env.own.tags text
name-by env name.NewLabel text = declares-by env text
name-by env name.NewHook text = declares-by env text
name-by env name.NewWorld text = declares-by env text
name-by env name.NewInvariant text = declares-by env text
name-by env name.NewProcedure text = declares-by env text
name-by env name.NewArgument text = introduces-by env text
name-by env name.NewHookArgument text = introduces-by env text
name-by env name.NewParameter text = introduces-by env text
name-by env name.NewLocal text = counted-by (introduces env text) (has 16 env.locals) (introduces-by env text)
name-by env name.Sort text = knows-by (is_some (sort_named env text))
name-by env name.Protocol text = knows-by (is_some (look_up text env.protocols))
name-by env name.Label text = knows-by (is_some (look_up text env.labels))
name-by env name.Core text = knows-by (is_some (look_up text env.labels))
name-by env name.Client text = knows-by (is_some (look_up text env.labels))
name-by env name.HookTag text = knows-by (is_some (tag_of env env.label text))
name-by env name.ListedLabel text = lists-by env (is_some (look_up text env.labels)) text
name-by env name.ListedHook text = lists-by env (is_some (look_up text env.hooks)) text
name-by env name.World text = knows-by (is_some (look_up text env.worlds))
name-by env name.UpdatedField text = lists-by env (is_some (look_up text env.own.fields)) text
name-by env name.SentTag text = knows-by (is_some (tag_of env env.label text))
name-by env name.ReceivedTag text = knows-by (is_received (tag_of env env.label text))
name-by env name.Target text = lists-by env (is_among text env.locals) text
name-by env name.ReadField text = knows-by (is_some (row_of env env.label text))
name-by env name.Callee text = knows-by (is_some (look_up text env.procedures))
name-by env name.Procedure text = knows-by (is_some (look_up text env.procedures))
name-by env name.DeployedNode text = lists-by env (is_among text env.nodes) text
name-by env name.NewStepName text = introduces-by env text
name-by env name.NewOpened text = introduces-by env text
name-by env name.NewHypothesis text = supposes-by env text
name-by env name.NewLastHypothesis text = supposes-by env text
name-by env name.Invariant text = knows-by (is_some (look_up text env.invariants))
name-by env name.Node text = knows-by (is_among text env.nodes)
name-by env name.Claimed text = knows-by (is_some (look_up text env.protocols) || is_some (look_up text env.invariants))
name-by env name.ProtocolTag text = knows-by (is_some (look_up text env.own.tags))
name-by env name.StepTag text = knows-by (is_some (tag_of env env.label text))
name-by env name.Hypothesis text = knows-by (is_among text env.hypotheses)
name-by env name.Rewritten text = knows-by (bytes_eq text (codes "goal") || is_among text env.hypotheses)

-- ---- numbers and constants

number-by : (env : Environment) (n : NumberRole) (part : Tree) → IsByRule (number_rule env n part)
number-by env number.Version part = tt
number-by env number.Integer part = tt
number-by env number.Half part = tt
number-by env number.Point (Num v p) = knows-by (has_number env.obligation (procedure_named env env.procedure).points v)
number-by env number.Point (Sym text p) = tt
number-by env number.Point (List' s row p) = tt

word-by : (env : Environment) (o : Option ℤ) → IsByRule (word_rule env o)
word-by env None = refl
word-by env (Some v) = if-by 14 refl (is_outside (wanted_sort env.wanted) v)

constant-by : (env : Environment) (part : Tree) → IsByRule (constant_rule env part)
constant-by env (Num v p) = if-by 14 refl (is_outside (wanted_sort env.wanted) v)
constant-by env (Sym text p) = word-by env (look_up text env.words)
constant-by env (List' s row p) = tt

term-by : (env : Environment) (t : TermRole) (part : Tree) → IsByRule (term_rule env t part)
term-by env term.FirstValue part = if-by 14 refl (is_first_outside env part)
term-by env term.Update part = tt
term-by env term.Expression part = tt
term-by env term.Bounded part = tt
term-by env term.Given part = tt

number-has : (n : NumberRole) (part : Tree) → HasRule (number_fault n part)
number-has n (Num v p) = one-has (fits_number n v) None (Some (10, p)) tt refl
number-has n (Sym text p) = refl
number-has n (List' s row p) = refl

name-has : (part : Tree) → HasRule (name_fault part)
name-has (Num v p) = refl
name-has (Sym text p) = one-has (is_name text) None (Some (10, p)) tt refl
name-has (List' s row p) = refl

constant-has : (part : Tree) → HasRule (constant_fault part)
constant-has (Num v p) = tt
constant-has (Sym text p) = one-has (is_name text) None (Some (10, p)) tt refl
constant-has (List' s row p) = refl

way-has : (part : Tree) → HasRule (way_fault part)
way-has (Num v p) = refl
way-has (Sym text p) = one-has (bytes_eq text (codes "send") || bytes_eq text (codes "receive")) None (Some (10, p)) tt refl
way-has (List' s row p) = refl

-- ---- lists

names-by : (env : Environment) (l : ListRole) (word : Text) (parts : List Tree) → IsByRule (list_rule_of_names env l word parts)
names-by env list.Item word parts = if-by 33 refl (is_full env word)
names-by env list.SortBody word parts = if-by 14 refl (is_no_sort word parts)
names-by env list.ProtocolPart word parts = if-by 33 refl (is_full_protocol env.own word)
names-by env list.Argument word parts = if-by 33 refl (has 8 env.listed)
names-by env list.Parameter word parts = if-by 33 refl (has 8 env.listed)
names-by env list.HookArguments word parts = if-by 15 refl (is_other_count env.arguments (length parts))
names-by env list.Targets word parts = if-by 15 refl (is_other_count env.arguments (length parts))
names-by env list.Update word parts = if-by 15 refl (update_misses_index env parts)
names-by env list.Command word parts = if-by 15 refl (misses_arguments env word parts)
names-by env list.Program word parts = if-by 15 refl (program_misses_constants env parts)
names-by env list.Obligation word parts = if-by 12 refl (is_proved env (obligation_name word parts))
names-by env list.StepNames word parts = if-by 15 refl (not (length env.named == length parts))
names-by env _ word parts = tt

list-by : (stage : Stage) (l : ListRole) (word : Text) (parts : List Tree) → IsByRule (list_rule stage l word parts)
list-by (OfForms stood) list.File word parts = if-by 10 refl (lacks_deployment parts)
list-by (OfForms stood) list.Item word parts = if-by 10 refl (stood && bytes_eq word (codes "deploy"))
list-by (OfForms stood) list.ProtocolPart word parts = if-by 10 refl (stood && bytes_eq word (codes "coherence"))
list-by (OfForms stood) _ word parts = tt
list-by (OfNames env) l word parts = names-by env l word parts

-- what is shown of each tree
abbrev IsRuled : Tree → Type 0
IsRuled t = (stage : Stage) (l : ListRole) → HasRule (list_fault t stage l)

part-has : (part : Tree) → IsRuled part → (stage : Stage) (q : Role) → HasRule (part_fault stage q part)
part-has part each (OfForms stood) (Number n) = number-has n part
part-has part each (OfForms stood) (Name n) = name-has part
part-has part each (OfForms stood) Constant = constant-has part
part-has part each (OfForms stood) Way = way-has part
part-has part each (OfForms stood) (Formula f) = form-ruled part inner.OfForms position.Formula
part-has part each (OfForms stood) (Term t) = form-ruled part inner.OfForms position.Term
part-has part each (OfForms stood) (role.List l) = each (OfForms stood) l
part-has part each (OfNames env) (Number n) =
    first-has (number_fault n part) (at (number_rule env n part) (place_of part)) (number-has n part) (at-has (number_rule env n part) (place_of part) (number-by env n part))
part-has part each (OfNames env) (Name n) =
    first-has (name_fault part) (at (name_rule env n (text_of part)) (place_of part)) (name-has part) (at-has (name_rule env n (text_of part)) (place_of part) (name-by env n (text_of part)))
part-has part each (OfNames env) Constant =
    first-has (constant_fault part) (at (constant_rule env part) (place_of part)) (constant-has part) (at-has (constant_rule env part) (place_of part) (constant-by env part))
part-has part each (OfNames env) Way = way-has part
part-has part each (OfNames env) (Formula f) = form-ruled part (formula_stage env f) position.Formula
part-has part each (OfNames env) (Term t) =
    first-has (fault part (term_stage env t part) position.Term) (at (term_rule env t part) (place_of part)) (form-ruled part (term_stage env t part) position.Term)
    (at-has (term_rule env t part) (place_of part) (term-by env t part))
part-has part each (OfNames env) (role.List l) = each (OfNames env) l

parts-have : (parts : List Tree) → Each IsRuled parts → (stage : Stage) (qs : List Role) (rest : Option Role) → HasRule (parts_fault stage qs rest parts)
parts-have [] each stage [] None = tt
parts-have [] each stage [] (Some q) = tt
parts-have [] each stage (q ∷ qs) rest = tt
parts-have (t ∷ parts) each stage [] None = tt
parts-have (t ∷ parts) each stage [] (Some q) =
    first-has (part_fault stage q t) (parts_fault (behind stage q t) [] (Some q) parts) (part-has t each.0 stage q) (parts-have parts each.1 (behind stage q t) [] (Some q))
parts-have (t ∷ parts) each stage (q ∷ qs) rest =
    first-has (part_fault stage q t) (parts_fault (behind stage q t) qs rest parts) (part-has t each.0 stage q) (parts-have parts each.1 (behind stage q t) qs rest)

form-has : (stage : Stage) (l : ListRole) (p : Place) (word : Text) (parts : List Tree) → Each IsRuled parts → (form : Option Form) → HasRule (laid_fault stage l p (with_parts word parts form))
form-has stage l p word parts each None = refl
form-has stage l p word parts each (Some form) =
    first-has (at (list_rule stage l word parts) p) (parts_fault (inside stage l word) form.fixed form.rest parts)
    (at-has (list_rule stage l word parts) p (list-by stage l word parts)) (parts-have parts each (inside stage l word) form.fixed form.rest)

laid-has : (stage : Stage) (l : ListRole) (p : Place) (parts : List Tree) → Each IsRuled parts → (form : Option Form) → HasRule (laid_fault stage l p (laid_as text_of l parts form))
laid-has stage l p parts each (Some form) = form-has stage l p [] parts each (form_with (length parts) form)
laid-has stage l p [] each None = refl
laid-has stage l p (head ∷ parts) each None = form-has stage l p (text_of head) parts each.1 (form_named (text_of head) (length parts) (headed l))

list-has : (parts : List Tree) (p : Place) → Each IsRuled parts → IsRuled (tree.List parts p)
list-has parts p each stage l = subst HasRule (sym (list_fault-List parts p stage l)) (laid-has stage l p parts each (headless l))

mutual
  tree-ruled : (t : Tree) (stage : Stage) (l : ListRole) → HasRule (list_fault t stage l)
  tree-ruled (Num v p) = λ stage l. subst HasRule (sym (list_fault-Num v p stage l)) refl
  tree-ruled (Sym text p) = λ stage l. subst HasRule (sym (list_fault-Sym text p stage l)) refl
  tree-ruled (List' shape row p) = subst IsRuled (sym (whole-list shape row p)) (list-has (items _ row) p (row-ruled _ row))

  row-ruled : (n : Count) (row : Row_of-Tree n) → Each IsRuled (items n row)
  row-ruled n end_of-Tree = tt
  row-ruled n (more_of-Tree t rest) = (tree-ruled t, row-ruled _ rest)

-- The first fault of a file's tree is by a rule.
pub tree-has : (t : Tree) → HasRule (file_fault t)
tree-has t = first-has (list_fault t (OfForms false) list.File) (list_fault t (OfNames nothing) list.File) (tree-ruled t (OfForms false) list.File) (tree-ruled t (OfNames nothing) list.File)
