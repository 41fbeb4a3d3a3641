-- The rules that a formula or a term breaks.
use Rattle.std.proofs.Common.{◌≡◌, ℕ, Bool, true, false, if◌then◌else◌, List, [], ◌∷◌, length, Option, Some, None, refl, ap, sym, subst, ◌∙◌}
use Rattle.std.specs.Prelude.{not, ◌||◌, is_some}
use Rattle.std.specs.List.{AllByRecursion as Each}
use mathlib.Core.Former.{Count}
use Rattle.dl_tree.specs.declared.tree.Place.{Place}
use Rattle.dl_tree.specs.declared.tree.Tree.{Tree, Num, Sym, List', Row_of-Tree, end_of-Tree, more_of-Tree, items-the_row-Tree as items, items_shown-the_row-Tree-0}
use Rattle.dl_tree.specs.declared.tree.Tree.TheVariants as tree
use Rattle.dl_tree.specs.declared.tree.Tree.TheBlock.{shown-the_row-Tree-0}
use Rattle.dl_tree.specs.declared.tree.Tree.TheViews.{out-Tree, roll-Tree, roll-out-Tree}
use Rattle.dl_forms.specs.declared.head.Head.{Head}
use Rattle.dl_forms.specs.declared.position.Position.{Position}
use Rattle.dl_forms.specs.declared.position.Position.TheVariants.{Term, Formula, Label, Field, Tag, Message, NewVariable, NewMessage, Argument}
use Rattle.dl_forms.specs.Context.{Text, Context, is_among, look_up}
use Rattle.dl_forms.specs.Form.{head_of}
use Rattle.dl_forms.specs.Notation.{forms, form_with}
use Rattle.dl_forms.specs.Width.{is_wide}
use Rattle.dl_forms.specs.Parts.{parts_fault, form_fault}
use Rattle.dl_forms.specs.Judge.{Fault, ◌or_else◌, at, rule_if, Stage, OfForms, OfNames, fits_number, fits_symbol, protocol_parts, row_in, tags_in, name_rule, symbol_rule, misses_index, breaks_kind, list_rule, behind, fault}
use Rattle.dl_forms.proofs.FaultLemmas.{fault-Num, fault-Sym, fault_of_empty, fault-List}
use Rattle.dl_check.specs.Rules.{is_tree_rule}

-- ---- rules and faults

-- a rule that is broken, if any, is one of the rules
abbrev pub IsByRule : Option ℕ → Type 0
IsByRule None = Unit {0}
IsByRule (Some rule) = is_tree_rule rule ≡ true

-- and so is that of a fault
abbrev pub HasRule : Option Fault → Type 0
HasRule None = Unit {0}
HasRule (Some broken) = is_tree_rule broken.0 ≡ true

pub if-by : (rule : ℕ) → is_tree_rule rule ≡ true → (b : Bool) → IsByRule (rule_if rule b)
if-by rule h true = h
if-by rule h false = tt

pub one-by : (b : Bool) (x y : Option ℕ) → IsByRule x → IsByRule y → IsByRule (if b then x else y)
one-by true x y h k = h
one-by false x y h k = k

pub at-has : (o : Option ℕ) (p : Place) → IsByRule o → HasRule (at o p)
at-has None p h = tt
at-has (Some rule) p h = h

pub one-has : (b : Bool) (x y : Option Fault) → HasRule x → HasRule y → HasRule (if b then x else y)
one-has true x y h k = h
one-has false x y h k = k

pub first-has : (a b : Option Fault) → HasRule a → HasRule b → HasRule (a or_else b)
first-has None b h k = k
first-has (Some broken) b h k = h

-- ---- trees

pub whole-list : (shape : _) (row : _) (p : Place) → List' shape row p ≡ tree.List (items _ row) p
unfolding out-Tree roll-Tree denote.Hole.Carrier.out
whole-list shape row p =
    let parts = shown-the_row-Tree-0 shape row in
    sym (roll-out-Tree (List' shape row p)) ∙ tree.rolls-List parts p ∙ ap (λ x. tree.List x p) (items_shown-the_row-Tree-0 shape row)

name-by : (c : Context) (q : Position) (name : Text) → IsByRule (name_rule c q name)
name-by c Term name = if-by 11 refl (not (is_among name c.variables || is_some (look_up name c.words)))
name-by c Formula name = tt
name-by c Label name = if-by 11 refl (not (is_some (look_up name c.labels)))
name-by c Field name = if-by 11 refl (not (is_some (row_in (protocol_parts c c.label_before) name)))
name-by c Tag name = if-by 11 refl (not (is_among name (tags_in (protocol_parts c c.label_before))))
name-by c Message name = if-by 11 refl (not (is_among name c.messages))
name-by c NewVariable name = if-by 13 refl (is_among name c.taken)
name-by c NewMessage name = if-by 13 refl (is_among name c.taken)
name-by c Argument name = tt

symbol-by : (stage : Stage) (q : Position) (name : Text) → IsByRule (symbol_rule stage q name)
symbol-by OfForms q name = one-by (fits_symbol q name) None (Some 10) tt refl
symbol-by (OfNames c) q name = one-by (fits_symbol q name) (name_rule c q name) (Some 10) (name-by c q name) refl

list-by : (stage : Stage) (q : Position) (h : Head) (parts : List Tree) → IsByRule (list_rule stage q h parts)
list-by OfForms q h parts = tt
list-by (OfNames c) q h parts =
    one-by (breaks_kind c.kind h parts) (Some 14) (if misses_index c h parts then Some 15 else rule_if 16 (is_wide c.words q h parts)) refl
    (one-by (misses_index c h parts) (Some 15) (rule_if 16 (is_wide c.words q h parts)) refl (if-by 16 refl (is_wide c.words q h parts)))

-- what is shown of each tree
abbrev IsRuled : Tree → Type 0
IsRuled t = (stage : Stage) (q : Position) → HasRule (fault t stage q)

parts-have : (parts : List Tree) → Each IsRuled parts → (stage : Stage) (qs : List Position) → HasRule (parts_fault stage qs parts)
parts-have [] each stage [] = tt
parts-have [] each stage (q ∷ qs) = tt
parts-have (t ∷ parts) each stage [] = tt
parts-have (t ∷ parts) each stage (q ∷ qs) =
    first-has (fault t stage q) (parts_fault (behind stage q t) qs parts) (each.0 stage q) (parts-have parts each.1 (behind stage q t) qs)

form-has : (stage : Stage) (q : Position) (p : Place) (h : Head) (parts : List Tree) → Each IsRuled parts → (form : Option (List Position)) → HasRule (form_fault stage q p h parts form)
form-has stage q p h parts each None = refl
form-has stage q p h parts each (Some form) =
    first-has (at (list_rule stage q h parts) p) (parts_fault stage form parts) (at-has (list_rule stage q h parts) p (list-by stage q h parts)) (parts-have parts each stage form)

list-has : (parts : List Tree) (p : Place) → Each IsRuled parts → IsRuled (tree.List parts p)
list-has [] p each stage q = subst HasRule (sym (fault_of_empty [] p stage q refl)) refl
list-has (first ∷ parts) p each stage q =
    subst HasRule (sym (fault-List first parts p stage q)) (form-has stage q p (head_of first) parts each.1 (form_with (length parts) (forms q (head_of first))))

mutual
  -- The first fault of a formula or a term is by a rule.
  pub form-ruled : (t : Tree) (stage : Stage) (q : Position) → HasRule (fault t stage q)
  form-ruled (Num v p) = λ stage q. subst HasRule (sym (fault-Num v p stage q)) (one-has (fits_number q v) None (Some (10, p)) tt refl)
  form-ruled (Sym name p) = λ stage q. subst HasRule (sym (fault-Sym name p stage q)) (at-has (symbol_rule stage q name) p (symbol-by stage q name))
  form-ruled (List' shape row p) = subst IsRuled (sym (whole-list shape row p)) (list-has (items _ row) p (row-ruled _ row))

  row-ruled : (n : Count) (row : Row_of-Tree n) → Each IsRuled (items n row)
  row-ruled n end_of-Tree = tt
  row-ruled n (more_of-Tree t rest) = (form-ruled t, row-ruled _ rest)
