-- A formula or a term without fault is plain.
use Rattle.std.proofs.Common.{◌≡◌, ℕ, Bool, true, false, ◌==◌, List, [], ◌∷◌, length, Option, Some, None, refl, ap, sym, subst, ◌∙◌, eqb-true, arith, ◌⊎◌, inl, inr}
use Rattle.std.specs.Prelude.{◌&&◌, codes}
use Rattle.std.specs.List.{AllByRecursion as Each}
use Rattle.std.specs.Str.{bytes_eq}
use Rattle.std.proofs.lemmas.Slice.Eq.{bytes_eq-Decides}
use mathlib.Core.Former.{Count}
use Rattle.dl_tree.specs.declared.tree.Place.{Place}
use Rattle.dl_tree.specs.declared.tree.Tree.{Tree, Num, Sym, List', Row_of-Tree, end_of-Tree, more_of-Tree, items-the_row-Tree as items}
use Rattle.dl_tree.specs.declared.tree.Tree.TheVariants as tree
use Rattle.dl_forms.specs.declared.head.Head.{Head}
use Rattle.dl_forms.specs.declared.head.Head.TheVariants as head
use Rattle.dl_forms.specs.declared.position.Position.{Position}
use Rattle.dl_forms.specs.declared.position.Position.TheVariants.{Term, Formula, Label, Field, Tag, Message, NewVariable, NewMessage, Argument}
use Rattle.dl_forms.specs.Context.{Text, look_up}
use Rattle.dl_forms.specs.Form.{head_of, head_named}
use Rattle.dl_forms.specs.Notation.{forms, form_with}
use Rattle.dl_forms.specs.Parts.{parts_fault, form_fault}
use Rattle.dl_forms.specs.Judge.{Fault, ◌or_else◌, at, Stage, OfForms, OfNames, fits_symbol, symbol_rule, list_rule, behind, text_of, fault}
use Rattle.dl_forms.proofs.FaultLemmas.{fault-Sym, fault_of_empty, fault-List}
use Rattle.dl_one_file.specs.Plain.{has_text, is_length_of_int}
use Rattle.dl_one_file.proofs.Trees.{apart, plain-Num, plain-Sym, IsFine, IsKnown, IsPlain, atom-known}
use Rattle.dl_one_file.proofs.Flatten.{list-of, has-none, whole-list}
use Rattle.dl_notation.proofs.TreeLemmas.{parts_of-List}

split : (b : Bool) → (b ≡ true) ⊎ (b ≡ false)
split true = inl refl
split false = inr refl

-- ---- faults

pub no-faults : (a b : Option Fault) → (a or_else b) ≡ None → (a ≡ None) × (b ≡ None)
no-faults None b h = (refl, h)
no-faults (Some f) b h = cc

pub is-fault : (f : Fault) → Some f ≡ None → ⊥
is-fault f e = cc

-- no label is named `int`
abbrev pub CleanStage : Stage → Type 0
CleanStage OfForms = ⊥
CleanStage (OfNames c) = look_up (codes "int") c.labels ≡ None

behind-clean : (stage : Stage) (q : Position) (part : Tree) → CleanStage stage → CleanStage (behind stage q part)
behind-clean OfForms q part h = absurd h
behind-clean (OfNames c) Term part h = h
behind-clean (OfNames c) Formula part h = h
behind-clean (OfNames c) Label part h = h
behind-clean (OfNames c) Field part h = h
behind-clean (OfNames c) Tag part h = h
behind-clean (OfNames c) Message part h = h
behind-clean (OfNames c) NewVariable part h = h
behind-clean (OfNames c) NewMessage part h = h
behind-clean (OfNames c) Argument part h = h

-- ---- symbols

fits-text : (q : Position) (name : Text) → fits_symbol q name ≡ true → has_text name ≡ true
fits-text q (b ∷ bs) h = refl
fits-text Term [] h = h
fits-text Formula [] h = h
fits-text Label [] h = h
fits-text Field [] h = h
fits-text Tag [] h = h
fits-text Message [] h = h
fits-text NewVariable [] h = h
fits-text NewMessage [] h = h
fits-text Argument [] h = h

symbol-fits : (stage : Stage) (q : Position) (name : Text) (p : Place) → at (symbol_rule stage q name) p ≡ None → fits_symbol q name ≡ true
symbol-fits stage q name p h =
    elim (split (fits_symbol q name))
    [ inl e ↦ e | inr e ↦ (let k = rw e at h in absurd (is-fault (10, p) k)) ]

-- no label has the word for an unknown one
label-int : (label : Tree) (stage : Stage) → CleanStage stage → fault label stage Label ≡ None → text_of label ≡ codes "int" → ⊥
label-int (Num v p) stage clean h e = apart (ap has_text e)
label-int (List' shape row p) stage clean h e = apart (ap has_text e)
label-int (Sym name p) OfForms clean h e = clean
label-int (Sym name p) (OfNames c) clean h e =
    let rule : at (symbol_rule (OfNames c) Label name) p ≡ None = sym (fault-Sym name p (OfNames c) Label) ∙ h in
    let int : at (symbol_rule (OfNames c) Label (codes "int")) p ≡ None = subst (λ (n : Text). at (symbol_rule (OfNames c) Label n) p ≡ None) e rule in
    is-fault (11, p) (rw clean at int)

-- ---- lists

form-length : (n : ℕ) (others : List (List Position)) (form : List Position) → form_with n others ≡ Some form → length form ≡ n
form-length n [] form h = cc
form-length n (first ∷ others) form h =
    elim (split (length first == n)) [
      | inl e ↦ (let is : first ≡ form = (let k = rw e at h in cc) in ap length (sym is) ∙ eqb-true (length first) n e)
      | inr e ↦ form-length n others form (rw e at h)
    ]

-- no form begins with another word
no-form : (q : Position) → forms q head.Other ≡ []
no-form Term = refl
no-form Formula = refl
no-form Label = refl
no-form Field = refl
no-form Tag = refl
no-form Message = refl
no-form NewVariable = refl
no-form NewMessage = refl
no-form Argument = refl

head-word : (name : Text) → (head_named name ≡ head.Other → ⊥) → has_text name ≡ true
unfolding head_named
head-word [] other = absurd (other refl)
head-word (b ∷ bs) other = refl

head-fine : (first : Tree) → (head_of first ≡ head.Other → ⊥) → IsFine first
head-fine (Num v p) other = absurd (other refl)
head-fine (Sym name p) other = plain-Sym name p ∙ head-word name other
head-fine (List' shape row p) other = absurd (other refl)

len-head : head_named (codes "len") ≡ head.Len
unfolding head_named
len-head = refl

head-len : (first : Tree) → text_of first ≡ codes "len" → head_of first ≡ head.Len
head-len (Num v p) e = absurd (apart (ap has_text e))
head-len (Sym name p) e = ap head_named e ∙ len-head
head-len (List' shape row p) e = absurd (apart (ap has_text e))

-- what stands behind the word `len` is a label
label-of : (q : Position) (label : Tree) (stage : Stage) (form : List Position) → form_with 1 (forms q head.Len) ≡ Some form → parts_fault stage form (label ∷ []) ≡ None → fault label stage Label ≡ None
label-of Term label stage form is h =
    let same : Label ∷ [] ≡ form = cc in
    (no-faults (fault label stage Label) None (ap (λ f. parts_fault stage f (label ∷ [])) same ∙ h)).0
label-of Formula label stage form is h = cc
label-of Label label stage form is h = cc
label-of Field label stage form is h = cc
label-of Tag label stage form is h = cc
label-of Message label stage form is h = cc
label-of NewVariable label stage form is h = cc
label-of NewMessage label stage form is h = cc
label-of Argument label stage form is h = cc

known-list : (first : Tree) (parts : List Tree) (stage : Stage) (q : Position) (form : List Position) → form_with (length parts) (forms q (head_of first)) ≡ Some form → CleanStage stage → parts_fault stage form parts ≡ None →
    is_length_of_int (first ∷ parts) ≡ false
known-list first [] stage q form is clean h = refl
known-list first (label ∷ []) stage q form is clean h =
    elim (split (bytes_eq (text_of first) (codes "len"))) [
      | inr e ↦ ap (λ b. b && bytes_eq (text_of label) (codes "int")) e
      | inl e ↦ (let word : head_of first ≡ head.Len = head-len first ((bytes_eq-Decides (text_of first) (codes "len")).0 e) in
          let fine : fault label stage Label ≡ None = label-of q label stage form (ap (λ (g : Head). form_with 1 (forms q g)) (sym word) ∙ is) h in
          elim (split (bytes_eq (text_of label) (codes "int"))) [
            | inl i ↦ absurd (label-int label stage clean fine ((bytes_eq-Decides (text_of label) (codes "int")).0 i))
            | inr i ↦ ap (λ b. b && bytes_eq (text_of label) (codes "int")) e ∙ i
          ])
    ]
known-list first (label ∷ other ∷ parts) stage q form is clean h = refl

known-each : (trees : List Tree) → Each IsPlain trees → Each IsKnown trees
known-each [] h = tt
known-each (tree ∷ trees) h = (h.0.1, known-each trees h.1)

fine-each : (trees : List Tree) → Each IsPlain trees → Each IsFine trees
fine-each [] h = tt
fine-each (tree ∷ trees) h = (h.0.0, fine-each trees h.1)

other-head : (q : Position) (n : ℕ) (h : Head) (form : List Position) → form_with n (forms q h) ≡ Some form → h ≡ head.Other → ⊥
other-head q n h form is e = let none : None ≡ Some form = sym (ap (form_with n) (ap (forms q) e ∙ no-form q)) ∙ is in cc

-- a form by its parts
form-plain : (first : Tree) (parts : List Tree) (p : Place) (stage : Stage) (q : Position) (form : List Position) → form_with (length parts) (forms q (head_of first)) ≡ Some form → CleanStage stage → parts_fault stage form parts ≡ None →
    Each IsPlain parts → IsPlain (tree.List (first ∷ parts) p)
form-plain first parts p stage q form is clean h plain = (
  list-of (first ∷ parts) p (has-none first parts (known-each parts plain)) (head-fine first (other-head q (length parts) (head_of first) form is), fine-each parts plain),
  ap is_length_of_int (parts_of-List (first ∷ parts) p) ∙ known-list first parts stage q form is clean h,
)

-- what is shown of each tree
abbrev IsPlainThere : Tree → Type 0
IsPlainThere t = (stage : Stage) (q : Position) → CleanStage stage → fault t stage q ≡ None → IsPlain t

parts-there : (parts : List Tree) → Each IsPlainThere parts → (stage : Stage) (qs : List Position) → length qs ≡ length parts → CleanStage stage → parts_fault stage qs parts ≡ None → Each IsPlain parts
parts-there [] each stage qs size clean h = tt
parts-there (t ∷ parts) each stage [] size clean h = absurd (omega (arith, size))
parts-there (t ∷ parts) each stage (q ∷ qs) size clean h =
    let both = no-faults (fault t stage q) (parts_fault (behind stage q t) qs parts) h in
    (each.0 stage q clean both.0, parts-there parts each.1 (behind stage q t) qs (omega (arith, size)) (behind-clean stage q t clean) both.1)

laid-there : (first : Tree) (parts : List Tree) (p : Place) → Each IsPlainThere parts → (stage : Stage) (q : Position) (form : Option (List Position)) → form_with (length parts) (forms q (head_of first)) ≡ form → CleanStage stage →
    form_fault stage q p (head_of first) parts form ≡ None → IsPlain (tree.List (first ∷ parts) p)
laid-there first parts p each stage q None is clean h = absurd (is-fault (10, p) h)
laid-there first parts p each stage q (Some form) is clean h =
    let faults : parts_fault stage form parts ≡ None = (no-faults (at (list_rule stage q (head_of first) parts) p) (parts_fault stage form parts) h).1 in
    form-plain first parts p stage q form is clean faults (parts-there parts each stage form (form-length (length parts) (forms q (head_of first)) form is) clean faults)

list-there : (parts : List Tree) (p : Place) → Each IsPlainThere parts → IsPlainThere (tree.List parts p)
list-there [] p each stage q clean h = absurd (is-fault (10, p) (sym (fault_of_empty [] p stage q refl) ∙ h))
list-there (first ∷ parts) p each stage q clean h =
    laid-there first parts p each.1 stage q (form_with (length parts) (forms q (head_of first))) refl clean (sym (fault-List first parts p stage q) ∙ h)

mutual
  pub formula-plain : (t : Tree) → IsPlainThere t
  formula-plain (Num v p) = λ stage q clean h. (plain-Num v p, atom-known (Num v p) refl)
  formula-plain (Sym name p) = λ stage q clean h. (plain-Sym name p ∙ fits-text q name (symbol-fits stage q name p (sym (fault-Sym name p stage q) ∙ h)), atom-known (Sym name p) refl)
  formula-plain (List' shape row p) = subst IsPlainThere (sym (whole-list shape row p)) (list-there (items _ row) p (row-there _ row))

  row-there : (n : Count) (row : Row_of-Tree n) → Each IsPlainThere (items n row)
  row-there n end_of-Tree = tt
  row-there n (more_of-Tree t rest) = (formula-plain t, row-there _ rest)
