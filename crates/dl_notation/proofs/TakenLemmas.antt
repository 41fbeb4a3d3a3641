-- Of the names that may not be bound only it matters which they are, not in which order they are listed.
use Rattle.std.proofs.Common.{◌≡◌, List, [], ◌∷◌, Option, Some, None, length, refl, ap, sym, ◌∙◌, ◌||◌, if◌then◌else◌}
use Rattle.std.specs.Str.{bytes_eq}
use Rattle.dl_tree.specs.declared.tree.Place.{Place}
use Rattle.dl_tree.specs.declared.tree.Tree.{Tree, Num, Sym, List', Row_of-Tree, end_of-Tree, more_of-Tree, items-the_row-Tree}
use Rattle.dl_tree.specs.declared.tree.Tree.TheVariants as tree
use Rattle.dl_tree.proofs.OnceLemmas.{whole_list}
use Rattle.dl_forms.specs.declared.position.Position.{Position}
use Rattle.dl_forms.specs.declared.position.Position.TheVariants.{Term, Formula, Label, Field, Tag, Message, NewVariable, NewMessage, Argument}
use Rattle.dl_forms.specs.Context.{Text, Context, is_among}
use Rattle.dl_forms.specs.Form.{head_of}
use Rattle.dl_forms.specs.Judge.{OfNames, ◌or_else◌, at, fault, name_rule, rule_if, symbol_rule, fits_symbol, behind, text_of, protocol_named, list_rule}
use Rattle.dl_forms.specs.Notation.{forms, form_with}
use Rattle.dl_forms.specs.Parts.{parts_fault, form_fault}
use Rattle.dl_forms.proofs.FaultLemmas.{fault-Num, fault-Sym, fault_of_empty, fault-List}

abbrev pub SameNames : List Text → List Text → Type 0
SameNames xs ys = (name : Text) → is_among name xs ≡ is_among name ys

abbrev pub taking : Context → List Text → Context
taking c taken = record c { taken = taken }

same_rules : (c : Context) (taken : List Text) → SameNames c.taken taken → (q : Position) (name : Text) → name_rule c q name ≡ name_rule (taking c taken) q name
same_rules c taken same NewVariable name = ap (rule_if 13) (same name)
same_rules c taken same NewMessage name = ap (rule_if 13) (same name)
same_rules c taken same Term name = refl
same_rules c taken same Formula name = refl
same_rules c taken same Label name = refl
same_rules c taken same Field name = refl
same_rules c taken same Tag name = refl
same_rules c taken same Message name = refl
same_rules c taken same Argument name = refl

-- ---- behind a part

abbrev next : Context → Position → Tree → Context
next c Label part = record c { label_before = protocol_named c part }
next c Field part = record c { label_before = None }
next c Tag part = record c { label_before = None }
next c NewVariable part = record c { variables = text_of part ∷ c.variables; taken = text_of part ∷ c.taken }
next c NewMessage part = record c { messages = text_of part ∷ c.messages; taken = text_of part ∷ c.taken }
next c _ part = c

abbrev next_taken : List Text → Position → Tree → List Text
next_taken taken NewVariable part = text_of part ∷ taken
next_taken taken NewMessage part = text_of part ∷ taken
next_taken taken _ part = taken

behind-next : (c : Context) (q : Position) (part : Tree) → behind (OfNames c) q part ≡ OfNames (next c q part)
behind-next c Label part = refl
behind-next c Field part = refl
behind-next c Tag part = refl
behind-next c NewVariable part = refl
behind-next c NewMessage part = refl
behind-next c Term part = refl
behind-next c Formula part = refl
behind-next c Message part = refl
behind-next c Argument part = refl

behind-taking : (c : Context) (taken : List Text) (q : Position) (part : Tree) → behind (OfNames (taking c taken)) q part ≡ OfNames (taking (next c q part) (next_taken taken q part))
behind-taking c taken Label part = refl
behind-taking c taken Field part = refl
behind-taking c taken Tag part = refl
behind-taking c taken NewVariable part = refl
behind-taking c taken NewMessage part = refl
behind-taking c taken Term part = refl
behind-taking c taken Formula part = refl
behind-taking c taken Message part = refl
behind-taking c taken Argument part = refl

one_more : (x : Text) (xs ys : List Text) → SameNames xs ys → SameNames (x ∷ xs) (x ∷ ys)
one_more x xs ys same name = ap (λ b. bytes_eq name x || b) (same name)

next-same : (c : Context) (taken : List Text) → SameNames c.taken taken → (q : Position) (part : Tree) → SameNames (next c q part).taken (next_taken taken q part)
next-same c taken same NewVariable part = one_more (text_of part) c.taken taken same
next-same c taken same NewMessage part = one_more (text_of part) c.taken taken same
next-same c taken same Label part = same
next-same c taken same Field part = same
next-same c taken same Tag part = same
next-same c taken same Term part = same
next-same c taken same Formula part = same
next-same c taken same Message part = same
next-same c taken same Argument part = same

-- ---- trees

same_symbol : (c : Context) (taken : List Text) → SameNames c.taken taken → (q : Position) (name : Text) (p : Place) →
    at (symbol_rule (OfNames c) q name) p ≡ at (symbol_rule (OfNames (taking c taken)) q name) p
same_symbol c taken same q name p = ap (λ rule. at (if fits_symbol q name then rule else Some 10) p) (same_rules c taken same q name)

same_list_rule : (c : Context) (taken : List Text) (q : Position) (first : Tree) (parts : List Tree) →
    list_rule (OfNames c) q (head_of first) parts ≡ list_rule (OfNames (taking c taken)) q (head_of first) parts
same_list_rule c taken q first parts = refl

abbrev SamePartFaults : Context → List Text → List Tree → Type 0
SamePartFaults c taken parts = (qs : List Position) → parts_fault (OfNames c) qs parts ≡ parts_fault (OfNames (taking c taken)) qs parts

same_form : (c : Context) (taken : List Text) (q : Position) (p : Place) (first : Tree) (parts : List Tree) → SamePartFaults c taken parts → (form : Option (List Position)) →
    form_fault (OfNames c) q p (head_of first) parts form ≡ form_fault (OfNames (taking c taken)) q p (head_of first) parts form
same_form c taken q p first parts same None = refl
same_form c taken q p first parts same (Some form) = ap (λ later. at (list_rule (OfNames c) q (head_of first) parts) p or_else later) (same form)

same_items : (c : Context) (taken : List Text) (q : Position) (p : Place) (first : Tree) (parts : List Tree) → SamePartFaults c taken parts →
    fault (tree.List (first ∷ parts) p) (OfNames c) q ≡ fault (tree.List (first ∷ parts) p) (OfNames (taking c taken)) q
same_items c taken q p first parts same =
    fault-List first parts p (OfNames c) q
    ∙ same_form c taken q p first parts same (form_with (length parts) (forms q (head_of first)))
    ∙ sym (fault-List first parts p (OfNames (taking c taken)) q)

mutual
  pub same_faults : (t : Tree) (c : Context) (taken : List Text) → SameNames c.taken taken → (q : Position) → fault t (OfNames c) q ≡ fault t (OfNames (taking c taken)) q
  same_faults (Num v p) c taken same q = fault-Num v p (OfNames c) q ∙ sym (fault-Num v p (OfNames (taking c taken)) q)
  same_faults (Sym name p) c taken same q =
      fault-Sym name p (OfNames c) q ∙ same_symbol c taken same q name p ∙ sym (fault-Sym name p (OfNames (taking c taken)) q)
  same_faults (List' shape row p) c taken same q =
      ap (λ t. fault t (OfNames c) q) (whole_list (List' shape row p) tt)
      ∙ same_row row c taken same q p
      ∙ sym (ap (λ t. fault t (OfNames (taking c taken)) q) (whole_list (List' shape row p) tt))

  same_row : {m : _} (row : Row_of-Tree m) (c : Context) (taken : List Text) → SameNames c.taken taken → (q : Position) (p : Place) →
      fault (tree.List (items-the_row-Tree _ row) p) (OfNames c) q ≡ fault (tree.List (items-the_row-Tree _ row) p) (OfNames (taking c taken)) q
  same_row end_of-Tree c taken same q p = fault_of_empty [] p (OfNames c) q refl ∙ sym (fault_of_empty [] p (OfNames (taking c taken)) q refl)
  same_row (more_of-Tree first row) c taken same q p = same_items c taken q p first (items-the_row-Tree _ row) (same_parts row c taken same)

  same_parts : {m : _} (row : Row_of-Tree m) (c : Context) (taken : List Text) → SameNames c.taken taken → (qs : List Position) →
      parts_fault (OfNames c) qs (items-the_row-Tree _ row) ≡ parts_fault (OfNames (taking c taken)) qs (items-the_row-Tree _ row)
  same_parts end_of-Tree c taken same [] = refl
  same_parts end_of-Tree c taken same (q ∷ qs) = refl
  same_parts (more_of-Tree part row) c taken same [] = refl
  same_parts (more_of-Tree part row) c taken same (q ∷ qs) =
      ap (λ now. now or_else parts_fault (behind (OfNames c) q part) qs (items-the_row-Tree _ row)) (same_faults part c taken same q)
      ∙ ap (λ stage. fault part (OfNames (taking c taken)) q or_else parts_fault stage qs (items-the_row-Tree _ row)) (behind-next c q part)
      ∙ ap (λ later. fault part (OfNames (taking c taken)) q or_else later) (same_parts row (next c q part) (next_taken taken q part) (next-same c taken same q part) qs)
      ∙ sym (ap (λ stage. fault part (OfNames (taking c taken)) q or_else parts_fault stage qs (items-the_row-Tree _ row)) (behind-taking c taken q part))
