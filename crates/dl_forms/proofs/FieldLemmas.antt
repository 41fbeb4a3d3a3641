-- Fields and rows by their names.
use Rattle.std.proofs.Common.{◌≡◌, ℕ, suc, Bool, true, false, List, [], ◌∷◌, Option, Some, None, map, refl, ap, sym, ◌∙◌, subst, inl, inr, slice_get}
use Rattle.std.specs.Prelude.{option_and_then}
use Rattle.std.specs.Str.{bytes_eq}
use Rattle.std.specs.Option.{option_map}
use Rattle.std.proofs.lemmas.Slice.Eq.{bytes_eq-Decides}
use Rattle.std.proofs.lemmas.Option.{slice_get-map}
use Rattle.dl_tree.specs.declared.tree.Place.{Place}
use Rattle.dl_tree.specs.declared.tree.Tree.{Tree}
use Rattle.dl_tree.specs.declared.tree.Tree.TheVariants as tree
use Rattle.dl_forms.specs.declared.position.Position.TheVariants as position
use Rattle.dl_term.specs.declared.syntax.Lab.{Lab}
use Rattle.dl_forms.specs.Table.{NameTable as Names}
use Rattle.dl_forms.specs.declared.scope.Scope.{Scope}
use Rattle.dl_model.specs.declared.protocol.Instances.{Instances}
use Rattle.dl_model.specs.declared.protocol.Protocol.{Protocol}
use Rattle.dl_model.specs.declared.protocol.FieldDecl.{FieldDecl}
use Rattle.dl_forms.specs.Context.{Text, look_up}
use Rattle.dl_forms.specs.Scope.{Binding, text_at, parts_of, named_field, context_of, field_named}
use Rattle.dl_forms.specs.Judge.{row_at, protocol_named, fault, is_name, row_in, protocol_parts, Stage}
use Rattle.dl_forms.specs.Show.{protocol_of, field}
use Rattle.dl_forms.specs.Read.{ReadsField, label_stage}
use Rattle.dl_forms.proofs.FaultLemmas.{fault-Sym, fault-Num, fault-List, fault_of_empty}
use Rattle.dl_forms.proofs.NameLemmas.{split, bare-Sym}

abbrev further : ℕ × Bool → ℕ × Bool
further p = (suc p.0, p.1)

abbrev place_of : Option (ℕ × Bool) → ℕ
place_of (Some p) = p.0
place_of None = 0

abbrev row_of : Option (ℕ × Bool) → Bool
row_of (Some p) = p.1
row_of None = false

module _ (names : Names) (name : Text) where
  row_named : (fields : List FieldDecl) → look_up name (map (λ (f : FieldDecl). (text_at names f.sym, f.row)) fields) ≡ option_map (λ (p : ℕ × Bool). p.1) (named_field names name fields)
  row_named [] = refl
  row_named (f ∷ fs) =
      elim (split (bytes_eq name (text_at names f.sym)))
      [ inl e ↦ rw e refl | inr e ↦ rw (e, row_named fs) (twice (named_field names name fs)) ]
    where
      twice : (o : Option (ℕ × Bool)) → option_map (λ (p : ℕ × Bool). p.1) o ≡ option_map (λ (p : ℕ × Bool). p.1) (option_map further o)
      twice None = refl
      twice (Some p) = refl

  row_in-parts_of : (p : Option Protocol) → row_in (option_map (parts_of names) p) name ≡ option_map (λ (q : ℕ × Bool). q.1) (option_and_then (λ (r : Protocol). named_field names name r.fields) p)
  row_in-parts_of None = refl
  row_in-parts_of (Some p) = row_named p.fields

  get-parts : (protocols : List Protocol) (k : Option ℕ) → option_and_then (slice_get (map (parts_of names) protocols)) k ≡ option_map (parts_of names) (option_and_then (slice_get protocols) k)
  get-parts protocols None = refl
  get-parts protocols (Some k) = slice_get-map (parts_of names) protocols k

  -- the walk's fields are the code's
  pub row_in-field_named : (scope : Scope) (inst : Instances) (bound : List Binding) (k : Option ℕ) →
      row_in (protocol_parts (context_of names scope inst bound) k) name ≡ option_map (λ (q : ℕ × Bool). q.1) (field_named names inst k name)
  row_in-field_named scope inst bound k = ap (λ o. row_in o name) (get-parts inst.protocols k) ∙ row_in-parts_of (option_and_then (slice_get inst.protocols) k)

  -- a field by its place
  pub record IsFieldAt (fields : List FieldDecl) (f : ℕ) (row : Bool) : Type 0 where
    pub decl : FieldDecl
    pub is : slice_get fields f ≡ Some decl
    pub text : text_at names decl.sym ≡ name
    pub row_is : decl.row ≡ row

  next_field : (o : Option (ℕ × Bool)) (f : ℕ) (row : Bool) → option_map further o ≡ Some (f, row) → (g : ℕ) × (o ≡ Some (g, row)) × (suc g ≡ f)
  next_field None f row h = cc
  next_field (Some p) f row h = let a : suc p.0 ≡ f = ap place_of h in let b : p.1 ≡ row = ap row_of h in (p.0, ap (λ (r : Bool). let q : ℕ × Bool = (p.0, r) in Some q) b, a)

  field_named_at : (fields : List FieldDecl) (f : ℕ) (row : Bool) → named_field names name fields ≡ Some (f, row) → IsFieldAt fields f row
  field_named_at [] f row h = cc
  field_named_at (d ∷ ds) f row h =
      elim (split (bytes_eq name (text_at names d.sym))) [
        | inl e ↦ (let k = rw e at h in let a : 0 ≡ f = ap place_of k in let b : d.row ≡ row = ap row_of k in
            subst (λ g. IsFieldAt (d ∷ ds) g row) a (record { decl = d; is = refl; text = sym ((bytes_eq-Decides name (text_at names d.sym)).0 e); row_is = b }))
        | inr e ↦ (let next = next_field (named_field names name ds) f row (rw e at h) in
            let at = field_named_at ds next.0 row next.1 in
            subst (λ g. IsFieldAt (d ∷ ds) g row) next.2 (record { decl = at.decl; is = at.is; text = at.text; row_is = at.row_is }))
      ]

  -- the same in a protocol, if there is one
  in_protocol : (p : Option Protocol) (f : ℕ) (row : Bool) → option_and_then (λ (r : Protocol). named_field names name r.fields) p ≡ Some (f, row) →
      (d : FieldDecl) × (option_and_then (λ (r : Protocol). slice_get r.fields f) p ≡ Some d) × (text_at names d.sym ≡ name) × (d.row ≡ row)
  in_protocol None f row h = cc
  in_protocol (Some p) f row h = let at = field_named_at p.fields f row h in (at.decl, at.is, at.text, at.row_is)

module _ (names : Names) (scope : Scope) (inst : Instances) (bound : List Binding) (name : Text) (p : Place) (lab : Lab) where
  pub reads_field : (f : ℕ) (row : Bool) → is_name name ≡ true → field_named names inst (protocol_of names scope inst lab) name ≡ Some (f, row) →
      ReadsField names scope inst bound lab (tree.Sym name p) f
  reads_field f row named found =
      let d = in_protocol names name (option_and_then (slice_get inst.protocols) (protocol_of names scope inst lab)) f row found in
      let known = row_in-field_named names name scope inst bound (protocol_of names scope inst lab) ∙ ap (option_map (λ (q : ℕ × Bool). q.1)) found in
      record {
        sound = fault-Sym name p (label_stage names scope inst bound (protocol_of names scope inst lab)) position.Field ∙ rw (named, known) refl;
        shown = bare-Sym name p ∙ rw (d.1, d.2) refl;
        row = λ label is.
            ap (λ k. row_in (protocol_parts (context_of names scope inst bound) k) name) is ∙ known ∙ rw (d.1, d.3) refl;
        exists = rw d.1 refl;
      }

  pub unknown_field : is_name name ≡ true → field_named names inst (protocol_of names scope inst lab) name ≡ None →
      fault (tree.Sym name p) (label_stage names scope inst bound (protocol_of names scope inst lab)) position.Field ≡ Some (11, p)
  unknown_field named none =
      let unknown = row_in-field_named names name scope inst bound (protocol_of names scope inst lab) ∙ ap (option_map (λ (q : ℕ × Bool). q.1)) none in
      fault-Sym name p (label_stage names scope inst bound (protocol_of names scope inst lab)) position.Field ∙ rw (named, unknown) refl

  pub no_field_name : is_name name ≡ false → fault (tree.Sym name p) (label_stage names scope inst bound (protocol_of names scope inst lab)) position.Field ≡ Some (10, p)
  no_field_name other = fault-Sym name p (label_stage names scope inst bound (protocol_of names scope inst lab)) position.Field ∙ rw other refl

pub list_as_field : (items : List Tree) (p : Place) (stage : Stage) → fault (tree.List items p) stage position.Field ≡ Some (10, p)
list_as_field [] p stage = fault_of_empty [] p stage position.Field refl
list_as_field (first ∷ parts) p stage = fault-List first parts p stage position.Field

pub row_at_found : (names : Names) (scope : Scope) (inst : Instances) (bound : List Binding) (label field : Tree) (name : Text) (p : Place) (k : Option ℕ) (o : Option (ℕ × Bool)) →
    field ≡ tree.Sym name p → k ≡ protocol_named (context_of names scope inst bound) label → field_named names inst k name ≡ o →
    option_map (λ (q : ℕ × Bool). q.1) o ≡ row_at (context_of names scope inst bound) label field
row_at_found names scope inst bound label field name p k o is number found =
    sym (ap (row_at (context_of names scope inst bound) label) is
    ∙ row_in-field_named names name scope inst bound (protocol_named (context_of names scope inst bound) label)
    ∙ ap (λ j. option_map (λ (q : ℕ × Bool). q.1) (field_named names inst j name)) (sym number)
    ∙ ap (option_map (λ (q : ℕ × Bool). q.1)) found)

pub ruleset fields = (unknown_field, no_field_name, list_as_field, fault-Num)

pub ruleset rows = (row_in-field_named)
