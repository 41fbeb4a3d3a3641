-- Reads of fields.
use Rattle.std.proofs.Common.{◌≡◌, ℕ, true, false, List, [], ◌∷◌, Option, Some, None, refl, ap, sym, subst}
use Rattle.std.specs.Prelude.{codes, unwrap_or, is_some}
use Rattle.std.specs.Option.{option_map}
use Rattle.dl_tree.specs.declared.tree.Place.{Place}
use Rattle.dl_tree.specs.declared.tree.Tree.{Tree}
use Rattle.dl_forms.specs.declared.head.Head.TheVariants as head
use Rattle.dl_term.specs.declared.syntax.Lab.{Lab}
use Rattle.dl_term.specs.declared.syntax.Term.{Term}
use Rattle.dl_term.specs.declared.syntax.Term.TheVariants as term
use Rattle.dl_term.specs.declared.syntax.Term.TheBlock as block
use Rattle.dl_forms.specs.declared.position.Position.TheVariants as position
use Rattle.dl_forms.specs.Table.{NameTable as Names}
use Rattle.dl_forms.specs.declared.scope.Scope.{Scope}
use Rattle.dl_model.specs.declared.protocol.Instances.{Instances}
use Rattle.dl_model.specs.declared.protocol.FieldDecl.{FieldDecl}
use Rattle.dl_forms.specs.Scope.{Binding, context_of}
use Rattle.dl_forms.specs.Judge.{fault, row_at, breaks_at}
use Rattle.dl_forms.specs.Show.{form, label, field, shown_term, protocol_of, field_at}
use Rattle.dl_forms.specs.Known.{IsKnown, IsField}
use Rattle.dl_forms.specs.Read.{ReadsForm, ReadsLabel, ReadsField, ReadsTerm, names_stage, label_stage, list_fault}

never_row : (o : Option FieldDecl) → is_some o ≡ true → unwrap_or (option_map (λ (d : FieldDecl). d.row) o) false ≡ false → option_map (λ (d : FieldDecl). d.row) o ≡ Some false
never_row None some flat = cc
never_row (Some d) some flat = ap Some flat

module _ (names : Names) (scope : Scope) (inst : Instances) (bound : List Binding) (p : Place) (l f n : Tree) (allowed : breaks_at scope.kind n ≡ false) where
  pub needs_index : unwrap_or (row_at (context_of names scope inst bound) l f) false ≡ true → list_fault names scope inst bound p head.Get (l ∷ f ∷ n ∷ []) ≡ Some (15, p)
  needs_index row = rw (allowed, row) refl

  module _ (no_row : unwrap_or (row_at (context_of names scope inst bound) l f) false ≡ false) where
    pub label_fault : (r : ℕ) (q : Place) → fault l (names_stage names scope inst bound) position.Label ≡ Some (r, q) → list_fault names scope inst bound p head.Get (l ∷ f ∷ n ∷ []) ≡ Some (r, q)
    label_fault r q bad = rw (allowed, no_row, bad) refl

    module _ (lab : Lab) (reads_label : ReadsLabel names scope inst bound l lab) where
      pub field_fault : (r : ℕ) (q : Place) → fault f (label_stage names scope inst bound (protocol_of names scope inst lab)) position.Field ≡ Some (r, q) →
          list_fault names scope inst bound p head.Get (l ∷ f ∷ n ∷ []) ≡ Some (r, q)
      field_fault r q bad = rw (allowed, no_row, reads_label.sound, reads_label.protocol, bad) refl

      module _ (at : ℕ) (reads_field : ReadsField names scope inst bound lab f at) where
        pub node_fault : (r : ℕ) (q : Place) → fault n (names_stage names scope inst bound) position.Term ≡ Some (r, q) →
            list_fault names scope inst bound p head.Get (l ∷ f ∷ n ∷ []) ≡ Some (r, q)
        node_fault r q bad = rw (allowed, no_row, reads_label.sound, reads_label.protocol, reads_field.sound, bad) refl

        shown-Field : (t : Term) → shown_term names scope inst (term.Field lab at t) ≡ form (codes "get") (label names scope inst lab ∷ field names scope inst lab at ∷ shown_term names scope inst t ∷ [])
        unfolding block.hidden-the_row-Term-0 block.shape-the_row-Term-0 block.shown-the_row-Term-0 denote.Hole.Carrier.hidden
        shown-Field t = refl

        known-Field : (t : Term) → IsField names scope inst lab at false → IsKnown names scope inst bound t → IsKnown names scope inst bound (term.Field lab at t)
        unfolding block.hidden-the_row-Term-0 block.shape-the_row-Term-0 block.shown-the_row-Term-0 denote.Hole.Carrier.hidden
        known-Field t k j = (k, j)

        is_field : IsField names scope inst lab at false
        is_field = never_row (field_at names scope inst lab at) reads_field.exists (subst (λ o. unwrap_or o false ≡ false) (reads_field.row l reads_label.protocol) no_row)

        pub reads_get : (t : Term) → ReadsTerm names scope inst bound n t → ReadsForm names scope inst bound p head.Get (l ∷ f ∷ n ∷ []) (term.Field lab at t)
        reads_get t reads = record {
          sound = rw (allowed, no_row, reads_label.sound, reads_label.protocol, reads_field.sound, reads.sound) refl;
          shown = rw (reads_label.shown, reads_field.shown, reads.shown) (sym (shown-Field t));
          known = known-Field t is_field reads.known;
        }

pub ruleset gets = (needs_index, label_fault, field_fault, node_fault)
