-- Reads of rows.
use Rattle.std.proofs.Common.{◌≡◌, ℕ, Bool, true, false, List, [], ◌∷◌, Option, Some, None, refl, ap, sym, subst}
use Rattle.std.specs.Prelude.{codes, unwrap_or, is_some, not}
use Rattle.std.specs.Option.{option_map}
use Rattle.dl_tree.specs.declared.tree.Place.{Place}
use Rattle.dl_tree.specs.declared.tree.Tree.{Tree}
use Rattle.dl_forms.specs.declared.head.Head.TheVariants as head
use Rattle.dl_term.specs.declared.syntax.Lab.{Lab}
use Rattle.dl_term.specs.declared.syntax.Term.{Term}
use Rattle.dl_term.specs.declared.syntax.Term.TheVariants as term
use Rattle.dl_term.specs.declared.syntax.Term.TheBlock as block
use Rattle.dl_forms.specs.declared.position.Position.TheVariants as position
use Rattle.dl_forms.specs.Table.{NameTable as Names}
use Rattle.dl_forms.specs.declared.scope.Scope.{Scope}
use Rattle.dl_model.specs.declared.protocol.Instances.{Instances}
use Rattle.dl_model.specs.declared.protocol.FieldDecl.{FieldDecl}
use Rattle.dl_forms.specs.Scope.{Binding, context_of}
use Rattle.dl_forms.specs.Judge.{fault, row_at, breaks_at}
use Rattle.dl_forms.specs.Show.{form, label, field, shown_term, protocol_of, field_at}
use Rattle.dl_forms.specs.Known.{IsKnown, IsField}
use Rattle.dl_forms.specs.Read.{ReadsForm, ReadsLabel, ReadsField, ReadsTerm, names_stage, label_stage, list_fault}

always_row : (o : Option FieldDecl) → is_some o ≡ true → not (unwrap_or (option_map (λ (d : FieldDecl). d.row) o) true) ≡ false → option_map (λ (d : FieldDecl). d.row) o ≡ Some true
always_row None some flat = cc
always_row (Some d) some flat = ap Some (is d.row flat)
  where
    is : (b : Bool) → not b ≡ false → b ≡ true
    is true h = refl
    is false h = cc

module _ (names : Names) (scope : Scope) (inst : Instances) (bound : List Binding) (p : Place) (l f n i : Tree) (allowed : breaks_at scope.kind n ≡ false) where
  pub has_no_index : not (unwrap_or (row_at (context_of names scope inst bound) l f) true) ≡ true → list_fault names scope inst bound p head.Get (l ∷ f ∷ n ∷ i ∷ []) ≡ Some (15, p)
  has_no_index flat = rw (allowed, flat) refl

  module _ (no_flat : not (unwrap_or (row_at (context_of names scope inst bound) l f) true) ≡ false) where
    pub row_label_fault : (r : ℕ) (q : Place) → fault l (names_stage names scope inst bound) position.Label ≡ Some (r, q) → list_fault names scope inst bound p head.Get (l ∷ f ∷ n ∷ i ∷ []) ≡ Some (r, q)
    row_label_fault r q bad = rw (allowed, no_flat, bad) refl

    module _ (lab : Lab) (reads_label : ReadsLabel names scope inst bound l lab) where
      pub row_fault : (r : ℕ) (q : Place) → fault f (label_stage names scope inst bound (protocol_of names scope inst lab)) position.Field ≡ Some (r, q) →
          list_fault names scope inst bound p head.Get (l ∷ f ∷ n ∷ i ∷ []) ≡ Some (r, q)
      row_fault r q bad = rw (allowed, no_flat, reads_label.sound, reads_label.protocol, bad) refl

      module _ (at : ℕ) (reads_field : ReadsField names scope inst bound lab f at) where
        pub row_node_fault : (r : ℕ) (q : Place) → fault n (names_stage names scope inst bound) position.Term ≡ Some (r, q) →
            list_fault names scope inst bound p head.Get (l ∷ f ∷ n ∷ i ∷ []) ≡ Some (r, q)
        row_node_fault r q bad = rw (allowed, no_flat, reads_label.sound, reads_label.protocol, reads_field.sound, bad) refl

        pub row_index_fault : (r : ℕ) (q : Place) → fault n (names_stage names scope inst bound) position.Term ≡ None → fault i (names_stage names scope inst bound) position.Term ≡ Some (r, q) →
            list_fault names scope inst bound p head.Get (l ∷ f ∷ n ∷ i ∷ []) ≡ Some (r, q)
        row_index_fault r q sound bad = rw (allowed, no_flat, reads_label.sound, reads_label.protocol, reads_field.sound, sound, bad) refl

        shown-Row : (t u : Term) → shown_term names scope inst (term.Row lab at t u) ≡
            form (codes "get") (label names scope inst lab ∷ field names scope inst lab at ∷ shown_term names scope inst t ∷ shown_term names scope inst u ∷ [])
        unfolding block.hidden-the_row-Term-0 block.shape-the_row-Term-0 block.shown-the_row-Term-0 denote.Hole.Carrier.hidden
        shown-Row t u = refl

        known-Row : (t u : Term) → IsField names scope inst lab at true → IsKnown names scope inst bound t → IsKnown names scope inst bound u → IsKnown names scope inst bound (term.Row lab at t u)
        unfolding block.hidden-the_row-Term-0 block.shape-the_row-Term-0 block.shown-the_row-Term-0 denote.Hole.Carrier.hidden
        known-Row t u k j i = (k, j, i)

        is_row : IsField names scope inst lab at true
        is_row = always_row (field_at names scope inst lab at) reads_field.exists (subst (λ o. not (unwrap_or o true) ≡ false) (reads_field.row l reads_label.protocol) no_flat)

        pub reads_row : (t u : Term) → ReadsTerm names scope inst bound n t → ReadsTerm names scope inst bound i u → ReadsForm names scope inst bound p head.Get (l ∷ f ∷ n ∷ i ∷ []) (term.Row lab at t u)
        reads_row t u reads_n reads_i = record {
          sound = rw (allowed, no_flat, reads_label.sound, reads_label.protocol, reads_field.sound, reads_n.sound, reads_i.sound) refl;
          shown = rw (reads_label.shown, reads_field.shown, reads_n.shown, reads_i.shown) (sym (shown-Row t u));
          known = known-Row t u is_row reads_n.known reads_i.known;
        }

pub ruleset rows = (has_no_index, row_label_fault, row_fault, row_node_fault, row_index_fault)
