-- Quantifiers over messages.
use Rattle.std.proofs.Common.{◌≡◌, ℕ, true, false, List, [], ◌∷◌, Some, None, length, refl, sym, ◌∙◌}
use Rattle.std.specs.Prelude.{codes, is_some}
use Rattle.dl_tree.specs.declared.tree.Place.{Place}
use Rattle.dl_tree.specs.declared.tree.Tree.{Tree}
use Rattle.dl_forms.specs.declared.head.Head.TheVariants as head
use Rattle.dl_term.specs.declared.syntax.Lab.{Lab}
use Rattle.dl_term.specs.declared.syntax.Formula.{Formula}
use Rattle.dl_term.specs.declared.syntax.Formula.TheVariants as formula
use Rattle.dl_term.specs.declared.syntax.Formula.TheBlock as block
use Rattle.dl_forms.specs.declared.position.Position.TheVariants as position
use Rattle.dl_forms.specs.Table.{NameTable as Names}
use Rattle.dl_forms.specs.declared.scope.Scope.{Scope}
use Rattle.dl_model.specs.declared.protocol.Instances.{Instances}
use Rattle.dl_forms.specs.Scope.{Binding, OfMessage}
use Rattle.dl_forms.specs.Notation.{formula_forms, form_with}
use Rattle.dl_forms.specs.Judge.{fault, is_limited}
use Rattle.dl_forms.specs.Show.{form, name, label, tag, tag_at, shown_formula, protocol_of}
use Rattle.dl_forms.specs.Known.{IsKnownThere}
use Rattle.dl_forms.specs.Read.{BindsMessage, ReadsLabel, ReadsTag, ReadsOverMessages, ReadsFormulaForm, names_stage, label_stage, messages_fault, list_formula_fault}
use Rattle.dl_forms.proofs.TermLemmas.{form_fault-plain}

module _ (names : Names) (scope : Scope) (inst : Instances) (bound : List Binding) where
  module _ (p : Place) (m l t f : Tree) where
    pub name_fault : (r : ℕ) (q : Place) → fault m (names_stage names scope inst bound) position.NewMessage ≡ Some (r, q) → messages_fault names scope inst bound p (m ∷ l ∷ t ∷ f ∷ []) ≡ Some (r, q)
    name_fault r q bad = rw bad refl

    module _ (s : ℕ) (binds : BindsMessage names scope inst bound m s) where
      pub message_label_fault : (r : ℕ) (q : Place) → fault l (names_stage names scope inst (OfMessage s ∷ bound)) position.Label ≡ Some (r, q) → messages_fault names scope inst bound p (m ∷ l ∷ t ∷ f ∷ []) ≡ Some (r, q)
      message_label_fault r q bad = rw (binds.sound, binds.text, bad) refl

      module _ (lab : Lab) (reads_label : ReadsLabel names scope inst (OfMessage s ∷ bound) l lab) where
        pub message_tag_fault : (r : ℕ) (q : Place) → fault t (label_stage names scope inst (OfMessage s ∷ bound) (protocol_of names scope inst lab)) position.Tag ≡ Some (r, q) →
            messages_fault names scope inst bound p (m ∷ l ∷ t ∷ f ∷ []) ≡ Some (r, q)
        message_tag_fault r q bad = rw (binds.sound, binds.text, reads_label.sound, reads_label.protocol, bad) refl

        pub message_body_fault : (k : ℕ) (r : ℕ) (q : Place) → ReadsTag names scope inst (OfMessage s ∷ bound) lab t k → fault f (names_stage names scope inst (OfMessage s ∷ bound)) position.Formula ≡ Some (r, q) →
            messages_fault names scope inst bound p (m ∷ l ∷ t ∷ f ∷ []) ≡ Some (r, q)
        message_body_fault k r q reads_tag bad = rw (binds.sound, binds.text, reads_label.sound, reads_label.protocol, reads_tag.sound, bad) refl

  messages_sound : (p : Place) (parts : List Tree) (s : ℕ) (lab : Lab) (t : ℕ) (f : Formula) → ReadsOverMessages names scope inst bound parts s lab t f → messages_fault names scope inst bound p parts ≡ None
  messages_sound p parts s lab t f reads =
      rw (reads.whole, reads.binds.sound, reads.binds.text, reads.reads_label.sound, reads.reads_label.protocol, reads.reads_tag.sound, reads.reads.sound) refl

  shown-Each : (s : ℕ) (lab : Lab) (t : ℕ) (f : Formula) → shown_formula names scope inst (formula.Each s lab t f) ≡
      form (codes "each") (name names scope inst s ∷ label names scope inst lab ∷ tag names scope inst lab t ∷ shown_formula names scope inst f ∷ [])
  unfolding block.hidden-the_row-Formula-0 block.shape-the_row-Formula-0 block.shown-the_row-Formula-0 denote.Hole.Carrier.hidden
  shown-Each s lab t f = refl

  known-Each : (s : ℕ) (lab : Lab) (t : ℕ) (f : Formula) → is_some (tag_at names scope inst lab t) ≡ true → IsKnownThere names scope inst (OfMessage s ∷ bound) f → IsKnownThere names scope inst bound (formula.Each s lab t f)
  unfolding block.hidden-the_row-Formula-0 block.shape-the_row-Formula-0 block.shown-the_row-Formula-0 denote.Hole.Carrier.hidden
  known-Each s lab t f k j = (k, j)

  pub faults_each : (p : Place) (parts : List Tree) → is_limited scope.kind ≡ false → list_formula_fault names scope inst bound p head.Each parts ≡ messages_fault names scope inst bound p parts
  faults_each p parts allowed = form_fault-plain (names_stage names scope inst bound) position.Formula p head.Each parts (form_with (length parts) (formula_forms head.Each)) (rw allowed refl)

  pub faults_any : (p : Place) (parts : List Tree) → is_limited scope.kind ≡ false → list_formula_fault names scope inst bound p head.Any parts ≡ messages_fault names scope inst bound p parts
  faults_any p parts allowed = form_fault-plain (names_stage names scope inst bound) position.Formula p head.Any parts (form_with (length parts) (formula_forms head.Any)) (rw allowed refl)

  pub reads_each : (p : Place) (parts : List Tree) (s : ℕ) (lab : Lab) (t : ℕ) (f : Formula) → is_limited scope.kind ≡ false → ReadsOverMessages names scope inst bound parts s lab t f → ReadsFormulaForm names scope inst bound p head.Each parts (formula.Each s lab t f)
  reads_each p parts s lab t f allowed reads = record {
    sound = faults_each p parts allowed ∙ messages_sound p parts s lab t f reads;
    shown = rw (reads.whole, reads.binds.shown, reads.reads_label.shown, reads.reads_tag.shown, reads.reads.shown) (sym (shown-Each s lab t f));
    known = known-Each s lab t f reads.reads_tag.exists reads.reads.known;
  }

  shown-Any : (s : ℕ) (lab : Lab) (t : ℕ) (f : Formula) → shown_formula names scope inst (formula.Any s lab t f) ≡
      form (codes "any") (name names scope inst s ∷ label names scope inst lab ∷ tag names scope inst lab t ∷ shown_formula names scope inst f ∷ [])
  unfolding block.hidden-the_row-Formula-0 block.shape-the_row-Formula-0 block.shown-the_row-Formula-0 denote.Hole.Carrier.hidden
  shown-Any s lab t f = refl

  known-Any : (s : ℕ) (lab : Lab) (t : ℕ) (f : Formula) → is_some (tag_at names scope inst lab t) ≡ true → IsKnownThere names scope inst (OfMessage s ∷ bound) f → IsKnownThere names scope inst bound (formula.Any s lab t f)
  unfolding block.hidden-the_row-Formula-0 block.shape-the_row-Formula-0 block.shown-the_row-Formula-0 denote.Hole.Carrier.hidden
  known-Any s lab t f k j = (k, j)

  pub reads_any : (p : Place) (parts : List Tree) (s : ℕ) (lab : Lab) (t : ℕ) (f : Formula) → is_limited scope.kind ≡ false → ReadsOverMessages names scope inst bound parts s lab t f → ReadsFormulaForm names scope inst bound p head.Any parts (formula.Any s lab t f)
  reads_any p parts s lab t f allowed reads = record {
    sound = faults_any p parts allowed ∙ messages_sound p parts s lab t f reads;
    shown = rw (reads.whole, reads.binds.shown, reads.reads_label.shown, reads.reads_tag.shown, reads.reads.shown) (sym (shown-Any s lab t f));
    known = known-Any s lab t f reads.reads_tag.exists reads.reads.known;
  }

pub ruleset each = (faults_each, faults_any)

pub ruleset messages = (name_fault, message_label_fault, message_tag_fault, message_body_fault)
