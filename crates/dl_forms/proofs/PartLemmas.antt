-- The length of a soup, and the parts of messages.
use Rattle.std.proofs.Common.{◌≡◌, ℕ, ℤ, pos, true, false, List, [], ◌∷◌, Some, length, refl, ap, sym, ◌∙◌, arith, ◌≤◌, ◌<◌, get_or}
use Rattle.std.specs.Prelude.{codes, nat_le}
use Rattle.dl_tree.specs.declared.tree.Place.{Place}
use Rattle.dl_tree.specs.declared.tree.Tree.{Tree}
use Rattle.dl_tree.specs.declared.tree.Tree.TheVariants as tree
use Rattle.dl_forms.specs.declared.head.Head.TheVariants as head
use Rattle.dl_term.specs.declared.syntax.Lab.{Lab}
use Rattle.dl_term.specs.declared.syntax.Part.{Part}
use Rattle.dl_term.specs.declared.syntax.Part.TheVariants as part
use Rattle.dl_term.specs.declared.syntax.Term.TheVariants as term
use Rattle.dl_term.specs.declared.syntax.Term.TheBlock as block
use Rattle.dl_forms.specs.declared.position.Position.TheVariants as position
use Rattle.dl_forms.specs.Table.{NameTable as Names}
use Rattle.dl_forms.specs.declared.scope.Scope.{Scope}
use Rattle.dl_model.specs.declared.protocol.Instances.{Instances}
use Rattle.dl_forms.specs.Scope.{Binding, messages}
use Rattle.dl_forms.specs.Judge.{fault, Stage, is_limited, is_plain}
use Rattle.dl_forms.specs.Notation.{term_forms, form_with}
use Rattle.dl_forms.specs.Parts.{of_form}
use Rattle.dl_forms.specs.Show.{form, label, name, number, message_part, shown_term}
use Rattle.dl_forms.specs.Known.{IsKnown, IsPart, Has}
use Rattle.dl_forms.specs.Word.{head_of_part}
use Rattle.dl_forms.specs.Read.{ReadsForm, ReadsLabel, ReadsMessage, ReadsArgument, names_stage, list_fault}
use Rattle.dl_forms.proofs.FaultLemmas.{fault-Num, fault-Sym, fault-List, fault_of_empty}
use Rattle.dl_forms.proofs.TermLemmas.{form_fault-plain, bare-Num}

-- a list of one, by its element
pub one : (parts : List Tree) (a : Tree) → 1 ≤ length parts → length parts < 2 → a ≡ get_or parts 0 a → parts ≡ a ∷ []
one [] a low high ea = absurd (omega (arith, low))
one (p ∷ []) a low high ea = cc
one (p ∷ q ∷ parts) a low high ea = absurd (omega (arith, high))

module _ (names : Names) (scope : Scope) (inst : Instances) (bound : List Binding) where
  shown-Len : (lab : Lab) → shown_term names scope inst (term.Len lab) ≡ form (codes "len") (label names scope inst lab ∷ [])
  unfolding block.hidden-the_row-Term-0 block.shape-the_row-Term-0 block.shown-the_row-Term-0 denote.Hole.Carrier.hidden
  shown-Len lab = refl

  pub faults_length : (p : Place) (parts : List Tree) → is_limited scope.kind ≡ false →
      list_fault names scope inst bound p head.Len parts ≡ of_form (names_stage names scope inst bound) p parts (form_with (length parts) (term_forms head.Len))
  faults_length p parts allowed = form_fault-plain (names_stage names scope inst bound) position.Term p head.Len parts (form_with (length parts) (term_forms head.Len)) (rw allowed refl)

  pub reads_length : (p : Place) (l : Tree) (lab : Lab) → is_limited scope.kind ≡ false → ReadsLabel names scope inst bound l lab → ReadsForm names scope inst bound p head.Len (l ∷ []) (term.Len lab)
  unfolding block.hidden-the_row-Term-0 block.shape-the_row-Term-0 block.shown-the_row-Term-0 denote.Hole.Carrier.hidden
  reads_length p l lab allowed reads = record {
    sound = rw (allowed, reads.sound) refl;
    shown = rw reads.shown (sym (shown-Len lab));
    known = reads.exists;
  }

  shown-Msg : (m : ℕ) (k : Part) → shown_term names scope inst (term.Msg m k) ≡ message_part names scope inst k (name names scope inst m)
  unfolding block.hidden-the_row-Term-0 block.shape-the_row-Term-0 block.shown-the_row-Term-0 denote.Hole.Carrier.hidden
  shown-Msg m k = refl

  known-Msg : (m : ℕ) (k : Part) → Has (messages scope bound) m → IsPart k → IsKnown names scope inst bound (term.Msg m k)
  unfolding block.hidden-the_row-Term-0 block.shape-the_row-Term-0 block.shown-the_row-Term-0 denote.Hole.Carrier.hidden
  known-Msg m k has is = (has, is)

  pub faults_part : (p : Place) (k : Part) (parts : List Tree) → is_plain scope.kind ≡ false → term_forms (head_of_part k) ≡ (position.Message ∷ []) ∷ [] →
      list_fault names scope inst bound p (head_of_part k) parts ≡ of_form (names_stage names scope inst bound) p parts (form_with (length parts) ((position.Message ∷ []) ∷ []))
  faults_part p part.Id parts allowed forms_are = form_fault-plain (names_stage names scope inst bound) position.Term p head.Id parts (form_with (length parts) (term_forms head.Id)) (rw allowed refl)
  faults_part p part.From parts allowed forms_are = form_fault-plain (names_stage names scope inst bound) position.Term p head.From parts (form_with (length parts) (term_forms head.From)) (rw allowed refl)
  faults_part p part.To parts allowed forms_are = form_fault-plain (names_stage names scope inst bound) position.Term p head.To parts (form_with (length parts) (term_forms head.To)) (rw allowed refl)
  faults_part p part.Live parts allowed forms_are = form_fault-plain (names_stage names scope inst bound) position.Term p head.Live parts (form_with (length parts) (term_forms head.Live)) (rw allowed refl)
  faults_part p (part.Arg k) parts allowed forms_are = cc

  pub reads_part : (p : Place) (k : Part) (tree : Tree) (m : ℕ) → is_plain scope.kind ≡ false → term_forms (head_of_part k) ≡ (position.Message ∷ []) ∷ [] → ReadsMessage names scope inst bound tree m →
      ReadsForm names scope inst bound p (head_of_part k) (tree ∷ []) (term.Msg m k)
  reads_part p part.Id tree m allowed forms_are reads = record { sound = rw (allowed, reads.sound) refl; shown = rw reads.shown (sym (shown-Msg m part.Id)); known = known-Msg m part.Id reads.known tt }
  reads_part p part.From tree m allowed forms_are reads = record { sound = rw (allowed, reads.sound) refl; shown = rw reads.shown (sym (shown-Msg m part.From)); known = known-Msg m part.From reads.known tt }
  reads_part p part.To tree m allowed forms_are reads = record { sound = rw (allowed, reads.sound) refl; shown = rw reads.shown (sym (shown-Msg m part.To)); known = known-Msg m part.To reads.known tt }
  reads_part p part.Live tree m allowed forms_are reads = record { sound = rw (allowed, reads.sound) refl; shown = rw reads.shown (sym (shown-Msg m part.Live)); known = known-Msg m part.Live reads.known tt }
  reads_part p (part.Arg k) tree m allowed forms_are reads = cc

  pub reads_argument : (v : ℤ) (p : Place) (k : ℕ) → v ≡ pos k → k ≤ 7 → ReadsArgument names scope inst bound (tree.Num v p) k
  reads_argument v p k is small = record {
    sound = fault-Num v p (names_stage names scope inst bound) position.Argument ∙ rw (is, nat_le-true k small) refl;
    shown = bare-Num v p ∙ ap number is;
    small = small;
  }
    where
      nat_le-true : (k : ℕ) → k ≤ 7 → nat_le k 7 ≡ true
      nat_le-true k small = search (arith, small)

  pub faults_argument : (p : Place) (parts : List Tree) → is_plain scope.kind ≡ false →
      list_fault names scope inst bound p head.Arg parts ≡ of_form (names_stage names scope inst bound) p parts (form_with (length parts) (term_forms head.Arg))
  faults_argument p parts allowed = form_fault-plain (names_stage names scope inst bound) position.Term p head.Arg parts (form_with (length parts) (term_forms head.Arg)) (rw allowed refl)

  pub reads_message_argument : (p : Place) (m n : Tree) (s k : ℕ) → is_plain scope.kind ≡ false → ReadsMessage names scope inst bound m s → ReadsArgument names scope inst bound n k →
      ReadsForm names scope inst bound p head.Arg (m ∷ n ∷ []) (term.Msg s (part.Arg k))
  reads_message_argument p m n s k allowed reads_m reads_n = record {
    sound = rw (allowed, reads_m.sound, reads_n.sound) refl;
    shown = rw (reads_m.shown, reads_n.shown) (sym (shown-Msg s (part.Arg k)));
    known = known-Msg s (part.Arg k) reads_m.known reads_n.small;
  }

pub list_as_argument : (items : List Tree) (p : Place) (stage : Stage) → fault (tree.List items p) stage position.Argument ≡ Some (10, p)
list_as_argument [] p stage = fault_of_empty [] p stage position.Argument refl
list_as_argument (first ∷ parts) p stage = fault-List first parts p stage position.Argument

pub ruleset parts = (faults_length, faults_part, faults_argument)

pub ruleset arguments = (list_as_argument, fault-Num, fault-Sym)
