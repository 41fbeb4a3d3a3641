-- What a step of the code touches, and what the duties of a tag are about.
use Rattle.std.specs.Prelude.{ℕ, Bool}
use Rattle.dl_term.specs.declared.syntax.Lab.{Lab}
use Rattle.dl_term.specs.declared.syntax.Lab.TheVariants.{Own, At}
use Rattle.dl_term.specs.Same.{same_label}
use Rattle.dl_sequent.specs.declared.duty.Duty.{Duty}
use Rattle.dl_sequent.specs.declared.duty.Duty.TheVariants.{StepProtocol, StepInvariant}
use Rattle.dl_inv.specs.declared.touched.Move.{Move}
use Rattle.dl_inv.specs.declared.touched.Live.{Live, Nothing, Bound'}
use Rattle.dl_inv.specs.declared.listed.Subject.{Subject}
use Rattle.dl_inv.specs.declared.listed.Subject.TheVariants.{Coherence, Held}
use Rattle.dl_inv.specs.Touched.{Touch, fields_of, none_live, bound_live}

abbrev pub touch_of : Move → Touch
touch_of move = record {
  here = λ l. same_label l move.label;
  tag = move.tag;
  fields = fields_of move.updates.now;
  grows = move.grows;
  spares_me = move.spares_me;
}

-- the messages that the step may take
abbrev pub live_of : Live → ℕ → Bool
live_of Nothing = none_live
live_of (Bound' p outer msg taken) = bound_live (live_of outer) msg taken

-- the step obligation of a coherence, or of an invariant at a label
abbrev pub step_duty : Subject → ℕ → Bool → Duty
step_duty (Coherence protocol) tag receive = StepProtocol protocol tag receive
step_duty (Held invariant label) tag receive = StepInvariant invariant label tag receive

-- the label of the steps
abbrev pub subject_label : Subject → Lab
subject_label (Coherence protocol) = Own
subject_label (Held invariant label) = At label
