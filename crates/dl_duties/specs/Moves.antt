-- What the steps of other nodes are to keep, as the code has it.
use Rattle.std.specs.Prelude.{ℕ, Bool, List}
use Rattle.dl_term.specs.declared.syntax.Lab.TheVariants.{At}
use Rattle.dl_term.specs.declared.syntax.Formula.{Formula}
use Rattle.dl_model.specs.declared.file.Decls.{Decls}
use Rattle.dl_model.specs.Lookup.{protocol_at}
use Rattle.dl_sequent.specs.declared.duty.Duty.{Duty}
use Rattle.dl_sequent.specs.declared.duty.Duty.TheVariants as duty
use Rattle.dl_duties.specs.declared.listed.Kept.{Kept}
use Rattle.dl_duties.specs.declared.listed.Kept.TheVariants.{Note, Frame}
use Rattle.dl_triples.specs.Duties.{steps_of_others}

-- the obligation of a step of a tag at a label
abbrev pub kept_duty : Kept → ℕ → ℕ → Bool → Duty
kept_duty (Note proc point) label tag receive = duty.Stable proc point label tag receive
kept_duty (Frame proc point) label tag receive = duty.Frame proc point label tag receive

-- the steps at a label that touch a formula
abbrev pub steps_at : Decls → (ℕ → ℕ → Bool → Duty) → Formula → ℕ → List Duty
steps_at decls duty f label = steps_of_others (duty label) (At label) f (protocol_at decls.inst label)
