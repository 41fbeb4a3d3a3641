-- The obligations of a whole file: those of protocols and invariants, and then those of procedures and the deployment.
use Rattle.std.specs.Prelude.{ℕ, Bool, false, true, if◌then◌else◌, List, ◌++◌}
use Rattle.dl_model.specs.declared.sequent.Sequent.{Sequent}
use Rattle.dl_model.specs.declared.file.Decls.{Decls}
use Rattle.dl_sequent.specs.declared.duty.Duty.{Duty}
use Rattle.dl_sequent.specs.declared.duty.Duty.TheVariants.{InitProtocol, InitInvariant, StepProtocol, StepInvariant}
use Rattle.dl_inv.specs.Duties.{duties_of as duties_of_states}
use Rattle.dl_inv.specs.Obligations.{sequent_of as sequent_of_state}
use Rattle.dl_inv.specs.Taken.{names_taken as taken_of_state}
use Rattle.dl_triples.specs.Duties.{duties_of as duties_of_programs}
use Rattle.dl_triples.specs.Obligations.{sequent_of as sequent_of_program}
use Rattle.dl_triples.specs.Taken.{names_taken as taken_of_program}

-- the obligations that aren't waived, in their order
abbrev pub duties_of : Decls → List Duty
duties_of decls = duties_of_states decls ++ duties_of_programs decls

-- an obligation of a procedure or of the deployment
abbrev pub is_of_program : Duty → Bool
is_of_program (InitProtocol p) = false
is_of_program (InitInvariant i) = false
is_of_program (StepProtocol p tag receive) = false
is_of_program (StepInvariant i label tag receive) = false
is_of_program _ = true

-- the hypotheses and the goal of an obligation that takes these names
abbrev pub sequent_of : Decls → Duty → List ℕ → Sequent
sequent_of decls duty names = if is_of_program duty then sequent_of_program decls duty names else sequent_of_state decls duty names

-- how many names an obligation takes
abbrev pub names_taken : Decls → Duty → ℕ
names_taken decls duty = if is_of_program duty then taken_of_program decls duty else taken_of_state decls duty
