use Rattle.std.proofs.Common.{refl}
use Rattle.dl_term.specs.Syntax.{opened as formula_opened}
use Rattle.dl_kernel.specs.Opened.{opened}
use Rattle.dl_faults.specs.Examples.{proved}
use Rattle.dl_faults.specs.ProgramExamples.{played}
use Rattle.dl_faults.specs.Opened.{opened as tree_opened}
use Rattle.dl_faults.proofs.Accepted.{invariants-kept, runs-safe}
use Rattle.dl_faults.proofs.Premises.{proved-formed, played-formed}
use Rattle.dl_faults.proofs.laws.premises_can_be_met.Goals as goal

pub returns-clause-formed : goal.returns-clause-formed
returns-clause-formed c = proved-formed

pub returns-clause-safe : goal.returns-clause-safe
unfolding formula_opened opened tree_opened
returns-clause-safe c = runs-safe proved proved-formed refl

pub returns-clause-keeps : goal.returns-clause-keeps
unfolding formula_opened opened tree_opened
returns-clause-keeps c = invariants-kept proved proved-formed refl

pub returns-clause-formed_with_programs : goal.returns-clause-formed_with_programs
returns-clause-formed_with_programs c = played-formed

pub returns-clause-safe_with_programs : goal.returns-clause-safe_with_programs
unfolding formula_opened opened tree_opened
returns-clause-safe_with_programs c = runs-safe played played-formed refl
