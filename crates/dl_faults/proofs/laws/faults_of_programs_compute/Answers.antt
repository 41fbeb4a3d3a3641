use Rattle.std.proofs.Common.{refl}
use Rattle.dl_term.specs.Syntax.{opened as formula_opened}
use Rattle.dl_kernel.specs.Opened.{opened}
use Rattle.dl_faults.specs.Opened.{opened as tree_opened}
use Rattle.dl_faults.proofs.laws.faults_of_programs_compute.Goals as goal

pub returns-clause-played : goal.returns-clause-played
unfolding formula_opened opened tree_opened
returns-clause-played c = refl

pub returns-clause-counts : goal.returns-clause-counts
unfolding formula_opened opened tree_opened
returns-clause-counts c = refl

pub returns-clause-noted : goal.returns-clause-noted
unfolding formula_opened opened tree_opened
returns-clause-noted c = refl

pub returns-clause-said : goal.returns-clause-said
unfolding formula_opened opened tree_opened
returns-clause-said c = refl

pub returns-clause-framed : goal.returns-clause-framed
unfolding formula_opened opened tree_opened
returns-clause-framed c = refl

pub returns-clause-framed_shown : goal.returns-clause-framed_shown
unfolding formula_opened opened tree_opened
returns-clause-framed_shown c = refl

pub returns-clause-called : goal.returns-clause-called
unfolding formula_opened opened tree_opened
returns-clause-called c = refl

pub returns-clause-entered : goal.returns-clause-entered
unfolding formula_opened opened tree_opened
returns-clause-entered c = refl

pub returns-clause-promised : goal.returns-clause-promised
unfolding formula_opened opened tree_opened
returns-clause-promised c = refl

pub returns-clause-promised_shown : goal.returns-clause-promised_shown
unfolding formula_opened opened tree_opened
returns-clause-promised_shown c = refl
