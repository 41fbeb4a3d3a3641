use Rattle.std.proofs.Common.{refl}
use Rattle.dl_term.specs.Syntax.{opened as formula_opened}
use Rattle.dl_kernel.specs.Opened.{opened}
use Rattle.dl_faults.specs.Opened.{opened as tree_opened}
use Rattle.dl_faults.proofs.laws.faults_compute.Goals as goal

pub returns-clause-proved : goal.returns-clause-proved
unfolding formula_opened opened tree_opened
returns-clause-proved c = refl

pub returns-clause-counts : goal.returns-clause-counts
unfolding formula_opened opened tree_opened
returns-clause-counts c = refl

pub returns-clause-unproved : goal.returns-clause-unproved
unfolding formula_opened opened tree_opened
returns-clause-unproved c = refl

pub returns-clause-unfinished : goal.returns-clause-unfinished
unfolding formula_opened opened tree_opened
returns-clause-unfinished c = refl

pub returns-clause-extra : goal.returns-clause-extra
unfolding formula_opened opened tree_opened
returns-clause-extra c = refl

pub returns-clause-coreless : goal.returns-clause-coreless
unfolding formula_opened opened tree_opened
returns-clause-coreless c = refl

pub returns-clause-uncovered : goal.returns-clause-uncovered
unfolding formula_opened opened tree_opened
returns-clause-uncovered c = refl

pub returns-clause-outside : goal.returns-clause-outside
unfolding formula_opened opened tree_opened
returns-clause-outside c = refl

pub returns-clause-lacking : goal.returns-clause-lacking
unfolding formula_opened opened tree_opened
returns-clause-lacking c = refl

pub returns-clause-first_of_two : goal.returns-clause-first_of_two
unfolding formula_opened opened tree_opened
returns-clause-first_of_two c = refl

pub returns-clause-unproved_shown : goal.returns-clause-unproved_shown
unfolding formula_opened opened tree_opened
returns-clause-unproved_shown c = refl

pub returns-clause-uncovered_shown : goal.returns-clause-uncovered_shown
unfolding formula_opened opened tree_opened
returns-clause-uncovered_shown c = refl

pub returns-clause-first_of_two_shown : goal.returns-clause-first_of_two_shown
unfolding formula_opened opened tree_opened
returns-clause-first_of_two_shown c = refl
