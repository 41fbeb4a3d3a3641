use Rattle.std.proofs.Common.{pos, refl}
use Rattle.std.specs.Prelude.{int_le}
use Rattle.std.proofs.lemmas.Bool.{false≢true}
use Rattle.dl_term.specs.Names.{no_names, with_number}
use Rattle.dl_term.specs.Syntax.{opened}
use Rattle.dl_model.specs.Examples.{counter}
use Rattle.dl_model.specs.States.{first_state}
use Rattle.dl_model.proofs.Examples.{counter-formed}
use Rattle.dl_model.proofs.Small.{and-right}
use Rattle.dl_model.proofs.Sorted.{first-sorted}
use Rattle.dl_model.proofs.laws.validity_computes.Goals as goal

pub returns-clause-bounded : goal.returns-clause-bounded
unfolding opened
returns-clause-bounded c label state names sorted fits facts = and-right (int_le (pos 0) (names.number 30)) _ fits.variables.0

pub returns-clause-absurdly : goal.returns-clause-absurdly
unfolding opened
returns-clause-absurdly c label state names sorted fits facts = absurd (false≢true facts.0)

pub returns-clause-not_valid : goal.returns-clause-not_valid
unfolding opened
returns-clause-not_valid c h =
    false≢true (h 0 (first_state counter.inst) (no_names 0) (first-sorted counter.inst counter-formed.inst) (record { own_label = refl; variables = (refl, tt); messages = tt }) tt)

pub returns-clause-too_narrow : goal.returns-clause-too_narrow
unfolding opened
returns-clause-too_narrow c h =
    false≢true (h 0 (first_state counter.inst) (with_number (no_names 0) 30 (pos 1)) (first-sorted counter.inst counter-formed.inst) (record { own_label = refl; variables = (refl, tt); messages = tt }) tt)
