use Rattle.dl_faults.proofs.Earliest.{none-earliest, earliest-none, goes-first, earliest-parts}
use Rattle.dl_faults.proofs.laws.earliest_goes_first.Goals as goal

pub returns-clause-none : goal.returns-clause-none
returns-clause-none c wrongs = (none-earliest wrongs, earliest-none wrongs)

pub returns-clause-first : goal.returns-clause-first
returns-clause-first c = goes-first

pub returns-clause-parts : goal.returns-clause-parts
returns-clause-parts c = earliest-parts
