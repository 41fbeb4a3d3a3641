use Rattle.dl_sequent.proofs.Bounded.{some-bounds-sound}
use Rattle.dl_sequent.proofs.ranges.bounds.Goals as goal

-- src/ranges.rt:140:1
pub returns-clause-sound : goal.returns-clause-sound
returns-clause-sound c = λ grounded. some-bounds-sound c.args.inst.now c.args.sequent.now c.args.term.now c.bounds_in.result grounded c.bounds_in.ensures
