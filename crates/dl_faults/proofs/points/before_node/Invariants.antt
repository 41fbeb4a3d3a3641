use Rattle.std.proofs.Common.{◌≡◌, ◌+◌, drop}
use Rattle.dl_faults.specs.ProgramPlaces.{before_node}
use Rattle.dl_faults.proofs.points.before_node.Given as goal

abbrev pub invariant-loop-before : goal.invariant-loop-before
invariant-loop-before l = l.before + before_node (drop l.before l.programs) l.node ≡ before_node l.programs l.node
