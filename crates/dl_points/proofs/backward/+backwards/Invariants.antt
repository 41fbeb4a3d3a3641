use Rattle.std.proofs.Common.{◌≡◌, ◌-◌, take}
use Rattle.dl_points.specs.Passing.{pre_of_commands}
use Rattle.dl_points.proofs.backward.+backwards.Given as goal

abbrev pub invariant-pre_over-loop-done : goal.invariant-pre_over-loop-done
invariant-pre_over-loop-done l = pre_of_commands (take (l.count - l.done) l.commands) l.formula ≡ pre_of_commands l.commands l.initial.formula
