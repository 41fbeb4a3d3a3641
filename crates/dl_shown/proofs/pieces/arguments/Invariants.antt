use Rattle.std.proofs.Common.{◌≡◌, map, take}
use Rattle.dl_shown.specs.Shown.{argument_of}
use Rattle.dl_shown.proofs.pieces.arguments.Given as goal

abbrev pub invariant-loop-arg : goal.invariant-loop-arg
invariant-loop-arg l =
    l.parts ≡ map (argument_of l.names) (take l.arg-index l.args)
