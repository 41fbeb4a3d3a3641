use Rattle.std.proofs.Common.{◌≡◌, ◌++◌, map, drop}
use Rattle.dl_shown.specs.Shown.{name_of}
use Rattle.dl_shown.proofs.pieces.add_names.Given as goal

abbrev pub invariant-loop-sym : goal.invariant-loop-sym
invariant-loop-sym l =
    l.parts ++ map (name_of l.names) (drop l.sym-index l.syms) ≡ l.initial.parts ++ map (name_of l.names) l.syms
