use Rattle.std.proofs.Common.{◌≡◌, ◌++◌, drop}
use Rattle.dl_notation.specs.Obligations.{texts_of}
use Rattle.dl_names.proofs.leave.add_each_name.Given as goal

abbrev pub invariant-loop-part : goal.invariant-loop-part
invariant-loop-part l = l.names.keys ++ texts_of (drop l.part-index l.parts) ≡ l.initial.names.keys ++ texts_of l.parts
