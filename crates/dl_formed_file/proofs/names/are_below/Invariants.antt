use Rattle.std.proofs.Common.{◌≡◌, drop}
use Rattle.dl_formed.specs.Decided.{are_below}
use Rattle.dl_formed_file.proofs.names.are_below.Given as goal

abbrev pub invariant-loop-name : goal.invariant-loop-name
invariant-loop-name l = are_below l.count (drop l.name-index l.names) ≡ are_below l.count l.names
