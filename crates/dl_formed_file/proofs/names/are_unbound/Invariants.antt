use Rattle.std.proofs.Common.{◌≡◌, drop}
use Rattle.dl_formed_file.specs.Decided.{are_unbound}
use Rattle.dl_formed_file.proofs.names.are_unbound.Given as goal

abbrev pub invariant-loop-name : goal.invariant-loop-name
invariant-loop-name l = are_unbound l.bound.keys (drop l.name-index l.names) ≡ are_unbound l.bound.keys l.names
