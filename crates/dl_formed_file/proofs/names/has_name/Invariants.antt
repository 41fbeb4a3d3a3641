use Rattle.std.proofs.Common.{◌≡◌, drop}
use Rattle.dl_model.specs.Sorts.{has}
use Rattle.dl_formed_file.proofs.names.has_name.Given as goal

abbrev pub invariant-loop-known : goal.invariant-loop-known
invariant-loop-known l = has (drop l.known-index l.names) l.name ≡ has l.names l.name
