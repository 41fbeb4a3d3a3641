use Rattle.std.proofs.Common.{◌≡◌, drop}
use Rattle.dl_formed.specs.Decided.{are_distinct}
use Rattle.dl_formed_file.proofs.names.are_distinct.Given as goal

abbrev pub invariant-loop-place : goal.invariant-loop-place
invariant-loop-place l = are_distinct (drop l.place l.names) ≡ are_distinct l.names
