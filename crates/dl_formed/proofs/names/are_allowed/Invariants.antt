use Rattle.std.proofs.Common.{◌≡◌, drop}
use Rattle.std.specs.Prelude.{nat_le}
use Rattle.std.specs.List.{list_all}
use Rattle.dl_model.specs.Words.{first_name}
use Rattle.dl_formed.proofs.names.are_allowed.Given as goal

abbrev pub invariant-loop-name : goal.invariant-loop-name
invariant-loop-name l = list_all (nat_le first_name) (drop l.name-index l.names) ≡ list_all (nat_le first_name) l.names
