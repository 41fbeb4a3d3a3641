use Rattle.std.proofs.Common.{◌≡◌, drop}
use Rattle.std.specs.List.{list_all}
use Rattle.dl_model.specs.Sorts.{has}
use Rattle.dl_formed.proofs.programs.Inside.are_locals.Given as goal

abbrev pub invariant-loop-name : goal.invariant-loop-name
invariant-loop-name l = list_all (has l.self.locals.now) (drop l.name-index l.names) ≡ list_all (has l.self.locals.now) l.names
