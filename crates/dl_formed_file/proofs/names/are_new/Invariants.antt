use Rattle.std.proofs.Common.{◌≡◌, drop}
use Rattle.dl_triples.specs.Taken.{own_names}
use Rattle.dl_formed_file.specs.Decided.{are_unbound}
use Rattle.dl_formed_file.proofs.names.are_new.Given as goal

abbrev pub invariant-loop-name : goal.invariant-loop-name
invariant-loop-name l = are_unbound (own_names l.decls l.duty) (drop l.name-index l.names) ≡ are_unbound (own_names l.decls l.duty) l.names
