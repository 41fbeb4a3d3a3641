use Rattle.std.proofs.Common.{◌≡◌, ◌++◌, ◌-◌, length}
use Rattle.std.specs.List.{flat_map, range_with_len}
use Rattle.dl_inv.specs.Duties.{positions}
use Rattle.dl_triples.specs.Duties.{duties_of_proc}
use Rattle.dl_duties.proofs.listed.add_of_procs.Given as goal

abbrev pub invariant-loop-number : goal.invariant-loop-number
invariant-loop-number l =
    l.list ++ flat_map (duties_of_proc l.decls) (range_with_len l.number (length l.decls.procs - l.number))
    ≡ l.initial.list ++ flat_map (duties_of_proc l.decls) (positions l.decls.procs)
