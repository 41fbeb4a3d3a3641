use Rattle.std.proofs.Common.{◌≡◌, ◌++◌, map, take}
use Rattle.dl_inv.specs.Obligations.{with_sort}
use Rattle.dl_triples.specs.Obligations.{int_sort}
use Rattle.dl_parts.proofs.known.add_locals.Given as goal

abbrev pub invariant-loop-local : goal.invariant-loop-local
invariant-loop-local l = l.vars ≡ l.initial.vars ++ map (with_sort int_sort) (take l.local-index l.locals)
