use Rattle.std.proofs.Common.{◌≡◌, ◌++◌, map, drop}
use Rattle.std.specs.List.{flat_map}
use Rattle.dl_tree.specs.TreePlace.{place_of}
use Rattle.dl_faults.specs.ProgramPlaces.{point_lists}
use Rattle.dl_faults.proofs.Pointed.{still}
use Rattle.dl_faults.proofs.points.+points.Given as goal

abbrev pub invariant-add_behind-loop-n : goal.invariant-add_behind-loop-n
invariant-add_behind-loop-n l = l.places ++ still l.parts l.first l.n ≡ l.initial.places ++ map place_of (flat_map point_lists (drop l.first l.parts))
