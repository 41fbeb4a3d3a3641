-- The places of a procedure and of its points, as the code keeps them.
use Rattle.std.specs.Prelude.{ℕ, zero, suc, map, slice_get, unwrap_or}
use Rattle.dl_tree.specs.declared.tree.Place.{Place}
use Rattle.dl_tree.specs.declared.tree.Tree.{Tree}
use Rattle.dl_tree.specs.TreePlace.{place_of}
use Rattle.dl_faults.specs.declared.points.Spots.{Spots}
use Rattle.dl_faults.specs.ProgramPlaces.{part_at, proc_tree, body_of, points_in}

abbrev pub spots_at : Tree → Spots
spots_at proc = record { proc = place_of proc; post = place_of (part_at proc 6); points = map place_of (points_in (body_of proc)) }

-- those of the procedure with this number
abbrev pub spots_of : Tree → ℕ → Spots
spots_of file p = spots_at (proc_tree file p)

-- the point with this number, and the postcondition for the point 0
abbrev pub spot_in : Spots → ℕ → Place
spot_in spots zero = spots.post
spot_in spots (suc k) = unwrap_or (slice_get spots.points k) spots.proc
