use Rattle.std.proofs.Common.{List, ◌++◌, map, drop, ap, ◌∙◌}
use Rattle.std.specs.List.{flat_map}
use Rattle.dl_tree.specs.declared.tree.Tree.{Tree}
use Rattle.dl_tree.specs.TreePlace.{place_of}
use Rattle.dl_faults.specs.ProgramPlaces.{point_lists}
use Rattle.dl_faults.specs.Code.{parts_before}
use Rattle.dl_faults.proofs.Pointed.{points-placed}
use Rattle.dl_faults.proofs.points.+points.Goals as goal

pub add_points-returns-in_ok-add_behind-in-List : goal.add_points-returns-in_ok-add_behind-in-List
add_points-returns-in_ok-add_behind-in-List t c =
    let middle = c.add_own.new.places in
    let first = c.before_commands-first.result in
    points-placed c.args.places.now middle c.add_behind.new.places c.args.tree.now c.in-List.items c.in-List.place first c.in-List.is
    (c.before_commands-first.ensures ∙ ap (parts_before c.args.tree.now) c.len.ensures) c.in_ok-add_own.ensures
    (c.in_ok-add_behind-in-List.ensures ∙ ap (λ (items : List Tree). middle ++ map place_of (flat_map point_lists (drop first items))) c.as_slice.ensures)
