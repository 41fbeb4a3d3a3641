use Rattle.std.proofs.Common.{◌≡◌, ◌++◌, drop}
use Rattle.std.specs.List.{flat_map}
use Rattle.dl_inv.specs.Facts.{visible_in}
use Rattle.dl_inv.specs.Code.{world_with}
use Rattle.dl_inv.proofs.facts.add_visible.Given as goal

abbrev pub invariant-loop-invariant : goal.invariant-loop-invariant
invariant-loop-invariant l =
    l.facts ++ flat_map (visible_in l.decls (world_with l.world)) (drop l.invariant-index l.invariants)
    ≡ l.initial.facts ++ flat_map (visible_in l.decls (world_with l.world)) l.invariants
