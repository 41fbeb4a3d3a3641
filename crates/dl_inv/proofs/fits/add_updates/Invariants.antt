use Rattle.std.proofs.Common.{◌≡◌, ◌++◌, drop}
use Rattle.std.specs.List.{flat_map}
use Rattle.dl_inv.specs.Code.{update_said}
use Rattle.dl_inv.proofs.fits.add_updates.Given as goal

abbrev pub invariant-loop-update : goal.invariant-loop-update
invariant-loop-update l =
    l.parts ++ flat_map (update_said l.scene) (drop l.update-index l.updates) ≡ l.initial.parts ++ flat_map (update_said l.scene) l.updates
