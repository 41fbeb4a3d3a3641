use Rattle.std.proofs.Common.{◌≡◌, ◌++◌, ap, ◌∙◌}
use Rattle.std.specs.Option.{option_copied}
use Rattle.std.specs.List.{flat_map}
use Rattle.dl_inv.specs.Joined.{nested}
use Rattle.dl_inv.specs.Steps.{update_fits, all_fit}
use Rattle.dl_inv.specs.Code.{step_in, update_said}
use Rattle.dl_inv.proofs.Building.{joined-said, where-ok}
use Rattle.dl_inv.proofs.fits.all_fit.Goals as goal

pub returns : goal.returns
returns c =
    let scene = c.args.scene.now in
    where-ok c.join.result (λ made. made ≡ nested c.add_updates.new.parts)
    (λ made. made ≡ all_fit scene.inst.now scene.known.now (step_in scene.sight) (option_copied scene.protocol) c.args.updates.now) c.join.ensures
    (λ made e. e ∙ joined-said (update_fits scene.inst.now scene.known.now (step_in scene.sight) (option_copied scene.protocol)) c.args.updates.now c.add_updates.new.parts
    (c.in_ok-add_updates.ensures ∙ ap (λ xs. xs ++ flat_map (update_said scene) c.args.updates.now) c.new-parts.ensures))
