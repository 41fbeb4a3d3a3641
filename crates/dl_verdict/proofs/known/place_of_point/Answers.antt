use Rattle.std.proofs.Common.{◌≡◌, Some, slice_get, ap, ◌∙◌}
use Rattle.std.specs.Option.{option_copied}
use Rattle.dl_faults.specs.declared.points.Spots.{Spots}
use Rattle.dl_faults.specs.Spots.{spots_of, spot_in}
use Rattle.dl_faults.proofs.Pointed.{spot-told}
use Rattle.dl_verdict.proofs.Spots.{stands-there}
use Rattle.dl_verdict.proofs.known.place_of_point.Goals as goal

pub returns-in-Some : goal.returns-in-Some
returns-in-Some c =
    let known = c.args.known.now in
    let tree = known.file.now.tree in
    let at : slice_get known.procs c.args.proc ≡ Some c.in-Some.spots.now = cc (ap option_copied c.in-Some.is, c.get.ensures.value, c.from.ensures) in
    c.spot_at.ensures ∙ (ap (λ (spots : Spots). spot_in spots c.args.point) (stands-there (spots_of tree) known.procs _ c.args.proc c.in-Some.spots.now c.requires.procs at) ∙ spot-told tree c.args.proc c.args.point)

pub returns : goal.returns
returns c =
    let tree = c.args.known.now.file.now.tree in
    c.spot_at-place.ensures ∙ (ap (λ (spots : Spots). spot_in spots c.args.point) c.in_ok-spots.ensures ∙ spot-told tree c.args.proc c.args.point)
