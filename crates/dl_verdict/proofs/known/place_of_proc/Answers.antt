use Rattle.std.proofs.Common.{◌≡◌, Some, slice_get, ap, ◌∙◌}
use Rattle.std.specs.Option.{option_copied}
use Rattle.dl_faults.specs.declared.points.Spots.{Spots}
use Rattle.dl_faults.specs.Spots.{spots_of}
use Rattle.dl_verdict.proofs.Spots.{stands-there}
use Rattle.dl_verdict.proofs.known.place_of_proc.Goals as goal

pub returns-in-Some : goal.returns-in-Some
returns-in-Some c =
    let known = c.args.known.now in
    let at : slice_get known.procs c.args.proc ≡ Some c.in-Some.spots.now = cc (ap option_copied c.in-Some.is, c.get.ensures.value, c.from.ensures) in
    ap (λ (spots : Spots). spots.proc) (stands-there (spots_of known.file.now.tree) known.procs _ c.args.proc c.in-Some.spots.now c.requires.procs at)

pub returns : goal.returns
returns c = ap (λ (spots : Spots). spots.proc) c.in_ok-spots.ensures
