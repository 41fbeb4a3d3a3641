use Rattle.std.proofs.Common.{◌≡◌, Some, slice_get, ap}
use Rattle.std.specs.Option.{option_copied}
use Rattle.dl_faults.specs.Places.{invariant_place}
use Rattle.dl_verdict.proofs.Spots.{stands-there}
use Rattle.dl_verdict.proofs.known.place_of_claim.Goals as goal

pub returns-in-Some : goal.returns-in-Some
returns-in-Some c =
    let known = c.args.known.now in
    let at : slice_get known.invariants c.args.invariant ≡ Some c.in-Some.place.now = cc (ap option_copied c.in-Some.is, c.get.ensures.value, c.from.ensures) in
    stands-there (invariant_place known.file.now.tree) known.invariants _ c.args.invariant c.in-Some.place.now c.requires.invariants at
