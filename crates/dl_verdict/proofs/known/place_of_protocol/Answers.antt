use Rattle.std.proofs.Common.{◌≡◌, Some, slice_get, ap}
use Rattle.std.specs.Option.{option_copied}
use Rattle.dl_faults.specs.Places.{coherence_place}
use Rattle.dl_verdict.proofs.Spots.{stands-there}
use Rattle.dl_verdict.proofs.known.place_of_protocol.Goals as goal

pub returns-in-Some : goal.returns-in-Some
returns-in-Some c =
    let known = c.args.known.now in
    let at : slice_get known.coherences c.args.protocol ≡ Some c.in-Some.place.now = cc (ap option_copied c.in-Some.is, c.get.ensures.value, c.from.ensures) in
    stands-there (coherence_place known.file.now.tree) known.coherences _ c.args.protocol c.in-Some.place.now c.requires.coherences at
