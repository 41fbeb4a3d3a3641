use Rattle.std.proofs.Common.{◌<◌, length, arith}
use Rattle.dl_report.proofs.Pieces.{cut_parts}
use Rattle.dl_report.proofs.words.cut.Goals as goal

pub returns : goal.returns
returns c =
    let within : c.length_before-at.result < length c.args.bytes.now = omega (arith, c.length_before-at.ensures.bound) in
    cut_parts c.args.byte c.args.bytes.now c.length_before-at.result c.length_before-at.ensures.value within
