use Rattle.std.proofs.Common.{[], refl}
use Rattle.dl_faults.specs.Shown.{label_and_tag}
use Rattle.dl_verdict.specs.Parts.{point_and}
use Rattle.dl_verdict.proofs.PartLemmas.{parts-done}
use Rattle.dl_verdict.proofs.parts.add_point_and_step.Goals as goal

pub returns : goal.returns
returns c =
    let file = c.args.file.now in
    let step = label_and_tag file c.args.label c.args.tag c.args.receive in
    parts-done c.add_label_and_tag.result c.args.parts.now c.add_point.new.parts c.add_label_and_tag.new.parts (point_and file c.args.proc c.args.point []) step (point_and file c.args.proc c.args.point step)
    refl c.in_ok-add_point.ensures c.add_label_and_tag.ensures
