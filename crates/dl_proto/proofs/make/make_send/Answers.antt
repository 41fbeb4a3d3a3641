use Rattle.std.proofs.Common.{refl}
use Rattle.dl_proto.proofs.Found.{no-tag-at}
use Rattle.dl_proto.proofs.StepLemmas.{no-tag-sent}
use Rattle.dl_proto.proofs.make.make_send.Goals as goal

pub returns-in_default : goal.returns-in_default
returns-in_default c =
    no-tag-sent c.args.inst.now c.args.state.now c.args.label c.args.tag c.args.from c.args.to c.args.args.now
    (no-tag-at c.args.inst.now c.args.label c.args.tag c.args.tag refl c.in_default.ensures.found)
