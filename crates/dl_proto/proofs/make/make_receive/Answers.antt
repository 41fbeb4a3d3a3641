use Rattle.std.proofs.Common.{◌≡◌, None, refl, ap, rules}
use Rattle.dl_term.specs.State.{Message}
use Rattle.dl_model.specs.Lookup.{no_tag}
use Rattle.dl_proto.proofs.Found.{no-tag-at, tag-is-at}
use Rattle.dl_proto.proofs.StepLemmas.{not-received}
use Rattle.dl_proto.proofs.make.make_receive.Goals as goal

pub returns-in_default : goal.returns-in_default
returns-in_default c =
    not-received c.args.inst.now c.args.state.now c.args.label c.args.node c.args.message.now no_tag
    (no-tag-at c.args.inst.now c.args.label c.args.message.now.tag c.message.inside.tag (ap (λ (m : Message). m.tag) c.message.view_is) c.in_default.ensures.found) refl

pub returns-in_default-receive : goal.returns-in_default-receive
returns-in_default-receive c =
    let none : c.in-Some.tag.now.receive ≡ None = search rules in
    not-received c.args.inst.now c.args.state.now c.args.label c.args.node c.args.message.now c.in-Some.tag.now
    (tag-is-at c.args.inst.now c.args.label c.args.message.now.tag c.message.inside.tag c.in-Some.tag.now (ap (λ (m : Message). m.tag) c.message.view_is) c.in-Some.ensures.found) none
