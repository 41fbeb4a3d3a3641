use Rattle.std.proofs.Common.{◌≡◌, ◌<◌, ◌∙◌, Some, length, sym, subst}
use Rattle.dl_term.specs.State.{message_at}
use Rattle.dl_proto.proofs.StepLemmas.{known-received, received-soup, received-labels}
use Rattle.dl_proto.proofs.make.apply_receive.Goals as goal

pub consume-requires-clause-label : goal.consume-requires-clause-label
consume-requires-clause-label c =
    received-labels c.args.inst.now c.args.state.now c.make_receive.new.state c.args.label c.args.node c.in-Some.message.now c.requires.shaped c.requires.given.label c.make_receive.ensures

pub consume-requires-clause-id : goal.consume-requires-clause-id
consume-requires-clause-id c =
    subst (λ soup. c.args.id < length soup)
    (sym (received-soup c.args.inst.now c.args.state.now c.make_receive.new.state c.args.label c.args.node c.in-Some.message.now c.requires.shaped c.requires.given.label c.make_receive.ensures))
    c.requires.given.id

pub returns : goal.returns
returns c =
    let found : message_at c.args.state.now.state c.args.label c.args.id ≡ Some c.in-Some.message.now = sym c.in-Some.ensures in
    c.consume.ensures
    ∙ known-received c.args.inst.now c.args.state.now c.make_receive.new.state c.args.label c.args.id c.args.node c.in-Some.message.now c.requires.shaped c.requires.given.label found c.make_receive.ensures
