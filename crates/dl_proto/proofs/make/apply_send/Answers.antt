use Rattle.std.proofs.Common.{◌∙◌, length, ap, FitsSigned, rules}
use Rattle.std.proofs.lemmas.Int.{to_z-of_z}
use mir.Syntax.{w64}
use Rattle.dl_proto.proofs.Found.{given-few}
use Rattle.dl_proto.proofs.StepLemmas.{known-sent, sent-soup, sent-labels}
use Rattle.dl_proto.proofs.make.apply_send.Goals as goal

pub new-requires : goal.new-requires
new-requires c = given-few c.args.inst.now c.args.label c.args.tag c.args.from c.args.args.now c.requires.formed c.requires.given

pub append-requires-clause-label : goal.append-requires-clause-label
append-requires-clause-label c =
    let fits : FitsSigned w64 c.args.to = search rules in
    sent-labels c.args.inst.now c.args.state.now c.make_send.new.state c.args.label c.args.tag c.args.from c.args.to c.args.args.now c.requires.shaped c.requires.given.label (simp to_z-of_z at c.make_send.ensures)

pub returns-clause-id : goal.returns-clause-id
returns-clause-id c =
    let fits : FitsSigned w64 c.args.to = search rules in
    c.append.ensures.id
    ∙ ap length (sent-soup c.args.inst.now c.args.state.now c.make_send.new.state c.args.label c.args.tag c.args.from c.args.to c.args.args.now c.requires.shaped c.requires.given.label (simp to_z-of_z at c.make_send.ensures))

pub returns-clause-state : goal.returns-clause-state
returns-clause-state c =
    let fits : FitsSigned w64 c.args.to = search rules in
    c.append.ensures.state
    ∙ known-sent c.args.inst.now c.args.state.now c.make_send.new.state c.args.label c.args.tag c.args.from c.args.to c.args.args.now c.new.result c.requires.shaped c.requires.given.label
    (simp to_z-of_z at c.make_send.ensures) (simp to_z-of_z at c.new.ensures)
