use Rattle.std.proofs.Common.{FitsSigned, rules}
use Rattle.std.proofs.lemmas.Int.{to_z-of_z}
use mir.Syntax.{w64}
use Rattle.dl_proto.proofs.SentLemmas.{sent-shaped, sent-longer}
use Rattle.dl_proto.proofs.tests.send.Goals as goal

pub returns-clause-shaped : goal.returns-clause-shaped
returns-clause-shaped c =
    let fits : FitsSigned w64 c.args.to = search rules in
    sent-shaped c.args.inst.now c.args.state.now.state c.apply_send.new.state.state c.args.from 0 0 c.args.to c.args.args.now (simp to_z-of_z at c.apply_send.ensures.state) c.requires.shaped

pub returns-clause-soup : goal.returns-clause-soup
returns-clause-soup c =
    let fits : FitsSigned w64 c.args.to = search rules in
    sent-longer c.args.inst.now c.args.state.now.state c.apply_send.new.state.state c.args.from 0 0 c.args.to c.args.args.now (simp to_z-of_z at c.apply_send.ensures.state) c.requires.shaped c.requires.given.label
