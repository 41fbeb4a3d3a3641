use Rattle.std.proofs.Common.{ℤ, List, FitsSigned, rules, sym, ◌∙◌, ap, subst}
use Rattle.std.proofs.lemmas.Int.{to_z-of_z}
use mir.Syntax.{w64}
use Rattle.dl_model.specs.declared.history.Call.{Call}
use Rattle.dl_model.specs.Steps.{after_send}
use Rattle.dl_proto.specs.Given.{SendIsGiven}
use Rattle.dl_history.specs.Taken.{CallIsGiven, after_call}
use Rattle.dl_history.proofs.steps.make.Goals as goal

pub apply_send-requires-clause-given : goal.apply_send-requires-clause-given
apply_send-requires-clause-given c =
    let inst = c.args.inst.now in
    let s = c.args.state.now.state in
    subst (SendIsGiven inst c.in-Send.label c.in-Send.tag c.args.node) (sym c.listed.ensures) (subst (λ (call : Call). CallIsGiven inst s c.args.node call c.args.reply.now) c.in-Send.is c.requires.given)

pub returns-in-Send-clause-state : goal.returns-in-Send-clause-state
returns-in-Send-clause-state c =
    let inst = c.args.inst.now in
    let s = c.args.state.now.state in
    let fits : FitsSigned w64 c.in-Send.to = search rules in
    (simp to_z-of_z at c.apply_send.ensures.state)
    ∙ (ap (λ (vs : List ℤ). after_send inst s c.args.node c.in-Send.label c.in-Send.tag c.in-Send.to vs) c.listed.ensures ∙ ap (λ (call : Call). after_call inst s c.args.node call c.args.reply.now) (sym c.in-Send.is))
