use Rattle.std.proofs.Common.{sym, ◌∙◌, subst}
use Rattle.dl_model.specs.Runs.{step_of}
use Rattle.dl_proto.specs.Shaped.{IsShaped}
use Rattle.dl_history.proofs.StepLemmas.{call-after, after-shaped}
use Rattle.dl_history.proofs.steps.make_step.Goals as goal

pub returns-clause-state : goal.returns-clause-state
returns-clause-state c = c.make.ensures.state ∙ call-after c.args.inst.now c.args.state.now.state c.args.node c.args.call.now c.args.reply.now

pub returns-clause-shaped : goal.returns-clause-shaped
returns-clause-shaped c =
    subst (IsShaped c.args.inst.now)
    (sym (c.make.ensures.state ∙ call-after c.args.inst.now c.args.state.now.state c.args.node c.args.call.now c.args.reply.now))
    (after-shaped c.args.inst.now c.args.state.now.state c.args.node (step_of c.args.call.now c.args.reply.now) c.requires.shaped)
