use Rattle.std.proofs.Common.{◌∙◌, ap}
use Rattle.dl_model.specs.Machine.{Machine, after_reply}
use Rattle.dl_prog.specs.declared.cont.Cont.{Cont}
use Rattle.dl_prog.proofs.Moving.{same-machine}
use Rattle.dl_prog.proofs.cont.Cont.resume.Goals as goal

pub returns-in-None-clause-moves : goal.returns-in-None-clause-moves
returns-in-None-clause-moves c =
    let procs = c.args.procs.now in
    let old : Cont = c.args.self.now in
    let kept : Cont = c.settle-commands.new.self in
    c.take.ensures.moves ∙ ap (λ (machine : Machine). after_reply machine c.args.reply.now) (same-machine procs old kept c.settle-commands.ensures.over c.settle-commands.ensures.same)
