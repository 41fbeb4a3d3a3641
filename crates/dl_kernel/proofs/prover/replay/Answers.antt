use Rattle.std.proofs.Common.{subst}
use Rattle.dl_kernel.specs.Outcome.{fault, IsAnswer}
use Rattle.dl_kernel.proofs.Replayed.{replay-sound}
use Rattle.dl_kernel.proofs.prover.replay.Goals as goal

pub returns-clause-valid : goal.returns-clause-valid
returns-clause-valid c proved =
    let rule = c.args.script.now.rule in
    let place = c.args.script.now.place in
    replay-sound c.args.inst.now rule place c.args.sequent c.requires.formed (subst (λ answer. IsAnswer answer (fault c.args.inst.now rule place c.args.sequent)) proved c.prove-answer.ensures)
