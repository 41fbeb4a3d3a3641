use Rattle.std.proofs.Common.{sym, ◌∙◌}
use Rattle.dl_verdict.proofs.Answered.{counted-answers, of-obligations, refusal-answers}
use Rattle.dl_verdict.proofs.checked.answered.Goals as goal

pub returns-in-Some : goal.returns-in-Some
returns-in-Some c =
    refusal-answers c.args.file.now c.in-Some.wrong c.refusal.result c.refusal.ensures
    (of-obligations c.args.file.now _ c.requires.worlds (sym c.requires.fault ∙ c.in-Some.is))

pub returns-in-None : goal.returns-in-None
returns-in-None c =
    counted-answers c.args.file.now c.accepted.result c.accepted.ensures.ok c.accepted.ensures.err
    (of-obligations c.args.file.now _ c.requires.worlds (sym c.requires.fault ∙ c.in-None.is))
