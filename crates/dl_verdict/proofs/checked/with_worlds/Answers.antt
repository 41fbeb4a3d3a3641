use Rattle.std.proofs.Common.{sym, ◌∙◌}
use Rattle.dl_verdict.proofs.Answered.{of-worlds, refusal-answers}
use Rattle.dl_verdict.proofs.checked.with_worlds.Goals as goal

pub returns-in-Some : goal.returns-in-Some
returns-in-Some c =
    refusal-answers c.args.file.now c.in-Some.wrong c.refusal.result c.refusal.ensures
    (of-worlds c.args.file.now c.in-Some.wrong (sym c.requires.worlds ∙ c.in-Some.is))
