use Rattle.dl_verdict.proofs.Answered.{accepted-keeps, accepted-safe}
use Rattle.dl_verdict.proofs.checked.check.Goals as goal

pub returns-clause-safe : goal.returns-clause-safe
returns-clause-safe c = accepted-safe c.args.file.now c.verdict.result c.requires c.verdict.ensures

pub returns-clause-keeps : goal.returns-clause-keeps
returns-clause-keeps c = accepted-keeps c.args.file.now c.verdict.result c.requires c.verdict.ensures
