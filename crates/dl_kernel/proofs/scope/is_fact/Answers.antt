use Rattle.std.proofs.Common.{is_some, ◌∙◌, ap}
use Rattle.dl_kernel.proofs.CleanLemmas.{is_some-copied, fact-known}
use Rattle.dl_kernel.proofs.scope.is_fact.Goals as goal

pub returns : goal.returns
returns c = c.is_some.ensures ∙ is_some-copied c.fact_named.result ∙ ap is_some c.fact_named.ensures ∙ fact-known c.args.facts.now c.args.name
