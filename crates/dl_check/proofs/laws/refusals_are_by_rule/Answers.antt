use Rattle.dl_check.proofs.TextRules.{text-ruled}
use Rattle.dl_check.proofs.Rules.{tree-ruled, none-unbuilt}
use Rattle.dl_check.proofs.laws.refusals_are_by_rule.Goals as goal

pub returns-clause-texts : goal.returns-clause-texts
returns-clause-texts c = text-ruled

pub returns-clause-trees : goal.returns-clause-trees
returns-clause-trees c = tree-ruled

pub returns-clause-built : goal.returns-clause-built
returns-clause-built c = none-unbuilt
