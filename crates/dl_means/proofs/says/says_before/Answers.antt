use Rattle.std.proofs.Common.{ℤ, List, ap, ◌∙◌}
use Rattle.dl_forms.specs.Context.{Text}
use Rattle.dl_means.specs.Says.{says}
use Rattle.dl_means.proofs.says.says_before.Goals as goal

pub returns : goal.returns
returns c = c.says.ensures ∙ ap (λ (words : List (Text × ℤ)). says c.args.names.now words c.args.formula.now) c.all_words-words.ensures
