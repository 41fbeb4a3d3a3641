use Rattle.std.proofs.Common.{ℤ, List, ap, ◌∙◌}
use Rattle.dl_forms.specs.Context.{Text}
use Rattle.dl_means.specs.Says.{says_rule}
use Rattle.dl_means.proofs.says.says_script_in.Goals as goal

pub returns : goal.returns
returns c = c.says_script.ensures ∙ ap (λ (words : List (Text × ℤ)). says_rule c.args.names.now words c.args.script.now.rule) c.words_in-words.ensures
