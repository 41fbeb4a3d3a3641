use Rattle.std.proofs.Common.{ℤ, List, ap, ◌∙◌}
use Rattle.dl_forms.specs.Context.{Text}
use Rattle.dl_means.specs.Says.{says_proc}
use Rattle.dl_means.proofs.says.says_proc_before.Goals as goal

pub returns : goal.returns
returns c = c.says_proc.ensures ∙ ap (λ (words : List (Text × ℤ)). says_proc c.args.names.now words c.args.proc.now) c.all_words-words.ensures
