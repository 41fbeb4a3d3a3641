use Rattle.std.proofs.Common.{ℤ, List, ap, ◌∙◌}
use Rattle.dl_forms.specs.Context.{Text}
use Rattle.dl_means.specs.Says.{says_protocol}
use Rattle.dl_means.proofs.says.says_protocol_before.Goals as goal

pub returns : goal.returns
returns c = c.says_protocol.ensures ∙ ap (λ (words : List (Text × ℤ)). says_protocol c.args.names.now words c.args.protocol.now) c.all_words-words.ensures
