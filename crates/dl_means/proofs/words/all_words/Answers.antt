use Rattle.dl_means.proofs.WordLemmas.{others-of-none}
use Rattle.dl_means.proofs.words.all_words.Goals as goal

pub returns : goal.returns
returns c = others-of-none c.args.declared.now.words
