use Rattle.std.proofs.Common.{ℕ, Option, sym, ap, ◌∙◌}
use Rattle.dl_notation.specs.Rules.{other_words}
use Rattle.dl_means.specs.Says.{variables_in}
use Rattle.dl_means.proofs.WordLemmas.{others-of-none}
use Rattle.dl_means.proofs.words.words_in.Goals as goal

pub returns-in-Some : goal.returns-in-Some
returns-in-Some c =
    let words = c.args.declared.now.words in
    c.words_at.ensures ∙ sym (ap (λ (proc : Option ℕ). other_words (variables_in c.args.names.now c.args.decls.now proc) words) c.in-Some.is)

pub returns-in-None : goal.returns-in-None
returns-in-None c =
    let words = c.args.declared.now.words in
    c.all_words.ensures ∙ sym (ap (λ (proc : Option ℕ). other_words (variables_in c.args.names.now c.args.decls.now proc) words) c.in-None.is ∙ others-of-none words)
