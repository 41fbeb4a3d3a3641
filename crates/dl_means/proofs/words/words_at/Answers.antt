use Rattle.std.proofs.Common.{◌≡◌, List, Some, None, sym, ap, ◌∙◌}
use Rattle.std.specs.Prelude.{slice_get}
use Rattle.std.specs.Option.{option_copied}
use Rattle.dl_forms.specs.Context.{Text}
use Rattle.dl_notation.specs.Rules.{other_words}
use Rattle.dl_means.proofs.WordLemmas.{others-of-none, variables-found, variables-none}
use Rattle.dl_means.proofs.words.words_at.Goals as goal

pub returns-in-Some : goal.returns-in-Some
returns-in-Some c =
    let words = c.args.declared.now.words in
    let there : slice_get c.args.decls.now.procs c.args.at ≡ Some c.in-Some.proc.now = sym c.proc_numbered.ensures ∙ ap option_copied c.in-Some.is in
    c.words_of_proc.ensures ∙ sym (ap (λ (variables : List Text). other_words variables words) (variables-found c.args.names.now c.args.decls.now c.args.at c.in-Some.proc.now there))

pub returns-in-None : goal.returns-in-None
returns-in-None c =
    let words = c.args.declared.now.words in
    let none : slice_get c.args.decls.now.procs c.args.at ≡ None = sym c.proc_numbered.ensures ∙ ap option_copied c.in-None.is in
    c.all_words.ensures ∙ sym (ap (λ (variables : List Text). other_words variables words) (variables-none c.args.names.now c.args.decls.now c.args.at none) ∙ others-of-none words)
