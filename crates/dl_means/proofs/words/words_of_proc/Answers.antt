use Rattle.std.proofs.Common.{ℕ, ℤ, List, ◌++◌, map, ap, ◌∙◌}
use Rattle.dl_model.specs.Lookup.{Parameter, arg_names}
use Rattle.dl_forms.specs.Context.{Text}
use Rattle.dl_forms.specs.Scope.{text_at}
use Rattle.dl_notation.specs.Rules.{other_words}
use Rattle.dl_means.proofs.words.words_of_proc.Goals as goal

pub returns : goal.returns
returns c =
    let known : List Parameter → List ℕ → List (Text × ℤ) = λ params locals. other_words (map (text_at c.args.names.now) (arg_names params ++ locals)) c.args.declared.now.words in
    ap (λ (params : List Parameter). known params c.as_slice-2.result.now) c.as_slice.ensures ∙ ap (known c.args.proc.now.params) c.as_slice-2.ensures
