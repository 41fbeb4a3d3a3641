use Rattle.std.proofs.Common.{◌≡◌, ◌++◌, ◌∷◌, [], ap, ◌∙◌}
use Rattle.dl_model.specs.Lookup.{arg_names}
use Rattle.dl_model.specs.Words.{me_word}
use Rattle.dl_triples.specs.Obligations.{put}
use Rattle.dl_built.proofs.starts.precondition_over.Goals as goal

pub returns-in-Ok : goal.returns-in-Ok
returns-in-Ok c =
    let proc = c.args.proc.now in
    let first : c.push.new.self ≡ me_word ∷ [] = c.in_ok-push.ensures.ok ∙ ap (λ xs. xs ++ me_word ∷ []) c.new-names.ensures in
    let names : c.as_slice-2.result.now ≡ me_word ∷ arg_names proc.params =
    c.as_slice-2.ensures ∙ (c.in_ok-add_names.ensures ∙ (λ i. first i ++ arg_names (c.as_slice.ensures i))) in
    c.put_formula.ensures ∙ (c.in-Ok.ensures ∙ ap (λ xs. put proc.pre xs c.args.terms.now) names)
