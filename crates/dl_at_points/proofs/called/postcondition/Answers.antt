use Rattle.std.proofs.Common.{◌≡◌, ◌++◌, ◌∷◌, [], ap, ◌∙◌}
use Rattle.dl_model.specs.Lookup.{arg_names}
use Rattle.dl_model.specs.Words.{result_word}
use Rattle.dl_inv.proofs.Building.{where-ok}
use Rattle.dl_triples.specs.Obligations.{put}
use Rattle.dl_at_points.proofs.called.postcondition.Goals as goal

pub returns : goal.returns
returns c =
    let callee = c.args.callee.now in
    let first : c.push.new.self ≡ result_word ∷ [] = c.in_ok-push.ensures.ok ∙ ap (λ xs. xs ++ result_word ∷ []) c.new-names.ensures in
    let names : c.as_slice-2.result.now ≡ result_word ∷ arg_names callee.params =
    c.as_slice-2.ensures ∙ (c.in_ok-add_names.ensures ∙ (λ i. first i ++ arg_names (c.as_slice.ensures i))) in
    where-ok c.put_for.result (λ made. made ≡ put callee.post c.as_slice-2.result.now c.args.terms.now) (λ made. made ≡ put callee.post (result_word ∷ arg_names callee.params) c.args.terms.now) c.put_for.ensures
    (λ made e. e ∙ ap (λ xs. put callee.post xs c.args.terms.now) names)
