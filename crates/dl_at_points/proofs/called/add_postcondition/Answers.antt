use Rattle.std.proofs.Common.{◌≡◌, ◌++◌, ◌∷◌, [], ap, ◌∙◌}
use Rattle.dl_term.specs.declared.syntax.Term.{Var}
use Rattle.dl_model.specs.Lookup.{arg_names}
use Rattle.dl_model.specs.Words.{result_word}
use Rattle.dl_inv.specs.Steps.{called}
use Rattle.dl_inv.proofs.Listing.{where-done}
use Rattle.dl_triples.specs.Words.{post_word}
use Rattle.dl_triples.specs.Obligations.{put}
use Rattle.dl_at_points.proofs.called.add_postcondition.Goals as goal

pub returns : goal.returns
returns c =
    let callee = c.args.callee.now in
    let held : c.in_ok-held.field-0 ≡ put callee.post (result_word ∷ arg_names callee.params) (Var c.args.returned ∷ c.args.args.now) =
    c.in_ok-held.ensures ∙ ap (λ ts. put callee.post (result_word ∷ arg_names callee.params) ts) (c.as_slice.ensures ∙ c.in_ok-terms.ensures) in
    where-done c.add_fact.result (c.add_fact.new.facts ≡ c.args.facts.now ++ called post_word c.in_ok-held.field-0 ∷ [])
    (c.add_fact.new.facts ≡ c.args.facts.now ++ called post_word (put callee.post (result_word ∷ arg_names callee.params) (Var c.args.returned ∷ c.args.args.now)) ∷ []) c.add_fact.ensures
    (λ e. e ∙ ap (λ f. c.args.facts.now ++ called post_word f ∷ []) held)
