use Rattle.std.proofs.Common.{◌≡◌, ◌++◌, ◌∷◌, [], filter, ap, ◌∙◌}
use Rattle.dl_model.specs.Lookup.{arg_names}
use Rattle.dl_inv.specs.Code.{says_something}
use Rattle.dl_triples.specs.Obligations.{put}
use Rattle.dl_inv.proofs.Listing.{where-done}
use Rattle.dl_parts.proofs.sends.add_precondition.Goals as goal

pub returns : goal.returns
returns c =
    let callee = c.args.callee.now in
    let names : c.as_slice-2.result.now ≡ arg_names callee.params =
    c.as_slice-2.ensures ∙ (c.in_ok-add_names.ensures ∙ (λ i. c.new-names.ensures i ++ arg_names (c.as_slice.ensures i))) in
    let made = c.in_ok-formula.ensures ∙ ap (λ xs. put callee.pre xs c.args.args.now) names in
    where-done c.add_part.result (c.add_part.new.parts ≡ c.args.parts.now ++ filter says_something (c.in_ok-formula.formula ∷ []))
    (c.add_part.new.parts ≡ c.args.parts.now ++ filter says_something (put callee.pre (arg_names callee.params) c.args.args.now ∷ [])) c.add_part.ensures
    (λ e. e ∙ ap (λ f. c.args.parts.now ++ filter says_something (f ∷ [])) made)
