use Rattle.std.proofs.Common.{◌≡◌, ◌++◌, ◌∷◌, [], filter, ap, ◌∙◌}
use Rattle.dl_model.specs.Lookup.{Parameter, arg_names, arg_sorts}
use Rattle.std.proofs.Common.{List}
use Rattle.dl_inv.specs.Code.{says_something}
use Rattle.dl_triples.specs.Obligations.{all_in_sort, put}
use Rattle.dl_triples.specs.Built.{entered_parts}
use Rattle.dl_inv.proofs.Listing.{where-done}
use Rattle.dl_parts.proofs.Parts.{three-added}
use Rattle.dl_parts.proofs.sends.add_entered.Goals as goal

pub returns : goal.returns
returns c =
    let decls = c.args.decls.now in
    let known = c.args.known.now in
    let callee = c.args.callee.now in
    let first : c.add_sorts.new.parts ≡ c.args.parts.now ++ filter says_something (all_in_sort decls.inst known c.args.args.now (arg_sorts callee.params)) =
    c.in_ok-add_sorts.ensures ∙ ap (λ (params : List Parameter). c.args.parts.now ++ filter says_something (all_in_sort decls.inst known c.args.args.now (arg_sorts params))) c.as_slice-params.ensures in
    where-done c.add_frame.result (c.add_frame.new.parts ≡ c.add_precondition.new.parts ++ filter says_something (c.args.frame.now ∷ []))
    (c.add_frame.new.parts ≡ c.args.parts.now ++ filter says_something (entered_parts decls known c.args.frame.now callee c.args.args.now)) c.add_frame.ensures
    (λ e. three-added says_something c.args.parts.now c.add_sorts.new.parts c.add_precondition.new.parts c.add_frame.new.parts (all_in_sort decls.inst known c.args.args.now (arg_sorts callee.params))
    (put callee.pre (arg_names callee.params) c.args.args.now) c.args.frame.now first c.in_ok-add_precondition.ensures e)
