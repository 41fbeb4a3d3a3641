use Rattle.std.proofs.Common.{◌≡◌, ◌++◌, ◌∷◌, [], None, filter, ap, ◌∙◌}
use Rattle.dl_term.specs.declared.syntax.Lab.TheVariants.{At}
use Rattle.dl_term.specs.declared.syntax.Sort.{Sort}
use Rattle.dl_term.specs.declared.syntax.Term.{Term}
use Rattle.dl_model.specs.declared.protocol.Tag.{Tag}
use Rattle.dl_model.specs.Lookup.{Parameter, arg_sorts, world_at}
use Rattle.dl_sequent.specs.Bounds.{node_sort, in_sort_formula}
use Rattle.dl_inv.specs.Code.{says_something}
use Rattle.dl_inv.specs.Steps.{all_hooks, tag_of}
use Rattle.dl_triples.specs.Obligations.{all_in_sort, send_rule}
use Rattle.dl_triples.specs.Built.{allowed_parts}
use Rattle.dl_inv.proofs.Listing.{where-done}
use Rattle.dl_parts.proofs.Parts.{four-added}
use Rattle.dl_parts.proofs.sends.add_allowed.Goals as goal

pub returns : goal.returns
returns c =
    let decls = c.args.decls.now in
    let known = c.args.known.now in
    let step = c.args.step.now in
    let world = world_at decls c.args.proc.now.world in
    let params : c.params_of-params.result.now ≡ (tag_of decls.inst None (At c.args.label) c.args.tag).args = c.params_of-params.ensures ∙ ap (λ (t : Tag). t.args) c.tag_of.ensures in
    let first : c.add_in_sort.new.parts ≡ c.args.parts.now ++ filter says_something (in_sort_formula decls.inst known step.to (node_sort decls.inst.nodes) ∷ []) =
    c.in_ok-add_in_sort.ensures ∙ ap (λ (s : Sort). c.args.parts.now ++ filter says_something (in_sort_formula decls.inst known step.to s ∷ [])) c.node_sort-node.ensures in
    let second : c.add_sorts.new.parts ≡ c.add_in_sort.new.parts ++ filter says_something (all_in_sort decls.inst known step.args (arg_sorts (tag_of decls.inst None (At c.args.label) c.args.tag).args)) =
    c.in_ok-add_sorts.ensures ∙ (λ i. c.add_in_sort.new.parts ++ filter says_something (all_in_sort decls.inst known (c.as_slice.ensures i) (arg_sorts (params i)))) in
    where-done c.add_hooks_met.result (c.add_hooks_met.new.parts ≡ c.add_rule.new.parts ++ filter says_something (all_hooks decls world c.args.label c.args.tag step ∷ []))
    (c.add_hooks_met.new.parts ≡ c.args.parts.now ++ filter says_something (allowed_parts decls world known c.args.label c.args.tag step)) c.add_hooks_met.ensures
    (λ e. four-added says_something c.args.parts.now c.add_in_sort.new.parts c.add_sorts.new.parts c.add_rule.new.parts c.add_hooks_met.new.parts
    (in_sort_formula decls.inst known step.to (node_sort decls.inst.nodes)) (all_in_sort decls.inst known step.args (arg_sorts (tag_of decls.inst None (At c.args.label) c.args.tag).args))
    (send_rule decls known c.args.label c.args.tag step) (all_hooks decls world c.args.label c.args.tag step) first second c.in_ok-add_rule.ensures e)
