use Rattle.std.proofs.Common.{◌≡◌, ◌∷◌, ap, ◌∙◌}
use Rattle.dl_model.specs.Lookup.{world_at}
use Rattle.dl_inv.specs.Joined.{all_of}
use Rattle.dl_inv.specs.Code.{hooks_put}
use Rattle.dl_inv.specs.Steps.{all_hooks}
use Rattle.dl_inv.proofs.Building.{where-ok}
use Rattle.dl_parts.proofs.Parts.{hooks-same}
use Rattle.dl_parts.proofs.sends.hooks_met.Goals as goal

pub returns : goal.returns
returns c =
    let decls = c.args.decls.now in
    let step = c.args.step.now in
    let world = world_at decls c.args.proc.now.world in
    let terms : c.as_slice-2.result.now ≡ step.sender ∷ step.to ∷ step.args =
    c.as_slice-2.ensures ∙ (c.in_ok-terms.ensures ∙ ap (λ xs. step.sender ∷ step.to ∷ xs) c.as_slice.ensures) in
    where-ok c.hooks_in-met.result (λ made. made ≡ all_of (hooks_put decls c.args.label c.args.tag c.as_slice-2.result.now world.hooks)) (λ made. made ≡ all_hooks decls world c.args.label c.args.tag step) c.hooks_in-met.ensures
    (λ made e. e ∙ (ap (λ xs. all_of (hooks_put decls c.args.label c.args.tag xs world.hooks)) terms ∙ hooks-same decls world c.args.label c.args.tag step c.requires))
