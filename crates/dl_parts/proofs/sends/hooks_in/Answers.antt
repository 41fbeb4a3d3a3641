use Rattle.std.proofs.Common.{◌≡◌, ap, ◌∙◌}
use Rattle.dl_model.specs.Lookup.{world_at}
use Rattle.dl_inv.specs.Joined.{all_of}
use Rattle.dl_inv.specs.Code.{hooks_put}
use Rattle.dl_inv.proofs.Building.{where-ok}
use Rattle.dl_parts.proofs.sends.hooks_in.Goals as goal

pub returns : goal.returns
returns c =
    let decls = c.args.decls.now in
    where-ok c.all_hooks.result (λ made. made ≡ all_of (hooks_put decls c.args.label c.args.tag c.args.terms.now c.extent_of-extent.result.hooks.now))
    (λ made. made ≡ all_of (hooks_put decls c.args.label c.args.tag c.args.terms.now (world_at decls c.args.world).hooks)) c.all_hooks.ensures
    (λ made e. e ∙ ap (λ hooks. all_of (hooks_put decls c.args.label c.args.tag c.args.terms.now hooks)) c.extent_of-extent.ensures.hooks)
