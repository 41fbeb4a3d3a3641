use Rattle.std.proofs.Common.{◌≡◌, ◌++◌, ap, ◌∙◌}
use Rattle.std.specs.List.{flat_map}
use Rattle.dl_inv.specs.Joined.{nested, all_of}
use Rattle.dl_inv.specs.Code.{hook_said, hooks_put}
use Rattle.dl_inv.proofs.Building.{hooks-said, where-ok}
use Rattle.dl_inv.proofs.hooks.all_hooks.Goals as goal

pub returns : goal.returns
returns c =
    let decls = c.args.decls.now in
    let send = c.args.send.now in
    where-ok c.join.result (λ made. made ≡ nested c.add_hooks.new.parts) (λ made. made ≡ all_of (hooks_put decls send.label send.tag send.terms.now c.args.hooks.now)) c.join.ensures
    (λ made e. e ∙ hooks-said decls send.label send.tag send.terms.now c.args.hooks.now c.add_hooks.new.parts
    (c.in_ok-add_hooks.ensures ∙ ap (λ xs. xs ++ flat_map (hook_said decls send) c.args.hooks.now) c.new-parts.ensures))
