use Rattle.std.proofs.Common.{◌≡◌, ◌++◌, filter, ap, ◌∙◌}
use Rattle.dl_model.specs.Lookup.{world_at}
use Rattle.dl_inv.specs.Joined.{nested}
use Rattle.dl_inv.specs.Code.{says_something}
use Rattle.dl_inv.proofs.Building.{where-ok}
use Rattle.dl_triples.specs.Obligations.{allowed}
use Rattle.dl_triples.specs.Built.{allowed_parts}
use Rattle.dl_parts.proofs.sends.allowed.Goals as goal

pub returns : goal.returns
returns c =
    let decls = c.args.decls.now in
    let world = world_at decls c.args.proc.now.world in
    where-ok c.join.result (λ made. made ≡ nested c.add_allowed.new.parts) (λ made. made ≡ allowed decls world c.args.known.now c.args.label c.args.tag c.args.step.now) c.join.ensures
    (λ made e. e ∙ ap nested (c.in_ok-add_allowed.ensures
    ∙ ap (λ xs. xs ++ filter says_something (allowed_parts decls world c.args.known.now c.args.label c.args.tag c.args.step.now)) c.new-parts.ensures))
