use Rattle.std.proofs.Common.{◌≡◌, ◌++◌, filter, ap, ◌∙◌}
use Rattle.dl_inv.specs.Joined.{nested, all_of}
use Rattle.dl_inv.specs.Code.{says_something}
use Rattle.dl_inv.proofs.Building.{where-ok}
use Rattle.dl_triples.specs.Built.{entered_parts}
use Rattle.dl_parts.proofs.sends.entered.Goals as goal

pub returns : goal.returns
returns c =
    let decls = c.args.decls.now in
    where-ok c.join.result (λ made. made ≡ nested c.add_entered.new.parts) (λ made. made ≡ all_of (entered_parts decls c.args.known.now c.args.frame.now c.args.callee.now c.args.args.now)) c.join.ensures
    (λ made e. e ∙ ap nested (c.in_ok-add_entered.ensures
    ∙ ap (λ xs. xs ++ filter says_something (entered_parts decls c.args.known.now c.args.frame.now c.args.callee.now c.args.args.now)) c.new-parts.ensures))
