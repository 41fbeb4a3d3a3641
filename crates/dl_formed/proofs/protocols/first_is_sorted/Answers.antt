use Rattle.std.proofs.Common.{rules, ◌≡◌, ◌<◌, false, sym}
use Rattle.dl_term.proofs.Quantifiers.{every_below-false}
use Rattle.dl_formed.specs.Decided.{is_sorted_at}
use Rattle.dl_formed.proofs.protocols.first_is_sorted.Goals as goal

pub returns-then-not-is_sorted_at : goal.returns-then-not-is_sorted_at
returns-then-not-is_sorted_at c =
    let below : c.loop-node.node < c.args.nodes = search rules in
    let fails : is_sorted_at c.args.field.now c.loop-node.node ≡ false = search rules in
    sym (every_below-false c.loop-node.node _ _ below fails)
