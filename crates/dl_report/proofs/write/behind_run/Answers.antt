use Rattle.std.proofs.Common.{codes, decimal, [], ◌∷◌}
use Rattle.dl_report.specs.Layout.{order_word}
use Rattle.dl_report.proofs.Written.{after, on_after}
use Rattle.dl_report.proofs.write.behind_run.Goals as goal

pub returns : goal.returns
returns c =
    let old = c.args.out.now.items in
    let budget = decimal c.args.budget in
    let way = order_word c.args.way in
    let b1 = c.word.new.out.items in
    let b2 = c.natural.new.out.items in
    let b3 = c.word-2.new.out.items in
    on_after c.order.result c.order.new.out.items b3 old (codes "budget" ∷ budget ∷ codes "order" ∷ []) (way ∷ [])
    (after b3 b2 old (codes "budget" ∷ budget ∷ []) (codes "order" ∷ []) (after b2 b1 old (codes "budget" ∷ []) (budget ∷ []) c.in_ok-word.ensures c.in_ok-natural.ensures) c.in_ok-word-2.ensures) c.order.ensures
