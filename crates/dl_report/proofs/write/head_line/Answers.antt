use Rattle.std.proofs.Common.{codes, decimal, [], ◌∷◌}
use Rattle.dl_report.specs.Layout.{order_word}
use Rattle.dl_report.proofs.Written.{on_line}
use Rattle.dl_report.proofs.write.head_line.Goals as goal

pub returns : goal.returns
returns c =
    on_line c.byte.result c.byte.new.out.items c.text.new.out.items c.behind_run.new.out.items c.args.out.now.items (codes "run")
    (codes "budget" ∷ decimal c.args.budget ∷ codes "order" ∷ order_word c.args.order ∷ [])
    c.in_ok-text.ensures c.in_ok-behind_run.ensures c.byte.ensures
