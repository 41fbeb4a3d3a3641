use Rattle.std.proofs.Common.{codes, [], ◌∷◌}
use Rattle.std.specs.Fmt.{signed_decimal}
use Rattle.dl_report.proofs.Written.{on_after}
use Rattle.dl_report.proofs.write.ended.Goals as goal

pub returns : goal.returns
returns c =
    on_after c.integer.result c.integer.new.out.items c.word.new.out.items c.args.out.now.items (codes "ended" ∷ []) (signed_decimal c.args.value.now ∷ []) c.in_ok-word.ensures c.integer.ensures
