use Rattle.dl_report.proofs.Written.{on_dot, on_equal}
use Rattle.dl_report.proofs.append.dotted.Goals as goal

pub returns : goal.returns
returns c =
    let last = c.byte.new.out.items in
    let named = on_equal c.short.result c.short.new.out.items last c.as_bytes.result.now c.args.name.now c.as_bytes.ensures.value c.short.ensures in
    on_dot c.short.result c.short.new.out.items c.word.new.out.items last c.args.out.now.items c.args.label.now c.args.name.now c.in_ok-word.ensures c.in_ok-byte.ensures named
