use Rattle.std.proofs.Common.{decimal, ◌∙◌}
use Rattle.dl_report.proofs.Written.{on_equal}
use Rattle.dl_report.proofs.append.digits.Goals as goal

pub returns : goal.returns
returns c = on_equal c.short.result c.short.new.out.items c.args.out.now.items c.as_bytes.result.now (decimal c.args.number) (c.as_bytes.ensures.value ∙ c.format.ensures.text) c.short.ensures
