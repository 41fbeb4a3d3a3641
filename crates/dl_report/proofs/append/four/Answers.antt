use Rattle.dl_report.proofs.Written.{on_front}
use Rattle.dl_report.proofs.append.four.Goals as goal

pub returns : goal.returns
returns c = on_front c.few.result c.few.new.out.items c.text.new.out.items c.args.out.now.items c.args.first c.args.rest.now c.in_ok-text.ensures c.few.ensures
