use Rattle.std.proofs.Common.{decimal}
use Rattle.dl_report.proofs.Written.{on_word}
use Rattle.dl_report.proofs.lead.Lead.append_word.Goals as goal

pub returns : goal.returns
returns c = on_word c.append.result c.append.new.out.items c.byte.new.out.items c.args.out.now.items (decimal c.args.number) c.in_ok-byte.ensures c.append.ensures
