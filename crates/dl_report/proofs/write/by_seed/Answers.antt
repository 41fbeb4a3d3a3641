use Rattle.std.proofs.Common.{codes, decimal}
use Rattle.dl_report.proofs.Written.{on_longer}
use Rattle.dl_report.proofs.write.by_seed.Goals as goal

pub returns : goal.returns
returns c =
    on_longer c.digits.result c.digits.new.out.items c.word.new.out.items c.args.out.now.items (codes "seed:") (decimal c.args.seed) c.in_ok-word.ensures c.digits.ensures
