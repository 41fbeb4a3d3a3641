use Rattle.std.proofs.Common.{map, ap}
use Rattle.std.specs.Fmt.{signed_decimal}
use Rattle.dl_model.specs.Machine.{listed}
use Rattle.dl_report.proofs.Written.{on_same}
use Rattle.dl_report.proofs.write.arguments.Goals as goal

pub returns : goal.returns
returns c =
    on_same c.integers.result c.integers.new.out.items c.args.out.now.items (map signed_decimal c.values.result.now) (map signed_decimal (listed c.args.args.now)) (ap (map signed_decimal) c.values.ensures) c.integers.ensures
