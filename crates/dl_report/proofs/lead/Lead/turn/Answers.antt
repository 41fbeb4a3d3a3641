use Rattle.std.proofs.Common.{arith, rules}
use Rattle.std.proofs.lemmas.Fmt.{length-decimal-le}
use Rattle.dl_report.proofs.lead.Lead.turn.Goals as goal

pub write_digits-self-inside-requires : goal.write_digits-self-inside-requires
write_digits-self-inside-requires c = (omega (arith, length-decimal-le 20 c.args.tens (omega arith) (omega arith) c.ranges.tens.fits), search rules)
