use Rattle.std.proofs.Common.{◌∙◌, sym}
use Rattle.dl_report.proofs.Numbers.{integer_found, integer_missing}
use Rattle.dl_report.proofs.number.integer.Goals as goal

pub returns-then-is_number : goal.returns-then-is_number
returns-then-is_number c = integer_found c.args.word.now c.value_of_number.result (sym c.is_number.ensures ∙ c.if-is_number.true) c.value_of_number.ensures

pub returns-else-is_number : goal.returns-else-is_number
returns-else-is_number c = integer_missing c.args.word.now (sym c.is_number.ensures ∙ c.if-is_number.false)
