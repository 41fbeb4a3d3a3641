use Rattle.std.proofs.Common.{◌∙◌, sym}
use Rattle.dl_report.proofs.Numbers.{natural_found, natural_missing}
use Rattle.dl_report.proofs.number.natural.Goals as goal

pub returns-then-is_natural : goal.returns-then-is_natural
returns-then-is_natural c = natural_found c.args.word.now c.value_of_digits.result (sym c.is_natural.ensures ∙ c.if-is_natural.true) c.value_of_digits.ensures

pub returns-else-is_natural : goal.returns-else-is_natural
returns-else-is_natural c = natural_missing c.args.word.now (sym c.is_natural.ensures ∙ c.if-is_natural.false)
