use Rattle.dl_report.proofs.Numbers.{natural_told, natural_is_utf8}
use Rattle.dl_report.proofs.number.value_of_digits.Goals as goal

pub returns-in-Ok : goal.returns-in-Ok
returns-in-Ok c = rw c.ok.ensures.value (natural_told c.args.word.now c.in-Ok.text.now c.parse.result c.requires c.in-Ok.ensures.cases.0 c.parse.ensures.value.0)

pub returns-in-Err : goal.returns-in-Err
returns-in-Err c = absurd (c.in-Err.ensures.cases.0 (natural_is_utf8 c.args.word.now c.requires))
