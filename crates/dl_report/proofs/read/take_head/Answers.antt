use Rattle.std.proofs.Common.{◌∙◌, sym}
use Rattle.dl_report.proofs.Whole.{head_taken, no_head_line, no_head_cut}
use Rattle.dl_report.proofs.read.take_head.Goals as goal

pub returns-in_default : goal.returns-in_default
returns-in_default c = no_head_cut c.args.text.now c.in_default.ensures

pub returns-in-Some-head_in : goal.returns-in-Some-head_in
returns-in-Some-head_in c =
    head_taken c.args.text.now c.in-Some.line.now c.in-Some.rest.now c.in-Some-head_in.budget c.in-Some-head_in.order c.in-Some.ensures (sym c.head_in.ensures ∙ c.in-Some-head_in.is)

pub returns-in-None : goal.returns-in-None
returns-in-None c = no_head_line c.args.text.now c.in-Some.line.now c.in-Some.rest.now c.in-Some.ensures (sym c.head_in.ensures ∙ c.in-None.is)
