use Rattle.std.proofs.Common.{◌∙◌, sym}
use Rattle.dl_report.proofs.Whole.{ending_taken, no_ending_line, no_ending_cut}
use Rattle.dl_report.proofs.read.take_ending.Goals as goal

pub returns-in_default : goal.returns-in_default
returns-in_default c = no_ending_cut c.args.names.now c.args.decls.now c.requires c.args.text.now c.in_default.ensures

pub ending_in-requires : goal.ending_in-requires
ending_in-requires c = c.requires.small

pub returns-in-Some-ending_in : goal.returns-in-Some-ending_in
returns-in-Some-ending_in c =
    ending_taken c.args.names.now c.args.decls.now c.requires c.args.text.now c.in-Some.line.now c.in-Some.rest.now c.in-Some-ending_in.ending
    c.in-Some.ensures (sym c.ending_in.ensures ∙ c.in-Some-ending_in.is)

pub returns-in-None : goal.returns-in-None
returns-in-None c =
    no_ending_line c.args.names.now c.args.decls.now c.requires c.args.text.now c.in-Some.line.now c.in-Some.rest.now c.in-Some.ensures (sym c.ending_in.ensures ∙ c.in-None.is)
