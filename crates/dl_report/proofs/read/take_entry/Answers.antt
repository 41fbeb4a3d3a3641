use Rattle.std.proofs.Common.{◌<◌, ◌^◌, ◌∙◌, sym, arith}
use Rattle.dl_report.proofs.Whole.{entry_taken, no_entry_line, no_entry_cut}
use Rattle.dl_report.proofs.read.take_entry.Goals as goal

pub returns-in_default : goal.returns-in_default
returns-in_default c =
    let lt : c.args.number < 2 ^ 64 = omega arith in
    no_entry_cut c.args.names.now c.args.decls.now c.requires c.args.number c.args.text.now lt c.in_default.ensures

pub entry_in-requires : goal.entry_in-requires
entry_in-requires c = c.requires.small

pub returns-in-Some-entry_in : goal.returns-in-Some-entry_in
returns-in-Some-entry_in c =
    entry_taken c.args.names.now c.args.decls.now c.requires c.args.number c.args.text.now c.in-Some.line.now c.in-Some.rest.now c.in-Some-entry_in.entry
    c.in-Some.ensures (sym c.entry_in.ensures ∙ c.in-Some-entry_in.is)

pub returns-in-None : goal.returns-in-None
returns-in-None c =
    let lt : c.args.number < 2 ^ 64 = omega arith in
    no_entry_line c.args.names.now c.args.decls.now c.requires c.args.number c.args.text.now c.in-Some.line.now c.in-Some.rest.now lt c.in-Some.ensures (sym c.entry_in.ensures ∙ c.in-None.is)
