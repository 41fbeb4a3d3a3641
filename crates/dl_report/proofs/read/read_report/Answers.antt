use Rattle.dl_report.proofs.Ready.{ready_is}
use Rattle.dl_report.proofs.Whole.{fault_in, only_report}
use Rattle.dl_report.proofs.read.read_report.Goals as goal

pub read-requires : goal.read-requires
read-requires c = record { short = c.requires.short; ready = ready_is c.args.names.now c.args.decls.now c.requires.formed c.requires.names }

pub returns : goal.returns
returns c =
    let names = c.args.names.now in
    let decls = c.args.decls.now in
    let text = c.args.text.now in
    let ready = ready_is names decls c.requires.formed c.requires.names in
    let fault = fault_in names decls ready text c.read.result c.requires.short c.read.ensures.stop in
    record {
      report = c.read.ensures.report;
      fault = fault;
      only = λ report is. only_report names decls ready text report c.read.result c.requires.short is c.read.ensures.report fault;
    }
