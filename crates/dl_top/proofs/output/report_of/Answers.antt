use Rattle.dl_top.proofs.Accepting.{accepted-worlds, report-of-tree}
use Rattle.dl_top.proofs.output.report_of.Goals as goal

pub report_of_file-requires-clause-formed : goal.report_of_file-requires-clause-formed
report_of_file-requires-clause-formed c = c.in-Ok.ensures.read.formed.decls

pub report_of_file-requires-clause-worlds : goal.report_of_file-requires-clause-worlds
report_of_file-requires-clause-worlds c = accepted-worlds c.args.tree c.in-Ok.checked.file c.in-Ok.checked.counts c.in-Ok.ensures

pub returns-in-Ok-clause-output : goal.returns-in-Ok-clause-output
returns-in-Ok-clause-output c =
    report-of-tree (λ output. output.text.items) (λ output. output.ended) c.args.serial c.args.budget c.args.order c.args.tree c.in-Ok.checked.file c.in-Ok.checked.counts c.report_of_file.result c.in-Ok.ensures
    c.report_of_file.ensures.output
