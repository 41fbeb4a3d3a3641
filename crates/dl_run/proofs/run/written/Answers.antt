use Rattle.dl_run.proofs.RunLemmas.{written-of}
use Rattle.dl_run.proofs.run.written.Goals as goal

pub returns : goal.returns
returns c =
    written-of c.args.file.now c.args.budget c.args.order c.args.run.now c.as_slice.result.now c.history.result.now c.args.ends.now c.in_ok-text.text.items c.all_ended.result c.as_slice.ensures c.history.ensures.entries c.requires
    c.history.ensures.kept c.in_ok-text.ensures c.all_ended.ensures
