use Rattle.dl_run.proofs.RunLemmas.{answer-reported}
use Rattle.dl_run.proofs.run.run_file.Goals as goal

pub returns : goal.returns
returns c =
    answer-reported (λ reported. reported.text.items) (λ reported. reported.ended) c.args.file.now c.args.budget c.args.order c.in_ok-run.run' c.report_of-answer.result c.requires.formed c.requires.worlds c.in_ok-run.ensures
    c.report_of-answer.ensures
