use Rattle.dl_history.proofs.Histories.{run-soup, soup-run}
use Rattle.dl_history.proofs.laws.run_is_soup_run.Goals as goal

pub returns-clause-there : goal.returns-clause-there
returns-clause-there c = run-soup

pub returns-clause-back : goal.returns-clause-back
returns-clause-back c = soup-run
