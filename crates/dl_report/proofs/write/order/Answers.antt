use Rattle.dl_report.proofs.write.order.Goals as goal

pub returns-in-Oldest : goal.returns-in-Oldest
returns-in-Oldest c = rw c.in-Oldest.is c.word.ensures

pub returns-in-Newest : goal.returns-in-Newest
returns-in-Newest c = rw c.in-Newest.is c.word-in-Newest.ensures

pub returns-in-Seed : goal.returns-in-Seed
returns-in-Seed c = rw c.in-Seed.is c.by_seed.ensures
