use Rattle.dl_report.proofs.write.state.Goals as goal

pub returns-in-Ended : goal.returns-in-Ended
returns-in-Ended c = rw c.in-Ended.is c.ended.ensures

pub returns-in-Stopped : goal.returns-in-Stopped
returns-in-Stopped c = rw c.in-Stopped.is c.word.ensures

pub returns-in-Spent : goal.returns-in-Spent
returns-in-Spent c = rw c.in-Spent.is c.word-in-Spent.ensures

pub returns-in-Waiting : goal.returns-in-Waiting
returns-in-Waiting c = rw c.in-Waiting.is c.word-in-Waiting.ensures
