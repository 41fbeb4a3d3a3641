use Rattle.dl_report.proofs.write.call.Goals as goal

pub returns-in-Send : goal.returns-in-Send
returns-in-Send c = rw c.in-Send.is c.send.ensures

pub returns-in-Poll : goal.returns-in-Poll
returns-in-Poll c = rw c.in-Poll.is c.tagged.ensures

pub returns-in-Await : goal.returns-in-Await
returns-in-Await c = rw c.in-Await.is c.tagged-in-Await.ensures

pub returns-in-Read : goal.returns-in-Read
returns-in-Read c = rw c.in-Read.is c.read.ensures
