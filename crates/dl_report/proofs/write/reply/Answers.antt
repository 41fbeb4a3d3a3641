use Rattle.dl_report.proofs.write.reply.Goals as goal

pub returns-in-Sent : goal.returns-in-Sent
returns-in-Sent c = rw c.in-Sent.is c.append_word.ensures

pub returns-in-Got : goal.returns-in-Got
returns-in-Got c = rw c.in-Got.is c.got.ensures

pub returns-in-Miss : goal.returns-in-Miss
returns-in-Miss c = rw c.in-Miss.is c.text.ensures

pub returns-in-Value : goal.returns-in-Value
returns-in-Value c = rw c.in-Value.is c.integer.ensures
