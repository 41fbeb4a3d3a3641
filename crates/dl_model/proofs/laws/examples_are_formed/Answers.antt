use Rattle.dl_model.proofs.Examples.{counter-formed, counter-keeps, mail-formed, mail-keeps, voting-formed, voting-keeps}
use Rattle.dl_model.proofs.laws.examples_are_formed.Goals as goal

pub returns-clause-counter : goal.returns-clause-counter
returns-clause-counter c = (counter-formed, counter-keeps)

pub returns-clause-mail : goal.returns-clause-mail
returns-clause-mail c = (mail-formed, mail-keeps)

pub returns-clause-voting : goal.returns-clause-voting
returns-clause-voting c = (voting-formed, voting-keeps)
