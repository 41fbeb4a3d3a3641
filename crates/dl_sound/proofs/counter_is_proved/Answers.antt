use Rattle.dl_sound.proofs.Counted.{counter-met, counter-good}
use Rattle.dl_model.proofs.Examples.{counter-formed, counter-keeps}
use Rattle.dl_sound.proofs.counter_is_proved.Goals as goal

pub returns-clause-formed : goal.returns-clause-formed
returns-clause-formed c = counter-formed

pub returns-clause-worlds : goal.returns-clause-worlds
returns-clause-worlds c = counter-keeps

pub returns-clause-met : goal.returns-clause-met
returns-clause-met c = counter-met

pub returns-clause-holds : goal.returns-clause-holds
returns-clause-holds c = counter-good
