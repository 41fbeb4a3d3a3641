use Rattle.dl_kernel.proofs.LeftLemmas.{node-put, message-put, term-put}
use Rattle.dl_kernel.proofs.laws.nothing_is_captured.Goals as goal

pub returns-clause-nodes : goal.returns-clause-nodes
returns-clause-nodes c = λ vars messages sym body t h k. node-put vars messages sym body t h k

pub returns-clause-messages : goal.returns-clause-messages
returns-clause-messages c = λ vars messages msg other body h k. message-put vars messages msg other body h k

pub returns-clause-terms : goal.returns-clause-terms
returns-clause-terms c = λ vars messages e f h p q. term-put vars messages e f h p q
