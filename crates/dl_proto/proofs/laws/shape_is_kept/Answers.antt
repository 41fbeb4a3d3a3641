use Rattle.dl_model.specs.Lookup.{tag_at}
use Rattle.dl_model.specs.Steps.{names_of_send, names_of_receive, message_in, receive_at, statelet_sent, statelet_received}
use Rattle.dl_proto.proofs.UpdateLemmas.{updates-shaped}
use Rattle.dl_proto.proofs.FirstShape.{first-shaped}
use Rattle.dl_proto.proofs.laws.shape_is_kept.Goals as goal

pub returns-clause-first : goal.returns-clause-first
returns-clause-first c = first-shaped

pub returns-clause-sent : goal.returns-clause-sent
returns-clause-sent c inst state from label tag to args h =
    updates-shaped inst state state label from (names_of_send inst label tag from to args) (tag_at inst label tag).send.updates (statelet_sent inst state from label tag to args).soup h

pub returns-clause-received : goal.returns-clause-received
returns-clause-received c inst state node label id h =
    updates-shaped inst state state label node (names_of_receive inst label (message_in state label id) node) (receive_at inst label (message_in state label id)).updates (statelet_received inst state node label id).soup h
