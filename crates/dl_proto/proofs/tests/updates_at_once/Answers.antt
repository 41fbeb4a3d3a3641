use Rattle.std.proofs.Common.{sym, subst, ◌∙◌}
use Rattle.dl_model.specs.Formed.{InstancesAreFormed}
use Rattle.dl_proto.proofs.Swappers.{swappers-formed}
use Rattle.dl_proto.proofs.tests.updates_at_once.Goals as goal

pub send-requires-clause-formed : goal.send-requires-clause-formed
send-requires-clause-formed g c = subst InstancesAreFormed (sym (c.in_ok-inst.ensures ∙ c.in_ok-swappers_file.ensures)) swappers-formed

pub enabled-requires : goal.enabled-requires
enabled-requires g c = subst InstancesAreFormed (sym (c.in_ok-inst.ensures ∙ c.in_ok-swappers_file.ensures)) swappers-formed

pub send-second-requires-clause-formed : goal.send-second-requires-clause-formed
send-second-requires-clause-formed g c = subst InstancesAreFormed (sym (c.in_ok-inst.ensures ∙ c.in_ok-swappers_file.ensures)) swappers-formed
