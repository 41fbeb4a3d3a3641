use Rattle.std.proofs.Common.{[], sym, subst}
use Rattle.dl_model.specs.declared.protocol.Instances.{Instances}
use Rattle.dl_model.specs.Formed.{InstancesAreFormed}
use Rattle.dl_trials_kernel.proofs.replays.replayed.Goals as goal

-- nothing stands in the lists
abbrev bare : Instances
bare = record { nodes = 2; protocols = []; of = [] }

bare-formed : InstancesAreFormed bare
bare-formed = record { protocols = λ p protocol e. cc; labels = tt }

pub replay-answer-requires-clause-formed : goal.replay-answer-requires-clause-formed
replay-answer-requires-clause-formed c = subst InstancesAreFormed (sym c.instances-inst.ensures) bare-formed
