use Rattle.dl_sound.proofs.Bridge.{state-needs}
use Rattle.dl_sound.proofs.Kept.{free-good}
use Rattle.dl_sound.proofs.invariants_are_kept.Goals as goal

pub returns : goal.returns
returns c d formed worlds = free-good d (state-needs d formed worlds)
