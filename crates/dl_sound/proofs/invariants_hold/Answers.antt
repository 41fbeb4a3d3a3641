use Rattle.dl_sound.proofs.Bridge.{state-needs}
use Rattle.dl_sound.proofs.Kept.{free-good}
use Rattle.dl_sound.proofs.Valid.{obligations-mean}
use Rattle.dl_sound.proofs.invariants_hold.Goals as goal

pub returns : goal.returns
returns c d formed worlds met = free-good d (state-needs d formed worlds) (obligations-mean d formed met)
