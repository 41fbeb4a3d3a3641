use Rattle.dl_sound.proofs.Bridge.{state-needs, program-needs, all-obligations}
use Rattle.dl_sound.proofs.Safe.{runs-safe}
use Rattle.dl_sound.proofs.programs_safe.Goals as goal

pub returns : goal.returns
returns c d formed worlds duties = runs-safe d (state-needs d formed worlds) (program-needs d formed worlds) (all-obligations d duties)
