use Rattle.dl_sound.proofs.Games.{whole_game-formed, whole_game-keeps}
use Rattle.dl_programs.proofs.Example.{states-met, programs-met, whole_game-safe}
use Rattle.dl_programs.proofs.premises_can_be_met.Goals as goal

pub returns-clause-formed : goal.returns-clause-formed
returns-clause-formed c = whole_game-formed

pub returns-clause-worlds : goal.returns-clause-worlds
returns-clause-worlds c = whole_game-keeps

pub returns-clause-states : goal.returns-clause-states
returns-clause-states c = states-met

pub returns-clause-programs : goal.returns-clause-programs
returns-clause-programs c = programs-met

pub returns-clause-safe : goal.returns-clause-safe
returns-clause-safe c = whole_game-safe
