use Rattle.dl_sound.proofs.Games.{whole_game-formed, whole_game-keeps, whole_game-obligations, whole_game-run}
use Rattle.dl_sound.proofs.premises_can_be_met.Goals as goal

pub returns-clause-formed : goal.returns-clause-formed
returns-clause-formed c = whole_game-formed

pub returns-clause-worlds : goal.returns-clause-worlds
returns-clause-worlds c = whole_game-keeps

pub returns-clause-obligations : goal.returns-clause-obligations
returns-clause-obligations c = whole_game-obligations

pub returns-clause-run : goal.returns-clause-run
returns-clause-run c = whole_game-run
