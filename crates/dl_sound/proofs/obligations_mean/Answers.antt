use Rattle.dl_sound.proofs.Valid.{obligations-mean}
use Rattle.dl_sound.proofs.obligations_mean.Goals as goal

pub returns : goal.returns
returns c = obligations-mean
