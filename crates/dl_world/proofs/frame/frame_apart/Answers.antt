use Rattle.dl_model.specs.Spoken.{labels_of}
use Rattle.dl_world.proofs.Framing.{apart-says}
use Rattle.dl_world.proofs.frame.frame_apart.Goals as goal

pub returns-clause-apart : goal.returns-clause-apart
returns-clause-apart c = rw (c.check_formula.ensures, c.of.ensures, c.as_slice.ensures) (apart-says c.args.world.now (labels_of c.args.formula.now))
