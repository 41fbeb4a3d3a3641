use Rattle.dl_trials_soup.proofs.Letters.{inst-formed, shape-given}
use Rattle.dl_trials_soup.proofs.mail.soup.Goals as goal

pub make-requires-clause-formed : goal.make-requires-clause-formed
make-requires-clause-formed c = inst-formed c.in_ok-inst.inst c.in_ok-inst.ensures

pub make-requires-clause-shape : goal.make-requires-clause-shape
make-requires-clause-shape c = shape-given c.in_ok-inst.inst c.in_ok-shape.shape c.in_ok-inst.ensures c.in_ok-shape.ensures
