use Rattle.std.proofs.Common.{refl}
use Rattle.dl_inv.proofs.Injecting.{injects-is, is-injects}
use Rattle.dl_inv.proofs.laws.injection_is_told.Goals as goal

pub returns-clause-told : goal.returns-clause-told
returns-clause-told c d small large = (injects-is d small large, is-injects d small large)

pub returns-clause-by_labels : goal.returns-clause-by_labels
returns-clause-by_labels c = refl

pub returns-clause-not_covered : goal.returns-clause-not_covered
returns-clause-not_covered c = refl
