use Rattle.std.proofs.Common.{subst}
use Rattle.dl_soup.specs.Kept.{IsKept}
use Rattle.dl_soup.proofs.soup.Soup.state.Goals as goal

pub returns-clause-kept : goal.returns-clause-kept
returns-clause-kept c = subst IsKept c.self.view_is c.self.invariant.kept
