use Rattle.std.proofs.Common.{◌<◌, sym, subst}
use Rattle.std.specs.List.{AllByRecursion as Each}
use Rattle.dl_world.proofs.tests.injected.Goals as goal

pub can_inject-requires-clause-small : goal.can_inject-requires-clause-small
can_inject-requires-clause-small c = subst (λ n. Each (λ hook. hook < n) c.in_ok-small.small.hooks) (sym c.requires) c.in_ok-small.ensures

pub can_inject-requires-clause-large : goal.can_inject-requires-clause-large
can_inject-requires-clause-large c = subst (λ n. Each (λ hook. hook < n) c.in_ok-large.large.hooks) (sym c.requires) c.in_ok-large.ensures
