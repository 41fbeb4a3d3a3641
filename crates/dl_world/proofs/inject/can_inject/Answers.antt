use Rattle.dl_world.proofs.Injecting.{injection-says}
use Rattle.dl_world.proofs.inject.can_inject.Goals as goal

pub returns-clause-injects : goal.returns-clause-injects
returns-clause-injects c = rw c.inject.ensures (injection-says c.args.decls.now c.args.small.now c.args.large.now c.requires.small c.requires.large)
