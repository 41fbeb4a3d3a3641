use Rattle.dl_inv.proofs.Captured.{none-captured}
use Rattle.dl_inv.proofs.sequents.build.Goals as goal

pub fill-requires-clause-quiet : goal.fill-requires-clause-quiet
fill-requires-clause-quiet c = none-captured c.args.decls.now c.args.duty.now c.args.names.now c.requires.taken
