use Rattle.std.proofs.Common.{◌≡◌, Err}
use Rattle.dl_inv.proofs.Kept.{goal-too-large}
use Rattle.dl_inv.specs.declared.sequents.BuildFault.{BuildFault}
use Rattle.dl_triples.specs.Obligations.{sequent_of}
use Rattle.dl_built.proofs.sequents.build.Goals as goal

pub returns-in-Err-clause-limit : goal.returns-in-Err-clause-limit
returns-in-Err-clause-limit c h =
    let was : c.fill.result ≡ Err BuildFault.Limit = cc (h, c.in-Err.is) in
    goal-too-large (sequent_of c.args.decls.now c.args.duty.now c.args.names.now) (c.fill.ensures.limit was)
