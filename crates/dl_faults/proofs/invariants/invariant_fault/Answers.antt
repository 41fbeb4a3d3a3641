use Rattle.std.proofs.Common.{subst, sym, arith}
use Rattle.dl_world.specs.Injected.{HooksAreDeclared}
use Rattle.dl_faults.proofs.KeptPrograms.{hooks-declared}
use Rattle.dl_faults.proofs.Stages.{invariant-told}
use Rattle.dl_faults.proofs.invariants.invariant_fault.Goals as goal

pub injection_fault-requires-clause-few : goal.injection_fault-requires-clause-few
injection_fault-requires-clause-few c = let few = c.requires.formed.small.hooks in omega (few, arith)

pub injection_fault-requires-clause-small : goal.injection_fault-requires-clause-small
injection_fault-requires-clause-small c =
    let decls = c.args.file.now.decls in
    subst (HooksAreDeclared decls) (sym c.world_of-world.ensures) (hooks-declared decls c.requires.formed c.args.invariant.now.world)

pub injection_fault-requires-clause-large : goal.injection_fault-requires-clause-large
injection_fault-requires-clause-large c =
    let decls = c.args.file.now.decls in
    subst (HooksAreDeclared decls) (sym c.composed-large.ensures) (hooks-declared decls c.requires.formed _)

pub returns : goal.returns
returns c =
    invariant-told c.args.file.now c.args.i c.args.invariant.now c.world_of-world.result.now c.composed-large.result.now c.invariant_place-place.result
    c.in_ok-spoken.spoken c.injection_fault.result c.earlier_of.result
    c.world_of-world.ensures c.composed-large.ensures c.invariant_place-place.ensures c.in_ok-spoken.ensures c.injection_fault.ensures c.earlier_of.ensures
