use Rattle.std.proofs.Common.{sym, subst, arith}
use Rattle.dl_model.specs.Lookup.{proc_at}
use Rattle.dl_world.specs.Injected.{HooksAreDeclared}
use Rattle.dl_faults.proofs.KeptPrograms.{hooks-declared}
use Rattle.dl_faults.proofs.programs.program_fault.Goals as goal

pub injection_fault-requires-clause-few : goal.injection_fault-requires-clause-few
injection_fault-requires-clause-few c = let few = c.requires.formed.small.hooks in omega (few, arith)

pub injection_fault-requires-clause-small : goal.injection_fault-requires-clause-small
injection_fault-requires-clause-small c =
    let decls = c.args.file.now.decls in
    subst (HooksAreDeclared decls) (sym c.callee_world-small.ensures) (hooks-declared decls c.requires.formed (proc_at decls.procs c.args.program.now.proc).world)

pub injection_fault-requires-clause-large : goal.injection_fault-requires-clause-large
injection_fault-requires-clause-large c =
    let decls = c.args.file.now.decls in
    subst (HooksAreDeclared decls) (sym c.composed-large.ensures) (hooks-declared decls c.requires.formed _)
