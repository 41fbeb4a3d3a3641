use Rattle.std.proofs.Common.{sym, subst}
use Rattle.dl_world.specs.Injected.{HooksAreDeclared}
use Rattle.dl_faults.proofs.KeptPrograms.{hooks-declared}
use Rattle.dl_faults.proofs.programs.proc_fault.Goals as goal

pub proc_fault_at-requires-clause-world : goal.proc_fault_at-requires-clause-world
proc_fault_at-requires-clause-world c =
    let decls = c.args.file.now.decls in
    subst (HooksAreDeclared decls) (sym c.world_of-world.ensures) (hooks-declared decls c.requires.formed c.args.proc.now.world)
