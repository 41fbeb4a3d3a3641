-- A machine at the beginning of its program.
use Rattle.std.specs.Prelude.{◌≡◌}
use Rattle.dl_model.specs.declared.file.Program.{Program}
use Rattle.dl_model.specs.declared.file.Decls.{Decls}
use Rattle.dl_model.specs.Runs.{machine_of as first_machine}
use Rattle.dl_prog.specs.Places.{machine_of}
use Rattle.dl_prog.specs.Ready.{IsReady}
use Rattle.dl_history.specs.Runners.{Runner}

-- The runner is the program's node, with a machine at the beginning of the program.
pub record IsStarted (decls : Decls) (program : Program) (runner : Runner) : Type 0 where
  pub node : runner.0 ≡ program.node
  pub ready : IsReady decls.procs runner.1
  pub machine : machine_of decls.procs runner.1 ≡ first_machine decls program.node program
