-- What each configuration of a run of a formed file has.
use Rattle.std.specs.List.{AllByRecursion as Each}
use Rattle.dl_model.specs.declared.file.Decls.{Decls}
use Rattle.dl_prog.specs.Ready.{IsReady}
use Rattle.dl_prog.specs.Places.{machine_of}
use Rattle.dl_proto.specs.Shaped.{IsShaped}
use Rattle.dl_history.specs.declared.config.Config.{Config}
use Rattle.dl_history.specs.Runners.{Runner}
use Rattle.dl_history.specs.Sends.{MachineIsGiven}

-- The machine was made for the file's procedures.
pub record ContIsGiven (decls : Decls) (runner : Runner) : Type 0 where
  pub ready : IsReady decls.procs runner.1
  pub sends : MachineIsGiven decls (machine_of decls.procs runner.1)

-- The state has the file's shape, and the machines were made for its procedures.
pub record IsGiven (decls : Decls) (config : Config) : Type 0 where
  pub shaped : IsShaped decls.inst config.state.state
  pub conts : Each (ContIsGiven decls) config.machines
