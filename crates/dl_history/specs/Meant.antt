-- The configuration of the model that a configuration in memory stands for.
use Rattle.dl_model.specs.declared.file.Decls.{Decls}
use Rattle.dl_model.specs.Runs.{Config as ModelConfig}
use Rattle.dl_history.specs.declared.config.Config.{Config}
use Rattle.dl_history.specs.Runners.{machine_at}

-- the state, and the machine of each node that is in the list
abbrev pub meant : Decls → Config → ModelConfig
meant decls config = record { state = config.state.state; machines = machine_at decls.procs config.machines }
