use Rattle.std.proofs.Common.{◌≡◌, drop}
use Rattle.std.specs.List.{list_all}
use Rattle.dl_points.specs.Passing.{command_passes}
use Rattle.dl_points.proofs.backward.+passes.Given as goal

abbrev pub invariant-all_pass-loop-command : goal.invariant-all_pass-loop-command
invariant-all_pass-loop-command l = list_all command_passes (drop l.command-index l.commands) ≡ list_all command_passes l.commands
