use Rattle.std.proofs.Common.{◌≡◌, drop}
use Rattle.std.specs.List.{flat_map}
use Rattle.dl_formed_file.specs.Bound.{with_names, command_bound}
use Rattle.dl_formed_file.proofs.bound.+commands.Given as goal

abbrev pub invariant-add_commands-loop-command : goal.invariant-add_commands-loop-command
invariant-add_commands-loop-command l = with_names l.set.keys (flat_map command_bound (drop l.command-index l.commands)) ≡ with_names l.initial.set.keys (flat_map command_bound l.commands)
