use Rattle.std.proofs.Common.{◌≡◌, drop}
use Rattle.std.specs.List.{list_all}
use Rattle.dl_formed.specs.Programs.{command_is_apart}
use Rattle.dl_formed.proofs.apart.+commands.Given as goal

abbrev pub invariant-commands_are_apart-loop-command : goal.invariant-commands_are_apart-loop-command
invariant-commands_are_apart-loop-command l = list_all (command_is_apart l.names) (drop l.command-index l.commands) ≡ list_all (command_is_apart l.names) l.commands
