use Rattle.std.proofs.Common.{◌≡◌, drop}
use Rattle.std.specs.List.{list_all}
use Rattle.dl_formed.specs.Sighted.{sight_of}
use Rattle.dl_formed.specs.Programs.{command_is_formed}
use Rattle.dl_formed.proofs.programs.+commands.Given as goal

abbrev pub invariant-commands_are_formed-loop-command : goal.invariant-commands_are_formed-loop-command
invariant-commands_are_formed-loop-command l = list_all (command_is_formed (sight_of l.inside)) (drop l.command-index l.commands) ≡ list_all (command_is_formed (sight_of l.inside)) l.commands
