use Rattle.std.proofs.Common.{◌≡◌, ◌++◌, map, drop}
use Rattle.dl_shown.specs.Programs.{command_of}
use Rattle.dl_shown.proofs.programs.+command.Given as goal

abbrev pub invariant-add_commands-loop-one : goal.invariant-add_commands-loop-one
invariant-add_commands-loop-one l =
    l.parts ++ map (command_of l.names l.decls) (drop l.one-index l.commands) ≡ l.initial.parts ++ map (command_of l.names l.decls) l.commands
