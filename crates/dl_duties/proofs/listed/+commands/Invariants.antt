use Rattle.std.proofs.Common.{◌≡◌, ◌+◌, ◌++◌, drop}
use Rattle.dl_triples.specs.Commands.{points_of_commands, duties_of_commands}
use Rattle.dl_duties.proofs.listed.+commands.Given as goal

abbrev pub invariant-add_of_commands-loop-command : goal.invariant-add_of_commands-loop-command
invariant-add_of_commands-loop-command l =
    (l.next + points_of_commands (drop l.command-index l.commands) ≡ l.first + points_of_commands l.commands)
    × (l.list ++ duties_of_commands l.decls l.number l.next (drop l.command-index l.commands) ≡ l.initial.list ++ duties_of_commands l.decls l.number l.first l.commands)
