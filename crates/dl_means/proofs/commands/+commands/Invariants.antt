use Rattle.std.proofs.Common.{◌≡◌, drop}
use Rattle.std.specs.List.{list_all}
use Rattle.dl_means.specs.Known.{words_of}
use Rattle.dl_means.specs.Says.{says_command}
use Rattle.dl_means.proofs.commands.+commands.Given as goal

abbrev pub invariant-says_commands-loop-command : goal.invariant-says_commands-loop-command
invariant-says_commands-loop-command l =
    list_all (says_command l.names (words_of l.words)) (drop l.command-index l.commands) ≡ list_all (says_command l.names (words_of l.words)) l.commands
