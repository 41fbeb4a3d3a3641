use Rattle.std.proofs.Common.{◌≡◌, drop}
use Rattle.std.specs.List.{list_all}
use Rattle.dl_means.specs.Known.{words_of}
use Rattle.dl_means.specs.Says.{says_update}
use Rattle.dl_means.proofs.says.says_updates.Given as goal

abbrev pub invariant-loop-update : goal.invariant-loop-update
invariant-loop-update l =
    list_all (says_update l.names (words_of l.words)) (drop l.update-index l.updates) ≡ list_all (says_update l.names (words_of l.words)) l.updates
