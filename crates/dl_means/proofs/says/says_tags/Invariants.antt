use Rattle.std.proofs.Common.{◌≡◌, drop}
use Rattle.std.specs.List.{list_all}
use Rattle.dl_means.specs.Known.{words_of}
use Rattle.dl_means.specs.Says.{says_tag}
use Rattle.dl_means.proofs.says.says_tags.Given as goal

abbrev pub invariant-loop-tag : goal.invariant-loop-tag
invariant-loop-tag l =
    list_all (says_tag l.names (words_of l.words)) (drop l.tag-index l.tags) ≡ list_all (says_tag l.names (words_of l.words)) l.tags
