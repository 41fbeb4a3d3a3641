use Rattle.std.proofs.Common.{◌≡◌, take}
use Rattle.dl_formed.specs.Decided.{tag_names}
use Rattle.dl_formed.proofs.collect.names_of_tags.Given as goal

abbrev pub invariant-loop-tag : goal.invariant-loop-tag
invariant-loop-tag l = l.names ≡ tag_names (take l.tag-index l.tags)
