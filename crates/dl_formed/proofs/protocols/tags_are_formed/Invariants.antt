use Rattle.std.proofs.Common.{◌≡◌, drop}
use Rattle.std.specs.List.{list_all}
use Rattle.dl_formed.specs.Decided.{tag_is_formed}
use Rattle.dl_formed.proofs.protocols.tags_are_formed.Given as goal

abbrev pub invariant-loop-tag : goal.invariant-loop-tag
invariant-loop-tag l = list_all (tag_is_formed l.protocol) (drop l.tag-index l.tags) ≡ list_all (tag_is_formed l.protocol) l.tags
