use Rattle.std.proofs.Common.{◌≡◌, drop}
use Rattle.std.specs.List.{list_all}
use Rattle.dl_formed.specs.Decided.{tag_is_apart}
use Rattle.dl_formed.proofs.apart.tags_are_apart.Given as goal

abbrev pub invariant-loop-tag : goal.invariant-loop-tag
invariant-loop-tag l = list_all (tag_is_apart l.names) (drop l.tag-index l.tags) ≡ list_all (tag_is_apart l.names) l.tags
