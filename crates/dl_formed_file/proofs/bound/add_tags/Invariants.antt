use Rattle.std.proofs.Common.{◌≡◌, drop}
use Rattle.std.specs.List.{flat_map}
use Rattle.dl_model.specs.Formed.{tag_bound}
use Rattle.dl_formed_file.specs.Bound.{with_names}
use Rattle.dl_formed_file.proofs.bound.add_tags.Given as goal

abbrev pub invariant-loop-tag : goal.invariant-loop-tag
invariant-loop-tag l = with_names l.set.keys (flat_map tag_bound (drop l.tag-index l.tags)) ≡ with_names l.initial.set.keys (flat_map tag_bound l.tags)
