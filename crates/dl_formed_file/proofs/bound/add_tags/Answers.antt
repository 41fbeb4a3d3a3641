use Rattle.std.proofs.Common.{◌<◌, length, arith}
use Rattle.std.specs.List.{flat_map}
use Rattle.dl_model.specs.Formed.{tag_bound}
use Rattle.dl_formed_file.specs.Bound.{with_names}
use Rattle.dl_formed_file.proofs.BoundLemmas.{item-added}
use Rattle.dl_formed_file.proofs.bound.add_tags.Goals as goal

pub loop-tag-preserved : goal.loop-tag-preserved
loop-tag-preserved c =
    let within : c.loop-tag.tag-index < length c.args.tags.now = omega arith in
    item-added tag_bound c.loop-tag.set.keys c.add_tag.new.set.keys (with_names c.args.set.now.keys (flat_map tag_bound c.args.tags.now)) c.args.tags.now c.loop-tag.tag-index c.tag-item.result
    within c.tag-item.is c.in_ok-add_tag.ensures c.loop-tag.invariant
