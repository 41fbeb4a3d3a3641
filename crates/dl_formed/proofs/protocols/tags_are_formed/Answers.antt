use Rattle.std.proofs.Common.{◌<◌, length, arith}
use Rattle.dl_formed.specs.Decided.{tag_is_formed}
use Rattle.dl_formed.proofs.Listing.{item-fails, item-passes}
use Rattle.dl_formed.proofs.protocols.tags_are_formed.Goals as goal

pub returns-then-not-branch : goal.returns-then-not-branch
returns-then-not-branch c =
    let within : c.loop-tag.tag-index < length c.args.tags.now = omega arith in
    item-fails (tag_is_formed c.args.protocol.now) c.args.tags.now c.loop-tag.tag-index c.tag-item.result c.in_ok-tag_is_formed.field-0 within c.tag-item.is c.in_ok-tag_is_formed.ensures c.if-not-branch.true c.loop-tag.invariant

pub loop-tag-preserved : goal.loop-tag-preserved
loop-tag-preserved c =
    let within : c.loop-tag.tag-index < length c.args.tags.now = omega arith in
    item-passes (tag_is_formed c.args.protocol.now) c.args.tags.now c.loop-tag.tag-index c.tag-item.result c.in_ok-tag_is_formed.field-0 within c.tag-item.is c.in_ok-tag_is_formed.ensures c.if-not-branch.false c.loop-tag.invariant
