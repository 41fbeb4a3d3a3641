use Rattle.std.proofs.Common.{rules, ◌≡◌, ◌<◌, ◌≤◌, ◌++◌, [], length, take, drop, ◌∙◌, arith, to_z, of_z, w64}
use Rattle.std.proofs.lemmas.List.{take_all, drop_all, length-set}
use Rattle.dl_prog.specs.Slots.{put_all}
use Rattle.dl_prog.proofs.SlotLemmas.{put-more, append-none}
use Rattle.dl_prog.proofs.slots.put.Goals as goal

pub returns : goal.returns
returns c =
    let same : to_z w64 (of_z w64 c.args.value) ≡ c.args.value = search rules in
    let past : length c.args.slots.now ≤ c.loop-at.at = omega arith in
    let front : take c.loop-at.at c.args.slots.now ≡ c.args.slots.now = take_all c.loop-at.at c.args.slots.now past in
    let back : drop c.loop-at.at c.args.slots.now ≡ [] = drop_all c.loop-at.at c.args.slots.now past in
    c.loop-at.invariant.1 ∙ ((λ i. put_all c.args.sym (same i) (front i) ++ back i) ∙ append-none (put_all c.args.sym c.args.value c.args.slots.now))

pub loop-at-preserved : goal.loop-at-preserved
loop-at-preserved c =
    let within : c.loop-at.at < length c.args.slots.now = omega arith in
    let inside : c.loop-at.at < length c.loop-at.slots = omega arith in (
      length-set c.loop-at.slots c.loop-at.at c.renew.new.slot ∙ c.loop-at.invariant.0,
      put-more c.args.sym (to_z w64 (of_z w64 c.args.value)) c.args.slots.now c.loop-at.slots c.loop-at.at _ c.renew.new.slot within inside c.renew.ensures c.loop-at.invariant.1,
    )
