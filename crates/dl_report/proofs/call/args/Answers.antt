use Rattle.std.proofs.Common.{rules, ◌≡◌, ◌<◌, ◌+◌, ◌∙◌, arith, to_z, of_z, w64}
use Rattle.std.proofs.lemmas.List.{length-set}
use Rattle.dl_report.proofs.Loops.{args_more, args_rest}
use Rattle.dl_report.proofs.call.args.Goals as goal

pub loop-at-preserved : goal.loop-at-preserved
loop-at-preserved c =
    let value = c.in-Some.value in
    let values = c.loop-at.values in
    let at = c.loop-at.at in
    let same : to_z w64 (of_z w64 c.in-Some.value) ≡ c.in-Some.value = search rules in
    let lt : c.loop-at.at < c.args.count = omega arith in
    let here : c.loop-at.at < 8 = omega arith in
    rw same (record {
      read = args_more values value c.loop-at.words c.integer.new.self c.args.words.now c.args.count at lt c.requires c.loop-at.invariant.many c.in-Some.ensures c.loop-at.invariant.read;
      rest = args_rest values value at here c.loop-at.invariant.many c.loop-at.invariant.rest;
      many = length-set values at value ∙ c.loop-at.invariant.many;
    })
