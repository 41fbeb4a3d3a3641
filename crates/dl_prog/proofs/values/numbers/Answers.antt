use Rattle.std.proofs.Common.{rules, ◌≡◌, ◌<◌, ◌≤◌, length, ◌∙◌, sym, arith, to_z, of_z, w64}
use Rattle.dl_model.specs.Machine.{value_of}
use Rattle.dl_model.specs.Sorts.{is_i64}
use Rattle.dl_prog.specs.Slots.{named}
use Rattle.dl_prog.proofs.ValueLemmas.{fits, numbers-more, numbers-packed}
use Rattle.dl_prog.proofs.values.numbers.Goals as goal

pub loop-at-preserved : goal.loop-at-preserved
loop-at-preserved c =
    let names = named c.args.slots.now in
    let item = c.index-terms-at.result in
    let same : to_z w64 (of_z w64 c.in-Some.value) ≡ c.in-Some.value = search rules in
    let within : c.loop-at.at < length c.args.terms.now = omega arith in
    let here = fits (is_i64 (value_of item names)) (value_of item names) c.in-Some.value (sym c.number.ensures ∙ c.in-Some.is) in
    numbers-more c.args.terms.now names c.loop-at.values c.loop-at.at item (to_z w64 (of_z w64 c.in-Some.value)) c.in-Some.value within c.requires.few c.index-terms-at.is same here.1 here.0
    c.loop-at.invariant.0 c.loop-at.invariant.1

pub returns : goal.returns
returns c =
    let past : length c.args.terms.now ≤ c.loop-at.at = omega arith in
    let least : c.loop-at.at ≤ length c.args.terms.now = omega arith in
    numbers-packed c.args.terms.now (named c.args.slots.now) c.loop-at.values c.loop-at.at past least c.loop-at.invariant.0 c.loop-at.invariant.1
