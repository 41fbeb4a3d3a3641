use Rattle.std.proofs.Common.{rules, ◌≡◌, ◌<◌, ◌≤◌, ◌+◌, ◌-◌, [], pos, ℤ, length, take, drop, get_or, ap, refl, sym, ◌∙◌, arith, to_z, of_z, w64}
use Rattle.std.proofs.lemmas.List.{take_all, drop_all, length-set, take-set-le}
use Rattle.dl_model.specs.Lookup.{Parameter, arg_names}
use Rattle.dl_model.specs.Words.{me_names, with_numbers}
use Rattle.dl_prog.specs.declared.slots.Slot.{Slot}
use Rattle.dl_prog.specs.Slots.{named}
use Rattle.dl_prog.proofs.SlotLemmas.{me-first, args-more}
use Rattle.dl_prog.proofs.slots.enter_args.Goals as goal

pub returns-clause-names : goal.returns-clause-names
returns-clause-names c =
    let same : to_z w64 (of_z w64 c.args.me) ≡ c.args.me = search rules in
    let first = 25 - length c.args.params.now in
    let past : length c.args.params.now ≤ c.loop-at.at = omega arith in
    let whole : length c.loop-at.slots ≤ first + c.loop-at.at = omega arith in
    let all : take (first + c.loop-at.at) c.loop-at.slots ≡ c.loop-at.slots = take_all (first + c.loop-at.at) c.loop-at.slots whole in
    let none : drop c.loop-at.at c.args.params.now ≡ [] = drop_all c.loop-at.at c.args.params.now past in
    (λ i. with_numbers (named (sym all i)) (arg_names (sym none i)) (drop c.loop-at.at c.args.args.now))
    ∙ (c.loop-at.invariant.1 ∙ ap (λ v. with_numbers (me_names 0 v) (arg_names c.args.params.now) c.args.args.now) same)

pub returns-clause-front : goal.returns-clause-front
returns-clause-front c = c.loop-at.invariant.2

pub loop-at-init : goal.loop-at-init
loop-at-init c =
    let first = 25 - length c.args.params.now in
    let me = to_z w64 (of_z w64 c.args.me) in
    let new : Slot = record { sym = 4; value = me } in
    let next : first + 0 ≡ (first - 1) + 1 = omega arith in
    let within : first - 1 < length c.args.slots.now = omega arith in
    let far : 16 ≤ first - 1 = omega arith in (
      length-set c.args.slots.now (first - 1) new ∙ c.told-slots,
      ap (λ n. with_numbers n (arg_names c.args.params.now) c.args.args.now) (me-first c.args.slots.now (first - 1) (first + 0) me c.requires.zero next within),
      take-set-le 16 c.args.slots.now (first - 1) new far,
    )

pub loop-at-preserved : goal.loop-at-preserved
loop-at-preserved c =
    let first = 25 - length c.args.params.now in
    let d : Parameter = (0, record { low = pos 0; high = pos 0 }) in
    let value : ℤ = get_or c.args.args.now c.loop-at.at (pos 0) in
    let same : to_z w64 (of_z w64 value) ≡ value = search rules in
    let new : Slot = record { sym = (get_or c.args.params.now c.loop-at.at d).0; value = to_z w64 (of_z w64 value) } in
    let next : first + (c.loop-at.at + 1) ≡ (first + c.loop-at.at) + 1 = omega arith in
    let within : first + c.loop-at.at < length c.loop-at.slots = omega arith in
    let here : c.loop-at.at < length c.args.params.now = omega arith in
    let far : 16 ≤ first + c.loop-at.at = omega arith in (
      length-set c.loop-at.slots (first + c.loop-at.at) new ∙ c.loop-at.invariant.0,
      args-more c.loop-at.slots (first + c.loop-at.at) (first + (c.loop-at.at + 1)) c.loop-at.at c.args.params.now c.args.args.now new d next within here c.requires.same refl same ∙ c.loop-at.invariant.1,
      take-set-le 16 c.loop-at.slots (first + c.loop-at.at) new far ∙ c.loop-at.invariant.2,
    )
