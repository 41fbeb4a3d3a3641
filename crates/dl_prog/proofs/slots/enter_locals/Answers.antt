use Rattle.std.proofs.Common.{◌≡◌, ◌<◌, ◌≤◌, true, pos, length, take, get_or, refl, sym, subst, ◌∙◌, arith}
use Rattle.std.proofs.lemmas.List.{take_all, length-set}
use Rattle.dl_model.specs.Sorts.{has}
use Rattle.dl_prog.specs.declared.slots.Slot.{Slot}
use Rattle.dl_prog.specs.Slots.{syms_of}
use Rattle.dl_prog.proofs.SlotLemmas.{zero-set, has-front, syms-more}
use Rattle.dl_prog.proofs.slots.enter_locals.Goals as goal

pub returns-clause-names : goal.returns-clause-names
returns-clause-names c =
    let past : length c.args.locals.now ≤ c.loop-at.at = omega arith in
    let few : c.loop-at.at ≤ 16 = omega arith in
    let all : syms_of (take c.loop-at.at c.loop-at.slots) ≡ c.args.locals.now = c.loop-at.invariant.2 ∙ take_all c.loop-at.at c.args.locals.now past in
    record { each = λ x h. has-front c.loop-at.at 16 c.loop-at.slots x few (subst (λ ys. has ys x ≡ true) (sym all) h) }

pub loop-at-preserved : goal.loop-at-preserved
loop-at-preserved c =
    let within : c.loop-at.at < length c.args.locals.now = omega arith in
    let inside : c.loop-at.at < length c.loop-at.slots = omega arith in
    let new : Slot = record { sym = get_or c.args.locals.now c.loop-at.at 0; value = pos 0 } in (
      length-set c.loop-at.slots c.loop-at.at new ∙ c.loop-at.invariant.0,
      zero-set c.loop-at.slots c.loop-at.at new c.loop-at.invariant.1 refl,
      syms-more c.loop-at.slots c.args.locals.now c.loop-at.at new within inside refl c.loop-at.invariant.2,
    )
