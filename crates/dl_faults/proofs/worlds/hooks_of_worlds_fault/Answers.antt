use Rattle.std.proofs.Common.{◌≡◌, suc, ◌+◌, ◌<◌, List, ◌∷◌, length, drop, drop-cons, sym, ap, subst, ◌∙◌, arith}
use Rattle.dl_model.specs.declared.file.World.{World}
use Rattle.dl_faults.specs.Wrong.{joined}
use Rattle.dl_faults.specs.Worlds.{world_wrong}
use Rattle.dl_faults.proofs.Earliest.{to_come, one-more}
use Rattle.dl_faults.proofs.worlds.hooks_of_worlds_fault.Goals as goal

pub loop-w-preserved : goal.loop-w-preserved
loop-w-preserved c =
    let f = world_wrong c.args.file.now in
    let worlds = c.args.file.now.decls.worlds in
    let items = c.as_slice-world-items.result.now in
    let i = c.loop-w.w in
    let x = c.world-item.result in
    let found = c.loop-w.found in
    let within : i < length items = omega arith in
    let here : drop i worlds ≡ x ∷ drop (suc i) worlds =
    subst (λ (xs : List World). drop i xs ≡ x ∷ drop (suc i) xs) c.as_slice-world-items.ensures (drop-cons items i x within ∙ ap (λ y. y ∷ drop (suc i) items) (sym c.world-item.is)) in
    ap (λ o. joined o (to_come f worlds (i + 1))) (c.earlier_of-found.ensures ∙ ap (joined found) c.hooks_fault.ensures)
    ∙ (sym (one-more f worlds i x found here) ∙ c.loop-w.invariant)
