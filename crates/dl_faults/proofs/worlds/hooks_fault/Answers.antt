use Rattle.std.proofs.Common.{◌≡◌, ℕ, suc, ◌+◌, ◌<◌, List, ◌∷◌, length, get_or, drop, drop-cons, sym, ap, subst, ◌∙◌, arith}
use Rattle.dl_faults.specs.Wrong.{joined}
use Rattle.dl_faults.specs.Worlds.{hook_wrong}
use Rattle.dl_faults.proofs.Earliest.{to_come, one-more}
use Rattle.dl_faults.proofs.worlds.hooks_fault.Goals as goal

pub loop-position-preserved : goal.loop-position-preserved
loop-position-preserved c =
    let f = hook_wrong c.args.file.now c.args.w c.args.world.now in
    let hooks = c.args.world.now.hooks in
    let items = c.as_slice-hook-items.result.now in
    let i = c.loop-position.position in
    let found = c.loop-position.found in
    let within : i < length items = omega arith in
    let here : drop i hooks ≡ get_or items i 0 ∷ drop (suc i) hooks =
    subst (λ (xs : List ℕ). drop i xs ≡ get_or items i 0 ∷ drop (suc i) xs) c.as_slice-hook-items.ensures (drop-cons items i 0 within) in
    ap (λ o. joined o (to_come f hooks (i + 1))) (c.earlier_of-found.ensures ∙ ap (joined found) c.hook_fault.ensures)
    ∙ (sym (one-more f hooks i (get_or items i 0) found here) ∙ c.loop-position.invariant)
