use Rattle.std.proofs.Common.{◌≡◌, Some, refl, ap, sym}
use Rattle.std.specs.Option.{option_map}
use Rattle.dl_kernel.specs.Steps.{with_fact, range_of, one_left, only_clean}
use Rattle.dl_kernel.specs.Seen.{one_if}
use Rattle.dl_kernel.proofs.RuleLemmas.{same-left, added, one-none}
use Rattle.dl_kernel.proofs.changes.range.Goals as goal

pub returns-in-Ok-Some : goal.returns-in-Ok-Some
returns-in-Ok-Some c =
    let s = c.args.sequent.now in
    let put = with_fact s c.args.name in
    let made : Some c.in-Ok-Some.formula ≡ range_of c.args.inst.now s c.args.term.now = rw c.in-Ok-Some.field-0-is at c.in-Ok-Some.ensures in
    same-left c.add_fact.result (λ fine. one_if fine c.add_fact.new.sequent) _ _
    (ap (λ o. only_clean (one_left (option_map put o))) made)
    (added c.add_fact.result c.add_fact.new.sequent (put c.in-Ok-Some.formula) (put c.in-Ok-Some.formula) refl c.add_fact.ensures.new c.add_fact.ensures.clean)

pub returns-in-Ok-None : goal.returns-in-Ok-None
returns-in-Ok-None c =
    one-none c.args.sequent.now _ (ap (λ o. one_left (option_map (with_fact c.args.sequent.now c.args.name) o)) (sym (rw c.in-Ok-None.field-0-is at c.in-Ok-None.ensures)))
