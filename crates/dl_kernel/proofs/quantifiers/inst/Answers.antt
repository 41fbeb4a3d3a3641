use Rattle.std.proofs.Common.{◌≡◌, true, false, Err, sym, ap, subst}
use Rattle.std.specs.Option.{option_map, option_and_then}
use Rattle.dl_model.specs.Sorts.{has}
use Rattle.dl_sequent.specs.Clean.{fact_names}
use Rattle.dl_kernel.specs.Parts.{as_universal}
use Rattle.dl_kernel.specs.Steps.{with_fact, part_of, instance, one_left, only_clean}
use Rattle.dl_kernel.specs.Seen.{IsStep}
use Rattle.dl_kernel.proofs.RuleLemmas.{one-none}
use Rattle.dl_kernel.proofs.EnterLemmas.{step-failed, fact-taken, inst-past_limit}
use Rattle.dl_kernel.proofs.quantifiers.inst.Goals as goal

pub returns-then-is_fact : goal.returns-then-is_fact
returns-then-is_fact c =
    let taken : has (fact_names c.args.sequent.now) c.args.name ≡ true = cc in
    fact-taken c.args.sequent.now c.args.sequent.now c.args.name (option_and_then (instance c.args.inst.now c.args.sequent.now c.args.what.now) (part_of as_universal c.args.sequent.now c.args.hyp)) taken

pub returns-in-Ok-Some : goal.returns-in-Ok-Some
returns-in-Ok-Some c =
    subst (IsStep c.assume.result c.assume.new.sequent)
    (ap (λ o. only_clean (one_left (option_map (with_fact c.args.sequent.now c.args.name) o))) (rw c.in-Ok-Some.field-0-is at c.in-Ok-Some.ensures.made)) c.assume.ensures

pub returns-in-Ok-None : goal.returns-in-Ok-None
returns-in-Ok-None c =
    one-none c.args.sequent.now _ (ap (λ o. one_left (option_map (with_fact c.args.sequent.now c.args.name) o)) (sym (rw c.in-Ok-None.field-0-is at c.in-Ok-None.ensures.made)))

pub returns-in-Err : goal.returns-in-Err
returns-in-Err c =
    let fresh : has (fact_names c.args.sequent.now) c.args.name ≡ false = cc in
    step-failed c.in-Err.fault c.args.sequent.now _
    (λ e. inst-past_limit c.args.inst.now c.args.sequent.now c.args.what.now c.args.hyp c.args.name c.requires.clean fresh (c.in-Err.ensures.limit (ap (λ f. Err f) e)))
