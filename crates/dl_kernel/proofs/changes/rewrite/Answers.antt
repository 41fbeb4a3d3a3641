use Rattle.std.proofs.Common.{Err, sym, ap}
use Rattle.std.specs.Option.{option_map}
use Rattle.dl_kernel.specs.Steps.{one_left, put_target}
use Rattle.dl_kernel.proofs.RuleLemmas.{one-made, one-none}
use Rattle.dl_kernel.proofs.EnterLemmas.{step-failed}
use Rattle.dl_kernel.proofs.ChangeLemmas.{rewrite-limit}
use Rattle.dl_kernel.proofs.changes.rewrite.Goals as goal

pub returns-in-Ok-Some : goal.returns-in-Ok-Some
returns-in-Ok-Some c =
    let put = put_target c.args.sequent.now c.args.at in
    one-made (put c.in-Ok-Some.formula) c.put_target.new.sequent c.put_target.result _
    (ap (λ o. one_left (option_map put o)) (sym (rw c.in-Ok-Some.field-0-is at c.in-Ok-Some.ensures.made))) c.put_target.ensures.new c.put_target.ensures.clean

pub returns-in-Ok-None : goal.returns-in-Ok-None
returns-in-Ok-None c =
    one-none c.args.sequent.now _ (ap (λ o. one_left (option_map (put_target c.args.sequent.now c.args.at) o)) (sym (rw c.in-Ok-None.field-0-is at c.in-Ok-None.ensures.made)))

pub returns-in-Err : goal.returns-in-Err
returns-in-Err c =
    step-failed c.in-Err.fault c.args.sequent.now _
    (λ e. rewrite-limit c.args.sequent.now c.args.hyp c.args.at c.requires.clean (c.in-Err.ensures.limit (ap (λ f. Err f) e)))
