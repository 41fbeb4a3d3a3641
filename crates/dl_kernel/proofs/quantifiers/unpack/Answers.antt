use Rattle.std.proofs.Common.{◌≡◌, true, false, Err, sym, ◌∙◌, ap, subst}
use Rattle.dl_model.specs.Sorts.{has}
use Rattle.dl_sequent.specs.Clean.{fact_names}
use Rattle.dl_kernel.specs.Parts.{as_existential}
use Rattle.dl_kernel.specs.Steps.{with_fact, part_of}
use Rattle.dl_kernel.specs.Seen.{IsStep}
use Rattle.dl_kernel.proofs.StepLemmas.{not-entered}
use Rattle.dl_kernel.proofs.EnterLemmas.{step-failed, name-taken, fact-clean, fact-entered, fact-not_entered, fact-past_limit}
use Rattle.dl_kernel.proofs.quantifiers.unpack.Goals as goal

pub returns-then-not-is_new : goal.returns-then-not-is_new
returns-then-not-is_new c =
    not-entered (λ t. with_fact t c.args.name) c.args.inst.now c.args.sequent.now c.args.sequent.now c.args.new (part_of as_existential c.args.sequent.now c.args.hyp) (sym c.is_new.ensures ∙ c.if-not-is_new.true)

pub returns-then-is_fact : goal.returns-then-is_fact
returns-then-is_fact c =
    let taken : has (fact_names c.args.sequent.now) c.args.name ≡ true = cc in
    name-taken c.args.inst.now c.args.sequent.now c.args.sequent.now c.args.new c.args.name (part_of as_existential c.args.sequent.now c.args.hyp)
    taken

pub assume-requires : goal.assume-requires
assume-requires c = record {
  clean =
      fact-clean c.args.inst.now c.args.sequent.now c.name_fact.new.sequent c.args.hyp c.args.new c.requires.clean (sym c.is_new.ensures ∙ c.if-not-is_new.false)
      c.in-Ok-Some.formula (rw c.in-Ok-Some.field-0-is at c.in-Ok-Some.ensures.made);
}

pub returns-in-Ok-Some : goal.returns-in-Ok-Some
returns-in-Ok-Some c =
    subst (IsStep c.assume.result c.assume.new.sequent)
    (fact-entered c.args.inst.now c.args.sequent.now c.name_fact.new.sequent c.args.hyp c.args.new c.requires.clean (sym c.is_new.ensures ∙ c.if-not-is_new.false)
    c.args.name c.in-Ok-Some.formula (rw c.in-Ok-Some.field-0-is at c.in-Ok-Some.ensures.made))
    c.assume.ensures

pub returns-in-Ok-None : goal.returns-in-Ok-None
returns-in-Ok-None c =
    fact-not_entered c.args.inst.now c.args.sequent.now c.name_fact.new.sequent c.args.hyp c.args.new c.requires.clean (sym c.is_new.ensures ∙ c.if-not-is_new.false)
    c.args.name (rw c.in-Ok-None.field-0-is at c.in-Ok-None.ensures.made) c.name_fact.new.sequent

pub returns-in-Err : goal.returns-in-Err
returns-in-Err c =
    let fresh : has (fact_names c.args.sequent.now) c.args.name ≡ false = cc in
    step-failed c.in-Err.fault c.name_fact.new.sequent _
    (λ e. fact-past_limit c.args.inst.now c.args.sequent.now c.name_fact.new.sequent c.args.hyp c.args.new c.requires.clean (sym c.is_new.ensures ∙ c.if-not-is_new.false)
    c.args.name fresh (c.in-Err.ensures.limit (ap (λ f. Err f) e)))
