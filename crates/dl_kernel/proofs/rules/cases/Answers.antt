use Rattle.std.proofs.Common.{◌≡◌, Some, None, sym, ◌∙◌, ap}
use Rattle.dl_kernel.specs.Parts.{as_or}
use Rattle.dl_kernel.specs.Steps.{part_of, cases_of_fact, only_clean}
use Rattle.dl_kernel.specs.Seen.{two_if}
use Rattle.dl_kernel.proofs.RuleLemmas.{same-left}
use Rattle.dl_kernel.proofs.rules.cases.Goals as goal

pub returns-in-Some : goal.returns-in-Some
returns-in-Some c =
    let is : Some c.in-Some.two ≡ part_of as_or c.args.sequent.now c.args.hyp = sym c.in-Some.is ∙ c.in_ok-two.ensures in
    same-left c.add_either-one.result (λ one. two_if one c.add_either-one.new.sequent) _ _
    (ap (λ p. only_clean (cases_of_fact c.args.sequent.now c.args.name p)) is) c.add_either-one.ensures

pub returns-in-None : goal.returns-in-None
returns-in-None c =
    let is : None ≡ part_of as_or c.args.sequent.now c.args.hyp = sym c.in-None.is ∙ c.in_ok-two.ensures in
    ap (λ p. only_clean (cases_of_fact c.args.sequent.now c.args.name p)) is
