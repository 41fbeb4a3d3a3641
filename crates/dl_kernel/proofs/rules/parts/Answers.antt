use Rattle.std.proofs.Common.{◌≡◌, Some, None, sym, ◌∙◌, ap}
use Rattle.dl_kernel.specs.Parts.{as_and}
use Rattle.dl_kernel.specs.Steps.{part_of, parts_of_fact, only_clean}
use Rattle.dl_kernel.specs.Seen.{one_if}
use Rattle.dl_kernel.proofs.RuleLemmas.{same-left}
use Rattle.dl_kernel.proofs.rules.parts.Goals as goal

pub returns-in-Some : goal.returns-in-Some
returns-in-Some c =
    let is : Some c.in-Some.two ≡ part_of as_and c.args.sequent.now c.args.hyp = sym c.in-Some.is ∙ c.in_ok-two.ensures in
    same-left c.add_both-fits.result (λ one. one_if one c.add_both-fits.new.sequent) _ _
    (ap (λ p. only_clean (parts_of_fact c.args.sequent.now c.args.left c.args.right p)) is) c.add_both-fits.ensures

pub returns-in-None : goal.returns-in-None
returns-in-None c =
    let is : None ≡ part_of as_and c.args.sequent.now c.args.hyp = sym c.in-None.is ∙ c.in_ok-two.ensures in
    ap (λ p. only_clean (parts_of_fact c.args.sequent.now c.args.left c.args.right p)) is
