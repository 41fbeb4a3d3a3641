use Rattle.std.proofs.Common.{Some, ap}
use Rattle.dl_kernel.specs.Steps.{apply_fact, only_clean}
use Rattle.dl_kernel.specs.Seen.{two_if}
use Rattle.dl_kernel.proofs.RuleLemmas.{same-left}
use Rattle.dl_kernel.proofs.rules.have.Goals as goal

pub returns : goal.returns
returns c =
    same-left c.show_first-one.result (λ one. two_if one c.show_first-one.new.sequent) _ _
    (ap (λ t. only_clean (apply_fact c.args.sequent.now c.args.name (Some t))) c.in_ok-two.ensures) c.show_first-one.ensures
