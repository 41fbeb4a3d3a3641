use Rattle.std.proofs.Common.{Some, ap}
use Rattle.dl_kernel.specs.Steps.{cases_of_fact, only_clean}
use Rattle.dl_kernel.specs.Seen.{two_if}
use Rattle.dl_kernel.proofs.RuleLemmas.{same-left}
use Rattle.dl_kernel.proofs.rules.decide.Goals as goal

pub returns : goal.returns
returns c =
    same-left c.add_either-one.result (λ one. two_if one c.add_either-one.new.sequent) _ _
    (ap (λ t. only_clean (cases_of_fact c.args.sequent.now c.args.name (Some t))) c.in_ok-two.ensures) c.add_either-one.ensures
