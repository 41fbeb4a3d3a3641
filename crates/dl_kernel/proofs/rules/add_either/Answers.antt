use Rattle.std.proofs.Common.{ap}
use Rattle.dl_kernel.specs.Steps.{with_fact}
use Rattle.dl_kernel.proofs.RuleLemmas.{beside}
use Rattle.dl_kernel.proofs.rules.add_either.Goals as goal

pub returns : goal.returns
returns c =
    let s = c.args.sequent.now in
    beside c.add_beside.result (with_fact s c.args.name c.args.two.now.left) _ c.add_beside.new.sequent _ c.in_ok-one.one
    (ap (with_fact s c.args.name) c.take_right.ensures.part) c.add_beside.ensures.new c.add_beside.ensures.one c.in_ok-one.ensures
