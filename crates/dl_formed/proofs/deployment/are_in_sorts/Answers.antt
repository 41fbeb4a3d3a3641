use Rattle.std.proofs.Common.{sym, arith}
use Rattle.dl_formed.proofs.Running.{sorts-differ}
use Rattle.dl_formed.proofs.deployment.are_in_sorts.Goals as goal

pub returns-then-params-constants : goal.returns-then-params-constants
returns-then-params-constants c = sym (sorts-differ c.args.params.now c.args.constants.now (λ e. omega arith))
