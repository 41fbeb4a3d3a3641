use Rattle.std.proofs.Common.{length}
use Rattle.dl_kernel.proofs.scope.+has_fact_names_once.Given as goal

abbrev pub decreases-has_fact_names_once : goal.decreases-has_fact_names_once
decreases-has_fact_names_once l = length l.facts.now
