use Rattle.dl_formed.specs.Scoped.{scope_of}
use Rattle.dl_formed.proofs.Knowing.{judged-narrow}
use Rattle.dl_formed.proofs.terms.is_term.Goals as goal

pub returns-clause-narrow : goal.returns-clause-narrow
returns-clause-narrow c = judged-narrow (scope_of c.args.known.now) c.args.term.now c.is_judged.result c.is_judged.ensures
