-- The formulas that the code assumes at a place in a goal.
use Rattle.std.specs.Prelude.{List, ◌∷◌}
use Rattle.dl_term.specs.declared.syntax.Formula.{Formula}
use Rattle.dl_sequent.specs.declared.plain_goal.Assumed.{Assumed, Facts, More'}
use Rattle.dl_sequent.specs.Plain.{fact_formulas}

abbrev pub assumed : Assumed → List Formula
assumed (Facts facts) = fact_formulas facts.now
assumed (More' p outer formula) = formula.now ∷ assumed outer
