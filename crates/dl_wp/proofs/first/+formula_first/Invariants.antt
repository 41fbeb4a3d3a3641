use Rattle.std.proofs.Common.{◌+◌, ◌*◌}
use Rattle.dl_term.specs.Measures.{formula_parts}
use Rattle.dl_wp.proofs.first.+formula_first.Given as goal

abbrev pub decreases-formula_first : goal.decreases-formula_first
decreases-formula_first l = 4 * formula_parts l.formula.now

abbrev pub decreases-body_first : goal.decreases-body_first
decreases-body_first l = 4 * formula_parts l.body.now + 1

abbrev pub decreases-bodies_first : goal.decreases-bodies_first
decreases-bodies_first l = 4 * (formula_parts l.left.now + formula_parts l.right.now) + 2
