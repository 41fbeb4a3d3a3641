use Rattle.std.proofs.Common.{◌+◌, ◌*◌}
use Rattle.dl_term.specs.Measures.{formula_parts}
use Rattle.dl_wp.proofs.before.+before.Given as goal

abbrev pub decreases-before : goal.decreases-before
decreases-before l = 4 * formula_parts l.formula.now

abbrev pub decreases-body_before : goal.decreases-body_before
decreases-body_before l = 4 * formula_parts l.body.now + 1

abbrev pub decreases-bodies_before : goal.decreases-bodies_before
decreases-bodies_before l = 4 * (formula_parts l.left.now + formula_parts l.right.now) + 2
