use Rattle.std.proofs.Common.{◌+◌, ◌*◌}
use Rattle.dl_term.specs.Measures.{parts}
use Rattle.dl_wp.proofs.first.+term_first.Given as goal

abbrev pub decreases-term_first : goal.decreases-term_first
decreases-term_first l = 4 * parts l.term.now

abbrev pub decreases-boxed_first : goal.decreases-boxed_first
decreases-boxed_first l = 4 * parts l.term.now + 1

abbrev pub decreases-two_first : goal.decreases-two_first
decreases-two_first l = 4 * (parts l.left.now + parts l.right.now) + 2

abbrev pub decreases-field_first : goal.decreases-field_first
decreases-field_first l = 4 * parts l.node.now + 1

abbrev pub decreases-row_first : goal.decreases-row_first
decreases-row_first l = 4 * (parts l.node.now + parts l.index.now) + 2
