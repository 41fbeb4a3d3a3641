use Rattle.std.proofs.Common.{◌+◌, ◌*◌}
use Rattle.dl_term.specs.Measures.{parts}
use Rattle.dl_wp.proofs.before.+term_before.Given as goal

abbrev pub decreases-term_before : goal.decreases-term_before
decreases-term_before l = 4 * parts l.term.now

abbrev pub decreases-boxed_before : goal.decreases-boxed_before
decreases-boxed_before l = 4 * parts l.term.now + 1

abbrev pub decreases-two_before : goal.decreases-two_before
decreases-two_before l = 4 * (parts l.left.now + parts l.right.now) + 2

abbrev pub decreases-read_before : goal.decreases-read_before
decreases-read_before l = 4 * parts l.node.now + 1

abbrev pub decreases-row_read_before : goal.decreases-row_read_before
decreases-row_read_before l = 4 * (parts l.node.now + parts l.index.now) + 2

abbrev pub decreases-row_at_node_before : goal.decreases-row_at_node_before
decreases-row_at_node_before l = 4 * parts l.index.now + 1
