use Rattle.std.proofs.Common.{rules, arith, ◌≡◌, ℕ, ◌<◌, ◌≤◌, ◌+◌}
use Rattle.dl_term.specs.Measures.{parts}
use Rattle.dl_wp.specs.Before.{update_at, read_before as read_of, row_read_before as row_read_of, term_before as term_of}
use Rattle.dl_wp.specs.Code.{step_of, around_of, index_in}
use Rattle.dl_wp.proofs.Sizes.{field_grows, row_grows, row_index_grows}
use Rattle.dl_wp.proofs.before.+term_before.Goals as goal

-- a part that is larger than the term that it is compared with stands in the result
beside : (room enough aside part whole : ℕ) → room ≤ enough → aside ≤ enough → (aside < part → part ≤ whole) → enough < part → room < whole
beside room enough aside part whole a b grows lacks = let kept : part ≤ whole = grows (omega arith) in omega arith

pub read_before-returns-in_err-node-clause-lacks : goal.read_before-returns-in_err-node-clause-lacks
read_before-returns-in_err-node-clause-lacks t c = λ e.
    beside c.args.room c.in_ok-enough.enough _ _ _ c.in_ok-enough.ensures.enough.0 c.in_ok-enough.ensures.enough.1
    (field_grows (step_of c.args.plan.now) c.args.label c.args.at (term_of (step_of c.args.plan.now) (around_of c.args.bound.now).over c.args.node.now))
    (search rules)

pub row_at_node_before-returns-in_err-index-clause-lacks : goal.row_at_node_before-returns-in_err-index-clause-lacks
row_at_node_before-returns-in_err-index-clause-lacks t c = λ e.
    let aside : parts (index_in (step_of c.args.plan.now) (update_at (step_of c.args.plan.now) c.args.label c.args.at)) ≤ c.in_ok-enough.enough =
    rw (← c.update_at-update.ensures, ← c.in_ok-place.ensures) c.in_ok-enough.ensures.enough.1 in
    beside c.args.room c.in_ok-enough.enough _ _ _ c.in_ok-enough.ensures.enough.0 aside
    (row_index_grows (step_of c.args.plan.now) c.args.label c.args.at c.args.node.now (term_of (step_of c.args.plan.now) (around_of c.args.bound.now).over c.args.index.now))
    (search rules)

pub row_read_before-returns-in_err-node-clause-lacks : goal.row_read_before-returns-in_err-node-clause-lacks
row_read_before-returns-in_err-node-clause-lacks t c = λ e.
    beside c.args.room c.in_ok-enough.enough _ _ _ c.in_ok-enough.ensures.enough.0 c.in_ok-enough.ensures.enough.1
    (row_grows (step_of c.args.plan.now) c.args.label c.args.at (term_of (step_of c.args.plan.now) (around_of c.args.bound.now).over c.args.node.now) (term_of (step_of c.args.plan.now) (around_of c.args.bound.now).over c.args.index.now))
    (search rules)
