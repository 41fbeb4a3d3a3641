use Rattle.std.proofs.Common.{rules, arith, ◌≡◌, ◌<◌, ◌≤◌, ◌+◌}
use Rattle.dl_term.specs.Syntax.{opened}
use Rattle.dl_term.specs.Measures.{formula_parts}
use Rattle.dl_wp.specs.Code.{move_of}
use Rattle.dl_wp.proofs.Quantified.{each_grows, any_grows, no_room}
use Rattle.dl_wp.proofs.before.+before.Goals as goal

pub before-returns-in_err-body-in-Each-clause-lacks : goal.before-returns-in_err-body-in-Each-clause-lacks
unfolding opened
before-returns-in_err-body-in-Each-clause-lacks t c = λ e.
    rw (c.in-Each.is, ← c.is_over-over.ensures, ← c.get.ensures)
    (no_room c.args.room _ _ (each_grows (move_of c.args.plan.now.motion) c.is_over-over.result _ _ _ _) (search rules))

pub before-returns-in_err-body-in-Any-clause-lacks : goal.before-returns-in_err-body-in-Any-clause-lacks
unfolding opened
before-returns-in_err-body-in-Any-clause-lacks t c = λ e.
    rw (c.in-Any.is, ← c.is_over-over-in-Any.ensures, ← c.get-in-Any.ensures)
    (no_room c.args.room _ _ (any_grows (move_of c.args.plan.now.motion) c.is_over-over-in-Any.result _ _ _ _) (search rules))
