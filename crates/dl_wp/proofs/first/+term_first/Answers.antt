use Rattle.std.proofs.Common.{rules, arith, ◌≡◌, ℕ, ◌≤◌, ◌<◌, ◌+◌, Some, None, IfOk}
use Rattle.dl_term.specs.Syntax.{opened}
use Rattle.dl_term.specs.Measures.{parts}
use Rattle.dl_wp.specs.Steps.{spoken_of}
use Rattle.dl_wp.specs.First.{first_of as declared_first}
use Rattle.dl_wp.specs.First.{read_first as read_of}
use Rattle.dl_wp.specs.First.{term_first as term_of}
use Rattle.dl_wp.proofs.Sizes.{node_stays, index_stays}
use Rattle.dl_wp.proofs.first.+term_first.Goals as goal

-- a part that is no node stands in the result
wider : (room wide part whole : ℕ) → (room ≤ wide) × (1 ≤ wide) → (1 < part → part ≤ whole) → wide < part → room < whole
wider room wide part whole w stays lacks = let kept : part ≤ whole = stays (omega arith) in omega arith

pub field_first-returns-in_err-node-clause-lacks : goal.field_first-returns-in_err-node-clause-lacks
field_first-returns-in_err-node-clause-lacks t c = λ e.
    wider c.args.room c.max.result _ _ (omega arith, omega arith)
    (node_stays c.args.inst.now.nodes (declared_first (spoken_of c.args.inst.now c.args.own c.args.label) c.args.field) (term_of c.args.inst.now c.args.own c.args.node.now) None c.requires.some_node)
    (search rules)

pub field_first-returns-clause-made : goal.field_first-returns-clause-made
field_first-returns-clause-made t c = rw (← c.in_ok-node.ensures.made) c.read_first.ensures.made

pub field_first-returns-clause-left : goal.field_first-returns-clause-left
field_first-returns-clause-left t c = rw (← c.in_ok-node.ensures.made) c.read_first.ensures.left

pub field_first-returns-clause-lacks : goal.field_first-returns-clause-lacks
field_first-returns-clause-lacks t c = rw (← c.in_ok-node.ensures.made) c.read_first.ensures.lacks

pub row_first-returns-in_err-node-clause-lacks : goal.row_first-returns-in_err-node-clause-lacks
row_first-returns-in_err-node-clause-lacks t c = λ e.
    wider c.args.room c.max.result _ _ (omega arith, omega arith)
    (node_stays c.args.inst.now.nodes (declared_first (spoken_of c.args.inst.now c.args.own c.args.label) c.args.field) (term_of c.args.inst.now c.args.own c.args.node.now) (Some (term_of c.args.inst.now c.args.own c.args.index.now)) c.requires.some_node)
    (search rules)

pub row_first-returns-in_err-index-clause-lacks : goal.row_first-returns-in_err-index-clause-lacks
row_first-returns-in_err-index-clause-lacks t c = λ e.
    wider c.args.room c.max-2.result _ _ (omega arith, omega arith)
    (index_stays c.args.inst.now.nodes (declared_first (spoken_of c.args.inst.now c.args.own c.args.label) c.args.field) (term_of c.args.inst.now c.args.own c.args.node.now) (term_of c.args.inst.now c.args.own c.args.index.now) c.requires.some_node)
    (search rules)

pub row_first-returns-clause-made : goal.row_first-returns-clause-made
row_first-returns-clause-made t c = rw (← c.in_ok-node.ensures.made, ← c.in_ok-index.ensures.made) c.read_first.ensures.made

pub row_first-returns-clause-left : goal.row_first-returns-clause-left
row_first-returns-clause-left t c = rw (← c.in_ok-node.ensures.made, ← c.in_ok-index.ensures.made) c.read_first.ensures.left

pub row_first-returns-clause-lacks : goal.row_first-returns-clause-lacks
row_first-returns-clause-lacks t c = rw (← c.in_ok-node.ensures.made, ← c.in_ok-index.ensures.made) c.read_first.ensures.lacks

pub term_first-returns-in-Field-clause-made : goal.term_first-returns-in-Field-clause-made
unfolding opened
term_first-returns-in-Field-clause-made t c = rw (c.in-Field.is, ← c.get.ensures) c.field_first.ensures.made

pub term_first-returns-in-Field-clause-left : goal.term_first-returns-in-Field-clause-left
unfolding opened
term_first-returns-in-Field-clause-left t c = rw (c.in-Field.is, ← c.get.ensures) c.field_first.ensures.left

pub term_first-returns-in-Field-clause-lacks : goal.term_first-returns-in-Field-clause-lacks
unfolding opened
term_first-returns-in-Field-clause-lacks t c = rw (c.in-Field.is, ← c.get.ensures) c.field_first.ensures.lacks

pub term_first-returns-in-Row-clause-made : goal.term_first-returns-in-Row-clause-made
unfolding opened
term_first-returns-in-Row-clause-made t c = rw (c.in-Row.is, ← c.get-in-Row.ensures, ← c.get-in-Row-2.ensures) c.row_first.ensures.made

pub term_first-returns-in-Row-clause-left : goal.term_first-returns-in-Row-clause-left
unfolding opened
term_first-returns-in-Row-clause-left t c = rw (c.in-Row.is, ← c.get-in-Row.ensures, ← c.get-in-Row-2.ensures) c.row_first.ensures.left

pub term_first-returns-in-Row-clause-lacks : goal.term_first-returns-in-Row-clause-lacks
unfolding opened
term_first-returns-in-Row-clause-lacks t c = rw (c.in-Row.is, ← c.get-in-Row.ensures, ← c.get-in-Row-2.ensures) c.row_first.ensures.lacks
