use Rattle.std.proofs.Common.{◌≡◌, ◌+◌, ◌-◌, ◌<◌, ◌≤◌, List, length, take, drop, sym, ◌∙◌, ap, arith}
use Rattle.dl_term.specs.Measures.{is_oversized}
use Rattle.dl_model.specs.declared.program.Command.{Command}
use Rattle.dl_model.specs.Block.{block_of}
use Rattle.dl_triples.specs.Points.{pre_of}
use Rattle.dl_points.specs.Passing.{after_of}
use Rattle.dl_points.specs.Finding.{next_at, next_in}
use Rattle.dl_inv.proofs.Listing.{where-done}
use Rattle.dl_points.proofs.Finding.{tail-is, next-here, next-later, next-none, if-next-left, if-next-right, while-next-first, while-next-later}
use Rattle.dl_points.proofs.points.+next.Goals as goal

pub next_over-returns-then-from-points-clause-made : goal.next_over-returns-then-from-points-clause-made
next_over-returns-then-from-points-clause-made t c =
    let commands = c.args.commands.now in
    let after = after_of c.args.trail.now in
    let command = c.index-commands-index.result in
    let past = c.loop-index.index + 1 in
    let is = ap (λ (cs : List Command). next_at command (pre_of (block_of cs) after) c.loop-index.left) (tail-is commands past)
    ∙ next-here commands c.loop-index.index c.loop-index.left c.count-points.result command after (next_in (block_of commands) after c.args.point)
    (omega arith) c.index-commands-index.is c.count-points.ensures (omega (arith, c.from.ensures, c.if-from-points.true)) c.loop-index.invariant.1 in
    where-done c.next_at_over.result (c.next_at_over.new.formula ≡ next_at command (pre_of (block_of (take (length commands - past) (drop past commands))) after) c.loop-index.left)
    (c.next_at_over.new.formula ≡ next_in (block_of commands) after c.args.point) c.next_at_over.ensures.made (λ e. e ∙ is)

pub next_over-returns-then-from-points-clause-limit : goal.next_over-returns-then-from-points-clause-limit
next_over-returns-then-from-points-clause-limit t c h =
    let commands = c.args.commands.now in
    let after = after_of c.args.trail.now in
    let command = c.index-commands-index.result in
    let past = c.loop-index.index + 1 in
    let is = ap (λ (cs : List Command). next_at command (pre_of (block_of cs) after) c.loop-index.left) (tail-is commands past)
    ∙ next-here commands c.loop-index.index c.loop-index.left c.count-points.result command after (next_in (block_of commands) after c.args.point)
    (omega arith) c.index-commands-index.is c.count-points.ensures (omega (arith, c.from.ensures, c.if-from-points.true)) c.loop-index.invariant.1 in
    sym (ap is_oversized is) ∙ c.next_at_over.ensures.limit h

pub next_over-loop-index-preserved : goal.next_over-loop-index-preserved
next_over-loop-index-preserved t c =
    let after = after_of c.args.trail.now in (
      omega (arith, c.loop-index.invariant.0),
      next-later c.args.commands.now c.loop-index.index c.loop-index.left c.count-points.result c.index-commands-index.result after (next_in (block_of c.args.commands.now) after c.args.point)
          (omega arith) c.index-commands-index.is c.loop-index.invariant.0 c.count-points.ensures (omega (arith, c.from.ensures, c.if-from-points.false)) c.loop-index.invariant.1,
    )

pub next_over-returns-clause-made : goal.next_over-returns-clause-made
next_over-returns-clause-made t c =
    let after = after_of c.args.trail.now in
    c.put_formula.ensures ∙ next-none c.args.commands.now c.loop-index.index c.loop-index.left after (next_in (block_of c.args.commands.now) after c.args.point) (omega arith) c.loop-index.invariant.1

pub next_at_over-returns-then-from-points-clause-made : goal.next_at_over-returns-then-from-points-clause-made
next_at_over-returns-then-from-points-clause-made t c =
    let after = after_of c.args.trail.now in
    let is = if-next-left c.args.command.now c.in-If.test c.in-If.yes c.in-If.no c.as_slice.result.now c.as_slice-then-from-points.result.now after c.args.point c.count_all-points.result
    c.in-If.is c.as_slice.ensures c.as_slice-then-from-points.ensures c.count_all-points.ensures (omega (arith, c.from.ensures, c.if-from-points.true)) in
    where-done c.next_over.result (c.next_over.new.formula ≡ next_in (block_of c.as_slice-then-from-points.result.now) after c.args.point) (c.next_over.new.formula ≡ next_at c.args.command.now after c.args.point) c.next_over.ensures.made (λ e. e ∙ is)

pub next_at_over-returns-then-from-points-clause-limit : goal.next_at_over-returns-then-from-points-clause-limit
next_at_over-returns-then-from-points-clause-limit t c h =
    let after = after_of c.args.trail.now in
    let is = if-next-left c.args.command.now c.in-If.test c.in-If.yes c.in-If.no c.as_slice.result.now c.as_slice-then-from-points.result.now after c.args.point c.count_all-points.result
    c.in-If.is c.as_slice.ensures c.as_slice-then-from-points.ensures c.count_all-points.ensures (omega (arith, c.from.ensures, c.if-from-points.true)) in
    sym (ap is_oversized is) ∙ c.next_over.ensures.limit h

pub next_at_over-returns-else-from-points-clause-made : goal.next_at_over-returns-else-from-points-clause-made
next_at_over-returns-else-from-points-clause-made t c =
    let after = after_of c.args.trail.now in
    let is = if-next-right c.args.command.now c.in-If.test c.in-If.yes c.in-If.no c.as_slice.result.now c.as_slice-in-If.result.now after c.args.point c.count_all-points.result
    c.in-If.is c.as_slice.ensures c.as_slice-in-If.ensures (omega (arith, c.ranges.point)) c.count_all-points.ensures (omega (arith, c.from.ensures, c.if-from-points.false)) in
    where-done c.next_over-in-If.result (c.next_over-in-If.new.formula ≡ next_in (block_of c.as_slice-in-If.result.now) after (c.args.point - c.count_all-points.result)) (c.next_over-in-If.new.formula ≡ next_at c.args.command.now after c.args.point) c.next_over-in-If.ensures.made (λ e. e ∙ is)

pub next_at_over-returns-else-from-points-clause-limit : goal.next_at_over-returns-else-from-points-clause-limit
next_at_over-returns-else-from-points-clause-limit t c h =
    let after = after_of c.args.trail.now in
    let is = if-next-right c.args.command.now c.in-If.test c.in-If.yes c.in-If.no c.as_slice.result.now c.as_slice-in-If.result.now after c.args.point c.count_all-points.result
    c.in-If.is c.as_slice.ensures c.as_slice-in-If.ensures (omega (arith, c.ranges.point)) c.count_all-points.ensures (omega (arith, c.from.ensures, c.if-from-points.false)) in
    sym (ap is_oversized is) ∙ c.next_over-in-If.ensures.limit h

pub next_at_over-returns-then-point-eq0-clause-made : goal.next_at_over-returns-then-point-eq0-clause-made
next_at_over-returns-then-point-eq0-clause-made t c =
    let after = after_of c.args.trail.now in
    let is = while-next-first c.args.command.now c.in-While.test c.in-While.note c.in-While.body after c.args.point c.in-While.is c.if-point-eq0.true in
    where-done c.after_over-then-point-eq0.result (c.after_over-then-point-eq0.new.formula ≡ after) (c.after_over-then-point-eq0.new.formula ≡ next_at c.args.command.now after c.args.point) c.after_over-then-point-eq0.ensures.made (λ e. e ∙ is)

pub next_at_over-returns-then-point-eq0-clause-limit : goal.next_at_over-returns-then-point-eq0-clause-limit
next_at_over-returns-then-point-eq0-clause-limit t c h =
    let after = after_of c.args.trail.now in
    let is = while-next-first c.args.command.now c.in-While.test c.in-While.note c.in-While.body after c.args.point c.in-While.is c.if-point-eq0.true in
    sym (ap is_oversized is) ∙ c.after_over-then-point-eq0.ensures.limit h

pub next_at_over-returns-else-point-eq0-clause-made : goal.next_at_over-returns-else-point-eq0-clause-made
next_at_over-returns-else-point-eq0-clause-made t c =
    let after = after_of c.args.trail.now in
    let is = while-next-later c.args.command.now c.in-While.test c.in-While.note c.in-While.body c.as_slice-in-While.result.now after c.args.point c.in-While.is c.as_slice-in-While.ensures (omega (arith, c.if-point-eq0.false)) in
    where-done c.next_over-in-While.result (c.next_over-in-While.new.formula ≡ next_in (block_of c.as_slice-in-While.result.now) c.in-While.note (c.args.point - 1)) (c.next_over-in-While.new.formula ≡ next_at c.args.command.now after c.args.point) c.next_over-in-While.ensures.made (λ e. e ∙ is)

pub next_at_over-returns-else-point-eq0-clause-limit : goal.next_at_over-returns-else-point-eq0-clause-limit
next_at_over-returns-else-point-eq0-clause-limit t c h =
    let after = after_of c.args.trail.now in
    let is = while-next-later c.args.command.now c.in-While.test c.in-While.note c.in-While.body c.as_slice-in-While.result.now after c.args.point c.in-While.is c.as_slice-in-While.ensures (omega (arith, c.if-point-eq0.false)) in
    sym (ap is_oversized is) ∙ c.next_over-in-While.ensures.limit h
