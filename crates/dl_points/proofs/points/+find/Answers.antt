use Rattle.std.proofs.Common.{◌≡◌, ◌+◌, ◌<◌, ◌≤◌, List, ◌∷◌, length, drop, sym, ◌∙◌, ap, arith, rules}
use Rattle.dl_model.specs.declared.program.Command.{Command, the_lemmas}
use Rattle.dl_model.specs.Block.{block_of, followed}
use Rattle.dl_points.specs.Finding.{found_at, found_in}
use Rattle.dl_triples.proofs.Running.{here}
use Rattle.dl_points.proofs.Finding.{tail-is, found-here, found-later, found-none, if-found-left, if-found-right, while-found-first, while-found-later}
use Rattle.dl_points.proofs.points.+find.Goals as goal

pub find-find_at-requires : goal.find-find_at-requires
find-find_at-requires t c =
    let commands = c.args.commands.now in
    let i = c.loop-index.index in
    let command = c.index-commands-index.result in (
      search (rules, the_lemmas),
      tail-is commands i ∙ (here commands i command (omega arith) c.index-commands-index.is ∙ ap (λ (cs : List Command). command ∷ cs) (sym (tail-is commands (i + 1)))),
    )

pub find-returns-then-from-points : goal.find-returns-then-from-points
find-returns-then-from-points t c =
    c.find_at.ensures
    ∙ ap (λ (cs : List Command). found_at c.index-commands-index.result (block_of cs) c.loop-index.left) (tail-is c.args.commands.now (c.loop-index.index + 1))
    ∙ found-here c.args.commands.now c.loop-index.index c.loop-index.left c.count-points.result c.index-commands-index.result (found_in (block_of c.args.commands.now) c.args.point)
    (omega arith) c.index-commands-index.is c.count-points.ensures (omega (arith, c.from.ensures, c.if-from-points.true)) c.loop-index.invariant.1

pub find-loop-index-preserved : goal.find-loop-index-preserved
find-loop-index-preserved t c = (
  omega (arith, c.loop-index.invariant.0),
  found-later c.args.commands.now c.loop-index.index c.loop-index.left c.count-points.result c.index-commands-index.result (found_in (block_of c.args.commands.now) c.args.point)
      (omega arith) c.index-commands-index.is c.loop-index.invariant.0 c.count-points.ensures (omega (arith, c.from.ensures, c.if-from-points.false)) c.loop-index.invariant.1,
)

pub find-returns : goal.find-returns
find-returns t c = found-none c.args.commands.now c.loop-index.index c.loop-index.left (found_in (block_of c.args.commands.now) c.args.point) (omega arith) c.loop-index.invariant.1

pub find_at-returns-in-Send : goal.find_at-returns-in-Send
find_at-returns-in-Send t c =
    let rest = block_of c.args.rest.now in
    ap block_of c.requires ∙ (ap (λ (x : Command). followed x rest) c.in-Send.is ∙ sym (ap (λ (x : Command). found_at x rest c.args.point) c.in-Send.is))

pub find_at-returns-in-Await : goal.find_at-returns-in-Await
find_at-returns-in-Await t c =
    let rest = block_of c.args.rest.now in
    ap block_of c.requires ∙ (ap (λ (x : Command). followed x rest) c.in-Await.is ∙ sym (ap (λ (x : Command). found_at x rest c.args.point) c.in-Await.is))

pub find_at-returns-in-Poll : goal.find_at-returns-in-Poll
find_at-returns-in-Poll t c =
    let rest = block_of c.args.rest.now in
    ap block_of c.requires ∙ (ap (λ (x : Command). followed x rest) c.in-Poll.is ∙ sym (ap (λ (x : Command). found_at x rest c.args.point) c.in-Poll.is))

pub find_at-returns-in-Read : goal.find_at-returns-in-Read
find_at-returns-in-Read t c =
    let rest = block_of c.args.rest.now in
    ap block_of c.requires ∙ (ap (λ (x : Command). followed x rest) c.in-Read.is ∙ sym (ap (λ (x : Command). found_at x rest c.args.point) c.in-Read.is))

pub find_at-returns-in-Call : goal.find_at-returns-in-Call
find_at-returns-in-Call t c =
    let rest = block_of c.args.rest.now in
    ap block_of c.requires ∙ (ap (λ (x : Command). followed x rest) c.in-Call.is ∙ sym (ap (λ (x : Command). found_at x rest c.args.point) c.in-Call.is))

pub find_at-returns-then-from-points : goal.find_at-returns-then-from-points
find_at-returns-then-from-points t c =
    c.find.ensures ∙ if-found-left c.args.command.now c.in-If.test c.in-If.yes c.in-If.no c.as_slice.result.now c.as_slice-then-from-points.result.now (block_of c.args.rest.now) c.args.point c.count_all-points.result
    c.in-If.is c.as_slice.ensures c.as_slice-then-from-points.ensures c.count_all-points.ensures (omega (arith, c.from.ensures, c.if-from-points.true))

pub find_at-returns-else-from-points : goal.find_at-returns-else-from-points
find_at-returns-else-from-points t c =
    c.find-in-If.ensures ∙ if-found-right c.args.command.now c.in-If.test c.in-If.yes c.in-If.no c.as_slice.result.now c.as_slice-in-If.result.now (block_of c.args.rest.now) c.args.point c.count_all-points.result
    c.in-If.is c.as_slice.ensures c.as_slice-in-If.ensures (omega (arith, c.ranges.point)) c.count_all-points.ensures (omega (arith, c.from.ensures, c.if-from-points.false))

pub find_at-returns-then-point-eq0 : goal.find_at-returns-then-point-eq0
find_at-returns-then-point-eq0 t c =
    while-found-first c.args.command.now c.in-While.test c.in-While.note c.in-While.body c.args.here.now c.args.rest.now c.args.point c.in-While.is c.requires c.if-point-eq0.true

pub find_at-returns-else-point-eq0 : goal.find_at-returns-else-point-eq0
find_at-returns-else-point-eq0 t c =
    c.find-in-While.ensures ∙ while-found-later c.args.command.now c.in-While.test c.in-While.note c.in-While.body c.as_slice-in-While.result.now (block_of c.args.rest.now) c.args.point
    c.in-While.is c.as_slice-in-While.ensures (omega (arith, c.if-point-eq0.false))
