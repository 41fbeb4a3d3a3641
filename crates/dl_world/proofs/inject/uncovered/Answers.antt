use Rattle.std.proofs.Common.{◌<◌, ◌∙◌, length, subst, arith}
use Rattle.dl_world.proofs.Injecting.{declared-hook, tested, uncovered-here, covered-here}
use Rattle.dl_world.proofs.inject.uncovered.Goals as goal

pub returns-then-is_uncovered : goal.returns-then-is_uncovered
returns-then-is_uncovered c =
    let decls = c.args.decls.now in
    let i = c.loop-position.position in
    let within : i < length c.as_slice-hook-items.result.now = omega arith in
    let declared : i < length decls.hooks = subst (λ hooks. i < length hooks) c.as_slice-hook-items.ensures within in
    let at = declared-hook decls c.as_slice-hook-items.result.now i c.hook-item.result c.as_slice-hook-items.ensures within c.hook-item.is in
    let is =
    tested decls c.args.small.now c.args.large.now i c.hook-item.result c.of.result c.of-2.result c.of-3.result c.is_uncovered.result
    (c.of.ensures ∙ c.as_slice.ensures) (c.of-2.ensures ∙ c.as_slice-2.ensures) (c.of-3.ensures ∙ c.as_slice-3.ensures) at c.is_uncovered.ensures in
    uncovered-here decls c.args.small.now c.args.large.now i declared c.loop-position.invariant (is ∙ c.if-is_uncovered.true)

pub loop-position-preserved : goal.loop-position-preserved
loop-position-preserved c =
    let decls = c.args.decls.now in
    let i = c.loop-position.position in
    let within : i < length c.as_slice-hook-items.result.now = omega arith in
    let declared : i < length decls.hooks = subst (λ hooks. i < length hooks) c.as_slice-hook-items.ensures within in
    let at = declared-hook decls c.as_slice-hook-items.result.now i c.hook-item.result c.as_slice-hook-items.ensures within c.hook-item.is in
    let is =
    tested decls c.args.small.now c.args.large.now i c.hook-item.result c.of.result c.of-2.result c.of-3.result c.is_uncovered.result
    (c.of.ensures ∙ c.as_slice.ensures) (c.of-2.ensures ∙ c.as_slice-2.ensures) (c.of-3.ensures ∙ c.as_slice-3.ensures) at c.is_uncovered.ensures in
    covered-here decls c.args.small.now c.args.large.now i declared c.loop-position.invariant (is ∙ c.if-is_uncovered.false)
