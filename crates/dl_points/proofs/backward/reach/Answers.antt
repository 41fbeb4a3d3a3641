use Rattle.std.proofs.Common.{sym, ◌∙◌, length, arith}
use Rattle.dl_points.specs.Passing.{reach_of}
use Rattle.dl_points.proofs.Backwards.{reach-later, reach-here, reach-none}
use Rattle.dl_points.proofs.backward.reach.Goals as goal

pub loop-index-preserved : goal.loop-index-preserved
loop-index-preserved c =
    reach-later c.args.commands.now c.loop-index.index (reach_of c.args.commands.now) c.index-commands-index.result (omega arith) c.index-commands-index.is (sym c.passes.ensures ∙ c.if-not-passes.false) c.loop-index.invariant

pub returns-then-not-passes-clause-counted : goal.returns-then-not-passes-clause-counted
returns-then-not-passes-clause-counted c =
    reach-here c.args.commands.now c.loop-index.index (reach_of c.args.commands.now) c.index-commands-index.result (omega arith) c.index-commands-index.is (sym c.passes.ensures ∙ c.if-not-passes.true) c.loop-index.invariant

pub returns-clause-counted : goal.returns-clause-counted
returns-clause-counted c =
    reach-none c.args.commands.now c.loop-index.index (length c.args.commands.now) (reach_of c.args.commands.now) (omega arith) (omega arith) c.loop-index.invariant
