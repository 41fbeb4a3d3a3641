use Rattle.std.proofs.Common.{refl, arith}
use Rattle.dl_nodes.proofs.RoundLemmas.{judged-ends, judged-goes, judged-next}
use Rattle.dl_nodes.proofs.schedule.judge_nodes.Goals as goal

pub loop-bare-init : goal.loop-bare-init
loop-bare-init c = record { noted = tt; others = refl }

pub judge-requires-clause-ready : goal.judge-requires-clause-ready
judge-requires-clause-ready c =
    judged-next c.args.procs.now c.args.budget c.args.nodes.now c.loop-bare.nodes c.loop-bare.bare-index c.bare-item.result (omega arith) (omega arith) c.loop-bare.invariant c.requires.ready

pub loop-bare-preserved : goal.loop-bare-preserved
loop-bare-preserved c =
    judged-goes c.args.procs.now c.args.budget c.args.nodes.now c.loop-bare.nodes c.loop-bare.bare-index c.bare-item.result c.judge.new.bare (omega arith) (omega arith) c.loop-bare.invariant c.judge.ensures

pub returns : goal.returns
returns c = judged-ends c.args.procs.now c.args.budget c.args.nodes.now c.loop-bare.nodes c.loop-bare.bare-index (omega arith) (omega arith) c.loop-bare.invariant
