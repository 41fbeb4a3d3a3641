use Rattle.std.proofs.Common.{sym, subst, arith}
use Rattle.dl_model.specs.declared.protocol.Instances.{Instances}
use Rattle.dl_nodes.specs.Given.{ProcsAreGiven}
use Rattle.dl_nodes.proofs.RoundLemmas.{round-bare, round-begins, round-ends, round-goes, round-room}
use Rattle.dl_nodes.proofs.round.play_round.Goals as goal

pub loop-bare-init : goal.loop-bare-init
loop-bare-init c = round-begins c.args.procs.now c.args.budget c.args.soup.now c.args.nodes.now c.requires.ready c.requires.room

pub take_turn-acted-requires-clause-given : goal.take_turn-acted-requires-clause-given
take_turn-acted-requires-clause-given c = subst (λ (inst : Instances). ProcsAreGiven inst c.args.procs.now) (sym c.loop-bare.invariant.same) c.requires.given

pub take_turn-acted-requires-clause-ready : goal.take_turn-acted-requires-clause-ready
take_turn-acted-requires-clause-ready c =
    round-bare c.args.procs.now c.args.budget c.args.soup.now c.loop-bare.soup c.args.nodes.now c.loop-bare.nodes c.loop-bare.bare-index c.loop-bare.acts c.bare-item.result (omega arith) c.loop-bare.invariant

pub take_turn-acted-requires-clause-room : goal.take_turn-acted-requires-clause-room
take_turn-acted-requires-clause-room c =
    round-room c.args.procs.now c.args.budget c.args.soup.now c.loop-bare.soup c.args.nodes.now c.loop-bare.nodes c.loop-bare.bare-index c.loop-bare.acts c.bare-item.result (omega arith) c.loop-bare.invariant

pub loop-bare-preserved : goal.loop-bare-preserved
loop-bare-preserved c =
    round-goes c.args.procs.now c.args.budget c.args.soup.now c.loop-bare.soup c.take_turn-acted.new.soup c.args.nodes.now c.loop-bare.nodes c.loop-bare.bare-index c.bare-item.result c.take_turn-acted.new.bare
    c.loop-bare.acts c.take_turn-acted.result c.either-acts.result (omega arith) c.either-acts.ensures c.loop-bare.invariant c.take_turn-acted.ensures

pub returns : goal.returns
returns c = round-ends c.args.procs.now c.args.budget c.args.soup.now c.loop-bare.soup c.args.nodes.now c.loop-bare.nodes c.loop-bare.bare-index c.loop-bare.acts (omega arith) c.loop-bare.invariant
