use Rattle.std.proofs.Common.{sym, subst}
use Rattle.dl_model.specs.declared.protocol.Instances.{Instances}
use Rattle.dl_nodes.specs.Given.{ProcsAreGiven}
use Rattle.dl_nodes.proofs.RoundLemmas.{play-begins, play-ends, play-falls, play-goes, play-ready}
use Rattle.dl_nodes.proofs.schedule.play.Goals as goal

pub loop-init : goal.loop-init
loop-init c = play-begins c.args.procs.now c.args.budget c.args.soup.now c.args.nodes.now c.requires.ready c.requires.room

pub play_round-requires-clause-given : goal.play_round-requires-clause-given
play_round-requires-clause-given c = subst (λ (inst : Instances). ProcsAreGiven inst c.args.procs.now) (sym c.loop.invariant.same) c.requires.given

pub play_round-requires-clause-ready : goal.play_round-requires-clause-ready
play_round-requires-clause-ready c = play-ready c.args.procs.now c.args.budget c.args.soup.now c.loop.soup c.args.nodes.now c.loop.nodes c.loop.invariant

pub play_round-requires-clause-room : goal.play_round-requires-clause-room
play_round-requires-clause-room c = c.loop.invariant.room

pub loop-preserved : goal.loop-preserved
loop-preserved c =
    play-goes c.args.procs.now c.args.budget c.args.soup.now c.loop.soup c.play_round.new.soup c.args.nodes.now c.loop.nodes c.play_round.new.nodes c.play_round.result c.loop-test.true c.loop.invariant c.play_round.ensures

pub loop-smaller : goal.loop-smaller
loop-smaller c =
    play-falls c.args.procs.now c.args.budget c.loop.soup c.play_round.new.soup c.loop.nodes c.play_round.new.nodes c.play_round.result c.loop-test.true c.play_round.ensures

pub returns : goal.returns
returns c =
    play-ends c.args.procs.now c.args.budget c.args.soup.now c.loop.soup c.play_round.new.soup c.args.nodes.now c.loop.nodes c.play_round.new.nodes c.play_round.result c.loop-test.false c.loop.invariant c.play_round.ensures
