use Rattle.dl_nodes.specs.Players.{players_of}
use Rattle.dl_nodes.proofs.EndLemmas.{have-ends}
use Rattle.dl_nodes.proofs.RoundLemmas.{serial-keeps}
use Rattle.dl_nodes.proofs.schedule.finish.Goals as goal

pub judge_nodes-requires-clause-ready : goal.judge_nodes-requires-clause-ready
judge_nodes-requires-clause-ready c = c.play.ensures.ready

pub returns : goal.returns
returns c =
    let procs = c.args.procs.now in
    let players = players_of procs c.play.new.nodes in
    record {
      players = players;
      serial = c.play.ensures.serial;
      ends = have-ends procs c.args.budget c.play.new.soup players c.judge_nodes.new.nodes c.play.ensures.rests c.judge_nodes.ensures;
      same = serial-keeps procs c.args.budget c.args.soup.now (players_of procs c.args.nodes.now) c.play.new.soup players c.play.ensures.serial;
    }
