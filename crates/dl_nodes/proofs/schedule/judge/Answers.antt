use Rattle.std.proofs.Common.{◌-◌, Some, refl, ap, ◌∙◌}
use Rattle.dl_prog.specs.declared.answer.At.{At}
use Rattle.dl_nodes.specs.Players.{judged}
use Rattle.dl_nodes.proofs.schedule.judge.Goals as goal

pub advance-at-requires-clause-ready : goal.advance-at-requires-clause-ready
advance-at-requires-clause-ready c = c.requires.ready.cont

pub returns : goal.returns
returns c = record {
  same_node = refl;
  same_units = refl;
  noted = ap Some (c.end_at.ensures ∙ ap (λ (a : At). judged a (c.args.budget - c.args.bare.now.units)) c.advance-at.ensures.answer);
}
