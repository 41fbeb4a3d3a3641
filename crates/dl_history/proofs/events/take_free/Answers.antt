use Rattle.dl_history.specs.Taken.{IsFreeTurn}
use Rattle.dl_history.proofs.Telling.{told-not}
use Rattle.dl_history.proofs.TurnLemmas.{free-turn-given}
use Rattle.dl_history.proofs.events.take_free.Goals as goal

pub returns-then-not-is_free_turn-clause-refused : goal.returns-then-not-is_free_turn-clause-refused
returns-then-not-is_free_turn-clause-refused c = λ f.
    told-not (IsFreeTurn c.args.decls.now c.args.state.now.state c.args.entry.now) c.is_free_turn.result c.is_free_turn.ensures c.if-not-is_free_turn.true

pub make_step-requires-clause-formed : goal.make_step-requires-clause-formed
make_step-requires-clause-formed c = c.requires.formed.inst

pub make_step-requires-clause-given : goal.make_step-requires-clause-given
make_step-requires-clause-given c =
    free-turn-given c.args.decls.now c.args.entry.now c.args.state.now.state c.requires.formed c.requires.declared (c.is_free_turn.ensures.0 c.if-not-is_free_turn.false)

pub returns-clause-taken : goal.returns-clause-taken
returns-clause-taken c = λ t. c.is_free_turn.ensures.0 c.if-not-is_free_turn.false
