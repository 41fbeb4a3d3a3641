use Rattle.std.proofs.Common.{sym, ◌∙◌}
use Rattle.dl_history.specs.Meant.{meant}
use Rattle.dl_history.specs.Taken.{IsDeclared}
use Rattle.dl_history.proofs.Telling.{told-not}
use Rattle.dl_history.proofs.Places.{place-within}
use Rattle.dl_history.proofs.EventLemmas.{program-made, program-refused, free-made, free-refused, undeclared-refused}
use Rattle.dl_history.proofs.events.make_event.Goals as goal

pub returns-then-not-is_declared-clause-refused : goal.returns-then-not-is_declared-clause-refused
returns-then-not-is_declared-clause-refused c = λ f.
    let d = c.args.decls.now in
    let e = c.args.entry.now in
    undeclared-refused d e (meant d c.args.config.now) (told-not (IsDeclared d e) c.is_declared.result c.is_declared.ensures c.if-not-is_declared.true)

-- ---- nodes with programs

pub take_turn-requires-clause-declared : goal.take_turn-requires-clause-declared
take_turn-requires-clause-declared c = c.is_declared.ensures.0 c.if-not-is_declared.false

pub take_turn-requires-clause-place : goal.take_turn-requires-clause-place
take_turn-requires-clause-place c = place-within c.args.config.now.machines c.args.entry.now.node c.in-Some.place (sym c.place.ensures ∙ c.in-Some.is)

pub take_turn-requires-clause-conts : goal.take_turn-requires-clause-conts
take_turn-requires-clause-conts c = c.requires.given.conts

pub take_turn-requires-clause-shaped : goal.take_turn-requires-clause-shaped
take_turn-requires-clause-shaped c = c.requires.given.shaped

pub returns-in-Some-clause-given : goal.returns-in-Some-clause-given
returns-in-Some-clause-given c = λ t. record { shaped = c.take_turn.ensures.shaped; conts = c.take_turn.ensures.conts t }

pub returns-in-Some-clause-made : goal.returns-in-Some-clause-made
returns-in-Some-clause-made c = λ t.
    program-made c.args.decls.now c.args.entry.now c.args.config.now.state.state c.take_turn.new.state.state c.args.config.now.machines c.take_turn.new.self c.in-Some.place
    (c.is_declared.ensures.0 c.if-not-is_declared.false) (sym c.place.ensures ∙ c.in-Some.is) (c.take_turn.ensures.taken t)

pub returns-in-Some-clause-refused : goal.returns-in-Some-clause-refused
returns-in-Some-clause-refused c = λ f.
    program-refused c.args.decls.now c.args.entry.now c.args.config.now.state.state c.args.config.now.machines c.in-Some.place (sym c.place.ensures ∙ c.in-Some.is) (c.take_turn.ensures.refused f)

-- ---- nodes without

pub take_free-requires-clause-declared : goal.take_free-requires-clause-declared
take_free-requires-clause-declared c = c.is_declared.ensures.0 c.if-not-is_declared.false

pub take_free-requires-clause-shaped : goal.take_free-requires-clause-shaped
take_free-requires-clause-shaped c = c.requires.given.shaped

pub returns-in-None-clause-given : goal.returns-in-None-clause-given
returns-in-None-clause-given c = λ t. record { shaped = c.take_free.ensures.shaped; conts = c.requires.given.conts }

pub returns-in-None-clause-made : goal.returns-in-None-clause-made
returns-in-None-clause-made c = λ t.
    free-made c.args.decls.now c.args.entry.now c.args.config.now.state.state c.take_free.new.state.state c.args.config.now.machines
    (c.is_declared.ensures.0 c.if-not-is_declared.false) (sym c.place.ensures ∙ c.in-None.is) (c.take_free.ensures.taken t) (c.take_free.ensures.state t)

pub returns-in-None-clause-refused : goal.returns-in-None-clause-refused
returns-in-None-clause-refused c = λ f.
    free-refused c.args.decls.now c.args.entry.now c.args.config.now.state.state c.args.config.now.machines (sym c.place.ensures ∙ c.in-None.is) (c.take_free.ensures.refused f)
