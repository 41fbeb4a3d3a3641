use Rattle.dl_model.specs.Runs.{Replies}
use Rattle.dl_prog.specs.Places.{machine_of}
use Rattle.dl_history.proofs.Telling.{told-not}
use Rattle.dl_history.proofs.TurnLemmas.{turn-given, turn-sends, turn-taken, turn-unreached, turn-unreplied}
use Rattle.dl_history.proofs.turns.take_turn.Goals as goal

pub returns-then-not-reaches-clause-refused : goal.returns-then-not-reaches-clause-refused
returns-then-not-reaches-clause-refused c = λ f.
    turn-unreached c.args.decls.now c.args.entry.now c.args.state.now.state (machine_of c.args.decls.now.procs c.args.cont.now) (c.reaches.ensures.refused c.if-not-reaches.true)

pub is_reply-requires : goal.is_reply-requires
is_reply-requires c = c.requires.formed.inst

pub returns-then-not-is_reply-clause-refused : goal.returns-then-not-is_reply-clause-refused
returns-then-not-is_reply-clause-refused c = λ f.
    let d = c.args.decls.now in
    let e = c.args.entry.now in
    let s = c.args.state.now.state in
    turn-unreplied d e s (machine_of d.procs c.args.cont.now) (told-not (Replies d.inst s e.node e.call e.reply) c.is_reply.result c.is_reply.ensures c.if-not-is_reply.true)

pub make_step-requires-clause-formed : goal.make_step-requires-clause-formed
make_step-requires-clause-formed c = c.requires.formed.inst

pub make_step-requires-clause-given : goal.make_step-requires-clause-given
make_step-requires-clause-given c =
    let d = c.args.decls.now in
    turn-given d c.args.entry.now c.args.state.now.state (machine_of d.procs c.args.cont.now) (machine_of d.procs c.reaches.new.cont) c.requires.formed c.requires.declared c.requires.sends
    (c.reaches.ensures.reached c.if-not-reaches.false) (c.is_reply.ensures.0 c.if-not-is_reply.false)

pub returns-clause-sends : goal.returns-clause-sends
returns-clause-sends c = λ t.
    let d = c.args.decls.now in
    turn-sends d c.args.entry.now (machine_of d.procs c.args.cont.now) (machine_of d.procs c.reaches.new.cont) (machine_of d.procs c.resume.new.cont) c.requires.formed c.requires.sends
    (c.reaches.ensures.reached c.if-not-reaches.false) c.resume.ensures.moves

pub returns-clause-taken : goal.returns-clause-taken
returns-clause-taken c = λ t.
    let d = c.args.decls.now in
    turn-taken d c.args.entry.now c.args.state.now.state c.make_step.new.state.state (machine_of d.procs c.args.cont.now) (machine_of d.procs c.reaches.new.cont) (machine_of d.procs c.resume.new.cont)
    (c.reaches.ensures.reached c.if-not-reaches.false) (c.is_reply.ensures.0 c.if-not-is_reply.false) c.make_step.ensures.state c.resume.ensures.moves
