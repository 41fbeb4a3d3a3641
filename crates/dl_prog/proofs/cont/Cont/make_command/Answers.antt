use Rattle.std.proofs.Common.{◌≡◌, ◌≤◌, ◌&&◌, true, false, Some, List, refl, ap, sym, ◌∙◌, subst, length}
use Rattle.std.specs.Prelude.{if◌then◌else◌}
use Rattle.std.specs.List.{AllByRecursion as Each}
use Rattle.dl_term.specs.declared.syntax.Term.{Term}
use Rattle.dl_term.specs.Measures.{IsNarrow}
use Rattle.dl_model.specs.declared.history.Call.TheVariants as call
use Rattle.dl_model.specs.declared.program.Command.TheVariants as of
use Rattle.dl_model.specs.Machine.{value_of, values_of, packed}
use Rattle.dl_model.specs.Sorts.{is_i64, all_i64}
use Rattle.dl_model.specs.Lookup.{proc_at}
use Rattle.dl_prog.specs.declared.answer.At.{At}
use Rattle.dl_prog.specs.declared.answer.At.TheVariants as at
use Rattle.dl_prog.specs.declared.cont.Cont.{Cont}
use Rattle.dl_prog.specs.Slots.{named}
use Rattle.dl_prog.specs.Places.{proc_in}
use Rattle.dl_prog.specs.Moves.{HasEntered}
use Rattle.dl_prog.proofs.PlaceLemmas.{here-can-run, test-can-run, room-inside, room-enter}
use Rattle.dl_prog.proofs.Moving.{next-here, asks, asks-or-stops, set-moves, choose-moves, repeat-moves, call-moves}
use Rattle.dl_prog.proofs.cont.Cont.make_command.Goals as goal

pub set-requires-clause-narrow : goal.set-requires-clause-narrow
set-requires-clause-narrow c =
    let old : Cont = c.args.self.now in
    (here-can-run c.args.procs.now old.steps.items old.at (of.Set c.in-Set.local c.in-Set.value) c.requires.can_run (c.requires.here ∙ ap Some c.in-Set.is)).0.1

pub returns-in-Set : goal.returns-in-Set
returns-in-Set c =
    let moved = set-moves c.args.procs.now c.args.self.now c.set.new.self c.set.result c.in-Set.local c.in-Set.value c.requires.can_run c.requires.ready c.requires.over
    (c.requires.here ∙ ap Some c.in-Set.is) c.set.ensures.answer c.set.ensures.moves in
    record { ready = moved.ready; answer = moved.answer; moves = moved.moves }

pub returns-in-Await : goal.returns-in-Await
returns-in-Await c =
    let moved = asks c.args.procs.now c.args.self.now _ (call.Await c.in-Await.label c.in-Await.tag) c.requires.ready
    (next-here c.args.procs.now c.args.self.now _ c.requires.over (c.requires.here ∙ ap Some c.in-Await.is)) refl in
    record { ready = moved.ready; answer = moved.answer; moves = moved.moves }

pub returns-in-Poll : goal.returns-in-Poll
returns-in-Poll c =
    let moved = asks c.args.procs.now c.args.self.now _ (call.Poll c.in-Poll.label c.in-Poll.tag) c.requires.ready
    (next-here c.args.procs.now c.args.self.now _ c.requires.over (c.requires.here ∙ ap Some c.in-Poll.is)) refl in
    record { ready = moved.ready; answer = moved.answer; moves = moved.moves }

pub read-requires : goal.read-requires
read-requires c =
    let old : Cont = c.args.self.now in
    (here-can-run c.args.procs.now old.steps.items old.at _ c.requires.can_run (c.requires.here ∙ ap Some c.in-Read.is)).0.0

pub returns-in-Read : goal.returns-in-Read
returns-in-Read c =
    let moved = asks-or-stops c.args.procs.now c.args.self.now c.read.result _ _ c.requires.ready
    (next-here c.args.procs.now c.args.self.now _ c.requires.over (c.requires.here ∙ ap Some c.in-Read.is)) c.read.ensures in
    record { ready = moved.ready; answer = moved.answer; moves = moved.moves }

pub choose-requires-clause-narrow : goal.choose-requires-clause-narrow
choose-requires-clause-narrow c =
    let old : Cont = c.args.self.now in
    test-can-run c.args.procs.now (proc_in old.steps.items) (of.If c.in-If.test c.in-If.yes c.in-If.no) c.in-If.test
    (here-can-run c.args.procs.now old.steps.items old.at _ c.requires.can_run (c.requires.here ∙ ap Some c.in-If.is)) refl

pub choose-requires-clause-room : goal.choose-requires-clause-room
choose-requires-clause-room c =
    let old : Cont = c.args.self.now in
    room-inside c.args.procs.now old.steps.spare old.steps.items old.at (of.If c.in-If.test c.in-If.yes c.in-If.no) c.requires.ready.fits (c.requires.here ∙ ap Some c.in-If.is) refl

pub returns-in-If : goal.returns-in-If
returns-in-If c =
    let moved = choose-moves c.args.procs.now c.args.self.now c.choose.new.self c.choose.result (of.If c.in-If.test c.in-If.yes c.in-If.no) c.in-If.test c.requires.ready c.requires.over
    (c.requires.here ∙ ap Some c.in-If.is) refl refl c.choose.ensures.answer c.choose.ensures.moves in
    record { ready = moved.ready; answer = moved.answer; moves = moved.moves }

pub repeat-requires-clause-narrow : goal.repeat-requires-clause-narrow
repeat-requires-clause-narrow c =
    let old : Cont = c.args.self.now in
    test-can-run c.args.procs.now (proc_in old.steps.items) (of.While c.in-While.test c.in-While.note c.in-While.body) c.in-While.test
    (here-can-run c.args.procs.now old.steps.items old.at _ c.requires.can_run (c.requires.here ∙ ap Some c.in-While.is)) refl

pub repeat-requires-clause-room : goal.repeat-requires-clause-room
repeat-requires-clause-room c =
    let old : Cont = c.args.self.now in
    room-inside c.args.procs.now old.steps.spare old.steps.items old.at (of.While c.in-While.test c.in-While.note c.in-While.body) c.requires.ready.fits (c.requires.here ∙ ap Some c.in-While.is) refl

pub returns-in-While : goal.returns-in-While
returns-in-While c =
    let moved = repeat-moves c.args.procs.now c.args.self.now c.repeat.new.self c.repeat.result (of.While c.in-While.test c.in-While.note c.in-While.body) c.in-While.test c.requires.ready c.requires.over
    (c.requires.here ∙ ap Some c.in-While.is) refl refl c.repeat.ensures.answer c.repeat.ensures.moves in
    record { ready = moved.ready; answer = moved.answer; moves = moved.moves }

pub send-requires-clause-to : goal.send-requires-clause-to
send-requires-clause-to c =
    let old : Cont = c.args.self.now in
    (here-can-run c.args.procs.now old.steps.items old.at _ c.requires.can_run (c.requires.here ∙ ap Some c.in-Send.is)).0.0

pub send-requires-clause-args : goal.send-requires-clause-args
send-requires-clause-args c =
    let old : Cont = c.args.self.now in
    subst (Each IsNarrow) (sym c.as_slice.ensures) (here-can-run c.args.procs.now old.steps.items old.at _ c.requires.can_run (c.requires.here ∙ ap Some c.in-Send.is)).0.1

pub send-requires-clause-few : goal.send-requires-clause-few
send-requires-clause-few c =
    let old : Cont = c.args.self.now in
    subst (λ (xs : List Term). length xs ≤ 8) (sym c.as_slice.ensures) (here-can-run c.args.procs.now old.steps.items old.at _ c.requires.can_run (c.requires.here ∙ ap Some c.in-Send.is)).0.2

pub returns-in-Send : goal.returns-in-Send
returns-in-Send c =
    let old : Cont = c.args.self.now in
    let told : At = c.send.result in
    let to = value_of c.in-Send.to (named old.slots) in
    let sent : told ≡ (if is_i64 to && all_i64 (values_of c.in-Send.args (named old.slots)) then at.Call (call.Send c.in-Send.label c.in-Send.tag to (packed (values_of c.in-Send.args (named old.slots)))) else at.Stopped) =
    subst (λ (xs : List Term). told ≡ (if is_i64 to && all_i64 (values_of xs (named old.slots)) then at.Call (call.Send c.in-Send.label c.in-Send.tag to (packed (values_of xs (named old.slots)))) else at.Stopped))
    c.as_slice.ensures c.send.ensures in
    let moved = asks-or-stops c.args.procs.now old told _ _ c.requires.ready
    (next-here c.args.procs.now old _ c.requires.over (c.requires.here ∙ ap Some c.in-Send.is)) sent in
    record { ready = moved.ready; answer = moved.answer; moves = moved.moves }

pub call-requires-clause-narrow : goal.call-requires-clause-narrow
call-requires-clause-narrow c =
    let old : Cont = c.args.self.now in
    subst (Each IsNarrow) (sym c.as_slice-in-Call.ensures) (here-can-run c.args.procs.now old.steps.items old.at _ c.requires.can_run (c.requires.here ∙ ap Some c.in-Call.is)).0.0

pub call-requires-clause-few : goal.call-requires-clause-few
call-requires-clause-few c =
    let old : Cont = c.args.self.now in
    subst (λ (xs : List Term). length xs ≤ 8) (sym c.as_slice-in-Call.ensures) (here-can-run c.args.procs.now old.steps.items old.at _ c.requires.can_run (c.requires.here ∙ ap Some c.in-Call.is)).0.1

pub call-requires-clause-same : goal.call-requires-clause-same
call-requires-clause-same c =
    let old : Cont = c.args.self.now in
    subst (λ (xs : List Term). length xs ≡ length (proc_at c.args.procs.now c.in-Call.proc).params) (sym c.as_slice-in-Call.ensures)
    (here-can-run c.args.procs.now old.steps.items old.at _ c.requires.can_run (c.requires.here ∙ ap Some c.in-Call.is)).0.4

pub call-requires-clause-room : goal.call-requires-clause-room
call-requires-clause-room c =
    let old : Cont = c.args.self.now in
    room-enter c.args.procs.now old.steps.spare old.steps.items c.in-Call.proc c.requires.ready.fits
    (here-can-run c.args.procs.now old.steps.items old.at _ c.requires.can_run (c.requires.here ∙ ap Some c.in-Call.is)).0.3

pub returns-in-Call : goal.returns-in-Call
returns-in-Call c =
    let old : Cont = c.args.self.now in
    let new : Cont = c.call.new.self in
    let told : At = c.call.result in
    let slice = c.as_slice-in-Call.ensures in
    let moved = call-moves c.args.procs.now old new told c.in-Call.note c.in-Call.frame c.in-Call.into c.in-Call.proc c.in-Call.args c.requires.can_run c.requires.ready c.requires.over
    (c.requires.here ∙ ap Some c.in-Call.is)
    (subst (λ (xs : List Term). told ≡ (if all_i64 (values_of xs (named old.slots)) then at.Tick else at.Stopped)) slice c.call.ensures.answer)
    (subst (λ (xs : List Term). all_i64 (values_of xs (named old.slots)) ≡ false → new ≡ old) slice c.call.ensures.stops)
    (subst (λ (xs : List Term). all_i64 (values_of xs (named old.slots)) ≡ true → HasEntered c.args.procs.now c.in-Call.proc (values_of xs (named old.slots)) old new) slice c.call.ensures.enters) in
    record { ready = moved.ready; answer = moved.answer; moves = moved.moves }
