use Rattle.std.proofs.Common.{rules, ◌≡◌, [], List, ap, ◌∙◌, subst, to_z, of_z, w64}
use Rattle.std.specs.Prelude.{slice_get}
use Rattle.dl_model.specs.declared.history.Call.TheVariants as call
use Rattle.dl_model.specs.declared.program.Command.{Command}
use Rattle.dl_model.specs.Machine.{packed}
use Rattle.dl_prog.specs.declared.answer.At.TheVariants as at
use Rattle.dl_prog.specs.declared.asked.Asked.{Asked}
use Rattle.dl_prog.specs.declared.asked.Asked.TheVariants as asked
use Rattle.dl_prog.specs.declared.cont.Cont.{Cont}
use Rattle.dl_prog.specs.Asked.{AsksFor}
use Rattle.dl_prog.specs.Places.{commands_in}
use Rattle.dl_prog.specs.Slots.{named}
use Rattle.dl_prog.proofs.Asking.{asks-send, asks-await}
use Rattle.dl_prog.proofs.Moving.{Moved, over-moves, same-machine, moved-from}
use Rattle.dl_prog.proofs.cont.Cont.advance.Goals as goal

pub returns-in-Some : goal.returns-in-Some
returns-in-Some c =
    let same : to_z w64 (of_z w64 c.in-Some.value) ≡ c.in-Some.value = search rules in
    let moved = over-moves c.args.procs.now c.args.self.now c.in-Some.value c.requires.ready c.in-Some.is in
    record { ready = moved.ready; answer = ap at.Ended same ∙ moved.answer; moves = moved.moves }

pub returns-in-Send : goal.returns-in-Send
returns-in-Send c =
    let procs = c.args.procs.now in
    let old : Cont = c.args.self.now in
    let kept : Cont = c.settle-commands.new.self in
    let same : to_z w64 (of_z w64 c.in-Send.to) ≡ c.in-Send.to = search rules in
    let there : AsksFor (slice_get (commands_in procs kept.steps.items) kept.at) (named kept.slots) (asked.Send c.in-Send.label c.in-Send.tag c.in-Send.to) =
    subst (λ (a : Asked). AsksFor (slice_get (commands_in procs kept.steps.items) kept.at) (named kept.slots) a) c.in-Send.is
    (subst (λ (cs : List Command). AsksFor (slice_get cs kept.at) (named kept.slots) c.asked_at.result) c.settle-commands.ensures.commands c.asked_at.ensures) in
    let asks = asks-send procs kept c.in-Send.label c.in-Send.tag c.in-Send.to c.settle-commands.ensures.ready (c.settle-commands.ensures.over ∙ c.in-None.is) there in
    let moved = moved-from procs old kept kept _ (same-machine procs old kept c.settle-commands.ensures.over c.settle-commands.ensures.same) asks in
    record { ready = moved.ready; answer = ap (λ v. at.Call (call.Send c.in-Send.label c.in-Send.tag v (packed []))) same ∙ moved.answer; moves = moved.moves }

pub returns-in-Await : goal.returns-in-Await
returns-in-Await c =
    let procs = c.args.procs.now in
    let old : Cont = c.args.self.now in
    let kept : Cont = c.settle-commands.new.self in
    let there : AsksFor (slice_get (commands_in procs kept.steps.items) kept.at) (named kept.slots) (asked.Await c.in-Await.label c.in-Await.tag) =
    subst (λ (a : Asked). AsksFor (slice_get (commands_in procs kept.steps.items) kept.at) (named kept.slots) a) c.in-Await.is
    (subst (λ (cs : List Command). AsksFor (slice_get cs kept.at) (named kept.slots) c.asked_at.result) c.settle-commands.ensures.commands c.asked_at.ensures) in
    let asks = asks-await procs kept c.in-Await.label c.in-Await.tag c.settle-commands.ensures.ready (c.settle-commands.ensures.over ∙ c.in-None.is) there in
    let moved = moved-from procs old kept kept _ (same-machine procs old kept c.settle-commands.ensures.over c.settle-commands.ensures.same) asks in
    record { ready = moved.ready; answer = moved.answer; moves = moved.moves }

pub returns-in-Other : goal.returns-in-Other
returns-in-Other c =
    let procs = c.args.procs.now in
    let old : Cont = c.args.self.now in
    let kept : Cont = c.settle-commands.new.self in
    let step : Moved procs kept c.step.new.self c.step.result = record { ready = c.step.ensures.ready; answer = c.step.ensures.answer; moves = c.step.ensures.moves } in
    let moved = moved-from procs old kept c.step.new.self c.step.result (same-machine procs old kept c.settle-commands.ensures.over c.settle-commands.ensures.same) step in
    record { ready = moved.ready; answer = moved.answer; moves = moved.moves }
