use Rattle.std.proofs.Common.{rules, ◌≡◌, Some, None, List, sym, ◌∙◌, ap, subst, to_z, of_z, w64}
use Rattle.dl_model.specs.Machine.{Over, Frame, returned}
use Rattle.dl_prog.specs.declared.cont.Cont.{Cont}
use Rattle.dl_prog.specs.Places.{caller_of, callers_in, machine_in, machine_of}
use Rattle.dl_prog.specs.Ready.{IsReady}
use Rattle.dl_prog.proofs.Moving.{no-callers, caller-longer, back-ready, given}
use Rattle.dl_prog.proofs.cont.Cont.give.Goals as goal

pub returns-in-None-clause-moves : goal.returns-in-None-clause-moves
returns-in-None-clause-moves c =
    let procs = c.args.procs.now in
    let old = c.args.self.now in
    let same : to_z w64 (of_z w64 c.args.value) ≡ c.args.value = search rules in
    let alone : caller_of old.steps.items ≡ None = sym (c.caller_of.ensures ∙ ap caller_of c.steps.ensures) ∙ c.in-None.is in
    ap Over same ∙ sym (ap (λ (callers : List Frame). returned callers c.args.value) (no-callers procs old.steps.items alone c.requires.outermost))

pub go_back-requires : goal.go_back-requires
go_back-requires c =
    let old = c.args.self.now in
    let caller : caller_of old.steps.items ≡ Some c.in-Some.back = sym (c.caller_of.ensures ∙ ap caller_of c.steps.ensures) ∙ c.in-Some.is in
    caller-longer old.steps.items c.in-Some.back caller

pub settle-commands-requires : goal.settle-commands-requires
settle-commands-requires c =
    let procs = c.args.procs.now in
    let old = c.args.self.now in
    let caller : caller_of old.steps.items ≡ Some c.in-Some.back = sym (c.caller_of.ensures ∙ ap caller_of c.steps.ensures) ∙ c.in-Some.is in
    record { ready = subst (λ (x : Cont). IsReady procs x) (sym c.go_back.ensures) (back-ready procs old c.in-Some.back c.requires.ready caller) }

pub finish_call-requires-clause-over : goal.finish_call-requires-clause-over
finish_call-requires-clause-over c = c.settle-commands.ensures.over ∙ (ap (λ (x : Cont). x.over) c.go_back.ensures ∙ c.requires.over)

pub returns-in-Some-clause-moves : goal.returns-in-Some-clause-moves
returns-in-Some-clause-moves c =
    let procs = c.args.procs.now in
    let old = c.args.self.now in
    let same : to_z w64 (of_z w64 c.args.value) ≡ c.args.value = search rules in
    let caller : caller_of old.steps.items ≡ Some c.in-Some.back = sym (c.caller_of.ensures ∙ ap caller_of c.steps.ensures) ∙ c.in-Some.is in
    given procs old c.settle-commands.new.self (machine_of procs c.finish_call.new.self) c.in-Some.back (to_z w64 (of_z w64 c.args.value)) c.requires.over caller
    (c.settle-commands.ensures.over ∙ ap (λ (x : Cont). x.over) c.go_back.ensures)
    (c.settle-commands.ensures.same ∙ ap (λ (x : Cont). machine_in procs x.steps.items x.at x.slots) c.go_back.ensures)
    c.finish_call.ensures.moves
    ∙ ap (returned (callers_in procs old.steps.items)) same
