use Rattle.std.proofs.Common.{rules, ◌≡◌, Some, None, List, sym, ◌∙◌, ap, to_z, of_z, w64}
use Rattle.std.specs.Prelude.{slice_get}
use Rattle.dl_model.specs.declared.program.Command.{Command}
use Rattle.dl_prog.specs.Slots.{put_all}
use Rattle.dl_prog.specs.Places.{commands_in}
use Rattle.dl_prog.specs.Moves.{into_of}
use Rattle.dl_prog.proofs.Moving.{finish-some, finish-none}
use Rattle.dl_prog.proofs.cont.Cont.finish_call.Goals as goal

pub returns-in-Some : goal.returns-in-Some
returns-in-Some c =
    let procs = c.args.procs.now in
    let old = c.args.self.now in
    let same : to_z w64 (of_z w64 c.args.value) ≡ c.args.value = search rules in
    let found : into_of (slice_get (commands_in procs old.steps.items) old.at) ≡ Some c.in-Some.into =
    sym (c.called_into.ensures.into ∙ ap (λ (cs : List Command). into_of (slice_get cs old.at)) c.requires.commands) ∙ c.in-Some.is in
    let finished = finish-some procs old c.args.value c.in-Some.into c.put.new.slots c.requires.can_run c.requires.ready c.requires.over found
    (c.put.ensures ∙ ap (λ v. put_all c.in-Some.into v old.slots) same) in
    record { ready = finished.ready; moves = finished.moves }

pub returns-in-None-clause-moves : goal.returns-in-None-clause-moves
returns-in-None-clause-moves c =
    let procs = c.args.procs.now in
    let old = c.args.self.now in
    let found : into_of (slice_get (commands_in procs old.steps.items) old.at) ≡ None =
    sym (c.called_into.ensures.into ∙ ap (λ (cs : List Command). into_of (slice_get cs old.at)) c.requires.commands) ∙ c.in-None.is in
    finish-none procs old c.args.value c.requires.over c.requires.settled found
