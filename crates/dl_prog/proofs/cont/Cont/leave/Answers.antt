use Rattle.std.proofs.Common.{rules, ◌≡◌, Some, None, sym, ◌∙◌, ap, to_z, of_z, w64}
use Rattle.std.specs.Prelude.{if◌then◌else◌}
use Rattle.dl_model.specs.Lookup.{proc_at}
use Rattle.dl_model.specs.Machine.{value_of, returned}
use Rattle.dl_model.specs.Sorts.{is_i64}
use Rattle.dl_prog.specs.Slots.{named}
use Rattle.dl_prog.specs.Places.{proc_in, callers_in}
use Rattle.dl_prog.proofs.Moving.{result_in, leave-stops, leave-gives}
use Rattle.dl_prog.proofs.cont.Cont.leave.Goals as goal

pub returns-in-None : goal.returns-in-None
returns-in-None c =
    let procs = c.args.procs.now in
    let old = c.args.self.now in
    let which : c.proc_in.result ≡ proc_in old.steps.items = c.proc_in.ensures ∙ ap proc_in c.steps.ensures in
    let outside : (if is_i64 (result_in procs old) then Some (result_in procs old) else None) ≡ None =
    sym (c.result_of.ensures
    ∙ ap (λ n. if is_i64 (value_of (proc_at procs n).result (named old.slots)) then Some (value_of (proc_at procs n).result (named old.slots)) else None) which) ∙ c.in-None.is in
    let moved = leave-stops procs old c.requires.ready c.requires.over c.requires.past (c.requires.settled c.requires.past) outside in
    record { ready = moved.ready; answer = moved.answer; moves = moved.moves }

pub give-requires-clause-outermost : goal.give-requires-clause-outermost
give-requires-clause-outermost c = c.requires.settled c.requires.past

pub returns-in-Some : goal.returns-in-Some
returns-in-Some c =
    let procs = c.args.procs.now in
    let old = c.args.self.now in
    let same : to_z w64 (of_z w64 c.in-Some.value) ≡ c.in-Some.value = search rules in
    let which : c.proc_in.result ≡ proc_in old.steps.items = c.proc_in.ensures ∙ ap proc_in c.steps.ensures in
    let inside : (if is_i64 (result_in procs old) then Some (result_in procs old) else None) ≡ Some c.in-Some.value =
    sym (c.result_of.ensures
    ∙ ap (λ n. if is_i64 (value_of (proc_at procs n).result (named old.slots)) then Some (value_of (proc_at procs n).result (named old.slots)) else None) which) ∙ c.in-Some.is in
    let moved = leave-gives procs old c.give.new.self c.in-Some.value c.give.ensures.ready c.requires.over c.requires.past (c.requires.settled c.requires.past) inside
    (c.give.ensures.moves ∙ ap (returned (callers_in procs old.steps.items)) same) in
    record { ready = moved.ready; answer = moved.answer; moves = moved.moves }
