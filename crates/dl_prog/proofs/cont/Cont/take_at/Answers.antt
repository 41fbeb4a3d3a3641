use Rattle.std.proofs.Common.{◌≡◌, Some, List, ℕ, refl, ap, sym, ◌∙◌, subst}
use Rattle.dl_model.specs.declared.program.Command.TheVariants as of
use Rattle.dl_prog.specs.declared.cont.Cont.{Cont}
use Rattle.dl_prog.specs.Moves.{after_await, after_poll}
use Rattle.dl_prog.proofs.Replying.{Taken, send-taken, await-taken, poll-taken, read-taken, quiet-taken}
use Rattle.dl_prog.proofs.cont.Cont.take_at.Goals as goal

pub returns-in-Send : goal.returns-in-Send
returns-in-Send c =
    let taken = send-taken c.args.procs.now c.args.self.now c.in-Send.note c.in-Send.label c.in-Send.tag c.in-Send.to c.in-Send.args c.args.reply.now c.requires.ready c.requires.over
    (c.requires.here ∙ ap Some c.in-Send.is) in
    record { ready = taken.ready; moves = taken.moves }

pub returns-in-Await : goal.returns-in-Await
returns-in-Await c =
    let old : Cont = c.args.self.now in
    let new : Cont = c.take_await.new.self in
    let after : new ≡ after_await c.in-Await.sender c.in-Await.args c.args.reply.now old =
    subst (λ (xs : List ℕ). new ≡ after_await c.in-Await.sender xs c.args.reply.now old) c.as_slice.ensures c.take_await.ensures in
    let taken = subst (λ (x : Cont). Taken c.args.procs.now old x c.args.reply.now) (sym after)
    (await-taken c.args.procs.now old c.in-Await.note c.in-Await.label c.in-Await.tag c.in-Await.sender c.in-Await.args c.args.reply.now c.requires.can_run c.requires.ready c.requires.over
    (c.requires.here ∙ ap Some c.in-Await.is)) in
    record { ready = taken.ready; moves = taken.moves }

pub returns-in-Poll : goal.returns-in-Poll
returns-in-Poll c =
    let old : Cont = c.args.self.now in
    let new : Cont = c.take_poll.new.self in
    let after : new ≡ after_poll c.in-Poll.got c.in-Poll.sender c.in-Poll.args c.args.reply.now old =
    subst (λ (xs : List ℕ). new ≡ after_poll c.in-Poll.got c.in-Poll.sender xs c.args.reply.now old) c.as_slice-in-Poll.ensures c.take_poll.ensures in
    let taken = subst (λ (x : Cont). Taken c.args.procs.now old x c.args.reply.now) (sym after)
    (poll-taken c.args.procs.now old c.in-Poll.note c.in-Poll.got c.in-Poll.label c.in-Poll.tag c.in-Poll.sender c.in-Poll.args c.args.reply.now c.requires.can_run c.requires.ready c.requires.over
    (c.requires.here ∙ ap Some c.in-Poll.is)) in
    record { ready = taken.ready; moves = taken.moves }

pub returns-in-Read : goal.returns-in-Read
returns-in-Read c =
    let old : Cont = c.args.self.now in
    let new : Cont = c.take_read.new.self in
    let taken = subst (λ (x : Cont). Taken c.args.procs.now old x c.args.reply.now) (sym c.take_read.ensures)
    (read-taken c.args.procs.now old c.in-Read.note c.in-Read.into c.in-Read.label c.in-Read.field c.in-Read.index c.args.reply.now c.requires.can_run c.requires.ready c.requires.over
    (c.requires.here ∙ ap Some c.in-Read.is)) in
    record { ready = taken.ready; moves = taken.moves }

pub returns-in-Set : goal.returns-in-Set
returns-in-Set c =
    let taken = quiet-taken c.args.procs.now c.args.self.now (of.Set c.in-Set.local c.in-Set.value) c.args.reply.now c.requires.ready c.requires.over (c.requires.here ∙ ap Some c.in-Set.is) refl in
    record { ready = taken.ready; moves = taken.moves }

pub returns-in-If : goal.returns-in-If
returns-in-If c =
    let taken = quiet-taken c.args.procs.now c.args.self.now (of.If c.in-If.test c.in-If.yes c.in-If.no) c.args.reply.now c.requires.ready c.requires.over (c.requires.here ∙ ap Some c.in-If.is) refl in
    record { ready = taken.ready; moves = taken.moves }

pub returns-in-While : goal.returns-in-While
returns-in-While c =
    let taken = quiet-taken c.args.procs.now c.args.self.now (of.While c.in-While.test c.in-While.note c.in-While.body) c.args.reply.now c.requires.ready c.requires.over (c.requires.here ∙ ap Some c.in-While.is) refl in
    record { ready = taken.ready; moves = taken.moves }

pub returns-in-Call : goal.returns-in-Call
returns-in-Call c =
    let taken = quiet-taken c.args.procs.now c.args.self.now (of.Call c.in-Call.note c.in-Call.frame c.in-Call.into c.in-Call.proc c.in-Call.args) c.args.reply.now c.requires.ready c.requires.over (c.requires.here ∙ ap Some c.in-Call.is) refl in
    record { ready = taken.ready; moves = taken.moves }
