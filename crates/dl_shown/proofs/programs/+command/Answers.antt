use Rattle.std.proofs.Common.{ℕ, List, ◌∷◌, map, refl, sym, ap, ◌∙◌}
use Rattle.std.specs.Prelude.{codes}
use Rattle.dl_term.specs.declared.syntax.Term.{Term}
use Rattle.dl_tree.specs.declared.tree.Tree.{Tree}
use Rattle.dl_model.specs.declared.program.Command.{Command, Send, Await, Poll, Read, Set, Call}
use Rattle.dl_forms.specs.Show.{form}
use Rattle.dl_shown.specs.Programs.{note_of, command_of}
use Rattle.dl_shown.proofs.ProgramLemmas.{if-built, while-shown}
use Rattle.dl_shown.proofs.Moved.{moved}
use Rattle.dl_shown.proofs.programs.+command.Goals as goal

pub repeat-returns : goal.repeat-returns
repeat-returns t c =
    rw (c.list.ensures, c.in_ok-add_commands.ensures, c.in_ok-push.ensures.ok, c.in_ok-note.ensures, c.in_ok-parts.ensures) refl

pub command-returns-in-Send : goal.command-returns-in-Send
command-returns-in-Send t c =
    let shown : Command → Tree = command_of c.args.names.now c.args.decls.now in
    let built : List Term → Command = λ (args : List Term). Send c.in-Send.note c.in-Send.label c.in-Send.tag c.in-Send.to args in
    moved c.send.result (shown (built c.as_slice.result.now)) (shown c.args.command.now) c.send.ensures
    (ap (λ (args : List Term). shown (built args)) c.as_slice.ensures ∙ sym (ap shown c.in-Send.is))

pub command-returns-in-Await : goal.command-returns-in-Await
command-returns-in-Await t c =
    let shown : Command → Tree = command_of c.args.names.now c.args.decls.now in
    let built : List ℕ → Command = λ (args : List ℕ). Await c.in-Await.note c.in-Await.label c.in-Await.tag c.in-Await.sender args in
    moved c.receive.result (shown (built c.as_slice-in-Await.result.now)) (shown c.args.command.now) c.receive.ensures
    (ap (λ (args : List ℕ). shown (built args)) c.as_slice-in-Await.ensures ∙ sym (ap shown c.in-Await.is))

pub command-returns-in-Poll : goal.command-returns-in-Poll
command-returns-in-Poll t c =
    let shown : Command → Tree = command_of c.args.names.now c.args.decls.now in
    let built : List ℕ → Command = λ (args : List ℕ). Poll c.in-Poll.note c.in-Poll.got c.in-Poll.label c.in-Poll.tag c.in-Poll.sender args in
    moved c.poll.result (shown (built c.as_slice-in-Poll.result.now)) (shown c.args.command.now) c.poll.ensures
    (ap (λ (args : List ℕ). shown (built args)) c.as_slice-in-Poll.ensures ∙ sym (ap shown c.in-Poll.is))

pub command-returns-in-Read : goal.command-returns-in-Read
command-returns-in-Read t c =
    let shown : Command → Tree = command_of c.args.names.now c.args.decls.now in
    moved c.read.result (shown (Read c.in-Read.note c.in-Read.into c.in-Read.label c.in-Read.field c.in-Read.index)) (shown c.args.command.now) c.read.ensures (sym (ap shown c.in-Read.is))

pub command-returns-in-Set : goal.command-returns-in-Set
command-returns-in-Set t c =
    let shown : Command → Tree = command_of c.args.names.now c.args.decls.now in
    moved c.set.result (shown (Set c.in-Set.local c.in-Set.value)) (shown c.args.command.now) c.set.ensures (sym (ap shown c.in-Set.is))

pub command-returns-in_ok-add_block-in-If-2 : goal.command-returns-in_ok-add_block-in-If-2
command-returns-in_ok-add_block-in-If-2 t c =
    if-built c.args.names.now c.args.decls.now c.args.command.now c.in-If.test c.in-If.yes c.in-If.no c.as_slice-in-If.result.now c.as_slice-in-If-2.result.now
    c.in_ok-parts-in-If.parts c.add_block.new.parts c.add_block-in-If.new.parts c.list.result c.in-If.is c.as_slice-in-If.ensures c.as_slice-in-If-2.ensures
    c.in_ok-parts-in-If.ensures c.in_ok-add_block-in-If.ensures c.in_ok-add_block-in-If-2.ensures c.list.ensures

pub command-returns-in-While : goal.command-returns-in-While
command-returns-in-While t c =
    let shown : Command → Tree = command_of c.args.names.now c.args.decls.now in
    let built : List Command → Tree = λ (body : List Command). form (codes "while") (note_of c.args.names.now c.args.decls.now c.in-While.test ∷ note_of c.args.names.now c.args.decls.now c.in-While.note ∷ map shown body) in
    moved c.repeat.result (built c.as_slice-in-While.result.now) (shown c.args.command.now) c.repeat.ensures
    (ap built c.as_slice-in-While.ensures ∙ (sym (while-shown c.args.names.now c.args.decls.now c.in-While.test c.in-While.note c.in-While.body) ∙ sym (ap shown c.in-While.is)))

pub command-returns-in-Call : goal.command-returns-in-Call
command-returns-in-Call t c =
    let shown : Command → Tree = command_of c.args.names.now c.args.decls.now in
    let built : List Term → Command = λ (args : List Term). Call c.in-Call.note c.in-Call.frame c.in-Call.into c.in-Call.proc args in
    moved c.call.result (shown (built c.as_slice-in-Call.result.now)) (shown c.args.command.now) c.call.ensures
    (ap (λ (args : List Term). shown (built args)) c.as_slice-in-Call.ensures ∙ sym (ap shown c.in-Call.is))
