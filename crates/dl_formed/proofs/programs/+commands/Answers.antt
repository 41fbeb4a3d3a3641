use Rattle.std.proofs.Common.{◌≡◌, ◌&&◌, Bool, false, List, refl, sym, ◌∙◌, ap}
use Rattle.std.specs.List.{list_all}
use Rattle.dl_term.specs.declared.syntax.Term.{Term}
use Rattle.dl_formed.specs.Sighted.{sight_of}
use Rattle.dl_formed.specs.Programs.{Sight, is_test, is_note, call_is_formed, command_is_formed}
use Rattle.dl_formed.proofs.Running.{if-formed, while-formed, fails-first, fails-second, passes-on}
use Rattle.dl_formed.proofs.programs.+commands.Goals as goal

pub command_is_formed-returns-then-not-commands_are_formed : goal.command_is_formed-returns-then-not-commands_are_formed
command_is_formed-returns-then-not-commands_are_formed t c =
    let sight : Sight = sight_of c.args.inside.now in
    let first : Bool = list_all (command_is_formed sight) c.in-If.yes in
    let second : Bool = list_all (command_is_formed sight) c.in-If.no in
    let are : command_is_formed sight c.args.command.now ≡ (is_test sight c.in-If.test && (first && second)) =
    ap (command_is_formed sight) c.in-If.is ∙ if-formed sight c.in-If.test c.in-If.yes c.in-If.no in
    let run : c.commands_are_formed.result ≡ first = c.commands_are_formed.ensures ∙ ap (list_all (command_is_formed sight)) c.as_slice-in-If.ensures in
    let inner : false ≡ (first && second) = fails-first first second c.commands_are_formed.result run c.if-not-commands_are_formed.true in
    fails-second (is_test sight c.in-If.test) (first && second) c.is_test.result false c.is_test.ensures c.if-not-is_test.false inner refl ∙ sym are

pub command_is_formed-returns-else-not-commands_are_formed : goal.command_is_formed-returns-else-not-commands_are_formed
command_is_formed-returns-else-not-commands_are_formed t c =
    let sight : Sight = sight_of c.args.inside.now in
    let first : Bool = list_all (command_is_formed sight) c.in-If.yes in
    let second : Bool = list_all (command_is_formed sight) c.in-If.no in
    let are : command_is_formed sight c.args.command.now ≡ (is_test sight c.in-If.test && (first && second)) =
    ap (command_is_formed sight) c.in-If.is ∙ if-formed sight c.in-If.test c.in-If.yes c.in-If.no in
    let run : c.commands_are_formed.result ≡ first = c.commands_are_formed.ensures ∙ ap (list_all (command_is_formed sight)) c.as_slice-in-If.ensures in
    let more : c.commands_are_formed-in-If.result ≡ second = c.commands_are_formed-in-If.ensures ∙ ap (list_all (command_is_formed sight)) c.as_slice-in-If-2.ensures in
    let inner : c.commands_are_formed-in-If.result ≡ (first && second) =
    passes-on first second c.commands_are_formed.result c.commands_are_formed-in-If.result run c.if-not-commands_are_formed.false more in
    passes-on (is_test sight c.in-If.test) (first && second) c.is_test.result c.commands_are_formed-in-If.result c.is_test.ensures c.if-not-is_test.false inner ∙ sym are

pub command_is_formed-returns-else-not-is_note : goal.command_is_formed-returns-else-not-is_note
command_is_formed-returns-else-not-is_note t c =
    let sight : Sight = sight_of c.args.inside.now in
    let body : Bool = list_all (command_is_formed sight) c.in-While.body in
    let are : command_is_formed sight c.args.command.now ≡ (is_test sight c.in-While.test && (is_note sight c.in-While.note && body)) =
    ap (command_is_formed sight) c.in-While.is ∙ while-formed sight c.in-While.test c.in-While.note c.in-While.body in
    let run : c.commands_are_formed-in-While.result ≡ body = c.commands_are_formed-in-While.ensures ∙ ap (list_all (command_is_formed sight)) c.as_slice-in-While.ensures in
    let inner : c.commands_are_formed-in-While.result ≡ (is_note sight c.in-While.note && body) =
    passes-on (is_note sight c.in-While.note) body c.is_note-in-While.result c.commands_are_formed-in-While.result c.is_note-in-While.ensures c.if-not-is_note.false run in
    passes-on (is_test sight c.in-While.test) (is_note sight c.in-While.note && body) c.is_test-in-While.result c.commands_are_formed-in-While.result c.is_test-in-While.ensures
    c.if-not-is_test-2.false inner
    ∙ sym are

pub command_is_formed-returns-in-Call : goal.command_is_formed-returns-in-Call
command_is_formed-returns-in-Call t c =
    let sight : Sight = sight_of c.args.inside.now in
    c.call_is_formed.ensures ∙
    (ap (λ (args : List Term). call_is_formed sight c.in-Call.note c.in-Call.frame c.in-Call.into c.in-Call.proc args) c.as_slice-in-Call.ensures ∙ sym (ap (command_is_formed sight) c.in-Call.is))
