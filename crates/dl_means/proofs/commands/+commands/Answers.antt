use Rattle.std.proofs.Common.{◌≡◌, ℤ, Bool, List, sym, ◌∙◌, ap}
use Rattle.std.specs.Prelude.{◌&&◌}
use Rattle.std.specs.List.{list_all}
use Rattle.dl_term.specs.declared.syntax.Term.{Term}
use Rattle.dl_forms.specs.Context.{Text}
use Rattle.dl_means.specs.Known.{words_of}
use Rattle.dl_means.specs.Says.{says, says_term, says_command}
use Rattle.dl_means.proofs.CommandLemmas.{if-says, while-says, three-same}
use Rattle.dl_means.proofs.commands.+commands.Goals as goal

pub says_command-returns-in-Send : goal.says_command-returns-in-Send
says_command-returns-in-Send t c =
    let names = c.args.names.now in
    let words : List (Text × ℤ) = words_of c.args.words.now in
    c.says_send.ensures
    ∙ (ap (λ (args : List Term). says names words c.in-Send.note && (says_term names words c.in-Send.to && list_all (says_term names words) args)) c.as_slice.ensures ∙ sym (ap (says_command names words) c.in-Send.is))

pub says_command-returns-in-If : goal.says_command-returns-in-If
says_command-returns-in-If t c =
    let names = c.args.names.now in
    let words : List (Text × ℤ) = words_of c.args.words.now in
    let first : Bool = list_all (says_command names words) c.in-If.yes in
    let second : Bool = list_all (says_command names words) c.in-If.no in
    let run : c.says_commands.result ≡ first = c.says_commands.ensures ∙ ap (list_all (says_command names words)) c.as_slice-in-If.ensures in
    let more : c.says_commands-in-If.result ≡ second = c.says_commands-in-If.ensures ∙ ap (list_all (says_command names words)) c.as_slice-in-If-2.ensures in
    c.all_three.ensures
    ∙ (three-same c.says-in-If.result c.says_commands.result c.says_commands-in-If.result (says names words c.in-If.test) first second c.says-in-If.ensures run more
    ∙ (sym (if-says names words c.in-If.test c.in-If.yes c.in-If.no) ∙ sym (ap (says_command names words) c.in-If.is)))

pub says_command-returns-in-While : goal.says_command-returns-in-While
says_command-returns-in-While t c =
    let names = c.args.names.now in
    let words : List (Text × ℤ) = words_of c.args.words.now in
    let inner : Bool = list_all (says_command names words) c.in-While.body in
    let run : c.says_commands-in-While.result ≡ inner = c.says_commands-in-While.ensures ∙ ap (list_all (says_command names words)) c.as_slice-in-While.ensures in
    c.all_three-in-While.ensures
    ∙ (three-same c.says-in-While.result c.says-in-While-2.result c.says_commands-in-While.result (says names words c.in-While.test) (says names words c.in-While.note) inner
    c.says-in-While.ensures c.says-in-While-2.ensures run
    ∙ (sym (while-says names words c.in-While.test c.in-While.note c.in-While.body) ∙ sym (ap (says_command names words) c.in-While.is)))

pub says_command-returns-in-Call : goal.says_command-returns-in-Call
says_command-returns-in-Call t c =
    let names = c.args.names.now in
    let words : List (Text × ℤ) = words_of c.args.words.now in
    c.says_call.ensures
    ∙ (ap (λ (args : List Term). says names words c.in-Call.note && (says names words c.in-Call.frame && list_all (says_term names words) args)) c.as_slice-in-Call.ensures ∙ sym (ap (says_command names words) c.in-Call.is))
