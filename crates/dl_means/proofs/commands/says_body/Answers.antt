use Rattle.std.proofs.Common.{◌≡◌, ℤ, Bool, List, ap, ◌∙◌}
use Rattle.std.specs.List.{list_all}
use Rattle.dl_forms.specs.Context.{Text}
use Rattle.dl_means.specs.Known.{words_of}
use Rattle.dl_means.specs.Says.{says_term, says_command}
use Rattle.dl_means.proofs.CommandLemmas.{fails-first, passes-on}
use Rattle.dl_means.proofs.commands.says_body.Goals as goal

pub returns-then-commands : goal.returns-then-commands
returns-then-commands c =
    let names = c.args.names.now in
    let words : List (Text × ℤ) = words_of c.args.words.now in
    let proc = c.args.proc.now in
    let body : Bool = list_all (says_command names words) proc.body in
    let all : c.says_commands-commands.result ≡ body = c.says_commands-commands.ensures ∙ ap (list_all (says_command names words)) c.as_slice.ensures in
    passes-on body (says_term names words proc.result) c.says_commands-commands.result c.says_term.result all c.if-commands.true c.says_term.ensures

pub returns-else-commands : goal.returns-else-commands
returns-else-commands c =
    let names = c.args.names.now in
    let words : List (Text × ℤ) = words_of c.args.words.now in
    let proc = c.args.proc.now in
    let body : Bool = list_all (says_command names words) proc.body in
    let all : c.says_commands-commands.result ≡ body = c.says_commands-commands.ensures ∙ ap (list_all (says_command names words)) c.as_slice.ensures in
    fails-first body (says_term names words proc.result) c.says_commands-commands.result all c.if-commands.false
