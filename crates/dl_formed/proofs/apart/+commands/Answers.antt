use Rattle.std.proofs.Common.{◌≡◌, ◌&&◌, ℕ, Bool, List, sym, ◌∙◌, ap}
use Rattle.std.specs.List.{list_all}
use Rattle.dl_formed.specs.Known.{formula_is_apart}
use Rattle.dl_formed.specs.Programs.{command_is_apart}
use Rattle.dl_formed.proofs.Running.{if-apart, while-apart, fails-first, passes-on}
use Rattle.dl_formed.proofs.apart.+commands.Goals as goal

pub command_is_apart-returns-then-not-commands_are_apart : goal.command_is_apart-returns-then-not-commands_are_apart
command_is_apart-returns-then-not-commands_are_apart t c =
    let names : List ℕ = c.args.names.now in
    let first : Bool = list_all (command_is_apart names) c.in-If.yes in
    let second : Bool = list_all (command_is_apart names) c.in-If.no in
    let are : command_is_apart names c.args.command.now ≡ (first && second) = ap (command_is_apart names) c.in-If.is ∙ if-apart names c.in-If.test c.in-If.yes c.in-If.no in
    let run : c.commands_are_apart.result ≡ first = c.commands_are_apart.ensures ∙ ap (list_all (command_is_apart names)) c.as_slice.ensures in
    fails-first first second c.commands_are_apart.result run c.if-not-commands_are_apart.true ∙ sym are

pub command_is_apart-returns-else-not-commands_are_apart : goal.command_is_apart-returns-else-not-commands_are_apart
command_is_apart-returns-else-not-commands_are_apart t c =
    let names : List ℕ = c.args.names.now in
    let first : Bool = list_all (command_is_apart names) c.in-If.yes in
    let second : Bool = list_all (command_is_apart names) c.in-If.no in
    let are : command_is_apart names c.args.command.now ≡ (first && second) = ap (command_is_apart names) c.in-If.is ∙ if-apart names c.in-If.test c.in-If.yes c.in-If.no in
    let run : c.commands_are_apart.result ≡ first = c.commands_are_apart.ensures ∙ ap (list_all (command_is_apart names)) c.as_slice.ensures in
    let more : c.commands_are_apart-in-If.result ≡ second = c.commands_are_apart-in-If.ensures ∙ ap (list_all (command_is_apart names)) c.as_slice-in-If.ensures in
    passes-on first second c.commands_are_apart.result c.commands_are_apart-in-If.result run c.if-not-commands_are_apart.false more ∙ sym are

pub command_is_apart-returns-else-not-is_apart : goal.command_is_apart-returns-else-not-is_apart
command_is_apart-returns-else-not-is_apart t c =
    let names : List ℕ = c.args.names.now in
    let body : Bool = list_all (command_is_apart names) c.in-While.body in
    let are : command_is_apart names c.args.command.now ≡ (formula_is_apart names c.in-While.note && body) =
    ap (command_is_apart names) c.in-While.is ∙ while-apart names c.in-While.test c.in-While.note c.in-While.body in
    let run : c.commands_are_apart-in-While.result ≡ body = c.commands_are_apart-in-While.ensures ∙ ap (list_all (command_is_apart names)) c.as_slice-in-While.ensures in
    passes-on (formula_is_apart names c.in-While.note) body c.is_apart-in-While.result c.commands_are_apart-in-While.result c.is_apart-in-While.ensures c.if-not-is_apart.false run ∙ sym are
