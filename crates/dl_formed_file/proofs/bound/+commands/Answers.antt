use Rattle.std.proofs.Common.{◌≡◌, ◌<◌, ℕ, List, ◌++◌, ◌∙◌, ap, sym, length, arith}
use Rattle.std.specs.List.{flat_map}
use Rattle.dl_model.specs.Spoken.{bound_names}
use Rattle.dl_formed_file.specs.Bound.{with_names, command_bound}
use Rattle.dl_formed_file.proofs.BoundLemmas.{item-added, names_added, bound-If, bound-While}
use Rattle.dl_formed_file.proofs.bound.+commands.Goals as goal

pub add_commands-loop-command-preserved : goal.add_commands-loop-command-preserved
add_commands-loop-command-preserved t c =
    let within : c.loop-command.command-index < length c.args.commands.now = omega arith in
    item-added command_bound c.loop-command.set.keys c.add_command.new.set.keys (with_names c.args.set.now.keys (flat_map command_bound c.args.commands.now)) c.args.commands.now
    c.loop-command.command-index c.command-item.result within c.command-item.is c.in_ok-add_command.ensures c.loop-command.invariant

pub add_command-returns-in_ok-add_commands-in-If-2 : goal.add_command-returns-in_ok-add_commands-in-If-2
add_command-returns-in_ok-add_commands-in-If-2 t c =
    let old = c.args.set.now.keys in
    let chosen = flat_map command_bound c.in-If.yes in
    let other = flat_map command_bound c.in-If.no in
    let names : command_bound c.args.command.now ≡ chosen ++ other = ap command_bound c.in-If.is ∙ bound-If c.in-If.test c.in-If.yes c.in-If.no in
    let first = c.in_ok-add_commands-in-If.ensures ∙ ap (λ commands. with_names old (flat_map command_bound commands)) c.as_slice.ensures in
    c.in_ok-add_commands-in-If-2.ensures
    ∙ ap (λ commands. with_names c.add_commands.new.set.keys (flat_map command_bound commands)) c.as_slice-in-If.ensures
    ∙ ap (λ (set : List ℕ). with_names set other) first
    ∙ names_added old chosen other
    ∙ ap (with_names old) (sym names)

pub add_command-returns-in_ok-add_commands-in-While : goal.add_command-returns-in_ok-add_commands-in-While
add_command-returns-in_ok-add_commands-in-While t c =
    let old = c.args.set.now.keys in
    let note = bound_names c.in-While.note in
    let inside = flat_map command_bound c.in-While.body in
    let names : command_bound c.args.command.now ≡ note ++ inside = ap command_bound c.in-While.is ∙ bound-While c.in-While.test c.in-While.note c.in-While.body in
    c.in_ok-add_commands-in-While.ensures
    ∙ ap (λ commands. with_names c.add_formula-in-While.new.set.keys (flat_map command_bound commands)) c.as_slice-in-While.ensures
    ∙ ap (λ (set : List ℕ). with_names set inside) c.in_ok-add_formula-in-While.ensures
    ∙ names_added old note inside
    ∙ ap (with_names old) (sym names)
