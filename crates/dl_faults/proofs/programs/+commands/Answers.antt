use Rattle.std.proofs.Common.{◌<◌, List, length, drop, refl, sym, subst, ap, ◌∙◌, arith}
use Rattle.dl_tree.specs.declared.tree.Tree.{Tree}
use Rattle.dl_model.specs.declared.program.Command.{Command}
use Rattle.dl_model.specs.Lookup.{proc_at}
use Rattle.dl_world.specs.Injected.{HooksAreDeclared}
use Rattle.dl_faults.specs.Wrong.{earliest}
use Rattle.dl_faults.specs.Places.{parts_of}
use Rattle.dl_faults.specs.Code.{command_wrong, numbered_wrong, commands_wrong}
use Rattle.dl_faults.specs.ProgramPlaces.{part_at, behind}
use Rattle.dl_faults.specs.Programs.{formula_wrong}
use Rattle.dl_faults.proofs.Earliest.{seen-one}
use Rattle.dl_faults.proofs.Stages.{both-parts}
use Rattle.dl_faults.proofs.KeptPrograms.{hooks-declared}
use Rattle.dl_faults.proofs.Walking.{if-wrong, while-wrong}
use Rattle.dl_faults.proofs.programs.+commands.Goals as goal

pub commands_fault-loop-n-preserved : goal.commands_fault-loop-n-preserved
commands_fault-loop-n-preserved t c =
    let file = c.args.file.now in
    let world = c.args.world.now in
    let whole = c.args.whole.now in
    let commands = c.args.commands.now in
    let within : c.loop-n.n < length commands = omega arith in
    let command = c.index-commands-n.result in
    seen-one (numbered_wrong file world whole c.args.trees.now) commands commands c.loop-n.n command command c.loop-n.found c.in_ok-one.one c.earlier_of-found.result (earliest (commands_wrong file world whole c.args.trees.now commands))
    refl within c.index-commands-n.is (c.in_ok-one.ensures ∙ ap (λ (tree : Tree). earliest (command_wrong file world whole tree command)) c.tree_at-tree.ensures) c.earlier_of-found.ensures c.loop-n.invariant

pub command_fault-call_fault-requires-clause-few : goal.command_fault-call_fault-requires-clause-few
command_fault-call_fault-requires-clause-few t c = let few = c.requires.formed.small.hooks in omega (few, arith)

pub command_fault-call_fault-requires-clause-small : goal.command_fault-call_fault-requires-clause-small
command_fault-call_fault-requires-clause-small t c =
    let decls = c.args.file.now.decls in
    subst (HooksAreDeclared decls) (sym c.callee_world-callee.ensures) (hooks-declared decls c.requires.formed (proc_at decls.procs c.in-Call.proc).world)

pub command_fault-returns-in_ok-second-in-If : goal.command_fault-returns-in_ok-second-in-If
command_fault-returns-in_ok-second-in-If t c =
    let file = c.args.file.now in
    let world = c.args.world.now in
    let whole = c.args.whole.now in
    let tree = c.args.tree.now in
    both-parts (commands_wrong file world whole (behind (part_at tree 2)) c.in-If.yes) (commands_wrong file world whole (behind (part_at tree 3)) c.in-If.no)
    c.in_ok-first-in-If.first c.in_ok-second-in-If.second c.earlier_of.result
    (c.in_ok-first-in-If.ensures ∙ (ap (λ (trees : List Tree). earliest (commands_wrong file world whole trees c.as_slice.result.now)) (c.behind-on_yes.ensures ∙ ap behind c.part_at.ensures)
    ∙ ap (λ (commands : List Command). earliest (commands_wrong file world whole (behind (part_at tree 2)) commands)) c.as_slice.ensures))
    (c.in_ok-second-in-If.ensures ∙ (ap (λ (trees : List Tree). earliest (commands_wrong file world whole trees c.as_slice-in-If.result.now)) (c.behind-on_no.ensures ∙ ap behind c.part_at-in-If.ensures)
    ∙ ap (λ (commands : List Command). earliest (commands_wrong file world whole (behind (part_at tree 3)) commands)) c.as_slice-in-If.ensures))
    c.earlier_of.ensures
    ∙ sym (ap earliest (ap (command_wrong file world whole tree) c.in-If.is ∙ if-wrong file world whole tree c.in-If.test c.in-If.yes c.in-If.no))

pub command_fault-returns-in_ok-of_body-in-While : goal.command_fault-returns-in_ok-of_body-in-While
command_fault-returns-in_ok-of_body-in-While t c =
    let file = c.args.file.now in
    let world = c.args.world.now in
    let whole = c.args.whole.now in
    let tree = c.args.tree.now in
    both-parts (formula_wrong world (part_at tree 2) c.in-While.note) (commands_wrong file world whole (drop 3 (parts_of tree)) c.in-While.body)
    c.in_ok-of_note-in-While.of_note c.in_ok-of_body-in-While.of_body c.earlier_of-in-While.result
    (c.in_ok-of_note-in-While.ensures ∙ ap (λ (at_note : Tree). earliest (formula_wrong world at_note c.in-While.note)) c.part_at-at_note.ensures)
    (c.in_ok-of_body-in-While.ensures ∙ (ap (λ (trees : List Tree). earliest (commands_wrong file world whole trees c.as_slice-in-While.result.now)) c.behind_note-inside.ensures
    ∙ ap (λ (commands : List Command). earliest (commands_wrong file world whole (drop 3 (parts_of tree)) commands)) c.as_slice-in-While.ensures))
    c.earlier_of-in-While.ensures
    ∙ sym (ap earliest (ap (command_wrong file world whole tree) c.in-While.is ∙ while-wrong file world whole tree c.in-While.test c.in-While.note c.in-While.body))
