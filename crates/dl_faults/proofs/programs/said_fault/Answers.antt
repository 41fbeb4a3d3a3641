use Rattle.std.proofs.Common.{ap, ◌∙◌}
use Rattle.dl_tree.specs.declared.tree.Tree.{Tree}
use Rattle.dl_faults.specs.Wrong.{earliest}
use Rattle.dl_faults.specs.ProgramPlaces.{part_at}
use Rattle.dl_faults.specs.Programs.{formula_wrong, named_wrong}
use Rattle.dl_faults.proofs.Stages.{both-parts}
use Rattle.dl_faults.proofs.programs.said_fault.Goals as goal

pub returns : goal.returns
returns c =
    let world = c.args.world.now in
    let tree = c.args.tree.now in
    both-parts (formula_wrong world (part_at tree 1) c.args.note.now) (named_wrong world (part_at tree c.args.part) c.args.label)
    c.in_ok-of_note.of_note c.named_fault-of_label.result c.earlier_of.result
    (c.in_ok-of_note.ensures ∙ ap (λ (t : Tree). earliest (formula_wrong world t c.args.note.now)) c.part_at-at_note.ensures)
    (c.named_fault-of_label.ensures ∙ ap (λ (t : Tree). earliest (named_wrong world t c.args.label)) c.part_at-at_label.ensures)
    c.earlier_of.ensures
