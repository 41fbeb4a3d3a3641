use Rattle.std.proofs.Common.{ap, ◌∙◌}
use Rattle.dl_tree.specs.declared.tree.Tree.{Tree}
use Rattle.dl_faults.specs.Wrong.{earliest}
use Rattle.dl_faults.specs.ProgramPlaces.{formula_in}
use Rattle.dl_faults.specs.Programs.{formula_wrong}
use Rattle.dl_faults.proofs.Stages.{both-parts}
use Rattle.dl_faults.proofs.programs.conditions_fault.Goals as goal

pub returns : goal.returns
returns c =
    let world = c.args.world.now in
    let tree = c.args.tree.now in
    both-parts (formula_wrong world (formula_in tree 5) c.args.proc.now.pre) (formula_wrong world (formula_in tree 6) c.args.proc.now.post)
    c.in_ok-of_pre.of_pre c.in_ok-of_post.of_post c.earlier_of.result
    (c.in_ok-of_pre.ensures ∙ ap (λ (t : Tree). earliest (formula_wrong world t c.args.proc.now.pre)) c.formula_in-at_pre.ensures)
    (c.in_ok-of_post.ensures ∙ ap (λ (t : Tree). earliest (formula_wrong world t c.args.proc.now.post)) c.formula_in-at_post.ensures)
    c.earlier_of.ensures
