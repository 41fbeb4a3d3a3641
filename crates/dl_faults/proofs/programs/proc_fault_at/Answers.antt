use Rattle.std.proofs.Common.{◌++◌, List, ap, ◌∙◌}
use Rattle.dl_tree.specs.declared.tree.Tree.{Tree}
use Rattle.dl_model.specs.declared.program.Command.{Command}
use Rattle.dl_model.specs.Block.{block_of}
use Rattle.dl_faults.specs.Wrong.{earliest}
use Rattle.dl_faults.specs.Code.{commands_wrong}
use Rattle.dl_faults.specs.ProgramPlaces.{formula_in, body_of}
use Rattle.dl_faults.specs.Programs.{formula_wrong, block_wrong}
use Rattle.dl_faults.proofs.Stages.{both-parts}
use Rattle.dl_faults.proofs.Walking.{commands-told}
use Rattle.dl_faults.proofs.programs.proc_fault_at.Goals as goal

pub returns : goal.returns
returns c =
    let file = c.args.file.now in
    let world = c.args.world.now in
    let tree = c.args.tree.now in
    let proc = c.args.proc.now in
    both-parts (formula_wrong world (formula_in tree 5) proc.pre ++ formula_wrong world (formula_in tree 6) proc.post) (block_wrong file world tree (body_of tree) 0 (block_of proc.body))
    c.in_ok-of_conditions.of_conditions c.in_ok-of_body.of_body c.earlier_of.result
    c.in_ok-of_conditions.ensures
    (c.in_ok-of_body.ensures ∙ (ap (λ (trees : List Tree). earliest (commands_wrong file world tree trees c.as_slice.result.now)) c.body_of-trees.ensures
    ∙ (ap (λ (commands : List Command). earliest (commands_wrong file world tree (body_of tree) commands)) c.as_slice.ensures ∙ ap earliest (commands-told file world tree (body_of tree) proc.body))))
    c.earlier_of.ensures
