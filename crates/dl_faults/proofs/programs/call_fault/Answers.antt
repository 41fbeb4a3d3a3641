use Rattle.std.proofs.Common.{◌++◌}
use Rattle.dl_tree.specs.TreePlace.{place_of}
use Rattle.dl_world.specs.Injected.{injection}
use Rattle.dl_faults.specs.Injections.{injection_wrong}
use Rattle.dl_faults.specs.ProgramPlaces.{part_at}
use Rattle.dl_faults.specs.Programs.{formula_wrong, frame_wrong}
use Rattle.dl_faults.proofs.Stages.{both-parts}
use Rattle.dl_faults.proofs.programs.call_fault.Goals as goal

pub returns : goal.returns
returns c =
    let world = c.args.world.now in
    let callee = c.args.callee.now in
    let tree = c.args.tree.now in
    both-parts (formula_wrong world (part_at tree 1) c.args.note.now ++ formula_wrong world (part_at tree 2) c.args.frame.now)
    (frame_wrong callee (part_at tree 2) c.args.frame.now ++ injection_wrong (place_of tree) (injection c.args.file.now.decls callee world))
    c.in_ok-of_notes.of_notes c.in_ok-of_entry.of_entry c.earlier_of.result
    c.in_ok-of_notes.ensures c.in_ok-of_entry.ensures c.earlier_of.ensures
