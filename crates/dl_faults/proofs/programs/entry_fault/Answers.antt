use Rattle.std.proofs.Common.{ap, ◌∙◌}
use Rattle.dl_tree.specs.declared.tree.Place.{Place}
use Rattle.dl_tree.specs.declared.tree.Tree.{Tree}
use Rattle.dl_tree.specs.TreePlace.{place_of}
use Rattle.dl_world.specs.Injected.{injection}
use Rattle.dl_faults.specs.Wrong.{earliest}
use Rattle.dl_faults.specs.Injections.{injection_wrong}
use Rattle.dl_faults.specs.ProgramPlaces.{part_at}
use Rattle.dl_faults.specs.Programs.{frame_wrong}
use Rattle.dl_faults.proofs.Stages.{both-parts}
use Rattle.dl_faults.proofs.programs.entry_fault.Goals as goal

pub returns : goal.returns
returns c =
    let callee = c.args.callee.now in
    let tree = c.args.tree.now in
    let injected = injection c.args.decls.now callee c.args.world.now in
    both-parts (frame_wrong callee (part_at tree 2) c.args.frame.now) (injection_wrong (place_of tree) injected)
    c.in_ok-of_frame.of_frame c.injection_fault-injected.result c.earlier_of.result
    (c.in_ok-of_frame.ensures ∙ ap (λ (t : Tree). earliest (frame_wrong callee t c.args.frame.now)) c.part_at-at_frame.ensures)
    (c.injection_fault-injected.ensures ∙ ap (λ (p : Place). earliest (injection_wrong p injected)) c.place-place.ensures)
    c.earlier_of.ensures
