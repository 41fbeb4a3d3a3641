use Rattle.std.proofs.Common.{false, map, ap, ◌∙◌}
use Rattle.std.specs.Prelude.{codes}
use Rattle.dl_faults.specs.Wrong.{earliest}
use Rattle.dl_faults.specs.Places.{item, label_lists}
use Rattle.dl_faults.specs.Code.{stood_at}
use Rattle.dl_faults.proofs.Stood.{labels-stood}
use Rattle.dl_faults.proofs.invariants.spoken_fault.Goals as goal

pub returns : goal.returns
returns c =
    let whole = item c.args.file.now.tree (codes "invariant") c.args.i in
    c.labels_fault.ensures ∙ ap earliest (labels-stood false whole 24 c.args.world.now _ _ _ _ c.invariant_place-whole.ensures
    (c.as_slice.ensures ∙ (c.in_ok-places.ensures ∙ ap (λ t. map (stood_at false) (label_lists t)) c.item.ensures)) (c.as_slice-2.ensures ∙ c.in_ok-labels.ensures))
