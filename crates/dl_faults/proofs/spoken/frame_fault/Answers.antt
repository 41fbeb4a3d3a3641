use Rattle.std.proofs.Common.{false, ap, ◌∙◌}
use Rattle.dl_faults.specs.Wrong.{earliest}
use Rattle.dl_faults.proofs.Stood.{touched-stood}
use Rattle.dl_faults.proofs.spoken.frame_fault.Goals as goal

pub returns : goal.returns
returns c =
    c.each_touched_fault.ensures ∙ ap earliest (touched-stood false c.args.tree.now c.args.callee.now _ _ _ _ c.place-whole.ensures
    (c.as_slice.ensures ∙ c.in_ok-places.ensures) (c.as_slice-2.ensures ∙ c.in_ok-labels.ensures))
