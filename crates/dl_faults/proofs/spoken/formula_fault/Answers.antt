use Rattle.std.proofs.Common.{true, ap, ◌∙◌}
use Rattle.dl_tree.specs.TreePlace.{place_of}
use Rattle.dl_faults.specs.Wrong.{earliest}
use Rattle.dl_faults.proofs.Stood.{labels-stood}
use Rattle.dl_faults.proofs.spoken.formula_fault.Goals as goal

pub returns : goal.returns
returns c =
    c.labels_fault.ensures ∙ ap earliest (labels-stood true c.args.tree.now 20 c.args.world.now _ _ _ _ (c.place-whole.ensures ∙ ap place_of c.label_word.ensures)
    (c.as_slice.ensures ∙ c.in_ok-places.ensures) (c.as_slice-2.ensures ∙ c.in_ok-labels.ensures))
