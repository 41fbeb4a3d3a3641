use Rattle.std.proofs.Common.{◌++◌, refl}
use Rattle.dl_model.specs.Spoken.{term_labels}
use Rattle.dl_faults.proofs.Labelled.{two-done}
use Rattle.dl_faults.proofs.labels.add_of_two_terms.Goals as goal

pub returns : goal.returns
returns c =
    let left = term_labels c.args.left.now in
    let right = term_labels c.args.right.now in
    two-done c.add_term_labels-2.result c.args.labels.now c.add_term_labels.new.labels c.add_term_labels-2.new.labels left right (left ++ right)
    refl c.in_ok-add_term_labels.ensures c.add_term_labels-2.ensures
