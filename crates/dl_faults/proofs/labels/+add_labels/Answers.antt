use Rattle.std.proofs.Common.{◌≡◌, ◌∷◌, ◌++◌, ◌∙◌, ap, refl}
use Rattle.dl_model.specs.Spoken.{labels_of}
use Rattle.dl_faults.proofs.Labelled.{labels-And, labels-Or, labels-Implies, labels-Each, labels-Any, one-done, two-done}
use Rattle.dl_faults.proofs.labels.+add_labels.Goals as goal

pub returns-in_ok-add_labels-in-And : goal.returns-in_ok-add_labels-in-And
returns-in_ok-add_labels-in-And t c =
    let left = c.get-in-And.result.now in
    let right = c.get-in-And-2.result.now in
    let whole : labels_of c.args.formula.now ≡ labels_of left ++ labels_of right =
    ap labels_of c.in-And.is ∙ labels-And c.in-And.left c.in-And.right ∙ rw (c.get-in-And.ensures, c.get-in-And-2.ensures) refl in
    two-done c.add_labels-in-And-2.result c.args.labels.now c.add_labels-in-And.new.labels c.add_labels-in-And-2.new.labels (labels_of left) (labels_of right) (labels_of c.args.formula.now)
    whole c.in_ok-add_labels-in-And.ensures c.add_labels-in-And-2.ensures

pub returns-in_ok-add_labels-in-Or : goal.returns-in_ok-add_labels-in-Or
returns-in_ok-add_labels-in-Or t c =
    let left = c.get-in-Or.result.now in
    let right = c.get-in-Or-2.result.now in
    let whole : labels_of c.args.formula.now ≡ labels_of left ++ labels_of right =
    ap labels_of c.in-Or.is ∙ labels-Or c.in-Or.left c.in-Or.right ∙ rw (c.get-in-Or.ensures, c.get-in-Or-2.ensures) refl in
    two-done c.add_labels-in-Or-2.result c.args.labels.now c.add_labels-in-Or.new.labels c.add_labels-in-Or-2.new.labels (labels_of left) (labels_of right) (labels_of c.args.formula.now)
    whole c.in_ok-add_labels-in-Or.ensures c.add_labels-in-Or-2.ensures

pub returns-in_ok-add_labels-in-Implies : goal.returns-in_ok-add_labels-in-Implies
returns-in_ok-add_labels-in-Implies t c =
    let left = c.get-in-Implies.result.now in
    let right = c.get-in-Implies-2.result.now in
    let whole : labels_of c.args.formula.now ≡ labels_of left ++ labels_of right =
    ap labels_of c.in-Implies.is ∙ labels-Implies c.in-Implies.left c.in-Implies.right ∙ rw (c.get-in-Implies.ensures, c.get-in-Implies-2.ensures) refl in
    two-done c.add_labels-in-Implies-2.result c.args.labels.now c.add_labels-in-Implies.new.labels c.add_labels-in-Implies-2.new.labels (labels_of left) (labels_of right) (labels_of c.args.formula.now)
    whole c.in_ok-add_labels-in-Implies.ensures c.add_labels-in-Implies-2.ensures

pub returns-in_ok-push-in-Each : goal.returns-in_ok-push-in-Each
returns-in_ok-push-in-Each t c =
    let body = c.get-in-Each.result.now in
    let whole : labels_of c.args.formula.now ≡ c.in-Each.label ∷ labels_of body =
    ap labels_of c.in-Each.is ∙ labels-Each c.in-Each.msg c.in-Each.label c.in-Each.tag c.in-Each.body ∙ rw c.get-in-Each.ensures refl in
    one-done c.add_labels-in-Each.result c.args.labels.now c.push.new.self c.add_labels-in-Each.new.labels (labels_of body) (labels_of c.args.formula.now) c.in-Each.label
    whole c.in_ok-push-in-Each.ensures.ok c.add_labels-in-Each.ensures

pub returns-in_ok-push-in-Any : goal.returns-in_ok-push-in-Any
returns-in_ok-push-in-Any t c =
    let body = c.get-in-Any.result.now in
    let whole : labels_of c.args.formula.now ≡ c.in-Any.label ∷ labels_of body =
    ap labels_of c.in-Any.is ∙ labels-Any c.in-Any.msg c.in-Any.label c.in-Any.tag c.in-Any.body ∙ rw c.get-in-Any.ensures refl in
    one-done c.add_labels-in-Any.result c.args.labels.now c.push-in-Any.new.self c.add_labels-in-Any.new.labels (labels_of body) (labels_of c.args.formula.now) c.in-Any.label
    whole c.in_ok-push-in-Any.ensures.ok c.add_labels-in-Any.ensures
