use Rattle.std.proofs.Common.{◌≡◌, ◌∷◌, ◌++◌, ◌∙◌, append_assoc, ap, sym, refl}
use Rattle.dl_term.specs.Syntax.{opened}
use Rattle.dl_model.specs.Spoken.{term_labels}
use Rattle.dl_faults.proofs.Labelled.{labels-Add, labels-Sub, labels-Mul, labels-If, one-then, two-parts, one-done, two-done}
use Rattle.dl_faults.proofs.labels.+add_term_labels.Goals as goal

pub returns-in_ok-add_term_labels-in-Add : goal.returns-in_ok-add_term_labels-in-Add
returns-in_ok-add_term_labels-in-Add t c =
    let left = c.get-in-Add.result.now in
    let right = c.get-in-Add-2.result.now in
    let whole : term_labels c.args.term.now ≡ term_labels left ++ term_labels right =
    ap term_labels c.in-Add.is ∙ labels-Add c.in-Add.left c.in-Add.right ∙ rw (c.get-in-Add.ensures, c.get-in-Add-2.ensures) refl in
    two-done c.add_term_labels-in-Add-2.result c.args.labels.now c.add_term_labels-in-Add.new.labels c.add_term_labels-in-Add-2.new.labels (term_labels left) (term_labels right) (term_labels c.args.term.now)
    whole c.in_ok-add_term_labels-in-Add.ensures c.add_term_labels-in-Add-2.ensures

pub returns-in_ok-add_term_labels-in-Sub : goal.returns-in_ok-add_term_labels-in-Sub
returns-in_ok-add_term_labels-in-Sub t c =
    let left = c.get-in-Sub.result.now in
    let right = c.get-in-Sub-2.result.now in
    let whole : term_labels c.args.term.now ≡ term_labels left ++ term_labels right =
    ap term_labels c.in-Sub.is ∙ labels-Sub c.in-Sub.left c.in-Sub.right ∙ rw (c.get-in-Sub.ensures, c.get-in-Sub-2.ensures) refl in
    two-done c.add_term_labels-in-Sub-2.result c.args.labels.now c.add_term_labels-in-Sub.new.labels c.add_term_labels-in-Sub-2.new.labels (term_labels left) (term_labels right) (term_labels c.args.term.now)
    whole c.in_ok-add_term_labels-in-Sub.ensures c.add_term_labels-in-Sub-2.ensures

pub returns-in_ok-add_term_labels-in-Mul : goal.returns-in_ok-add_term_labels-in-Mul
returns-in_ok-add_term_labels-in-Mul t c =
    let left = c.get-in-Mul.result.now in
    let right = c.get-in-Mul-2.result.now in
    let whole : term_labels c.args.term.now ≡ term_labels left ++ term_labels right =
    ap term_labels c.in-Mul.is ∙ labels-Mul c.in-Mul.left c.in-Mul.right ∙ rw (c.get-in-Mul.ensures, c.get-in-Mul-2.ensures) refl in
    two-done c.add_term_labels-in-Mul-2.result c.args.labels.now c.add_term_labels-in-Mul.new.labels c.add_term_labels-in-Mul-2.new.labels (term_labels left) (term_labels right) (term_labels c.args.term.now)
    whole c.in_ok-add_term_labels-in-Mul.ensures c.add_term_labels-in-Mul-2.ensures

pub returns-in_ok-push-in-Field : goal.returns-in_ok-push-in-Field
unfolding opened
returns-in_ok-push-in-Field t c =
    let node = c.get.result.now in
    let whole : term_labels c.args.term.now ≡ c.in-Field.label ∷ term_labels node =
    ap term_labels c.in-Field.is ∙ rw c.get.ensures refl in
    one-done c.add_term_labels.result c.args.labels.now c.push-in-Field.new.self c.add_term_labels.new.labels (term_labels node) (term_labels c.args.term.now) c.in-Field.label
    whole c.in_ok-push-in-Field.ensures.ok c.add_term_labels.ensures

pub returns-in_ok-add_term_labels-in-Row : goal.returns-in_ok-add_term_labels-in-Row
unfolding opened
returns-in_ok-add_term_labels-in-Row t c =
    let node = c.get-in-Row.result.now in
    let index = c.get-in-Row-2.result.now in
    let whole : term_labels c.args.term.now ≡ c.in-Row.label ∷ (term_labels node ++ term_labels index) =
    ap term_labels c.in-Row.is ∙ rw (c.get-in-Row.ensures, c.get-in-Row-2.ensures) refl in
    let first : c.add_term_labels-in-Row.new.labels ≡ c.args.labels.now ++ c.in-Row.label ∷ term_labels node =
    one-then c.args.labels.now c.push-in-Row.new.self c.add_term_labels-in-Row.new.labels (term_labels node) c.in-Row.label c.in_ok-push-in-Row.ensures.ok c.in_ok-add_term_labels-in-Row.ensures in
    two-done c.add_term_labels-in-Row-2.result c.args.labels.now c.add_term_labels-in-Row.new.labels c.add_term_labels-in-Row-2.new.labels (c.in-Row.label ∷ term_labels node) (term_labels index) (term_labels c.args.term.now)
    whole first c.add_term_labels-in-Row-2.ensures

pub returns-in_ok-add_term_labels-in-If-3 : goal.returns-in_ok-add_term_labels-in-If-3
returns-in_ok-add_term_labels-in-If-3 t c =
    let a = term_labels c.get-in-If.result.now in
    let b = term_labels c.get-in-If-2.result.now in
    let x = term_labels c.get-in-If-3.result.now in
    let y = term_labels c.get-in-If-4.result.now in
    let old = c.args.labels.now in
    let whole : term_labels c.args.term.now ≡ (a ++ b) ++ (x ++ y) =
    ap term_labels c.in-If.is ∙ labels-If c.in-If.left c.in-If.right c.in-If.yes c.in-If.no ∙ rw (c.get-in-If.ensures, c.get-in-If-2.ensures, c.get-in-If-3.ensures, c.get-in-If-4.ensures) refl in
    let tested : c.add_term_labels-in-If-2.new.labels ≡ old ++ (a ++ b) =
    two-parts old c.add_term_labels-in-If.new.labels c.add_term_labels-in-If-2.new.labels a b c.in_ok-add_term_labels-in-If.ensures c.in_ok-add_term_labels-in-If-2.ensures in
    let three : c.add_term_labels-in-If-3.new.labels ≡ old ++ ((a ++ b) ++ x) =
    two-parts old c.add_term_labels-in-If-2.new.labels c.add_term_labels-in-If-3.new.labels (a ++ b) x tested c.in_ok-add_term_labels-in-If-3.ensures in
    two-done c.add_term_labels-in-If-4.result old c.add_term_labels-in-If-3.new.labels c.add_term_labels-in-If-4.new.labels ((a ++ b) ++ x) y (term_labels c.args.term.now)
    (whole ∙ sym (append_assoc (a ++ b) x y)) three c.add_term_labels-in-If-4.ensures
