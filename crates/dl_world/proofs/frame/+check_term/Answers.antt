use Rattle.std.proofs.Common.{◌≡◌, ◌++◌, ◌∷◌, List, ℕ, inl, inr, sym, ◌∙◌, ap}
use Rattle.dl_term.specs.Syntax.{opened}
use Rattle.dl_term.specs.declared.syntax.Term.{Term}
use Rattle.dl_model.specs.Spoken.{term_labels}
use Rattle.std.specs.Result.{result_and}
use Rattle.dl_world.specs.Framed.{label_apart, labels_apart}
use Rattle.dl_world.proofs.Framing.{both-apart}
use Rattle.dl_world.proofs.frame.+check_term.Goals as goal

pub returns-in-Add : goal.returns-in-Add
unfolding opened
returns-in-Add t c =
    let labels : List ℕ = c.args.labels.now in
    let left = c.check_term-in-Add.ensures ∙ ap (λ (a : Term). labels_apart labels (term_labels a)) c.get-in-Add.ensures in
    let right = c.check_term-in-Add-2.ensures ∙ ap (λ (a : Term). labels_apart labels (term_labels a)) c.get-in-Add-2.ensures in
    let out : c.and-in-Add.result ≡ labels_apart labels (term_labels c.in-Add.left ++ term_labels c.in-Add.right) =
    both-apart labels (term_labels c.in-Add.left) (term_labels c.in-Add.right) _ _ c.and-in-Add.result left right c.and-in-Add.ensures in
    elim c.in-Add.is [
      | inl e ↦ out ∙ sym (ap (λ (a : Term). labels_apart labels (term_labels a)) e)
      | inr k ↦ elim k [
        | inl e ↦ out ∙ sym (ap (λ (a : Term). labels_apart labels (term_labels a)) e)
        | inr e ↦ out ∙ sym (ap (λ (a : Term). labels_apart labels (term_labels a)) e)
      ]
    ]

pub returns-in-If : goal.returns-in-If
unfolding opened
returns-in-If t c =
    let labels : List ℕ = c.args.labels.now in
    let a = c.check_term-in-If.ensures ∙ ap (λ (a : Term). labels_apart labels (term_labels a)) c.get-in-If.ensures in
    let b = c.check_term-in-If-2.ensures ∙ ap (λ (a : Term). labels_apart labels (term_labels a)) c.get-in-If-2.ensures in
    let x = c.check_term-in-If-3.ensures ∙ ap (λ (a : Term). labels_apart labels (term_labels a)) c.get-in-If-3.ensures in
    let y = c.check_term-in-If-4.ensures ∙ ap (λ (a : Term). labels_apart labels (term_labels a)) c.get-in-If-4.ensures in
    let tested : c.and-tested.result ≡ labels_apart labels (term_labels c.in-If.left ++ term_labels c.in-If.right) =
    both-apart labels (term_labels c.in-If.left) (term_labels c.in-If.right) _ _ c.and-tested.result a b c.and-tested.ensures in
    let chosen : c.and-chosen.result ≡ labels_apart labels (term_labels c.in-If.yes ++ term_labels c.in-If.no) =
    both-apart labels (term_labels c.in-If.yes) (term_labels c.in-If.no) _ _ c.and-chosen.result x y c.and-chosen.ensures in
    both-apart labels (term_labels c.in-If.left ++ term_labels c.in-If.right) (term_labels c.in-If.yes ++ term_labels c.in-If.no) _ _ c.and-in-If.result tested chosen c.and-in-If.ensures
    ∙ sym (ap (λ (a : Term). labels_apart labels (term_labels a)) c.in-If.is)

pub returns-in-Row : goal.returns-in-Row
unfolding opened
returns-in-Row t c =
    let labels : List ℕ = c.args.labels.now in
    let node = c.check_term-in-Row.ensures ∙ ap (λ (a : Term). labels_apart labels (term_labels a)) c.get-in-Row.ensures in
    let index = c.check_term-in-Row-2.ensures ∙ ap (λ (a : Term). labels_apart labels (term_labels a)) c.get-in-Row-2.ensures in
    let read : c.and-read.result ≡ labels_apart labels (term_labels c.in-Row.node ++ term_labels c.in-Row.index) =
    both-apart labels (term_labels c.in-Row.node) (term_labels c.in-Row.index) _ _ c.and-read.result node index c.and-read.ensures in
    let out : c.and-in-Row.result ≡ labels_apart labels (c.in-Row.label ∷ (term_labels c.in-Row.node ++ term_labels c.in-Row.index)) =
    c.and-in-Row.ensures ∙ (ap (λ r. result_and r c.and-read.result) c.check_label-in-Row.ensures ∙ ap (result_and (label_apart labels c.in-Row.label)) read) in
    out ∙ sym (ap (λ (a : Term). labels_apart labels (term_labels a)) c.in-Row.is)
