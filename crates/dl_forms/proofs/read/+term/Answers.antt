use Rattle.std.proofs.Common.{rules, ◌≡◌, false, sym, ◌∙◌, subst}
use Rattle.std.proofs.Common.{[], ◌∷◌, to_z, of_z, w64}
use Rattle.dl_tree.specs.declared.tree.Tree.TheVariants as tree
use Rattle.dl_forms.specs.declared.head.Head.TheVariants as head
use Rattle.dl_term.specs.declared.syntax.Term.TheVariants as term
use Rattle.dl_forms.specs.declared.position.Position.TheVariants as position
use Rattle.dl_forms.specs.Scope.{bindings, words_of}
use Rattle.dl_forms.specs.Width.{is_wide}
use Rattle.dl_forms.specs.Judge.{breaks_read}
use Rattle.dl_forms.specs.Read.{ReadsTerm, ReadsForm}
use Rattle.dl_forms.proofs.GetLemmas.{reads_get}
use Rattle.dl_forms.proofs.RowLemmas.{reads_row}
use Rattle.dl_forms.proofs.TermLemmas.{reads_sum, reads_difference, reads_product, reads_choice, reads_number, faults_wide, four}
use Rattle.dl_forms.proofs.read.+term.Goals as goal

pub sum-returns-clause-ok : goal.sum-returns-clause-ok
sum-returns-clause-ok t c =
    reads_sum c.args.around.now.names.now c.args.around.now.scope.now c.args.around.now.inst.now (bindings c.args.bound.now) c.args.place c.args.parts.now _ _ c.requires.narrow c.in_ok-left.ensures.ok

pub difference-returns-clause-ok : goal.difference-returns-clause-ok
difference-returns-clause-ok t c =
    reads_difference c.args.around.now.names.now c.args.around.now.scope.now c.args.around.now.inst.now (bindings c.args.bound.now) c.args.place c.args.parts.now _ _ c.requires.narrow c.in_ok-left.ensures.ok

pub product-returns-clause-ok : goal.product-returns-clause-ok
product-returns-clause-ok t c =
    reads_product c.args.around.now.names.now c.args.around.now.scope.now c.args.around.now.inst.now (bindings c.args.bound.now) c.args.place c.args.parts.now _ _ c.requires.narrow c.in_ok-left.ensures.ok

pub choice-returns-in_ok-no-in-len4-2-clause-ok : goal.choice-returns-in_ok-no-in-len4-2-clause-ok
choice-returns-in_ok-no-in-len4-2-clause-ok t c =
    let a = c.left-item.result in let b = c.right-item.result in let x = c.yes-item.result in let y = c.no-item.result in
    let whole : c.args.parts.now ≡ a ∷ b ∷ x ∷ y ∷ [] =
    four c.args.parts.now a b x y c.in-len4.len_at_least c.in-len4.len_below c.left-item.is c.right-item.is c.yes-item.is c.no-item.is in
    let narrow = subst (λ parts. is_wide (words_of c.args.around.now.names.now c.args.around.now.scope.now) position.Term head.If parts ≡ false) whole c.requires.narrow in
    subst (λ parts. ReadsForm c.args.around.now.names.now c.args.around.now.scope.now c.args.around.now.inst.now (bindings c.args.bound.now) c.args.place head.If parts
    (term.If c.in_ok-left-in-len4-2.left c.in_ok-right-in-len4-2.right c.in_ok-yes-in-len4-2.yes c.in_ok-no-in-len4-2.no)) (sym whole)
    (reads_choice c.args.around.now.names.now c.args.around.now.scope.now c.args.around.now.inst.now (bindings c.args.bound.now) c.args.place a b x y
    c.in_ok-left-in-len4-2.left c.in_ok-right-in-len4-2.right c.in_ok-yes-in-len4-2.yes c.in_ok-no-in-len4-2.no narrow
    (rw c.in_ok-left-in-len4-2.ensures c.in_ok-left-in-len4.ensures.ok) (rw c.in_ok-right-in-len4-2.ensures c.in_ok-right-in-len4.ensures.ok) (rw c.in_ok-yes-in-len4-2.ensures c.in_ok-yes-in-len4.ensures.ok) (rw c.in_ok-no-in-len4-2.ensures c.in_ok-no-in-len4.ensures.ok))

pub list_term-returns-then-is_wide-clause-err : goal.list_term-returns-then-is_wide-clause-err
list_term-returns-then-is_wide-clause-err t c =
    faults_wide c.args.around.now.names.now c.args.around.now.scope.now c.args.around.now.inst.now (bindings c.args.bound.now) c.args.place c.args.head c.args.parts.now (sym c.is_wide.ensures ∙ c.if-is_wide.true)

pub term-returns-in-Num-clause-ok : goal.term-returns-in-Num-clause-ok
term-returns-in-Num-clause-ok t c =
    let same : to_z w64 (of_z w64 c.in-Num.value) ≡ c.in-Num.value = search rules in
    subst (λ tree. ReadsTerm c.args.around.now.names.now c.args.around.now.scope.now c.args.around.now.inst.now (bindings c.args.bound.now) tree (term.Num (to_z w64 (of_z w64 c.in-Num.value)))) (sym c.in-Num.is)
    (subst (λ v. ReadsTerm c.args.around.now.names.now c.args.around.now.scope.now c.args.around.now.inst.now (bindings c.args.bound.now) (tree.Num c.in-Num.value c.in-Num.place) (term.Num v)) (sym same)
    (reads_number c.args.around.now.names.now c.args.around.now.scope.now c.args.around.now.inst.now (bindings c.args.bound.now) c.in-Num.value c.in-Num.place))

pub field_read-returns-clause-ok : goal.field_read-returns-clause-ok
field_read-returns-clause-ok t c =
    rw c.in_ok-node-2.ensures (reads_get c.args.around.now.names.now c.args.around.now.scope.now c.args.around.now.inst.now (bindings c.args.bound.now) c.args.place c.args.label_name.now c.args.field_name.now c.args.node.now c.requires.allowed
    (sym c.is_row.ensures ∙ c.if-is_row.false) c.in_ok-lab.lab c.in_ok-lab.ensures.ok c.in_ok-at.at c.in_ok-at.ensures.ok c.in_ok-node.node c.in_ok-node.ensures.ok)

pub get-returns-in_ok-index-in-len4-2-clause-ok : goal.get-returns-in_ok-index-in-len4-2-clause-ok
get-returns-in_ok-index-in-len4-2-clause-ok t c =
    let l = c.label_name-item-then-parts-lt5.result in let f = c.field_name-item-then-parts-lt5.result in let n = c.node-item-then-parts-lt5.result in let i = c.index-item.result in
    let whole : c.args.parts.now ≡ l ∷ f ∷ n ∷ i ∷ [] =
    four c.args.parts.now l f n i c.in-len4.len_at_least c.in-len4.len_below c.label_name-item-then-parts-lt5.is c.field_name-item-then-parts-lt5.is c.node-item-then-parts-lt5.is c.index-item.is in
    let allowed = subst (λ parts. breaks_read c.args.around.now.scope.now.kind parts ≡ false) whole c.requires.allowed in
    subst (λ parts. ReadsForm c.args.around.now.names.now c.args.around.now.scope.now c.args.around.now.inst.now (bindings c.args.bound.now) c.args.place head.Get parts
    (term.Row c.in_ok-lab-in-len4.lab c.in_ok-at-in-len4.at c.in_ok-node-in-len4-2.node c.in_ok-index-in-len4-2.index)) (sym whole)
    (reads_row c.args.around.now.names.now c.args.around.now.scope.now c.args.around.now.inst.now (bindings c.args.bound.now) c.args.place l f n i allowed
    (sym c.is_flat.ensures ∙ c.if-is_flat.false) c.in_ok-lab-in-len4.lab c.in_ok-lab-in-len4.ensures.ok c.in_ok-at-in-len4.at c.in_ok-at-in-len4.ensures.ok
    c.in_ok-node-in-len4-2.node c.in_ok-index-in-len4-2.index
    (rw c.in_ok-node-in-len4-2.ensures c.in_ok-node-in-len4.ensures.ok) (rw c.in_ok-index-in-len4-2.ensures c.in_ok-index-in-len4.ensures.ok))
