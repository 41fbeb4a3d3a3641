use Rattle.std.proofs.Common.{◌≡◌, sym, subst, IfOk}
use Rattle.dl_term.specs.declared.syntax.Term.TheBlock as block
use Rattle.dl_forms.specs.Show.{shown_term}
use Rattle.dl_forms.proofs.show.+shown_term.Goals as goal

pub returns-in-Field : goal.returns-in-Field
unfolding block.hidden-the_row-Term-0 block.shape-the_row-Term-0 block.shown-the_row-Term-0 denote.Hole.Carrier.hidden
returns-in-Field t c = subst (λ x. IfOk c.done.result (λ r. r ≡ shown_term c.args.around.now.names.now c.args.around.now.scope.now c.args.around.now.inst.now x)) (sym c.in-Field.is)
    (c.done.ensures _ (c.with-in-Field-2.ensures _ _ (c.with-in-Field.ensures _ _ (c.with.ensures _ _ c.begin.ensures c.label.ensures) c.field.ensures) (subst (λ x. IfOk c.shown_term-node.result (λ r. r ≡ shown_term c.args.around.now.names.now c.args.around.now.scope.now c.args.around.now.inst.now x)) c.get.ensures c.shown_term-node.ensures)))

pub returns-in-Row : goal.returns-in-Row
unfolding block.hidden-the_row-Term-0 block.shape-the_row-Term-0 block.shown-the_row-Term-0 denote.Hole.Carrier.hidden
returns-in-Row t c = subst (λ x. IfOk c.done-in-Row.result (λ r. r ≡ shown_term c.args.around.now.names.now c.args.around.now.scope.now c.args.around.now.inst.now x)) (sym c.in-Row.is)
    (c.done-in-Row.ensures _ (c.with-in-Row-4.ensures _ _ (c.with-in-Row-3.ensures _ _ (c.with-in-Row-2.ensures _ _ (c.with-in-Row.ensures _ _ c.begin-in-Row.ensures c.label-in-Row.ensures) c.field-in-Row.ensures) (subst (λ x. IfOk c.shown_term-node-in-Row.result (λ r. r ≡ shown_term c.args.around.now.names.now c.args.around.now.scope.now c.args.around.now.inst.now x)) c.get-in-Row.ensures c.shown_term-node-in-Row.ensures)) (subst (λ x. IfOk c.shown_term-index.result (λ r. r ≡ shown_term c.args.around.now.names.now c.args.around.now.scope.now c.args.around.now.inst.now x)) c.get-in-Row-2.ensures c.shown_term-index.ensures)))

pub returns-in-Len : goal.returns-in-Len
unfolding block.hidden-the_row-Term-0 block.shape-the_row-Term-0 block.shown-the_row-Term-0 denote.Hole.Carrier.hidden
returns-in-Len t c = subst (λ x. IfOk c.done-in-Len.result (λ r. r ≡ shown_term c.args.around.now.names.now c.args.around.now.scope.now c.args.around.now.inst.now x)) (sym c.in-Len.is)
    (c.done-in-Len.ensures _ (c.with-in-Len.ensures _ _ c.begin-in-Len.ensures c.label-in-Len.ensures))

pub returns-in-Add : goal.returns-in-Add
unfolding block.hidden-the_row-Term-0 block.shape-the_row-Term-0 block.shown-the_row-Term-0 denote.Hole.Carrier.hidden
returns-in-Add t c = subst (λ x. IfOk c.done-in-Add.result (λ r. r ≡ shown_term c.args.around.now.names.now c.args.around.now.scope.now c.args.around.now.inst.now x)) (sym c.in-Add.is)
    (c.done-in-Add.ensures _ (c.with-in-Add-2.ensures _ _ (c.with-in-Add.ensures _ _ c.begin-in-Add.ensures (subst (λ x. IfOk c.shown_term-a.result (λ r. r ≡ shown_term c.args.around.now.names.now c.args.around.now.scope.now c.args.around.now.inst.now x)) c.get-in-Add.ensures c.shown_term-a.ensures)) (subst (λ x. IfOk c.shown_term-b.result (λ r. r ≡ shown_term c.args.around.now.names.now c.args.around.now.scope.now c.args.around.now.inst.now x)) c.get-in-Add-2.ensures c.shown_term-b.ensures)))

pub returns-in-Sub : goal.returns-in-Sub
unfolding block.hidden-the_row-Term-0 block.shape-the_row-Term-0 block.shown-the_row-Term-0 denote.Hole.Carrier.hidden
returns-in-Sub t c = subst (λ x. IfOk c.done-in-Sub.result (λ r. r ≡ shown_term c.args.around.now.names.now c.args.around.now.scope.now c.args.around.now.inst.now x)) (sym c.in-Sub.is)
    (c.done-in-Sub.ensures _ (c.with-in-Sub-2.ensures _ _ (c.with-in-Sub.ensures _ _ c.begin-in-Sub.ensures (subst (λ x. IfOk c.shown_term-a-in-Sub.result (λ r. r ≡ shown_term c.args.around.now.names.now c.args.around.now.scope.now c.args.around.now.inst.now x)) c.get-in-Sub.ensures c.shown_term-a-in-Sub.ensures)) (subst (λ x. IfOk c.shown_term-b-in-Sub.result (λ r. r ≡ shown_term c.args.around.now.names.now c.args.around.now.scope.now c.args.around.now.inst.now x)) c.get-in-Sub-2.ensures c.shown_term-b-in-Sub.ensures)))

pub returns-in-Mul : goal.returns-in-Mul
unfolding block.hidden-the_row-Term-0 block.shape-the_row-Term-0 block.shown-the_row-Term-0 denote.Hole.Carrier.hidden
returns-in-Mul t c = subst (λ x. IfOk c.done-in-Mul.result (λ r. r ≡ shown_term c.args.around.now.names.now c.args.around.now.scope.now c.args.around.now.inst.now x)) (sym c.in-Mul.is)
    (c.done-in-Mul.ensures _ (c.with-in-Mul-2.ensures _ _ (c.with-in-Mul.ensures _ _ c.begin-in-Mul.ensures (subst (λ x. IfOk c.shown_term-a-in-Mul.result (λ r. r ≡ shown_term c.args.around.now.names.now c.args.around.now.scope.now c.args.around.now.inst.now x)) c.get-in-Mul.ensures c.shown_term-a-in-Mul.ensures)) (subst (λ x. IfOk c.shown_term-b-in-Mul.result (λ r. r ≡ shown_term c.args.around.now.names.now c.args.around.now.scope.now c.args.around.now.inst.now x)) c.get-in-Mul-2.ensures c.shown_term-b-in-Mul.ensures)))

pub returns-in-If : goal.returns-in-If
unfolding block.hidden-the_row-Term-0 block.shape-the_row-Term-0 block.shown-the_row-Term-0 denote.Hole.Carrier.hidden
returns-in-If t c = subst (λ x. IfOk c.done-in-If.result (λ r. r ≡ shown_term c.args.around.now.names.now c.args.around.now.scope.now c.args.around.now.inst.now x)) (sym c.in-If.is)
    (c.done-in-If.ensures _ (c.with-in-If-4.ensures _ _ (c.with-in-If-3.ensures _ _ (c.with-in-If-2.ensures _ _ (c.with-in-If.ensures _ _ c.begin-in-If.ensures (subst (λ x. IfOk c.shown_term-a-in-If.result (λ r. r ≡ shown_term c.args.around.now.names.now c.args.around.now.scope.now c.args.around.now.inst.now x)) c.get-in-If.ensures c.shown_term-a-in-If.ensures)) (subst (λ x. IfOk c.shown_term-b-in-If.result (λ r. r ≡ shown_term c.args.around.now.names.now c.args.around.now.scope.now c.args.around.now.inst.now x)) c.get-in-If-2.ensures c.shown_term-b-in-If.ensures)) (subst (λ x. IfOk c.shown_term-yes.result (λ r. r ≡ shown_term c.args.around.now.names.now c.args.around.now.scope.now c.args.around.now.inst.now x)) c.get-in-If-3.ensures c.shown_term-yes.ensures)) (subst (λ x. IfOk c.shown_term-no.result (λ r. r ≡ shown_term c.args.around.now.names.now c.args.around.now.scope.now c.args.around.now.inst.now x)) c.get-in-If-4.ensures c.shown_term-no.ensures)))
