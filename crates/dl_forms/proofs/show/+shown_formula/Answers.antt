use Rattle.std.proofs.Common.{◌≡◌, sym, subst, IfOk}
use Rattle.dl_term.specs.declared.syntax.Formula.TheBlock as block
use Rattle.dl_forms.specs.Show.{shown_formula}
use Rattle.dl_forms.proofs.show.+shown_formula.Goals as goal

pub returns-in-Eq : goal.returns-in-Eq
unfolding block.hidden-the_row-Formula-0 block.shape-the_row-Formula-0 block.shown-the_row-Formula-0 denote.Hole.Carrier.hidden
returns-in-Eq t c = subst (λ x. IfOk c.done.result (λ r. r ≡ shown_formula c.args.around.now.names.now c.args.around.now.scope.now c.args.around.now.inst.now x)) (sym c.in-Eq.is)
    (c.done.ensures _ (c.with-in-Eq.ensures _ _ (c.with.ensures _ _ c.begin.ensures c.shown_term-a.ensures) c.shown_term-b.ensures))

pub returns-in-Lt : goal.returns-in-Lt
unfolding block.hidden-the_row-Formula-0 block.shape-the_row-Formula-0 block.shown-the_row-Formula-0 denote.Hole.Carrier.hidden
returns-in-Lt t c = subst (λ x. IfOk c.done-in-Lt.result (λ r. r ≡ shown_formula c.args.around.now.names.now c.args.around.now.scope.now c.args.around.now.inst.now x)) (sym c.in-Lt.is)
    (c.done-in-Lt.ensures _ (c.with-in-Lt-2.ensures _ _ (c.with-in-Lt.ensures _ _ c.begin-in-Lt.ensures c.shown_term-a-in-Lt.ensures) c.shown_term-b-in-Lt.ensures))

pub returns-in-Le : goal.returns-in-Le
unfolding block.hidden-the_row-Formula-0 block.shape-the_row-Formula-0 block.shown-the_row-Formula-0 denote.Hole.Carrier.hidden
returns-in-Le t c = subst (λ x. IfOk c.done-in-Le.result (λ r. r ≡ shown_formula c.args.around.now.names.now c.args.around.now.scope.now c.args.around.now.inst.now x)) (sym c.in-Le.is)
    (c.done-in-Le.ensures _ (c.with-in-Le-2.ensures _ _ (c.with-in-Le.ensures _ _ c.begin-in-Le.ensures c.shown_term-a-in-Le.ensures) c.shown_term-b-in-Le.ensures))

pub returns-in-Not : goal.returns-in-Not
unfolding block.hidden-the_row-Formula-0 block.shape-the_row-Formula-0 block.shown-the_row-Formula-0 denote.Hole.Carrier.hidden
returns-in-Not t c = subst (λ x. IfOk c.done-in-Not.result (λ r. r ≡ shown_formula c.args.around.now.names.now c.args.around.now.scope.now c.args.around.now.inst.now x)) (sym c.in-Not.is)
    (c.done-in-Not.ensures _ (c.with-in-Not.ensures _ _ c.begin-in-Not.ensures (subst (λ x. IfOk c.shown_formula-body.result (λ r. r ≡ shown_formula c.args.around.now.names.now c.args.around.now.scope.now c.args.around.now.inst.now x)) c.get.ensures c.shown_formula-body.ensures)))

pub returns-in-And : goal.returns-in-And
unfolding block.hidden-the_row-Formula-0 block.shape-the_row-Formula-0 block.shown-the_row-Formula-0 denote.Hole.Carrier.hidden
returns-in-And t c = subst (λ x. IfOk c.done-in-And.result (λ r. r ≡ shown_formula c.args.around.now.names.now c.args.around.now.scope.now c.args.around.now.inst.now x)) (sym c.in-And.is)
    (c.done-in-And.ensures _ (c.with-in-And-2.ensures _ _ (c.with-in-And.ensures _ _ c.begin-in-And.ensures (subst (λ x. IfOk c.shown_formula-a.result (λ r. r ≡ shown_formula c.args.around.now.names.now c.args.around.now.scope.now c.args.around.now.inst.now x)) c.get-in-And.ensures c.shown_formula-a.ensures)) (subst (λ x. IfOk c.shown_formula-b.result (λ r. r ≡ shown_formula c.args.around.now.names.now c.args.around.now.scope.now c.args.around.now.inst.now x)) c.get-in-And-2.ensures c.shown_formula-b.ensures)))

pub returns-in-Or : goal.returns-in-Or
unfolding block.hidden-the_row-Formula-0 block.shape-the_row-Formula-0 block.shown-the_row-Formula-0 denote.Hole.Carrier.hidden
returns-in-Or t c = subst (λ x. IfOk c.done-in-Or.result (λ r. r ≡ shown_formula c.args.around.now.names.now c.args.around.now.scope.now c.args.around.now.inst.now x)) (sym c.in-Or.is)
    (c.done-in-Or.ensures _ (c.with-in-Or-2.ensures _ _ (c.with-in-Or.ensures _ _ c.begin-in-Or.ensures (subst (λ x. IfOk c.shown_formula-a-in-Or.result (λ r. r ≡ shown_formula c.args.around.now.names.now c.args.around.now.scope.now c.args.around.now.inst.now x)) c.get-in-Or.ensures c.shown_formula-a-in-Or.ensures)) (subst (λ x. IfOk c.shown_formula-b-in-Or.result (λ r. r ≡ shown_formula c.args.around.now.names.now c.args.around.now.scope.now c.args.around.now.inst.now x)) c.get-in-Or-2.ensures c.shown_formula-b-in-Or.ensures)))

pub returns-in-Implies : goal.returns-in-Implies
unfolding block.hidden-the_row-Formula-0 block.shape-the_row-Formula-0 block.shown-the_row-Formula-0 denote.Hole.Carrier.hidden
returns-in-Implies t c = subst (λ x. IfOk c.done-in-Implies.result (λ r. r ≡ shown_formula c.args.around.now.names.now c.args.around.now.scope.now c.args.around.now.inst.now x)) (sym c.in-Implies.is)
    (c.done-in-Implies.ensures _ (c.with-in-Implies-2.ensures _ _ (c.with-in-Implies.ensures _ _ c.begin-in-Implies.ensures (subst (λ x. IfOk c.shown_formula-a-in-Implies.result (λ r. r ≡ shown_formula c.args.around.now.names.now c.args.around.now.scope.now c.args.around.now.inst.now x)) c.get-in-Implies.ensures c.shown_formula-a-in-Implies.ensures)) (subst (λ x. IfOk c.shown_formula-b-in-Implies.result (λ r. r ≡ shown_formula c.args.around.now.names.now c.args.around.now.scope.now c.args.around.now.inst.now x)) c.get-in-Implies-2.ensures c.shown_formula-b-in-Implies.ensures)))

pub returns-in-All : goal.returns-in-All
unfolding block.hidden-the_row-Formula-0 block.shape-the_row-Formula-0 block.shown-the_row-Formula-0 denote.Hole.Carrier.hidden
returns-in-All t c = subst (λ x. IfOk c.done-in-All.result (λ r. r ≡ shown_formula c.args.around.now.names.now c.args.around.now.scope.now c.args.around.now.inst.now x)) (sym c.in-All.is)
    (c.done-in-All.ensures _ (c.with-in-All-2.ensures _ _ (c.with-in-All.ensures _ _ c.begin-in-All.ensures c.name.ensures) (subst (λ x. IfOk c.shown_formula-body-in-All.result (λ r. r ≡ shown_formula c.args.around.now.names.now c.args.around.now.scope.now c.args.around.now.inst.now x)) c.get-in-All.ensures c.shown_formula-body-in-All.ensures)))

pub returns-in-Exists : goal.returns-in-Exists
unfolding block.hidden-the_row-Formula-0 block.shape-the_row-Formula-0 block.shown-the_row-Formula-0 denote.Hole.Carrier.hidden
returns-in-Exists t c = subst (λ x. IfOk c.done-in-Exists.result (λ r. r ≡ shown_formula c.args.around.now.names.now c.args.around.now.scope.now c.args.around.now.inst.now x)) (sym c.in-Exists.is)
    (c.done-in-Exists.ensures _ (c.with-in-Exists-2.ensures _ _ (c.with-in-Exists.ensures _ _ c.begin-in-Exists.ensures c.name-in-Exists.ensures) (subst (λ x. IfOk c.shown_formula-body-in-Exists.result (λ r. r ≡ shown_formula c.args.around.now.names.now c.args.around.now.scope.now c.args.around.now.inst.now x)) c.get-in-Exists.ensures c.shown_formula-body-in-Exists.ensures)))

pub returns-in-Each : goal.returns-in-Each
unfolding block.hidden-the_row-Formula-0 block.shape-the_row-Formula-0 block.shown-the_row-Formula-0 denote.Hole.Carrier.hidden
returns-in-Each t c = subst (λ x. IfOk c.done-in-Each.result (λ r. r ≡ shown_formula c.args.around.now.names.now c.args.around.now.scope.now c.args.around.now.inst.now x)) (sym c.in-Each.is)
    (c.done-in-Each.ensures _ (c.with-in-Each-4.ensures _ _ (c.with-in-Each-3.ensures _ _ (c.with-in-Each-2.ensures _ _ (c.with-in-Each.ensures _ _ c.begin-in-Each.ensures c.name-in-Each.ensures) c.label.ensures) c.tag.ensures) (subst (λ x. IfOk c.shown_formula-body-in-Each.result (λ r. r ≡ shown_formula c.args.around.now.names.now c.args.around.now.scope.now c.args.around.now.inst.now x)) c.get-in-Each.ensures c.shown_formula-body-in-Each.ensures)))

pub returns-in-Any : goal.returns-in-Any
unfolding block.hidden-the_row-Formula-0 block.shape-the_row-Formula-0 block.shown-the_row-Formula-0 denote.Hole.Carrier.hidden
returns-in-Any t c = subst (λ x. IfOk c.done-in-Any.result (λ r. r ≡ shown_formula c.args.around.now.names.now c.args.around.now.scope.now c.args.around.now.inst.now x)) (sym c.in-Any.is)
    (c.done-in-Any.ensures _ (c.with-in-Any-4.ensures _ _ (c.with-in-Any-3.ensures _ _ (c.with-in-Any-2.ensures _ _ (c.with-in-Any.ensures _ _ c.begin-in-Any.ensures c.name-in-Any.ensures) c.label-in-Any.ensures) c.tag-in-Any.ensures) (subst (λ x. IfOk c.shown_formula-body-in-Any.result (λ r. r ≡ shown_formula c.args.around.now.names.now c.args.around.now.scope.now c.args.around.now.inst.now x)) c.get-in-Any.ensures c.shown_formula-body-in-Any.ensures)))
