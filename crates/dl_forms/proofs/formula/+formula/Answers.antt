use Rattle.std.proofs.Common.{◌≡◌, arith, true, false, sym, subst}
use Rattle.std.proofs.lemmas.Grind.{common_steps}
use Rattle.std.specs.Prelude.{codes}
use Rattle.std.specs.Str.{bytes_eq}
use Rattle.dl_term.specs.declared.syntax.Formula.TheVariants as formula
use Rattle.dl_forms.specs.Scope.{bindings}
use Rattle.std.proofs.Common.{[], ◌∷◌}
use Rattle.dl_forms.specs.declared.head.Head.TheVariants as head
use Rattle.dl_forms.specs.Read.{ReadsFormula, ReadsFormulaForm}
use Rattle.dl_forms.proofs.PartLemmas.{one}
use Rattle.dl_forms.proofs.FormulaLemmas.{reads_conjunction, reads_disjunction, reads_implication, reads_universal, reads_existential, reads_negation, reads_true, reads_false}
use Rattle.dl_forms.proofs.MessageLemmas.{reads_each, reads_any}
use Rattle.dl_forms.proofs.formula.+formula.Goals as goal

pub conjunction-returns-clause-ok : goal.conjunction-returns-clause-ok
conjunction-returns-clause-ok t c = reads_conjunction c.args.around.now.names.now c.args.around.now.scope.now c.args.around.now.inst.now (bindings c.args.bound.now) c.args.place c.args.parts.now _ _ c.in_ok-left.ensures.ok

pub disjunction-returns-clause-ok : goal.disjunction-returns-clause-ok
disjunction-returns-clause-ok t c = reads_disjunction c.args.around.now.names.now c.args.around.now.scope.now c.args.around.now.inst.now (bindings c.args.bound.now) c.args.place c.args.parts.now _ _ c.in_ok-left.ensures.ok

pub implication-returns-clause-ok : goal.implication-returns-clause-ok
implication-returns-clause-ok t c = reads_implication c.args.around.now.names.now c.args.around.now.scope.now c.args.around.now.inst.now (bindings c.args.bound.now) c.args.place c.args.parts.now _ _ c.in_ok-left.ensures.ok

pub universal-returns-clause-ok : goal.universal-returns-clause-ok
universal-returns-clause-ok t c = reads_universal c.args.around.now.names.now c.args.around.now.scope.now c.args.around.now.inst.now (bindings c.args.bound.now) c.args.place c.args.parts.now _ _ c.requires.allowed c.in_ok-sym.ensures.ok

pub existential-returns-clause-ok : goal.existential-returns-clause-ok
existential-returns-clause-ok t c = reads_existential c.args.around.now.names.now c.args.around.now.scope.now c.args.around.now.inst.now (bindings c.args.bound.now) c.args.place c.args.parts.now _ _ c.requires.allowed c.in_ok-sym.ensures.ok

pub formula-returns-then-is-clause-ok : goal.formula-returns-then-is-clause-ok
formula-returns-then-is-clause-ok t c =
    let is : bytes_eq c.in-Sym.name (codes "true") ≡ true = grind (arith, common_steps) in
    subst (λ tree. ReadsFormula c.args.around.now.names.now c.args.around.now.scope.now c.args.around.now.inst.now (bindings c.args.bound.now) tree formula.True) (sym c.in-Sym.is) (reads_true c.args.around.now.names.now c.args.around.now.scope.now c.args.around.now.inst.now (bindings c.args.bound.now) c.in-Sym.name c.in-Sym.place is)

pub formula-returns-then-is-2-clause-ok : goal.formula-returns-then-is-2-clause-ok
formula-returns-then-is-2-clause-ok t c =
    let other : bytes_eq c.in-Sym.name (codes "true") ≡ false = grind (arith, common_steps) in
    let is : bytes_eq c.in-Sym.name (codes "false") ≡ true = grind (arith, common_steps) in
    subst (λ tree. ReadsFormula c.args.around.now.names.now c.args.around.now.scope.now c.args.around.now.inst.now (bindings c.args.bound.now) tree formula.False) (sym c.in-Sym.is) (reads_false c.args.around.now.names.now c.args.around.now.scope.now c.args.around.now.inst.now (bindings c.args.bound.now) c.in-Sym.name c.in-Sym.place other is)

pub for_each-returns-clause-ok : goal.for_each-returns-clause-ok
for_each-returns-clause-ok t c = reads_each c.args.around.now.names.now c.args.around.now.scope.now c.args.around.now.inst.now (bindings c.args.bound.now) c.args.place c.args.parts.now _ _ _ _ c.requires.allowed c.in_ok-msg.ensures.ok

pub for_any-returns-clause-ok : goal.for_any-returns-clause-ok
for_any-returns-clause-ok t c = reads_any c.args.around.now.names.now c.args.around.now.scope.now c.args.around.now.inst.now (bindings c.args.bound.now) c.args.place c.args.parts.now _ _ _ _ c.requires.allowed c.in_ok-msg.ensures.ok

pub negation-returns-in_ok-body-in-len1-clause-ok : goal.negation-returns-in_ok-body-in-len1-clause-ok
negation-returns-in_ok-body-in-len1-clause-ok t c =
    let whole : c.args.parts.now ≡ c.body-item.result ∷ [] = one c.args.parts.now c.body-item.result c.in-len1.len_at_least c.in-len1.len_below c.body-item.is in
    subst (λ parts. ReadsFormulaForm c.args.around.now.names.now c.args.around.now.scope.now c.args.around.now.inst.now (bindings c.args.bound.now) c.args.place head.Not parts (formula.Not c.in_ok-body-in-len1.body)) (sym whole)
    (reads_negation c.args.around.now.names.now c.args.around.now.scope.now c.args.around.now.inst.now (bindings c.args.bound.now) c.args.place c.body-item.result c.in_ok-body-in-len1.body c.in_ok-body-in-len1.ensures.ok)
