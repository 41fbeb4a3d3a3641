use Rattle.std.proofs.Common.{rules, arith, ◌≡◌, ℕ, ◌^◌, min, false, ◌<◌, length, get_or, None, ◌∷◌, [], ap, refl, sym, ◌∙◌, drop}
use Rattle.dl_forms.specs.Form.{head_of}
use Rattle.dl_forms.specs.Judge.{OfNames}
use Rattle.dl_forms.proofs.FaultLemmas.{parts_fault-past}
use Rattle.dl_rules.specs.Judged.{is_arithmetic}
use Rattle.dl_rules.proofs.FormulaLemmas.{fault_of_list, fault_of_narrow, part-step}
use Rattle.dl_rules.specs.Sights.{bindings, bindings_at, context_of, seen}
use Rattle.dl_rules.proofs.SliceLemmas.{four}
use Rattle.dl_rules.proofs.TermLemmas.{choice_judged, judged_choice, judged_difference, judged_other_choice, judged_other_product, judged_other_sum, judged_product, judged_sum, width_of_narrow}
use Rattle.dl_rules.proofs.formula.+fault.Goals.{choice_term-in_default-via-then-parts-lt4, choice_term-in_default-via-else-parts-lt4+else-parts-lt5, product_term-in_default-via-then-parts-lt2, product_term-in_default-via-else-parts-lt2+else-parts-lt3, sum_term-in_default-via-then-parts-lt2, sum_term-in_default-via-else-parts-lt2+else-parts-lt3}
use Rattle.dl_rules.proofs.formula.+fault.Goals as goal

pub choice_term-returns-in-len4 : goal.choice_term-returns-in-len4
choice_term-returns-in-len4 t c =
    let a = c.left-item.result in let b = c.right-item.result in let x = c.yes-item.result in let y = c.no-item.result in
    let whole : c.args.parts.now ≡ a ∷ b ∷ x ∷ y ∷ [] =
    four c.args.parts.now a b x y c.in-len4.len_at_least c.in-len4.len_below c.left-item.is c.right-item.is c.yes-item.is c.no-item.is in
    choice_judged (context_of c.args.sight.now) (bindings c.args.bound.now) c.args.label c.args.place c.args.parts.now a b x y c.term-left.result c.term-right.result c.term-yes.result c.term-no.result c.limited.result
    whole c.term-left.ensures c.term-right.ensures c.term-yes.ensures c.term-no.ensures
    (c.limited.ensures.fault ∙ rw (c.max.ensures, c.or_else-in-len4.ensures, c.or_else-later.ensures, c.or_else.ensures) refl)
    (c.limited.ensures.width ∙ c.max.ensures)

pub choice_term-returns-in_default : goal.choice_term-returns-in_default
choice_term-returns-in_default t c = elim c.in_default.branch [
  | choice_term-in_default-via-then-parts-lt4 w ↦ judged_other_choice (context_of c.args.sight.now) (bindings c.args.bound.now) c.args.label c.args.place c.args.parts.now c.malformed.result (search rules) c.malformed.ensures.fault c.malformed.ensures.width
  | choice_term-in_default-via-else-parts-lt4+else-parts-lt5 w ↦ judged_other_choice (context_of c.args.sight.now) (bindings c.args.bound.now) c.args.label c.args.place c.args.parts.now c.malformed.result (search rules) c.malformed.ensures.fault c.malformed.ensures.width
]

pub product_term-returns-in_default : goal.product_term-returns-in_default
product_term-returns-in_default t c = elim c.in_default.branch [
  | product_term-in_default-via-then-parts-lt2 w ↦ judged_other_product (context_of c.args.sight.now) (bindings c.args.bound.now) c.args.label c.args.place c.args.parts.now c.malformed.result (search rules) c.malformed.ensures.fault c.malformed.ensures.width
  | product_term-in_default-via-else-parts-lt2+else-parts-lt3 w ↦ judged_other_product (context_of c.args.sight.now) (bindings c.args.bound.now) c.args.label c.args.place c.args.parts.now c.malformed.result (search rules) c.malformed.ensures.fault c.malformed.ensures.width
]

pub sum_term-returns-in_default : goal.sum_term-returns-in_default
sum_term-returns-in_default t c = elim c.in_default.branch [
  | sum_term-in_default-via-then-parts-lt2 w ↦ judged_other_sum (context_of c.args.sight.now) (bindings c.args.bound.now) c.args.label c.args.place c.args.parts.now c.malformed.result (search rules) c.malformed.ensures.fault c.malformed.ensures.width
  | sum_term-in_default-via-else-parts-lt2+else-parts-lt3 w ↦ judged_other_sum (context_of c.args.sight.now) (bindings c.args.bound.now) c.args.label c.args.place c.args.parts.now c.malformed.result (search rules) c.malformed.ensures.fault c.malformed.ensures.width
]

pub arithmetic_term-returns-in-Add : goal.arithmetic_term-returns-in-Add
arithmetic_term-returns-in-Add t c = judged_sum (context_of c.args.sight.now) (bindings c.args.bound.now) c.args.label c.args.place c.args.first.now c.args.parts.now c.sum_term.result (sym c.head_of.ensures ∙ c.in-Add.is) c.sum_term.ensures

pub arithmetic_term-returns-in-Sub : goal.arithmetic_term-returns-in-Sub
arithmetic_term-returns-in-Sub t c = judged_difference (context_of c.args.sight.now) (bindings c.args.bound.now) c.args.label c.args.place c.args.first.now c.args.parts.now c.sum_term-in-Sub.result (sym c.head_of.ensures ∙ c.in-Sub.is) c.sum_term-in-Sub.ensures

pub arithmetic_term-returns-in-Mul : goal.arithmetic_term-returns-in-Mul
arithmetic_term-returns-in-Mul t c = judged_product (context_of c.args.sight.now) (bindings c.args.bound.now) c.args.label c.args.place c.args.first.now c.args.parts.now c.product_term.result (sym c.head_of.ensures ∙ c.in-Mul.is) c.product_term.ensures

pub arithmetic_term-returns-in-If : goal.arithmetic_term-returns-in-If
arithmetic_term-returns-in-If t c = judged_choice (context_of c.args.sight.now) (bindings c.args.bound.now) c.args.label c.args.place c.args.first.now c.args.parts.now c.choice_term.result (sym c.head_of.ensures ∙ c.in-If.is) c.choice_term.ensures

pub list_term-returns : goal.list_term-returns
list_term-returns t c =
    let other : is_arithmetic (head_of c.args.first.now) ≡ false = search rules in
    record {
      first = c.list_fault-fault.ensures ∙ sym (fault_of_narrow (context_of c.args.sight.now) (bindings c.args.bound.now) c.args.label c.args.first.now c.args.parts.now c.args.place other);
      small = omega arith;
      size = sym (ap (λ (w : ℕ). min w (2 ^ 127)) (width_of_narrow (context_of c.args.sight.now) (bindings c.args.bound.now) c.args.label c.args.place c.args.first.now c.args.parts.now other));
    }

pub part_fault-returns-in-Some : goal.part_fault-returns-in-Some
part_fault-returns-in-Some t c =
    let first = c.in-Some.first.now in
    let parts = c.in-Some.parts.now in
    let whole : c.in-List.items ≡ first ∷ parts = search rules in
    c.list_fault.ensures ∙ sym (rw (c.in-List.is, whole) (fault_of_list (context_of c.args.sight.now) (bindings c.args.bound.now) c.args.label first parts c.in-List.place c.args.position c.requires))

pub parts_fault-returns : goal.parts_fault-returns
parts_fault-returns t c = sym (c.loop-i.invariant ∙ parts_fault-past (OfNames (seen (context_of c.args.sight.now) (bindings_at c.loop-i.i (bindings c.args.bound.now) (bindings c.inner_bound-inner.result)) c.loop-i.label)) (drop c.loop-i.i c.args.form.now) c.args.parts.now c.loop-i.i (omega arith))

pub parts_fault-loop-i-preserved : goal.parts_fault-loop-i-preserved
parts_fault-loop-i-preserved t c =
    let few : c.loop-i.i < length c.args.form.now = omega arith in
    let few' : c.loop-i.i < length c.args.parts.now = search rules in
    let is : c.index-parts-i.result ≡ get_or c.args.parts.now c.loop-i.i c.index-parts-i.result = search rules in
    let none : c.fault.result ≡ None = search rules in
    c.loop-i.invariant
    ∙ part-step (context_of c.args.sight.now) c.loop-i.label (bindings c.args.bound.now) (bindings c.inner_bound-inner.result) (bindings c.bound_at-around.result.now) c.label_behind-label.result
    c.args.form.now c.args.parts.now c.loop-i.i c.index-parts-i.result c.fault.result c.fault.ensures c.bound_at-around.ensures none c.label_behind-label.ensures few few' (search rules) is c.requires c.inner_bound-inner.ensures
