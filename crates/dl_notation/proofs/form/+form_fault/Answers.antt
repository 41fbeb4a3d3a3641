use Rattle.std.proofs.Common.{rules, arith, ◌≡◌, ◌<◌, ◌∙◌, Some, None, refl, sym, length, get_or, drop}
use Rattle.dl_notation.specs.Judge.{OfForms}
use Rattle.dl_notation.specs.Parts.{part_fault, role_at}
use Rattle.dl_notation.proofs.FaultLemmas.{parts_fault-drop, parts_fault-past}
use Rattle.dl_notation.proofs.form.+form_fault.Goals as goal

pub parts_form_fault-returns-in-Some-form_fault : goal.parts_form_fault-returns-in-Some-form_fault
parts_form_fault-returns-in-Some-form_fault t c =
    let few : c.loop-i.i < length c.args.parts.now = search rules in
    let is : c.index-parts-i.result ≡ get_or c.args.parts.now c.loop-i.i c.index-parts-i.result = search rules in
    let role : role_at c.args.fixed.now c.args.rest c.loop-i.i ≡ Some c.in-Some.role = sym c.role_at.ensures ∙ c.in-Some.is in
    let found : part_fault (OfForms c.loop-i.stood) c.in-Some.role c.index-parts-i.result ≡ Some (10, c.in-Some-form_fault.place) = c.in-Some-form_fault.ensures in
    c.loop-i.invariant ∙ parts_fault-drop (OfForms c.loop-i.stood) c.args.fixed.now c.args.rest c.args.parts.now c.loop-i.i c.in-Some.role c.index-parts-i.result role few is ∙ rw found refl

pub parts_form_fault-loop-i-preserved : goal.parts_form_fault-loop-i-preserved
parts_form_fault-loop-i-preserved t c =
    let few : c.loop-i.i < length c.args.parts.now = search rules in
    let is : c.index-parts-i.result ≡ get_or c.args.parts.now c.loop-i.i c.index-parts-i.result = search rules in
    let role : role_at c.args.fixed.now c.args.rest c.loop-i.i ≡ Some c.in-Some.role = sym c.role_at.ensures ∙ c.in-Some.is in
    let none : part_fault (OfForms c.loop-i.stood) c.in-Some.role c.index-parts-i.result ≡ None = c.in_default-form_fault.ensures in
    c.loop-i.invariant ∙ parts_fault-drop (OfForms c.loop-i.stood) c.args.fixed.now c.args.rest c.args.parts.now c.loop-i.i c.in-Some.role c.index-parts-i.result role few is ∙ rw (none, c.stood_behind-stood.ensures) refl

pub parts_form_fault-returns : goal.parts_form_fault-returns
parts_form_fault-returns t c = c.loop-i.invariant ∙ parts_fault-past (OfForms c.loop-i.stood) (drop c.loop-i.i c.args.fixed.now) c.args.rest c.args.parts.now c.loop-i.i (omega arith)
