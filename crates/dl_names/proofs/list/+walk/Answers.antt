use Rattle.std.proofs.Common.{rules, arith, ◌≡◌, ◌∷◌, ◌<◌, ◌∙◌, ◌+◌, true, Some, None, Err, refl, sym, length, get_or, drop}
use Rattle.dl_notation.specs.Judge.{OfNames}
use Rattle.dl_notation.specs.Behind.{behind_part}
use Rattle.dl_notation.specs.Notation.{Form, fits}
use Rattle.dl_notation.specs.Parts.{part_fault, parts_fault, role_at}
use Rattle.dl_notation.proofs.FaultLemmas.{parts_fault-beyond, parts_fault-drop, parts_fault-past}
use Rattle.dl_names.specs.Steps.{Passes}
use Rattle.dl_scope.specs.Walked.{environment}
use Rattle.dl_names.proofs.ListLemmas.{is_fault-first, left-closed, on_ok, parts_behind-beyond, parts_behind-drop, parts_behind-past, passes_form, passes_headed}
use Rattle.dl_names.proofs.list.+walk.Goals as goal

pub walk_parts-returns-in_default-clause-ok : goal.walk_parts-returns-in_default-clause-ok
walk_parts-returns-in_default-clause-ok t c =
    let none : role_at c.args.fixed.now c.args.rest c.loop-i.i ≡ None = search rules in
    record {
      faultless = c.loop-i.invariant.fault ∙ parts_fault-beyond (OfNames (environment c.loop-i.walk)) c.args.fixed.now c.args.rest c.args.parts.now c.loop-i.i none;
      behind = sym (c.loop-i.invariant.behind ∙ parts_behind-beyond (environment c.loop-i.walk) c.args.fixed.now c.args.rest c.args.parts.now c.loop-i.i none);
    }

pub walk_parts-returns-clause-ok : goal.walk_parts-returns-clause-ok
walk_parts-returns-clause-ok t c = record {
  faultless = c.loop-i.invariant.fault ∙ parts_fault-past (OfNames (environment c.loop-i.walk)) (drop c.loop-i.i c.args.fixed.now) c.args.rest c.args.parts.now c.loop-i.i (omega arith);
  behind = sym (c.loop-i.invariant.behind ∙ parts_behind-past (environment c.loop-i.walk) (drop c.loop-i.i c.args.fixed.now) c.args.rest c.args.parts.now c.loop-i.i (omega arith));
}

pub walk_parts-loop-i-preserved : goal.walk_parts-loop-i-preserved
walk_parts-loop-i-preserved t c =
    let few : c.loop-i.i < length c.args.parts.now = search rules in
    let is : c.index-parts-i.result ≡ get_or c.args.parts.now c.loop-i.i c.index-parts-i.result = search rules in
    let role : role_at c.args.fixed.now c.args.rest c.loop-i.i ≡ Some c.in-Some.role = sym c.role_at.ensures ∙ c.in-Some.is in
    let passes : Passes (environment c.loop-i.walk) c.in-Some.role c.index-parts-i.result (environment c.walk_part.new.walk) = c.in_ok-walk_part.ensures.ok in
    record {
      fault = c.loop-i.invariant.fault ∙ parts_fault-drop (OfNames (environment c.loop-i.walk)) c.args.fixed.now c.args.rest c.args.parts.now c.loop-i.i c.in-Some.role c.index-parts-i.result role few is ∙ rw (passes.faultless, passes.behind) refl;
      behind = c.loop-i.invariant.behind ∙ parts_behind-drop (environment c.loop-i.walk) c.args.fixed.now c.args.rest c.args.parts.now c.loop-i.i c.in-Some.role c.index-parts-i.result role few is ∙ rw passes.behind refl;
    }

pub walk_saved-returns-clause-ok : goal.walk_saved-returns-clause-ok
walk_saved-returns-clause-ok t c = record {
  faultless = rw c.in_ok-enter.ensures at c.in_ok-walk_parts.ensures.ok.faultless;
  behind = c.in_ok-leave_closed.ensures ∙ rw (c.in_ok-walk_parts.ensures.ok.behind, c.in_ok-enter.ensures, c.in_ok-copy_scope.ensures) (sym (left-closed c.args.walk.now c.args.list c.args.word.now c.args.fixed.now c.args.rest c.args.parts.now c.requires.closed c.requires.quiet));
}

pub walk_list-returns-else-not-has_room-clause-ok : goal.walk_list-returns-else-not-has_room-clause-ok
walk_list-returns-else-not-has_room-clause-ok t c =
    let form : Form = record { fixed = c.in-Some.fixed.now; rest = c.in-Some.rest } in
    let fit : fits form (length c.in-List.items) ≡ true = search rules in
    rw c.in-List.is (on_ok c.walk_form.result _ _ (passes_form (environment c.args.walk.now) (environment c.walk_form.new.walk) c.args.list c.in-List.items c.in-List.place form c.new.result c.in-Some.ensures fit c.new.ensures) (rw c.as_slice-parts.ensures at c.walk_form.ensures.ok))

pub walk_list-returns-in-Some-split_first-clause-ok : goal.walk_list-returns-in-Some-split_first-clause-ok
walk_list-returns-in-Some-split_first-clause-ok t c =
    let first = c.in-Some-split_first.first.now in
    let parts = c.in-Some-split_first.parts.now in
    let whole : c.in-List.items ≡ first ∷ parts = search rules in
    rw (c.in-List.is, whole) (on_ok c.walk_headed.result _ _ (passes_headed (environment c.args.walk.now) (environment c.walk_headed.new.walk) c.args.list first parts c.in-List.place c.in-None.ensures) (rw c.text_of.ensures at c.walk_headed.ensures.ok))

pub walk_parts-returns-in_err-walk_part-clause-err : goal.walk_parts-returns-in_err-walk_part-clause-err
walk_parts-returns-in_err-walk_part-clause-err t c =
    let few : c.loop-i.i < length c.args.parts.now = search rules in
    let is : c.index-parts-i.result ≡ get_or c.args.parts.now c.loop-i.i c.index-parts-i.result = search rules in
    let role : role_at c.args.fixed.now c.args.rest c.loop-i.i ≡ Some c.in-Some.role = sym c.role_at.ensures ∙ c.in-Some.is in
    let whole = c.loop-i.invariant.fault ∙ parts_fault-drop (OfNames (environment c.loop-i.walk)) c.args.fixed.now c.args.rest c.args.parts.now c.loop-i.i c.in-Some.role c.index-parts-i.result role few is in
    let same : c.from_residual.result ≡ Err c.in_err-walk_part.field-0.0 = search rules in
    rw same (is_fault-first (parts_fault (OfNames (environment c.args.walk.now)) c.args.fixed.now c.args.rest c.args.parts.now) (part_fault (OfNames (environment c.loop-i.walk)) c.in-Some.role c.index-parts-i.result)
    (parts_fault (OfNames (behind_part (environment c.loop-i.walk) c.in-Some.role c.index-parts-i.result)) (drop (c.loop-i.i + 1) c.args.fixed.now) c.args.rest (drop (c.loop-i.i + 1) c.args.parts.now))
    c.in_err-walk_part.field-0.0 whole c.in_err-walk_part.ensures.err)
