use Rattle.std.proofs.Common.{◌++◌, ℕ, List, length, ap, sym, ◌∙◌, arith}
use Rattle.std.specs.Prelude.{slice_get, unwrap_or}
use Rattle.dl_model.specs.declared.protocol.Tag.{Tag}
use Rattle.dl_model.specs.Lookup.{no_tag}
use Rattle.dl_sequent.specs.declared.duty.Duty.{Duty}
use Rattle.dl_inv.specs.Moves.{step_duty, subject_label}
use Rattle.dl_inv.specs.Duties.{steps_of_tag}
use Rattle.dl_inv.proofs.Listing.{next-number, tag-here}
use Rattle.dl_inv.proofs.listed.add_steps.Goals as goal

pub loop-position-preserved : goal.loop-position-preserved
loop-position-preserved c =
    let i = c.loop-position.position in
    let steps : ℕ → Tag → List Duty = λ tag declared. steps_of_tag (step_duty c.args.subject tag) (subject_label c.args.subject) tag c.args.formula.now declared in
    let at = tag-here c.args.protocol.now c.as_slice-tag-items.result.now i c.tag-item.result c.as_slice-tag-items.ensures (omega arith) c.tag-item.is in
    next-number (λ tag. steps tag (unwrap_or (slice_get c.args.protocol.now.tags tag) no_tag)) i (length c.args.protocol.now.tags) c.loop-position.list c.add_steps_of_tag.new.list _
    (omega (arith, ap length c.as_slice-tag-items.ensures)) c.loop-position.invariant
    (c.in_ok-add_steps_of_tag.ensures ∙ ap (λ (declared : Tag). c.loop-position.list ++ steps i declared) (sym at))
