use Rattle.std.proofs.Common.{◌++◌, ℕ, List, length, ap, sym, ◌∙◌, arith}
use Rattle.std.specs.Prelude.{slice_get, unwrap_or}
use Rattle.dl_term.specs.declared.syntax.Lab.TheVariants.{At}
use Rattle.dl_model.specs.declared.protocol.Tag.{Tag}
use Rattle.dl_model.specs.Lookup.{no_tag}
use Rattle.dl_sequent.specs.declared.duty.Duty.{Duty}
use Rattle.dl_triples.specs.Duties.{steps_of_another}
use Rattle.dl_duties.specs.Moves.{kept_duty}
use Rattle.dl_inv.proofs.Listing.{next-number, tag-here}
use Rattle.dl_duties.proofs.listed.add_of_tags.Goals as goal

pub loop-position-preserved : goal.loop-position-preserved
loop-position-preserved c =
    let i = c.loop-position.position in
    let steps : ℕ → Tag → List Duty = λ tag declared. steps_of_another (kept_duty c.args.kept c.args.label tag) (At c.args.label) tag c.args.formula.now declared in
    let at = tag-here c.args.protocol.now c.as_slice-tag-items.result.now i c.tag-item.result c.as_slice-tag-items.ensures (omega arith) c.tag-item.is in
    next-number (λ tag. steps tag (unwrap_or (slice_get c.args.protocol.now.tags tag) no_tag)) i (length c.args.protocol.now.tags) c.loop-position.list c.add_of_tag.new.list _
    (omega (arith, ap length c.as_slice-tag-items.ensures)) c.loop-position.invariant
    (c.in_ok-add_of_tag.ensures ∙ ap (λ (declared : Tag). c.loop-position.list ++ steps i declared) (sym at))
