use Rattle.std.proofs.Common.{◌≡◌, Some, Err, ap, ◌∙◌}
use Rattle.dl_linear.specs.declared.line.LineFault.TheVariants.{TooWide}
use Rattle.dl_linear.specs.Forms.{row_fits}
use Rattle.dl_linear.specs.Seen.{seen, seen_sides, all_seen}
use Rattle.dl_linear.proofs.Parts.{at-place}
use Rattle.dl_linear.proofs.Walks.{map-at, all-fails}
use Rattle.dl_linear.proofs.linearizer.rows_of.Goals as goal

pub returns-in-Err-clause-wide : goal.returns-in-Err-clause-wide
returns-in-Err-clause-wide c wide =
    let all = c.args.all.now in
    let at = at-place all c.loop-row.row-index c.row-item.result c.loop-row-test.true c.row-item.is ∙ ap Some c.in-Some.is in
    let is : c.in-Err.fault ≡ TooWide = cc in
    all-fails (row_fits c.args.atoms.now) (all_seen all) c.loop-row.row-index (Some (seen c.in-Some.sides))
    (map-at seen_sides all c.loop-row.row-index (Some c.in-Some.sides) at) (c.in-Err.ensures.wide (ap Err is))
