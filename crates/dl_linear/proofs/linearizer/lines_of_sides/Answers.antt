use Rattle.std.proofs.Common.{◌≡◌, sym, ap, subst, ◌∙◌}
use Rattle.dl_linear.specs.Forms.{rows_for, lines_from, SayTheSides}
use Rattle.dl_linear.specs.Seen.{all_seen}
use Rattle.dl_linear.proofs.LineLemmas.{lines-say}
use Rattle.dl_linear.proofs.linearizer.lines_of_sides.Goals as goal

pub returns-in-Ok-rows_of-clause-meaning : goal.returns-in-Ok-rows_of-clause-meaning
returns-in-Ok-rows_of-clause-meaning c =
    let all = all_seen c.args.all.now in
    let atoms = c.in-Ok.ensures in
    let rows = c.in-Ok-rows_of.ensures.rows ∙ ap (λ terms. rows_for terms all) (c.as_slice.ensures ∙ atoms) in
    let is : record { atoms = c.in-Ok.atoms; rows = c.in-Ok-rows_of.rows } ≡ lines_from all = λ i. record { atoms = atoms i; rows = rows i } in
    subst (λ lines. SayTheSides lines all) (sym is) (lines-say all)
