use Rattle.std.proofs.Common.{◌≡◌, true, take}
use Rattle.dl_linear.specs.Forms.{rows_for, rows_fit}
use Rattle.dl_linear.specs.Seen.{all_seen}
use Rattle.dl_linear.proofs.linearizer.rows_of.Given as goal

abbrev pub invariant-loop-row : goal.invariant-loop-row
invariant-loop-row l =
    (l.rows ≡ rows_for l.atoms (all_seen (take l.row-index l.all)))
    × (rows_fit l.atoms (all_seen (take l.row-index l.all)) ≡ true)
