use Rattle.std.proofs.Common.{◌≡◌, [], drop}
use Rattle.dl_linear.specs.Forms.{atoms_from}
use Rattle.dl_linear.specs.Seen.{all_seen}
use Rattle.dl_linear.proofs.linearizer.atoms_of.Given as goal

abbrev pub invariant-loop-row : goal.invariant-loop-row
invariant-loop-row l = atoms_from l.atoms (all_seen (drop l.row-index l.all)) ≡ atoms_from [] (all_seen l.all)
