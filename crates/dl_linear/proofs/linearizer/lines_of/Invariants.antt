use Rattle.std.proofs.Common.{◌≡◌, take}
use Rattle.dl_linear.specs.Forms.{all_sides}
use Rattle.dl_linear.specs.Seen.{all_seen}
use Rattle.dl_linear.proofs.linearizer.lines_of.Given as goal

abbrev pub invariant-loop-formula : goal.invariant-loop-formula
invariant-loop-formula l = all_seen l.all.items ≡ all_sides (take l.formula-index l.formulas)
