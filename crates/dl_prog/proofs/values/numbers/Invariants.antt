use Rattle.std.proofs.Common.{◌≡◌, pos, drop}
use Rattle.std.specs.Prelude.{replicate}
use Rattle.std.proofs.Math.Seq.{paste}
use Rattle.dl_model.specs.Sorts.{all_i64}
use Rattle.dl_model.specs.Machine.{values_of}
use Rattle.dl_prog.specs.Slots.{named}
use Rattle.dl_prog.proofs.values.numbers.Given as goal

abbrev pub invariant-loop-at : goal.invariant-loop-at
invariant-loop-at l =
    (l.values ≡ paste (replicate 8 (pos 0)) 0 (values_of l.terms (named l.slots)) l.at)
    × (all_i64 (values_of (drop l.at l.terms) (named l.slots)) ≡ all_i64 (values_of l.terms (named l.slots)))
