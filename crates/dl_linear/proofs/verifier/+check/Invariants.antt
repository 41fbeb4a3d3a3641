use Rattle.std.proofs.Common.{◌≡◌, take, None}
use Rattle.dl_linear.specs.Columns.{fault_of}
use Rattle.dl_linear.proofs.verifier.+check.Given as goal

abbrev pub invariant-check_parts-loop-part : goal.invariant-check_parts-loop-part
invariant-check_parts-loop-part l = fault_of l.width l.rows (take l.part-index l.parts) ≡ None
