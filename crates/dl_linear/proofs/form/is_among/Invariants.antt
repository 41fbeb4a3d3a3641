use Rattle.std.proofs.Common.{◌≡◌, false, take}
use Rattle.dl_linear.specs.Forms.{is_among as among}
use Rattle.dl_linear.proofs.form.is_among.Given as goal

abbrev pub invariant-loop-other : goal.invariant-loop-other
invariant-loop-other l = among l.term (take l.other-index l.terms) ≡ false
