use Rattle.std.proofs.Common.{◌≡◌, false, drop}
use Rattle.dl_notation.specs.Judge.{OfForms}
use Rattle.dl_notation.specs.Parts.{parts_fault}
use Rattle.dl_notation.proofs.form.+form_fault.Given as goal

abbrev pub invariant-parts_form_fault-loop-i : goal.invariant-parts_form_fault-loop-i
invariant-parts_form_fault-loop-i l = parts_fault (OfForms false) l.fixed l.rest l.parts ≡ parts_fault (OfForms l.stood) (drop l.i l.fixed) l.rest (drop l.i l.parts)
