-- Fronts that are kept.
use Rattle.std.proofs.Common.{◌≡◌, Result, Ok, Err}
use Rattle.std.specs.Prelude.{OnOk}
use Rattle.dl_report.specs.declared.front.Said.{Said}

pub same_said : (a b : Said) → a.node ≡ b.node → a.ticks ≡ b.ticks → a.waits ≡ b.waits → a.label ≡ b.label → a.tag ≡ b.tag → a.to ≡ b.to → a ≡ b
same_said a b p q r s t u i = record { node = p i; ticks = q i; waits = r i; label = s i; tag = t i; to = u i }

pub on_both : {T E : Type 0} (P Q : Type 0) (r : Result T E) → OnOk r P → Q → OnOk r (P × Q)
on_both P Q (Ok x) h q = (h, q)
on_both P Q (Err x) h q = tt
