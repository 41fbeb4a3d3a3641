use Rattle.std.proofs.Common.{◌≡◌, false, take}
use Rattle.std.specs.List.{list_any}
use Rattle.dl_linear.specs.declared.certificate.Multiple.{Multiple}
use Rattle.dl_kernel.specs.Lines.{uses}
use Rattle.dl_kernel.proofs.certificates.+uses.Given as goal

abbrev pub invariant-some_uses-loop-part : goal.invariant-some_uses-loop-part
invariant-some_uses-loop-part l = list_any (λ (part : Multiple). uses l.name part.certificate) (take l.part-index l.parts) ≡ false
