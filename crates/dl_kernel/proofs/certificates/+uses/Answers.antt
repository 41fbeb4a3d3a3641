use Rattle.std.proofs.Common.{sym, ap, ◌∙◌}
use Rattle.std.specs.List.{list_any}
use Rattle.dl_linear.specs.declared.certificate.Multiple.{Multiple}
use Rattle.dl_linear.proofs.Parts.{at-place}
use Rattle.dl_kernel.specs.Lines.{uses}
use Rattle.dl_kernel.proofs.LineFacts.{uses-sum, any-found, any-next}
use Rattle.dl_kernel.proofs.certificates.+uses.Goals as goal

pub some_uses-returns-then-uses : goal.some_uses-returns-then-uses
some_uses-returns-then-uses t c =
    let at = at-place c.args.parts.now c.loop-part.part-index c.part-item.result c.loop-part-test.true c.part-item.is in
    sym (any-found (λ (part : Multiple). uses c.args.name part.certificate) c.args.parts.now c.loop-part.part-index c.part-item.result at (sym c.uses.ensures ∙ c.if-uses.true))

pub some_uses-loop-part-preserved : goal.some_uses-loop-part-preserved
some_uses-loop-part-preserved t c =
    let at = at-place c.args.parts.now c.loop-part.part-index c.part-item.result c.loop-part-test.true c.part-item.is in
    any-next (λ (part : Multiple). uses c.args.name part.certificate) c.args.parts.now c.loop-part.part-index c.part-item.result c.loop-part.invariant at (sym c.uses.ensures ∙ c.if-uses.false)

pub uses-returns-in-Sum : goal.uses-returns-in-Sum
uses-returns-in-Sum t c =
    c.some_uses.ensures
    ∙ ap (list_any (λ (part : Multiple). uses c.args.name part.certificate)) c.as_slice.ensures
    ∙ sym (uses-sum c.args.name c.in-Sum.parts)
    ∙ ap (uses c.args.name) (sym c.in-Sum.is)
