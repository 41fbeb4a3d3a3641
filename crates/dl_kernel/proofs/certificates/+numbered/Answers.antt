use Rattle.std.proofs.Common.{map, sym, ap, ◌∙◌}
use Rattle.dl_linear.specs.declared.certificate.Certificate.{Sum}
use Rattle.dl_kernel.specs.Lines.{numbered, renumbered}
use Rattle.dl_kernel.proofs.LineFacts.{numbered-sum}
use Rattle.dl_kernel.proofs.certificates.+numbered.Goals as goal

pub numbered-returns-in_ok-parts-in-Sum : goal.numbered-returns-in_ok-parts-in-Sum
numbered-returns-in_ok-parts-in-Sum t c =
    ap Sum (c.in_ok-parts-in-Sum.ensures ∙ ap (map (renumbered c.args.facts.now)) c.as_slice.ensures)
    ∙ sym (numbered-sum c.args.facts.now c.in-Sum.parts)
    ∙ ap (numbered c.args.facts.now) (sym c.in-Sum.is)
