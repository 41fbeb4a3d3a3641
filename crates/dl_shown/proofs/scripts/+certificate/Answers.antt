use Rattle.std.proofs.Common.{map, sym, ap, ◌∙◌}
use Rattle.std.specs.Prelude.{codes}
use Rattle.dl_forms.specs.Show.{form}
use Rattle.dl_shown.specs.Scripts.{multiple_of, certificate_of}
use Rattle.dl_shown.proofs.CertificateLemmas.{sum-shown}
use Rattle.dl_shown.proofs.Moved.{moved}
use Rattle.dl_shown.proofs.scripts.+certificate.Goals as goal

pub certificate-returns-in-Sum : goal.certificate-returns-in-Sum
certificate-returns-in-Sum t c =
    let names = c.args.names.now in
    moved c.sum.result (form (codes "add") (map (multiple_of names) c.as_slice.result.now)) (certificate_of names c.args.certificate.now) c.sum.ensures
    (ap (λ ms. form (codes "add") (map (multiple_of names) ms)) c.as_slice.ensures ∙ (sym (sum-shown names c.in-Sum.multiples) ∙ ap (certificate_of names) (sym c.in-Sum.is)))
