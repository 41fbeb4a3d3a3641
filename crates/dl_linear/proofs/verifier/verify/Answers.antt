use Rattle.std.proofs.Common.{◌≡◌, ℕ, ℤ, length, None, sym, ap, subst, ◌∙◌}
use Rattle.dl_linear.specs.declared.certificate.CertFault.TheVariants.{NotContradiction}
use Rattle.dl_linear.specs.Rows.{made, fault, first_of, is_contradiction, verdict, unless, MeetsRows}
use Rattle.dl_linear.proofs.Parts.{answered-ok}
use Rattle.dl_linear.proofs.Sound.{no-solution}
use Rattle.dl_linear.proofs.verifier.verify.Goals as goal

pub returns-then-is_false-clause-sound : goal.returns-then-is_false-clause-sound
returns-then-is_false-clause-sound c done =
    let width = c.len-width.result in
    let rows = c.as_slice-rows.result.now in
    let right = answered-ok (fault width rows c.args.cert.now) (sym c.check.ensures ∙ c.in-Ok.is) in
    let ends = sym c.is_false.ensures ∙ c.if-is_false.true in
    let none : verdict width rows c.args.cert.now ≡ None =
    ap (λ f. first_of f (unless (is_contradiction width (made rows c.args.cert.now)) NotContradiction)) right
    ∙ ap (λ test. unless test NotContradiction) ends in
    let all = no-solution width rows c.args.cert.now none in
    let moved = subst (λ n. (x : ℕ → ℤ) → MeetsRows n x rows → ⊥) c.len-width.ensures all in
    subst (λ rs. (x : ℕ → ℤ) → MeetsRows (length c.args.lines.now.atoms) x rs → ⊥) c.as_slice-rows.ensures moved
