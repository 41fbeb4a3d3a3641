use Rattle.std.proofs.Common.{◌&&◌, map, [], ◌∷◌, ◌++◌, FitsSigned, w64, rules, sym, ap, ◌∙◌}
use Rattle.std.specs.List.{list_all}
use Rattle.std.proofs.lemmas.Int.{to_z-of_z}
use Rattle.std.proofs.lemmas.List.{take_all}
use Rattle.dl_linear.specs.Forms.{coefficient, coefficient_fits, bound, bound_fits}
use Rattle.dl_linear.specs.Seen.{seen}
use Rattle.dl_linear.proofs.Parts.{at-place}
use Rattle.dl_linear.proofs.Walks.{map-next, all-next, all-fails, if-none, if-some}
use Rattle.dl_linear.proofs.linearizer.line_of.Goals as goal

pub returns-in-None-clause-wide : goal.returns-in-None-clause-wide
returns-in-None-clause-wide c wide =
    let sides = seen c.args.sides in
    let at = at-place c.args.atoms.now c.loop-atom.atom-index c.atom-item.result c.loop-atom-test.true c.atom-item.is in
    let far = if-none (coefficient_fits sides c.atom-item.result) (coefficient sides c.atom-item.result) (sym c.coefficient.ensures ∙ c.in-None.is) in
    ap (λ b. b && bound_fits sides) (all-fails (coefficient_fits sides) c.args.atoms.now c.loop-atom.atom-index c.atom-item.result at far)

pub loop-atom-preserved : goal.loop-atom-preserved
loop-atom-preserved c =
    let sides = seen c.args.sides in
    let at = at-place c.args.atoms.now c.loop-atom.atom-index c.atom-item.result c.loop-atom-test.true c.atom-item.is in
    let right = if-some (coefficient_fits sides c.atom-item.result) (coefficient sides c.atom-item.result) c.in-Some.coef (sym c.coefficient.ensures ∙ c.in-Some.is) in
    let f : FitsSigned w64 c.in-Some.coef = search rules in
    let last = to_z-of_z w64 _ f ∙ sym right.1 in
    let before = c.loop-atom.invariant.0 in
    let pushed = c.in_default.ensures.ok in (
      pushed ∙ (λ i. before i ++ last i ∷ []) ∙ sym (map-next (coefficient sides) c.args.atoms.now c.loop-atom.atom-index c.atom-item.result at),
      all-next (coefficient_fits sides) c.args.atoms.now c.loop-atom.atom-index c.atom-item.result c.loop-atom.invariant.1 at right.0,
    )

pub returns-in-Some-bound-clause-line : goal.returns-in-Some-bound-clause-line
returns-in-Some-bound-clause-line c =
    let sides = seen c.args.sides in
    let whole = take_all c.loop-atom.atom-index c.args.atoms.now c.loop-atom-test.false in
    let right = if-some (bound_fits sides) (bound sides) c.in-Some-bound.bound (sym c.bound.ensures ∙ c.in-Some-bound.is) in
    let f : FitsSigned w64 c.in-Some-bound.bound = search rules in
    let coefs = c.loop-atom.invariant.0 ∙ ap (map (coefficient sides)) whole in
    let last = to_z-of_z w64 _ f ∙ sym right.1 in
    λ i. record { coefs = coefs i; bound = last i; equal = c.args.sides.equal }

pub returns-in-Some-bound-clause-narrow : goal.returns-in-Some-bound-clause-narrow
returns-in-Some-bound-clause-narrow c =
    let sides = seen c.args.sides in
    let whole = take_all c.loop-atom.atom-index c.args.atoms.now c.loop-atom-test.false in
    let right = if-some (bound_fits sides) (bound sides) c.in-Some-bound.bound (sym c.bound.ensures ∙ c.in-Some-bound.is) in
    let coefs = ap (list_all (coefficient_fits sides)) (sym whole) ∙ c.loop-atom.invariant.1 in
    λ i. coefs i && right.0 i

pub returns-in-None-bound-clause-wide : goal.returns-in-None-bound-clause-wide
returns-in-None-bound-clause-wide c wide =
    let sides = seen c.args.sides in
    let far = if-none (bound_fits sides) (bound sides) (sym c.bound.ensures ∙ c.in-None-bound.is) in
    let whole = take_all c.loop-atom.atom-index c.args.atoms.now c.loop-atom-test.false in
    let coefs = ap (list_all (coefficient_fits sides)) (sym whole) ∙ c.loop-atom.invariant.1 in
    λ i. coefs i && far i
