use Rattle.std.proofs.Common.{◌≡◌, [], ◌++◌, map, ap, sym, ◌∙◌, append-nil, refl}
use Rattle.std.specs.Fmt.{signed_decimal}
use Rattle.dl_report.specs.Spaced.{spaced}
use Rattle.dl_report.proofs.Pieces.{nothing}
use Rattle.dl_report.proofs.Written.{integer_on}
use Rattle.dl_report.proofs.write.integers.Goals as goal

pub loop-value-init : goal.loop-value-init
loop-value-init c = refl

pub loop-value-preserved : goal.loop-value-preserved
loop-value-preserved c =
    integer_on (c.args.out.now.items ++ spaced (map signed_decimal c.args.values.now)) c.loop-value.out.items c.integer.new.out.items c.in-Some.value.now c.loop-value.rest.now c.in-Some.more.now
    c.in-Some.ensures.cases.0 c.in_ok-integer.ensures c.loop-value.invariant

pub returns : goal.returns
returns c =
    let none : c.loop-value.rest.now ≡ [] = nothing c.loop-value.rest.now c.in_default.ensures.cases in
    sym (append-nil c.loop-value.out.items) ∙ (ap (λ vs. c.loop-value.out.items ++ spaced (map signed_decimal vs)) (sym none) ∙ c.loop-value.invariant)
