use Rattle.std.proofs.Common.{◌≡◌, [], ◌++◌, ap, sym, ◌∙◌, append-nil, refl}
use Rattle.dl_report.proofs.Pieces.{nothing}
use Rattle.dl_report.proofs.Written.{byte_on}
use Rattle.dl_report.proofs.append.few.Goals as goal

pub loop-first-init : goal.loop-first-init
loop-first-init c = refl

pub loop-first-preserved : goal.loop-first-preserved
loop-first-preserved c =
    byte_on (c.args.out.now.items ++ c.args.piece.now) c.loop-first.out.items c.byte.new.out.items c.in-Some.first.now c.loop-first.rest.now c.in-Some.more.now
    c.in-Some.ensures.cases.0 c.in_ok-byte.ensures c.loop-first.invariant

pub returns : goal.returns
returns c =
    let none : c.loop-first.rest.now ≡ [] = nothing c.loop-first.rest.now c.in_default.ensures.cases in
    sym (append-nil c.loop-first.out.items) ∙ (ap (λ t. c.loop-first.out.items ++ t) (sym none) ∙ c.loop-first.invariant)
