use Rattle.std.proofs.Common.{◌≡◌, [], ◌++◌, ap, sym, ◌∙◌, append-nil, refl}
use Rattle.std.specs.List.{concat}
use Rattle.dl_report.specs.Layout.{end_lines}
use Rattle.dl_report.proofs.Pieces.{nothing}
use Rattle.dl_report.proofs.Written.{ending_on}
use Rattle.dl_report.proofs.write.endings.Goals as goal

pub loop-first-init : goal.loop-first-init
loop-first-init c = refl

pub loop-first-preserved : goal.loop-first-preserved
loop-first-preserved c =
    let names = c.args.names.now in
    ending_on names (c.args.out.now.items ++ concat (end_lines names c.args.ends.now)) c.loop-first.out.items c.ending_line.new.out.items
    c.in-Some.first.now c.loop-first.rest.now c.in-Some.more.now c.in-Some.ensures.cases.0 c.in_ok-ending_line.ensures c.loop-first.invariant

pub returns : goal.returns
returns c =
    let none : c.loop-first.rest.now ≡ [] = nothing c.loop-first.rest.now c.in_default.ensures.cases in
    sym (append-nil c.loop-first.out.items) ∙ (ap (λ es. c.loop-first.out.items ++ concat (end_lines c.args.names.now es)) (sym none) ∙ c.loop-first.invariant)
