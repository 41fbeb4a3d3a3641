use Rattle.std.proofs.Common.{◌≡◌, suc, ◌+◌, [], ◌++◌, ap, sym, ◌∙◌, append-nil, arith, refl}
use Rattle.std.specs.List.{concat}
use Rattle.dl_report.specs.Layout.{entry_lines}
use Rattle.dl_report.proofs.Pieces.{nothing}
use Rattle.dl_report.proofs.Written.{entry_on}
use Rattle.dl_report.proofs.write.all_entries.Goals as goal

pub loop-first-init : goal.loop-first-init
loop-first-init c = record { lines = refl; many = omega arith; kept = c.new-fronts.ensures c.args.names.now c.args.decls.now }

pub overflow_add-number : goal.overflow_add-number
overflow_add-number c = omega (arith, c.in-Some.ensures.cases.1, c.loop-first.invariant.many)

pub loop-first-preserved : goal.loop-first-preserved
loop-first-preserved c =
    let names = c.args.names.now in
    let decls = c.args.decls.now in
    let number = c.loop-first.number + 1 in
    let next : number + 1 ≡ suc number = omega arith in
    record {
      lines = entry_on names decls (c.args.out.now.items ++ concat (entry_lines names decls 1 c.args.entries.now)) c.loop-first.out.items c.entry_line.new.out.items
          number (number + 1) c.in-Some.first.now c.loop-first.rest.now c.in-Some.more.now c.in-Some.ensures.cases.0 next c.in_ok-entry_line.ensures.0 c.loop-first.invariant.lines;
      many = omega (arith, c.in-Some.ensures.cases.1, c.loop-first.invariant.many);
      kept = c.in_ok-entry_line.ensures.1;
    }

pub returns : goal.returns
returns c =
    let none : c.loop-first.rest.now ≡ [] = nothing c.loop-first.rest.now c.in_default.ensures.cases in
    sym (append-nil c.loop-first.out.items)
    ∙ (ap (λ es. c.loop-first.out.items ++ concat (entry_lines c.args.names.now c.args.decls.now (c.loop-first.number + 1) es)) (sym none) ∙ c.loop-first.invariant.lines)
