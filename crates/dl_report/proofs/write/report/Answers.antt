use Rattle.std.proofs.Common.{rules, ap, sym, ◌∙◌, ◌++◌, [], ◌≡◌}
use Rattle.std.specs.List.{concat}
use Rattle.dl_report.specs.Layout.{line_of, head_words, entry_lines, end_lines}
use Rattle.dl_report.proofs.Whole.{concat_append}
use Rattle.dl_report.proofs.Written.{three_parts}
use Rattle.dl_report.proofs.write.report.Goals as goal

pub returns : goal.returns
returns c =
    let names = c.args.names.now in
    let head = line_of (head_words c.args.budget c.args.order) in
    let es = entry_lines names c.args.decls.now 1 c.args.entries.now in
    let ds = end_lines names c.args.ends.now in
    let empty : c.new-out.result.items ≡ [] = search rules in
    let whole = three_parts c.new-out.result.items c.head_line.new.out.items c.all_entries.new.out.items c.endings.new.out.items head (concat es) (concat ds)
    empty c.in_ok-head_line.ensures c.in_ok-all_entries.ensures c.in_ok-endings.ensures in
    whole ∙ ap (λ t. head ++ t) (sym (concat_append es ds))
