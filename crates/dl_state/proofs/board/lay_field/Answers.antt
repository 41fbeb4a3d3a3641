use Rattle.std.proofs.Common.{◌≡◌, ◌++◌, ◌∷◌, [], length, arith, ap, ◌∙◌}
use Rattle.std.specs.Prelude.{replicate, map}
use Rattle.std.proofs.lemmas.Grind.{common_steps}
use Rattle.dl_state.specs.Laid.{columns_of}
use Rattle.dl_state.proofs.LaidLemmas.{laid-field, field-laid}
use Rattle.dl_state.proofs.board.lay_field.Goals as goal

pub returns-clause-laid : goal.returns-clause-laid
returns-clause-laid c =
    let start : c.len-start.result ≡ length c.args.cells.now.items = grind (arith, common_steps) in
    let values : c.as_slice.result.now ≡ c.args.shape.now.first = c.as_slice.ensures in
    laid-field c.args.nodes c.args.cells.now.items c.lay_rows.new.cells.items c.args.columns.now.items c.push.new.self.items c.as_slice.result.now c.len-start.result c.width_of-width.result
    (ap length values ∙ c.requires.filled) c.requires.laid start c.in_ok-lay_rows.ensures c.in_ok-push.ensures.items

pub returns-clause-columns : goal.returns-clause-columns
returns-clause-columns c =
    let start : c.len-start.result ≡ length c.args.cells.now.items = grind (arith, common_steps) in
    let values : c.as_slice.result.now ≡ c.args.shape.now.first = c.as_slice.ensures in
    field-laid c.args.nodes c.args.cells.now.items c.lay_rows.new.cells.items c.args.columns.now.items c.push.new.self.items c.as_slice.result.now c.len-start.result c.width_of-width.result
    (ap length values ∙ c.requires.filled) c.requires.laid start c.in_ok-lay_rows.ensures c.in_ok-push.ensures.items
    ∙ (λ i. columns_of c.args.nodes c.args.cells.now.items c.args.columns.now.items ++ map (λ value. replicate (c.width_of-width.ensures i) value) (values i) ∷ [])
