use Rattle.std.proofs.Common.{pos, slice_index_or, sym, ◌∙◌, FitsSigned, rules}
use Rattle.std.proofs.lemmas.Int.{to_z-of_z}
use mir.Syntax.{w64, w128}
use Rattle.dl_state.proofs.LaidLemmas.{no-node, no-index, field-read}
use Rattle.dl_state.proofs.board.read_column.Goals as goal

pub returns-in_default : goal.returns-in_default
returns-in_default c =
    let fits : FitsSigned w128 c.args.node = search rules in
    sym (no-node c.args.nodes c.args.cells.now c.args.column c.args.node c.args.index (simp to_z-of_z at c.in_default.ensures))

pub returns-in_default-below : goal.returns-in_default-below
returns-in_default-below c =
    let fits : FitsSigned w128 c.args.node = search rules in
    let fits_index : FitsSigned w128 c.args.index = search rules in
    sym (no-index c.args.nodes c.args.cells.now c.args.column c.args.node c.in-Some.row c.args.index (sym (to_z-of_z w128 c.args.node fits) ∙ c.in-Some.ensures.0) c.in-Some.ensures.1 (simp to_z-of_z at c.in_default-below.ensures))

pub returns : goal.returns
returns c =
    let fits_node : FitsSigned w128 c.args.node = search rules in
    let fits_index : FitsSigned w128 c.args.index = search rules in
    let fits : FitsSigned w64 (slice_index_or c.args.cells.now c.place.result (pos 0)) = search rules in
    to_z-of_z w64 (slice_index_or c.args.cells.now c.place.result (pos 0)) fits
    ∙ field-read c.args.nodes c.args.cells.now c.args.column c.args.node c.in-Some.row c.args.index c.in-Some-below.column_index c.place.result
    (sym (to_z-of_z w128 c.args.node fits_node) ∙ c.in-Some.ensures.0) c.in-Some.ensures.1 (sym (to_z-of_z w128 c.args.index fits_index) ∙ c.in-Some-below.ensures.0) c.in-Some-below.ensures.1 c.place.ensures
