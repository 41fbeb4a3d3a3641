use Rattle.std.proofs.Common.{◌≡◌, pos, Some, None, slice_get, ap, length, ◌∙◌, subst, ◌≤◌, ◌+◌, ◌*◌, [], sym, FitsSigned, rules}
use Rattle.std.proofs.lemmas.Int.{to_z-of_z}
use Rattle.dl_term.specs.State.{item}
use Rattle.dl_state.specs.Laid.{column_of}
use mir.Syntax.{w64, w128}
use Rattle.dl_state.proofs.LaidLemmas.{column-ends, read-found, read-none}
use Rattle.dl_state.proofs.board.Board.read.Goals as goal

pub read_column-requires : goal.read_column-requires
read_column-requires c =
    let look : slice_get c.self.inside.columns.items c.args.field ≡ Some c.in-Some.column.now = search (rules, c.in-Some.ensures) in
    let ends = column-ends c.self.inside.nodes 0 c.self.inside.columns.items (length c.self.inside.cells.items) c.args.field c.in-Some.column.now c.self.invariant look in
    subst (λ xs. c.in-Some.column.now.start + c.self.inside.nodes * c.in-Some.column.now.width ≤ length xs) (sym c.as_slice-in-Some.ensures.value) ends

pub returns-in-Some : goal.returns-in-Some
returns-in-Some c =
    let fits : FitsSigned w64 c.read_column.result = search rules in
    let fits_node : FitsSigned w128 c.args.node = search rules in
    let fits_index : FitsSigned w128 c.args.index = search rules in
    let look : slice_get c.self.inside.columns.items c.args.field ≡ Some c.in-Some.column.now = search (rules, c.in-Some.ensures) in
    to_z-of_z w64 c.read_column.result fits
    ∙ simp to_z-of_z at c.read_column.ensures
    ∙ ap (λ xs. item (item (column_of c.self.inside.nodes xs c.in-Some.column.now) c.args.node []) c.args.index (pos 0)) c.as_slice-in-Some.ensures.value
    ∙ read-found c.self.inside.nodes c.self.inside.cells.items c.self.inside.columns.items c.args.self.now c.args.field c.args.node c.args.index c.in-Some.column.now c.self.view_is look

pub returns-in-None : goal.returns-in-None
returns-in-None c =
    let look : slice_get c.self.inside.columns.items c.args.field ≡ None = search (rules, c.in-None.ensures) in
    read-none c.self.inside.nodes c.self.inside.cells.items c.self.inside.columns.items c.args.self.now c.args.field c.args.node c.args.index c.self.view_is look
