-- What private parts of the code answer.
use Rattle.std.specs.Prelude.{ℕ, Bool, false, ◌||◌, if◌then◌else◌, List, [], ◌∷◌, ◌++◌, drop, slice_get, unwrap_or, codes}
use Rattle.std.specs.List.{flat_map, enumerate_from}
use Rattle.dl_term.specs.declared.syntax.Lab.{Lab}
use Rattle.dl_tree.specs.declared.tree.Place.{Place}
use Rattle.dl_tree.specs.declared.tree.Tree.{Tree}
use Rattle.dl_tree.specs.TreePlace.{place_of}
use Rattle.dl_model.specs.declared.program.Command.{Command, Send, Await, Poll, Read, Set, If', While', Call}
use Rattle.dl_model.specs.declared.file.World.{World}
use Rattle.dl_model.specs.Block.{row_block}
use Rattle.dl_model.specs.Lookup.{world_of}
use Rattle.dl_model.specs.Worlds.{is_label_of}
use Rattle.dl_file.specs.declared.file.File.{File}
use Rattle.dl_faults.specs.declared.wrong.Wrong.{Wrong}
use Rattle.dl_faults.specs.Wrong.{at, unless}
use Rattle.dl_faults.specs.Places.{parts_of, begins_with}
use Rattle.dl_faults.specs.ProgramPlaces.{tree_at, part_at, label_word, behind, is_side, is_plain_point, point_lists}
use Rattle.dl_faults.specs.Programs.{formula_wrong, touching_wrong, said_wrong, call_wrong, block_wrong}

-- where a list that names a label stands, or the name of the label in it
abbrev pub stood_at : Bool → Tree → Place
stood_at words list = if words then place_of (label_word list) else place_of list

-- The place with this number, or the whole where there is none.
abbrev pub place_among : Place → List Place → ℕ → Place
place_among whole places n = unwrap_or (slice_get places n) whole

-- the label with this number of a formula is one of the world's, or else breaks this rule
abbrev pub label_wrong_among : ℕ → World → Place → List Place → ℕ × Lab → List Wrong
label_wrong_among rule world whole places named = unless (is_label_of world named.1) (at rule (place_among whole places named.0))

-- and it is none of the callee's
abbrev pub touched_wrong_among : World → Place → List Place → ℕ × Lab → List Wrong
touched_wrong_among callee whole places named = touching_wrong callee (place_among whole places named.0) named.1

-- ---- commands

-- a command, which stands at this tree
abbrev pub command_wrong : File → World → (whole tree : Tree) → Command → List Wrong
command_wrong file world whole tree (Send note label tag to args) = said_wrong world tree note 2 label
command_wrong file world whole tree (Await note label tag sender args) = said_wrong world tree note 2 label
command_wrong file world whole tree (Poll note got label tag sender args) = said_wrong world tree note 3 label
command_wrong file world whole tree (Read note into label field index) = said_wrong world tree note 3 label
command_wrong file world whole tree (Set target value) = []
command_wrong file world whole tree (If' test _ left _ right) =
    block_wrong file world whole (behind (part_at tree 2)) 0 (row_block left) ++ block_wrong file world whole (behind (part_at tree 3)) 0 (row_block right)
command_wrong file world whole tree (While' test note _ body) =
    formula_wrong world (part_at tree 2) note ++ block_wrong file world whole (drop 3 (parts_of tree)) 0 (row_block body)
command_wrong file world whole tree (Call note frame into callee args) = call_wrong file world tree note frame (world_of file.decls callee)

-- the command with this number, which stands among these trees
abbrev pub numbered_wrong : File → World → (whole : Tree) → List Tree → ℕ × Command → List Wrong
numbered_wrong file world whole trees listed = command_wrong file world whole (tree_at whole trees listed.0) listed.1

-- all of them
abbrev pub commands_wrong : File → World → (whole : Tree) → List Tree → List Command → List Wrong
commands_wrong file world whole trees commands = flat_map (numbered_wrong file world whole trees) (enumerate_from 0 commands)

-- ---- points

-- a tree that is a point itself
abbrev pub is_point : Tree → Bool
is_point tree =
    if begins_with (codes "if") tree || is_side tree then false else
    (begins_with (codes "while") tree || is_plain_point tree)

abbrev pub own_point : Tree → List Tree
own_point tree = if is_point tree then tree ∷ [] else []

-- how many parts of a list of this length stand before its commands or sides
abbrev pub parts_before : Tree → (count : ℕ) → ℕ
parts_before tree count =
    if begins_with (codes "if") tree then 2 else
    if is_side tree then 1 else
    if begins_with (codes "while") tree then 3 else count

-- the points of a part that isn't skipped
abbrev pub points_unless : (skipped : Bool) → Tree → List Tree
points_unless skipped part = if skipped then [] else point_lists part
