-- What is wrong with the worlds of procedures and of the deployment.
use Rattle.std.specs.Prelude.{ℕ, ◌+◌, if◌then◌else◌, List, [], ◌∷◌, ◌++◌, drop}
use Rattle.std.specs.List.{flat_map, enumerate_from}
use Rattle.dl_term.specs.declared.syntax.Lab.{Lab}
use Rattle.dl_term.specs.declared.syntax.Lab.TheVariants.{Own, At}
use Rattle.dl_term.specs.declared.syntax.Formula.{Formula}
use Rattle.dl_tree.specs.declared.tree.Place.{Place}
use Rattle.dl_tree.specs.declared.tree.Tree.{Tree}
use Rattle.dl_tree.specs.TreePlace.{place_of}
use Rattle.dl_model.specs.declared.program.Proc.{Proc}
use Rattle.dl_model.specs.declared.file.World.{World}
use Rattle.dl_model.specs.declared.file.Program.{Program}
use Rattle.dl_model.specs.Block.{Block, Done, Sends, Awaits, Polls, Reads, Sets, Ifs, Whiles, Calls, block_of}
use Rattle.dl_model.specs.Sorts.{has}
use Rattle.dl_model.specs.Lookup.{world_at, world_of, composed, deploy_of}
use Rattle.dl_model.specs.Spoken.{labels_of}
use Rattle.dl_model.specs.Worlds.{is_label_of}
use Rattle.dl_world.specs.Injected.{injection}
use Rattle.dl_file.specs.declared.file.File.{File}
use Rattle.dl_faults.specs.declared.wrong.Named.TheVariants.{Label}
use Rattle.dl_faults.specs.declared.wrong.Wrong.{Wrong}
use Rattle.dl_faults.specs.Wrong.{at, naming, unless}
use Rattle.dl_faults.specs.Injections.{injection_wrong}
use Rattle.dl_faults.specs.Places.{parts_of}
use Rattle.dl_faults.specs.ProgramPlaces.{tree_at, part_at, label_list, label_word, proc_tree, formula_in, behind, body_of, program_place}

-- ---- labels

-- a label that a command names, at this tree, is one of the world's
abbrev pub named_wrong : World → Tree → ℕ → List Wrong
named_wrong world tree label = unless (has world.labels label) (at 20 (place_of tree))

-- the label with this number in a formula, which stands at this tree, is one of the world's
abbrev pub spoken_wrong : World → Tree → ℕ × Lab → List Wrong
spoken_wrong world tree named = unless (is_label_of world named.1) (at 20 (place_of (label_word (label_list tree named.0))))

abbrev pub formula_wrong : World → Tree → Formula → List Wrong
formula_wrong world tree f = flat_map (spoken_wrong world tree) (enumerate_from 0 (labels_of f))

-- it is not one of the callee's
abbrev pub touching_wrong : World → Place → Lab → List Wrong
touching_wrong callee place Own = []
touching_wrong callee place (At label) = if has callee.labels label then naming 23 place (Label label) ∷ [] else []

abbrev pub touched_wrong : World → Tree → ℕ × Lab → List Wrong
touched_wrong callee tree named = touching_wrong callee (place_of (label_list tree named.0)) named.1

-- what a call holds on to speaks of no label of the callee's world
abbrev pub frame_wrong : World → Tree → Formula → List Wrong
frame_wrong callee tree f = flat_map (touched_wrong callee tree) (enumerate_from 0 (labels_of f))

-- ---- commands

-- a command that stands at this tree has an annotation, and names a label in the part with this number
abbrev pub said_wrong : World → Tree → Formula → (part label : ℕ) → List Wrong
said_wrong world tree note part label = formula_wrong world (part_at tree 1) note ++ named_wrong world (part_at tree part) label

-- The callee's world can be injected into that of the caller, and what the call holds on to is about the caller's world and apart
-- from the callee's.
abbrev pub call_wrong : File → World → Tree → (note frame : Formula) → (callee : World) → List Wrong
call_wrong file world tree note frame callee =
    (formula_wrong world (part_at tree 1) note ++ formula_wrong world (part_at tree 2) frame)
    ++ (frame_wrong callee (part_at tree 2) frame ++ injection_wrong (place_of tree) (injection file.decls callee world))

-- The commands of a block stand among the trees from this number on, and the procedure at the whole.
abbrev pub block_wrong : File → World → (whole : Tree) → List Tree → ℕ → Block → List Wrong
block_wrong file world whole trees n Done = []
block_wrong file world whole trees n (Sends note label tag to args rest) =
    said_wrong world (tree_at whole trees n) note 2 label ++ block_wrong file world whole trees (n + 1) rest
block_wrong file world whole trees n (Awaits note label tag sender args rest) =
    said_wrong world (tree_at whole trees n) note 2 label ++ block_wrong file world whole trees (n + 1) rest
block_wrong file world whole trees n (Polls note got label tag sender args rest) =
    said_wrong world (tree_at whole trees n) note 3 label ++ block_wrong file world whole trees (n + 1) rest
block_wrong file world whole trees n (Reads note into label field index rest) =
    said_wrong world (tree_at whole trees n) note 3 label ++ block_wrong file world whole trees (n + 1) rest
block_wrong file world whole trees n (Sets target value rest) = block_wrong file world whole trees (n + 1) rest
block_wrong file world whole trees n (Ifs test left right rest) =
    (block_wrong file world whole (behind (part_at (tree_at whole trees n) 2)) 0 left ++ block_wrong file world whole (behind (part_at (tree_at whole trees n) 3)) 0 right)
    ++ block_wrong file world whole trees (n + 1) rest
block_wrong file world whole trees n (Whiles test note body rest) =
    (formula_wrong world (part_at (tree_at whole trees n) 2) note ++ block_wrong file world whole (drop 3 (parts_of (tree_at whole trees n))) 0 body)
    ++ block_wrong file world whole trees (n + 1) rest
block_wrong file world whole trees n (Calls note frame into callee args rest) =
    call_wrong file world (tree_at whole trees n) note frame (world_of file.decls callee) ++ block_wrong file world whole trees (n + 1) rest

-- ---- procedures, and the deployment

-- the annotations and commands of a procedure, which stands at this tree, keep to its world
abbrev pub proc_wrong_at : File → World → Tree → Proc → List Wrong
proc_wrong_at file world tree proc =
    (formula_wrong world (formula_in tree 5) proc.pre ++ formula_wrong world (formula_in tree 6) proc.post)
    ++ block_wrong file world tree (body_of tree) 0 (block_of proc.body)

abbrev pub proc_wrong : File → ℕ × Proc → List Wrong
proc_wrong file declared = proc_wrong_at file (world_at file.decls declared.1.world) (proc_tree file.tree declared.0) declared.1

-- the world of a deployed procedure can be injected into that of the deployment
abbrev pub program_wrong : File → ℕ × Program → List Wrong
program_wrong file deployed =
    injection_wrong (program_place file.tree deployed.0) (injection file.decls (world_of file.decls deployed.1.proc) (composed file.decls))

abbrev pub program_wrongs : File → List Wrong
program_wrongs file =
    flat_map (proc_wrong file) (enumerate_from 0 file.decls.procs) ++ flat_map (program_wrong file) (enumerate_from 0 (deploy_of file.decls).programs)
