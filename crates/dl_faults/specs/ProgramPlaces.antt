-- Where the parts of procedures and of the deployment stand, by the tree of the file.
use Rattle.std.specs.Prelude.{ℕ, zero, suc, ◌||◌, ◌==◌, Bool, if◌then◌else◌, List, [], ◌∷◌, ◌++◌, drop, slice_get, unwrap_or, codes}
use Rattle.dl_tree.specs.declared.tree.Place.{Place}
use Rattle.dl_tree.specs.declared.tree.Tree.{Tree, Num, Sym, List', Row_of-Tree, end_of-Tree, more_of-Tree}
use Rattle.dl_tree.specs.TreePlace.{place_of}
use Rattle.dl_model.specs.declared.file.Program.{Program}
use Rattle.dl_model.specs.declared.file.Decls.{Decls}
use Rattle.dl_model.specs.Lookup.{deploy_of}
use Rattle.dl_faults.specs.Places.{parts_of, begins_with, item, place_in, label_lists}

-- the tree with this number, or the whole where there is none
abbrev pub tree_at : Tree → List Tree → ℕ → Tree
tree_at whole trees n = unwrap_or (slice_get trees n) whole

-- the part with this number, or the tree itself where there is none
abbrev pub part_at : Tree → ℕ → Tree
part_at tree n = tree_at tree (parts_of tree) n

-- ---- what names a label

-- which part of such a list names its label: `(each m L t F)`, `(get L f T)`, `(len L)`
abbrev pub label_part : Tree → ℕ
label_part list = if begins_with (codes "each") list || begins_with (codes "any") list then 2 else 1

-- the list with this number among those of a formula that name a label, in the order of the labels in the formula
abbrev pub label_list : Tree → ℕ → Tree
label_list formula n = tree_at formula (label_lists formula) n

-- the label itself in such a list
abbrev pub label_word : Tree → Tree
label_word list = part_at list (label_part list)

-- ---- procedures: (proc Q W ((x S) ..) (locals y ..) (pre F) (post F) (body C ..) (return E))

abbrev pub proc_tree : Tree → ℕ → Tree
proc_tree file proc = item file (codes "proc") proc

-- the formula in `pre` or `post`
abbrev pub formula_in : Tree → ℕ → Tree
formula_in proc n = part_at (part_at proc n) 1

-- the parts of a list behind its word
abbrev pub behind : Tree → List Tree
behind list = drop 1 (parts_of list)

-- the commands of the body
abbrev pub body_of : Tree → List Tree
body_of proc = behind (part_at proc 7)

-- ---- points: commands that have an annotation

-- a side of a choice
abbrev pub is_side : Tree → Bool
is_side tree = begins_with (codes "then") tree || begins_with (codes "else") tree

-- a command with an annotation and no commands of its own
abbrev pub is_plain_point : Tree → Bool
is_plain_point tree =
    (begins_with (codes "send") tree || begins_with (codes "await") tree)
    || (begins_with (codes "poll") tree || (begins_with (codes "read") tree || begins_with (codes "call") tree))

abbrev mutual
  -- the points of a command, or of a side of a choice, in the order in which they stand
  pub point_lists : Tree → List Tree
  point_lists (Num value place) = []
  point_lists (Sym name place) = []
  point_lists (List' shape parts place) =
      if begins_with (codes "if") (List' shape parts place) then points_after 2 parts else
      if is_side (List' shape parts place) then points_after 1 parts else
      if begins_with (codes "while") (List' shape parts place) then List' shape parts place ∷ points_after 3 parts else
      if is_plain_point (List' shape parts place) then List' shape parts place ∷ [] else []

  -- the points of the parts behind so many
  pub points_after : ℕ → {m : _} → Row_of-Tree m → List Tree
  points_after n end_of-Tree = []
  points_after zero (more_of-Tree part parts) = point_lists part ++ points_after zero parts
  points_after (suc n) (more_of-Tree part parts) = points_after n parts

abbrev pub points_in : List Tree → List Tree
points_in [] = []
points_in (command ∷ commands) = point_lists command ++ points_in commands

-- ---- places

abbrev pub proc_place : Tree → ℕ → Place
proc_place file proc = place_of (proc_tree file proc)

-- the point with this number, and the postcondition for the point 0
abbrev pub place_in_proc : Tree → ℕ → Place
place_in_proc proc zero = place_of (part_at proc 6)
place_in_proc proc (suc k) = place_in proc (points_in (body_of proc)) k

abbrev pub point_place : Tree → ℕ → ℕ → Place
point_place file proc k = place_in_proc (proc_tree file proc) k

-- ---- the deployment: (deploy W (n Q v ..) ..)

abbrev pub deploy_tree : Tree → Tree
deploy_tree file = item file (codes "deploy") 0

-- the program with this number
abbrev pub program_place : Tree → ℕ → Place
program_place file n = place_in (deploy_tree file) (drop 2 (parts_of (deploy_tree file))) n

-- how many programs stand before that of the node
abbrev pub before_node : List Program → ℕ → ℕ
before_node [] node = 0
before_node (program ∷ programs) node = if program.node == node then 0 else suc (before_node programs node)

-- the program of the node
abbrev pub deployed_place : Tree → Decls → ℕ → Place
deployed_place file decls node = program_place file (before_node (deploy_of decls).programs node)
