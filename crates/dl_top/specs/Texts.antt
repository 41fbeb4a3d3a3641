-- What the check of a text answers, and what it is that a text has a fault or has none.
use Rattle.std.specs.Prelude.{◌≡◌, ◌⊎◌, ℕ, true, List, Option, Some, None, is_some}
use Rattle.dl_tree.specs.declared.tree.Place.{Place}
use Rattle.dl_tree.specs.declared.tree.Tree.{Tree}
use Rattle.dl_tree.specs.Faults.{fault_of}
use Rattle.dl_tree.specs.Spelling.{Spells}
use Rattle.dl_model.specs.Safe.{EachRunIsSafe}
use Rattle.dl_notation.specs.Judge.{file_fault}
use Rattle.dl_file.specs.declared.answer.Accepted.{Accepted}
use Rattle.dl_file.specs.declared.file.File.{File}
use Rattle.dl_faults.specs.Verdict.{first_fault}
use Rattle.dl_check.specs.Reading.{IsRead}
use Rattle.dl_check.specs.Answers.{IsAccepted, IsRefused}

-- The text spells the tree, which means a formed file without a fault. Every run of this file is safe: in each of its states each
-- coherence of the composed world and each invariant holds, each send of a program meets its guard and its hooks, and each program
-- that ended its postcondition.
pub record TextIsAccepted (text : List ℕ) (tree : Tree) (counts : Accepted) : Type 0 where
  pub spelled : Spells text tree
  pub known : IsAccepted tree counts
  pub safe : EachRunIsSafe known.file.decls

pub record TreeIsRefused (text : List ℕ) (rule : ℕ) (place : Place) (what : Option Tree) : Type 0 where
  pub tree : Tree
  pub spelled : Spells text tree
  pub refused : IsRefused tree rule place what

-- The first fault of a text: one of its bytes or tokens, and then it spells no tree, or else one of the tree that it spells.
abbrev pub TextIsRefused : List ℕ → ℕ → Place → Option Tree → Type 0
TextIsRefused text rule place what = ((fault_of text ≡ Some (rule, place)) × (what ≡ None)) ⊎ TreeIsRefused text rule place what

-- The text has no fault: it spells a tree that has none of form, names and sorts, and this tree means a formed file that has none of
-- worlds and obligations.
pub record IsFaultless (text : List ℕ) : Type 0 where
  pub tree : Tree
  pub file : File
  pub spelled : Spells text tree
  pub read : IsRead tree file
  pub provable : first_fault file ≡ None

-- The tree means a formed file that has a fault of worlds or obligations.
pub record HasFileFault (tree : Tree) : Type 0 where
  pub file : File
  pub read : IsRead tree file
  pub faulty : is_some (first_fault file) ≡ true

-- The text spells a tree that has a fault of form, names or sorts, or one of its file.
pub record HasTreeFault (text : List ℕ) : Type 0 where
  pub tree : Tree
  pub spelled : Spells text tree
  pub faulty : (is_some (file_fault tree) ≡ true) ⊎ HasFileFault tree

-- The text has a fault: one of its bytes or tokens, or one of the tree that it spells.
abbrev pub HasFault : List ℕ → Type 0
HasFault text = (is_some (fault_of text) ≡ true) ⊎ HasTreeFault text
