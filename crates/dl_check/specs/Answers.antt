-- What the check of a tree answers.
use Rattle.std.specs.Prelude.{◌≡◌, ◌⊎◌, ℕ, Option, Some, None, Result, Ok, Err}
use Rattle.dl_tree.specs.declared.tree.Place.{Place}
use Rattle.dl_tree.specs.declared.tree.Tree.{Tree}
use Rattle.dl_model.specs.Safe.{EachRunIsSafe}
use Rattle.dl_notation.specs.Judge.{file_fault}
use Rattle.dl_file.specs.declared.answer.Accepted.{Accepted}
use Rattle.dl_file.specs.declared.answer.Fault.{Fault}
use Rattle.dl_file.specs.declared.answer.Fault.TheVariants.{At, Memory}
use Rattle.dl_file.specs.declared.file.File.{File}
use Rattle.dl_faults.specs.declared.wrong.Named.{Named}
use Rattle.dl_faults.specs.Wrong.{naming}
use Rattle.dl_faults.specs.Shown.{shown}
use Rattle.dl_faults.specs.Verdict.{first_fault, counts_of}
use Rattle.dl_check.specs.declared.check.Checked.{Checked}
use Rattle.dl_check.specs.Reading.{IsRead}

-- The tree means this file, which is formed, has no fault, and has these counts. Then every run of the file is safe: each coherence of its
-- composed world and each of its invariants holds in each state, each program send meets its guard and its hooks, and each program
-- that ended its postcondition.
pub record IsAcceptedAs (tree : Tree) (file : File) (counts : Accepted) : Type 0 where
  pub read : IsRead tree file
  pub faultless : first_fault file ≡ None
  pub counted : counts ≡ counts_of file
  pub safe : EachRunIsSafe file.decls

-- The tree means such a file.
pub record IsAccepted (tree : Tree) (counts : Accepted) : Type 0 where
  pub file : File
  pub accepted : IsAcceptedAs tree file counts

-- The tree means a formed file, and this is its first fault in the stages of worlds and obligations.
pub record HasWrong (tree : Tree) (rule : ℕ) (place : Place) (what : Option Tree) : Type 0 where
  pub file : File
  pub read : IsRead tree file
  pub named : Named
  pub first : first_fault file ≡ Some (naming rule place named)
  pub shown_so : what ≡ shown file named

-- The first fault of a tree: one of form, names and sorts, of which nothing is named, or else one of its file.
abbrev pub IsRefused : Tree → ℕ → Place → Option Tree → Type 0
IsRefused tree rule place what = ((file_fault tree ≡ Some (rule, place)) × (what ≡ None)) ⊎ HasWrong tree rule place what

-- want of memory may come in the place of either
abbrev pub IsAnswered : Tree → Result Accepted Fault → Type 0
IsAnswered tree (Ok counts) = IsAccepted tree counts
IsAnswered tree (Err (At rule place what)) = IsRefused tree rule place what
IsAnswered tree (Err Memory) = Unit {0}

-- the same, where the file is answered too
abbrev pub IsChecked : Tree → Result Checked Fault → Type 0
IsChecked tree (Ok checked) = IsAcceptedAs tree checked.file checked.counts
IsChecked tree (Err (At rule place what)) = IsRefused tree rule place what
IsChecked tree (Err Memory) = Unit {0}
