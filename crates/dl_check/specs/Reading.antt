-- What a tree is read as.
use Rattle.std.specs.Prelude.{◌≡◌, Some, None, Result, Ok, Err}
use Rattle.dl_tree.specs.declared.tree.Tree.{Tree}
use Rattle.dl_file.specs.declared.file.File.{File}
use Rattle.dl_file.specs.declared.answer.Fault.{Fault}
use Rattle.dl_file.specs.declared.answer.Fault.TheVariants.{At, Memory}
use Rattle.dl_model.specs.Safe.{EachRunIsSafe}
use Rattle.dl_notation.specs.Judge.{file_fault}
use Rattle.dl_means.specs.Means.{Means}
use Rattle.dl_faults.specs.Given.{FileIsFormed}
use Rattle.dl_faults.specs.Verdict.{IsVerdict}
use Rattle.dl_check.specs.declared.check.Checked.{Checked}

-- The tree has no fault of form, names or sorts, it means the file, and the file is formed.
pub record IsRead (tree : Tree) (file : File) : Type 0 where
  pub faultless : file_fault tree ≡ None
  pub means : Means tree file
  pub formed : FileIsFormed file

-- the file is what its tree means, and formed
pub record IsRight (file : File) : Type 0 where
  pub means : Means file.tree file
  pub formed : FileIsFormed file

-- it is the tree's first fault of form, names and sorts, and nothing is named; want of memory may come in its place
abbrev pub IsReadingFault : Tree → Fault → Type 0
IsReadingFault tree (At rule place what) = (file_fault tree ≡ Some (rule, place)) × (what ≡ None)
IsReadingFault tree Memory = Unit {0}

-- The file is answered, with its counts, where it has no fault, and then every run of it is safe; else its first fault.
abbrev pub IsCheckedFile : File → Result Checked Fault → Type 0
IsCheckedFile file (Ok checked) = (checked.file ≡ file) × IsVerdict file (Ok checked.counts) × EachRunIsSafe file.decls
IsCheckedFile file (Err fault) = IsVerdict file (Err fault)
