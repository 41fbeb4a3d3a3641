-- What is known of a file once it was looked at.
use Rattle.std.proofs.Common.{◌≡◌, Bool, true, Result, Ok, Err, inr, subst, sym}
use Rattle.std.specs.Prelude.{IfOk, ◌↔◌}
use Rattle.std.specs.declared.alloc.AllocError.{AllocError}
use Rattle.dl_tree.specs.declared.tree.Tree.{Tree}
use Rattle.dl_file.specs.declared.file.File.{File}
use Rattle.dl_file.specs.declared.answer.Accepted.{Accepted}
use Rattle.dl_file.specs.declared.answer.Fault.{Fault}
use Rattle.dl_file.specs.declared.answer.Fault.TheVariants.{At, Memory}
use Rattle.dl_means.specs.Means.{Means}
use Rattle.dl_faults.specs.Given.{FileIsFormed}
use Rattle.dl_check.specs.declared.check.Checked.{Checked}
use Rattle.dl_check.specs.Reading.{IsRead, IsRight, IsCheckedFile}
use Rattle.dl_check.specs.Answers.{IsAcceptedAs, IsAnswered, IsChecked}

-- a file that its tree means is right where it is found formed
pub found-right : (file : File) (r : Result Bool AllocError) → Means file.tree file → IfOk r (λ formed. (formed ≡ true) ↔ FileIsFormed file) →
    IfOk r (λ right. right ≡ true → IsRight file)
found-right file (Ok formed) means h = λ e. record { means = means; formed = h.0 e }
found-right file (Err x) means h = tt

-- what a tree is answered is the verdict on the file that it is read as
pub checked : (tree : Tree) (file : File) (r : Result Checked Fault) → IsRead tree file → IsCheckedFile file r → IsChecked tree r
checked tree file (Ok answer) read (same, verdict, safe) =
    subst (λ (f : File). IsAcceptedAs tree f answer.counts) (sym same) (record { read = read; faultless = verdict.0; counted = verdict.1; safe = safe })
checked tree file (Err (At rule place what)) read verdict = inr (record { file = file; read = read; named = verdict.0; first = verdict.1; shown_so = verdict.2 })
checked tree file (Err Memory) read verdict = tt

-- of a file that was answered the counts are
pub counted : (tree : Tree) (answer : Checked) (counts : Accepted) → IsChecked tree (Ok answer) → counts ≡ answer.counts → IsAnswered tree (Ok counts)
counted tree answer counts h same = record { file = answer.file; accepted = subst (λ (c : Accepted). IsAcceptedAs tree answer.file c) (sym same) h }
