-- The answer of a check by what was found.
use Rattle.std.proofs.Common.{◌≡◌, Option, Some, None, Result, Ok, Err, OnOk, refl, ap, ◌∙◌}
use Rattle.dl_model.specs.Safe.{EachFreeRunMeetsInvariants, EachRunIsSafe}
use Rattle.dl_file.specs.declared.answer.Accepted.{Accepted}
use Rattle.dl_file.specs.declared.answer.Fault.{Fault}
use Rattle.dl_file.specs.declared.answer.Fault.TheVariants as answer
use Rattle.dl_file.specs.declared.file.File.{File}
use Rattle.dl_faults.specs.declared.wrong.Wrong.{Wrong}
use Rattle.dl_faults.specs.Worlds.{world_fault}
use Rattle.dl_faults.specs.Obligations.{obligation_fault}
use Rattle.std.specs.Prelude.{IfErr, IfOk}
use Rattle.dl_faults.specs.Verdict.{IsVerdict, counts_of, first_fault}
use Rattle.dl_faults.specs.Given.{FileIsFormed}
use Rattle.dl_faults.proofs.Accepted.{invariants-kept, runs-safe}
use Rattle.dl_verdict.specs.Code.{IsRefusal}

pub of-worlds : (file : File) (wrong : Wrong) → world_fault file ≡ Some wrong → first_fault file ≡ Some wrong
of-worlds file wrong e = rw e refl

pub of-obligations : (file : File) (found : Option Wrong) → world_fault file ≡ None → obligation_fault file ≡ found → first_fault file ≡ found
of-obligations file found e f = rw e f

pub refusal-answers : (file : File) (wrong : Wrong) (fault : Fault) → IsRefusal file wrong fault → first_fault file ≡ Some wrong → IsVerdict file (Err fault)
refusal-answers file wrong (answer.At rule place what) told e = (wrong.what, e ∙ ap Some told.0, told.1)
refusal-answers file wrong answer.Memory told e = tt

-- the counts of a file without fault answer it
pub counted-answers : (file : File) (result : Result Accepted Fault) → IfOk result (λ accepted. accepted ≡ counts_of file) → IfErr result (λ fault. fault ≡ answer.Memory) → first_fault file ≡ None → IsVerdict file result
counted-answers file (Ok accepted) counted failed none = (none, counted)
counted-answers file (Err (answer.At rule place what)) counted failed none = absurd (cc failed)
counted-answers file (Err answer.Memory) counted failed none = tt

-- an accepted file keeps its invariants
pub accepted-keeps : (file : File) (result : Result Accepted Fault) → FileIsFormed file → IsVerdict file result → OnOk result (EachFreeRunMeetsInvariants file.decls)
accepted-keeps file (Ok accepted) formed verdict = invariants-kept file formed verdict.0
accepted-keeps file (Err fault) formed verdict = tt

-- and every run of it is safe
pub accepted-safe : (file : File) (result : Result Accepted Fault) → FileIsFormed file → IsVerdict file result → OnOk result (EachRunIsSafe file.decls)
accepted-safe file (Ok accepted) formed verdict = runs-safe file formed verdict.0
accepted-safe file (Err fault) formed verdict = tt
