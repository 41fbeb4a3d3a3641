-- Every run of a file in which nothing is wrong is safe.
use Rattle.std.proofs.Common.{◌≡◌, Option, Some, None, refl}
use Rattle.dl_model.specs.Safe.{EachFreeRunMeetsInvariants, EachRunIsSafe}
use Rattle.dl_sound.proofs.Bridge.{state-needs}
use Rattle.dl_sound.proofs.Kept.{free-good}
use Rattle.dl_sound.proofs.Valid.{obligations-mean}
use Rattle.dl_programs.proofs.Programs.{programs-safe}
use Rattle.dl_file.specs.declared.file.File.{File}
use Rattle.dl_faults.specs.declared.wrong.Wrong.{Wrong}
use Rattle.dl_faults.specs.Worlds.{world_fault}
use Rattle.dl_faults.specs.Obligations.{obligation_fault}
use Rattle.dl_faults.specs.Verdict.{or_else, first_fault}
use Rattle.dl_faults.specs.Given.{FileIsFormed}
use Rattle.dl_faults.proofs.Kept.{worlds-kept}
use Rattle.dl_faults.proofs.Proved.{obligations-met, program-obligations-met}

neither : (first later : Option Wrong) → or_else first later ≡ None → (first ≡ None) × (later ≡ None)
neither (Some wrong) later h = cc
neither None later h = (refl, h)

pub invariants-kept : (file : File) → FileIsFormed file → first_fault file ≡ None → EachFreeRunMeetsInvariants file.decls
invariants-kept file formed h =
    let none = neither (world_fault file) (obligation_fault file) h in
    let worlds = (worlds-kept file formed.decls).0 none.0 in
    let met = obligations-met file formed none.1 in
    free-good file.decls (state-needs file.decls formed.decls worlds) (obligations-mean file.decls formed.decls met)

pub runs-safe : (file : File) → FileIsFormed file → first_fault file ≡ None → EachRunIsSafe file.decls
runs-safe file formed h =
    let none = neither (world_fault file) (obligation_fault file) h in
    programs-safe file.decls formed.decls ((worlds-kept file formed.decls).0 none.0) (obligations-met file formed none.1) (program-obligations-met file formed none.1)
