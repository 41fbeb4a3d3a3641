-- What a check of a file answers.
use Rattle.std.specs.Prelude.{◌≡◌, Option, Some, None, Result, Ok, Err, length}
use Rattle.dl_model.specs.Lookup.{deploy_of}
use Rattle.dl_file.specs.declared.answer.Accepted.{Accepted}
use Rattle.dl_file.specs.declared.answer.Fault.{Fault}
use Rattle.dl_file.specs.declared.answer.Fault.TheVariants.{At, Memory}
use Rattle.dl_file.specs.declared.file.File.{File}
use Rattle.dl_faults.specs.declared.wrong.Named.{Named}
use Rattle.dl_faults.specs.declared.wrong.Wrong.{Wrong}
use Rattle.dl_faults.specs.Wrong.{naming}
use Rattle.dl_faults.specs.Shown.{shown}
use Rattle.dl_faults.specs.Whole.{duties_of}
use Rattle.dl_faults.specs.Worlds.{world_fault}
use Rattle.dl_faults.specs.Obligations.{obligation_fault}

abbrev pub or_else : Option Wrong → Option Wrong → Option Wrong
or_else (Some wrong) later = Some wrong
or_else None later = later

-- the first fault of a file that was read: that of its worlds comes before one of its obligations
abbrev pub first_fault : File → Option Wrong
first_fault file = or_else (world_fault file) (obligation_fault file)

-- how much the file has
abbrev pub counts_of : File → Accepted
counts_of file = record {
  nodes = file.decls.inst.nodes;
  labels = length file.decls.inst.of;
  hooks = length file.decls.hooks;
  invariants = length file.decls.invariants;
  programs = length (deploy_of file.decls).programs;
  obligations = length (duties_of file.decls);
}

-- The counts are answered where the file has no fault, and else its first fault, with what is named there. Want of memory may
-- come in the place of either.
abbrev pub IsVerdict : File → Result Accepted Fault → Type 0
IsVerdict file (Ok accepted) = (first_fault file ≡ None) × (accepted ≡ counts_of file)
IsVerdict file (Err (At rule place what)) = (named : Named) × (first_fault file ≡ Some (naming rule place named)) × (what ≡ shown file named)
IsVerdict file (Err Memory) = Unit {0}
