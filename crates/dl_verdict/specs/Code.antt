-- What private parts of the code hold and answer.
use Rattle.std.specs.Prelude.{◌≡◌, ℕ, true, false, List, map, length, Option, Some}
use Rattle.std.specs.List.{range_with_len, list_any}
use Rattle.dl_model.specs.declared.file.Decls.{Decls}
use Rattle.dl_sequent.specs.declared.duty.Duty.{Duty}
use Rattle.dl_sequent.specs.Clean.{IsClean}
use Rattle.dl_kernel.specs.declared.fault.KernelFault.{KernelFault}
use Rattle.dl_kernel.specs.declared.fault.KernelFault.TheVariants.{RuleFails, Limit, Memory}
use Rattle.dl_inv.specs.Taken.{MayTake as StateMayTake}
use Rattle.dl_triples.specs.Built.{captured}
use Rattle.dl_faults.specs.declared.wrong.Wrong.{Wrong}
use Rattle.dl_faults.specs.Wrong.{at, naming, unless}
use Rattle.dl_faults.specs.Shown.{shown}
use Rattle.dl_faults.specs.Places.{coherence_place, invariant_place}
use Rattle.dl_faults.specs.Spots.{spots_of}
use Rattle.dl_faults.specs.Given.{TakesNames}
use Rattle.dl_faults.specs.Whole.{is_of_program, sequent_of}
use Rattle.dl_verdict.specs.declared.known.Known.{Known}
use Rattle.dl_file.specs.declared.answer.Fault.{Fault}
use Rattle.dl_file.specs.declared.answer.Fault.TheVariants as answer
use Rattle.dl_file.specs.declared.file.Proof.{Proof}
use Rattle.dl_file.specs.declared.file.File.{File}
use Rattle.dl_verdict.specs.declared.keys.Key.{Key}
use Rattle.dl_verdict.specs.Keys.{key_of_proof, same_key}

-- the keys are those of the file's proofs, and the places those of its coherences, invariants and procedures
pub record IsKnown (known : Known) : Type 0 where
  pub proofs : known.proofs.keys ≡ map key_of_proof known.file.now.proofs
  pub coherences : known.coherences ≡ map (coherence_place known.file.now.tree) (range_with_len 0 (length known.file.now.decls.inst.protocols))
  pub invariants : known.invariants ≡ map (invariant_place known.file.now.tree) (range_with_len 0 (length known.file.now.decls.invariants))
  pub procs : known.procs ≡ map (spots_of known.file.now.tree) (range_with_len 0 (length known.file.now.decls.procs))

-- the obligation is a clean sequent with all names that it takes
abbrev pub IsCleanFor : Decls → Duty → Type 0
IsCleanFor decls duty = (names : List ℕ) → TakesNames decls duty names → IsClean (sequent_of decls duty names)

-- The obligation can be built with these names: it may take them, and where it is one of a program no name of its step is captured.
pub record CanBuild (decls : Decls) (duty : Duty) (names : List ℕ) : Type 0 where
  pub of_states : is_of_program duty ≡ false → StateMayTake decls duty names
  pub of_programs : is_of_program duty ≡ true → captured decls duty names ≡ false

-- and so with all names that it takes
abbrev pub IsBuiltFor : Decls → Duty → Type 0
IsBuiltFor decls duty = (names : List ℕ) → TakesNames decls duty names → CanBuild decls duty names

-- what is wrong where a script is refused; want of memory says nothing
abbrev pub IsRefusedAs : KernelFault → Option Wrong → Type 0
IsRefusedAs (RuleFails rule) found = found ≡ Some (at 32 rule)
IsRefusedAs (Limit rule) found = found ≡ Some (at 33 rule)
IsRefusedAs Memory found = ⊥

-- a proof is for an obligation with one of these keys
abbrev pub extra_by_keys : List Key → Proof → List Wrong
extra_by_keys keys proof = unless (list_any (same_key (key_of_proof proof)) keys) (at 31 proof.place)

-- the refusal that tells this is wrong; want of memory may come in its place
abbrev pub IsRefusal : File → Wrong → Fault → Type 0
IsRefusal file wrong (answer.At rule place what) = (wrong ≡ naming rule place wrong.what) × (what ≡ shown file wrong.what)
IsRefusal file wrong answer.Memory = Unit {0}
