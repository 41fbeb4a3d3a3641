-- What is wrong with the obligations of a file, and with their proofs.
use Rattle.std.specs.Prelude.{ℕ, Bool, false, ◌==◌, ◌&&◌, if◌then◌else◌, List, [], ◌∷◌, ◌++◌, length, Option, Some, None}
use Rattle.std.specs.List.{find, list_any, flat_map, range_with_len}
use Rattle.dl_tree.specs.declared.tree.Place.{Place}
use Rattle.dl_model.specs.declared.sequent.Sequent.{Sequent}
use Rattle.dl_sequent.specs.declared.duty.Duty.{Duty}
use Rattle.dl_sequent.specs.declared.duty.Duty.TheVariants as duty
use Rattle.dl_sequent.specs.Plain.{is_plain_sequent}
use Rattle.dl_sequent.specs.Sizes.{is_too_large}
use Rattle.dl_kernel.specs.declared.fault.KernelFault.{KernelFault}
use Rattle.dl_kernel.specs.declared.fault.KernelFault.TheVariants.{RuleFails, Limit, Memory}
use Rattle.dl_kernel.specs.Outcome.{fault}
use Rattle.dl_inv.specs.Facts.{agree}
use Rattle.dl_file.specs.declared.file.Proof.{Proof}
use Rattle.dl_file.specs.declared.file.File.{File}
use Rattle.dl_faults.specs.declared.wrong.Named.TheVariants.{Obligation}
use Rattle.dl_faults.specs.declared.wrong.Wrong.{Wrong}
use Rattle.dl_faults.specs.Wrong.{at, naming, unless, earliest}
use Rattle.dl_faults.specs.Places.{coherence_place, invariant_place}
use Rattle.dl_faults.specs.ProgramPlaces.{proc_place, point_place, deployed_place}
use Rattle.dl_faults.specs.Whole.{duties_of, sequent_of, names_taken}
use Rattle.dl_faults.specs.Shown.{texts_of}

-- ---- the proof of an obligation

abbrev pub same_duty : Duty → Duty → Bool
same_duty (duty.InitProtocol p) (duty.InitProtocol q) = p == q
same_duty (duty.InitInvariant i) (duty.InitInvariant j) = i == j
same_duty (duty.StepProtocol p tag receive) (duty.StepProtocol q other way) = ((p == q) && (tag == other)) && agree receive way
same_duty (duty.StepInvariant i label tag receive) (duty.StepInvariant j elsewhere other way) =
    ((i == j) && (label == elsewhere)) && ((tag == other) && agree receive way)
same_duty (duty.Start p) (duty.Start q) = p == q
same_duty (duty.Guard p k) (duty.Guard q l) = (p == q) && (k == l)
same_duty (duty.AfterSend p k) (duty.AfterSend q l) = (p == q) && (k == l)
same_duty (duty.Got p k) (duty.Got q l) = (p == q) && (k == l)
same_duty (duty.Miss p k) (duty.Miss q l) = (p == q) && (k == l)
same_duty (duty.AfterRead p k) (duty.AfterRead q l) = (p == q) && (k == l)
same_duty (duty.Body p k) (duty.Body q l) = (p == q) && (k == l)
same_duty (duty.Exit p k) (duty.Exit q l) = (p == q) && (k == l)
same_duty (duty.Enter p k) (duty.Enter q l) = (p == q) && (k == l)
same_duty (duty.Leave p k) (duty.Leave q l) = (p == q) && (k == l)
same_duty (duty.Stable p k label tag receive) (duty.Stable q l elsewhere other way) =
    ((p == q) && (k == l)) && (((label == elsewhere) && (tag == other)) && agree receive way)
same_duty (duty.Frame p k label tag receive) (duty.Frame q l elsewhere other way) =
    ((p == q) && (k == l)) && (((label == elsewhere) && (tag == other)) && agree receive way)
same_duty (duty.Deploy n) (duty.Deploy m) = n == m
same_duty _ _ = false

abbrev pub is_proof_of : Duty → Proof → Bool
is_proof_of duty proof = same_duty proof.duty duty

-- the file's proof of an obligation
abbrev pub proof_of : File → Duty → Option Proof
proof_of file duty = find (is_proof_of duty) file.proofs

-- the names of an obligation without a proof: the first numbers that no name of the file has
abbrev pub spare_names : File → Duty → List ℕ
spare_names file duty = range_with_len (length (texts_of file)) (names_taken file.decls duty)

-- ---- obligations

-- Where an obligation stands: at the coherence, the invariant, the procedure, the command or postcondition, or the program in the
-- deployment.
abbrev pub duty_place : File → Duty → Place
duty_place file (duty.InitProtocol p) = coherence_place file.tree p
duty_place file (duty.StepProtocol p tag receive) = coherence_place file.tree p
duty_place file (duty.InitInvariant i) = invariant_place file.tree i
duty_place file (duty.StepInvariant i label tag receive) = invariant_place file.tree i
duty_place file (duty.Start p) = proc_place file.tree p
duty_place file (duty.Guard p k) = point_place file.tree p k
duty_place file (duty.AfterSend p k) = point_place file.tree p k
duty_place file (duty.Got p k) = point_place file.tree p k
duty_place file (duty.Miss p k) = point_place file.tree p k
duty_place file (duty.AfterRead p k) = point_place file.tree p k
duty_place file (duty.Body p k) = point_place file.tree p k
duty_place file (duty.Exit p k) = point_place file.tree p k
duty_place file (duty.Enter p k) = point_place file.tree p k
duty_place file (duty.Leave p k) = point_place file.tree p k
duty_place file (duty.Stable p k label tag receive) = point_place file.tree p k
duty_place file (duty.Frame p k label tag receive) = point_place file.tree p k
duty_place file (duty.Deploy node) = deployed_place file.tree file.decls node

-- An obligation is not too large, and the other thing that is asked of its sequent holds.
abbrev pub sequent_wrong : File → Duty → Sequent → List Wrong → List Wrong
sequent_wrong file duty s wrongs = if is_too_large s then naming 33 (duty_place file duty) (Obligation duty) ∷ [] else wrongs

-- The first rule of a script that is refused. Want of memory is no fault of a script, and none is ever said to have it.
abbrev pub script_wrong : Option KernelFault → List Wrong
script_wrong None = []
script_wrong (Some (RuleFails rule)) = at 32 rule ∷ []
script_wrong (Some (Limit rule)) = at 33 rule ∷ []
script_wrong (Some Memory) = []

-- without a proof it is plain, and else its script is not refused
abbrev pub proof_wrong : File → Duty → Option Proof → List Wrong
proof_wrong file duty None =
    let s = sequent_of file.decls duty (spare_names file duty) in
    sequent_wrong file duty s (unless (is_plain_sequent s) (naming 30 (duty_place file duty) (Obligation duty)))
proof_wrong file duty (Some proof) =
    let s = sequent_of file.decls duty proof.names in
    sequent_wrong file duty s (script_wrong (fault file.decls.inst proof.script.rule proof.script.place s))

abbrev pub duty_wrong : File → Duty → List Wrong
duty_wrong file duty = proof_wrong file duty (proof_of file duty)

-- a proof is for an obligation that the file has, and that isn't waived
abbrev pub extra_wrong : File → Proof → List Wrong
extra_wrong file proof = unless (list_any (same_duty proof.duty) (duties_of file.decls)) (at 31 proof.place)

abbrev pub obligation_wrongs : File → List Wrong
obligation_wrongs file = flat_map (duty_wrong file) (duties_of file.decls) ++ flat_map (extra_wrong file) file.proofs

-- the first fault of the obligations and their proofs
abbrev pub obligation_fault : File → Option Wrong
obligation_fault file = earliest (obligation_wrongs file)
