-- What is wrong with one obligation, by what was found of it.
use Rattle.std.proofs.Common.{◌≡◌, ℕ, Bool, true, false, List, [], ◌∷◌, Option, Some, Result, Ok, Err, IfOk, slice_get, refl, ap, sym, ◌∙◌, subst}
use Rattle.std.specs.List.{AllByRecursion as Each}
use Rattle.dl_model.specs.declared.sequent.Sequent.{Sequent}
use Rattle.dl_model.specs.declared.file.Decls.{Decls}
use Rattle.dl_model.specs.Formed.{IsFormed}
use Rattle.dl_sequent.specs.declared.duty.Duty.{Duty}
use Rattle.dl_sequent.specs.Sizes.{is_too_large}
use Rattle.dl_kernel.specs.declared.fault.KernelFault.{KernelFault}
use Rattle.dl_kernel.specs.declared.fault.KernelFault.TheVariants.{RuleFails, Limit, Memory}
use Rattle.dl_kernel.specs.Outcome.{IsAnswer}
use Rattle.dl_inv.specs.Duties.{duties_of as duties_of_states}
use Rattle.dl_inv.proofs.Lists.{each-append, each-found}
use Rattle.dl_triples.specs.Duties.{duties_of as duties_of_programs}
use Rattle.dl_programs.proofs.Quiet.{IsQuiet, programs-quiet}
use Rattle.dl_file.specs.declared.file.Proof.{Proof}
use Rattle.dl_file.specs.declared.file.File.{File}
use Rattle.dl_faults.specs.declared.wrong.Wrong.{Wrong}
use Rattle.dl_faults.specs.declared.wrong.Named.TheVariants.{Obligation}
use Rattle.dl_faults.specs.Wrong.{naming, earliest}
use Rattle.dl_faults.specs.Obligations.{duty_place, is_proof_of, proof_of, script_wrong, sequent_wrong}
use Rattle.dl_faults.specs.Whole.{duties_of, is_of_program}
use Rattle.dl_faults.specs.Given.{TakesNames, FileIsFormed, ProofIsFormed}
use Rattle.dl_faults.proofs.Same.{same-is}
use Rattle.dl_faults.proofs.TwoKinds.{all-of-states, all-of-programs}
use Rattle.dl_faults.proofs.Names.{whole-clean, state-may, program-count}
use Rattle.dl_faults.proofs.Proved.{found-passes, proof-taken}
use Rattle.dl_inv.specs.declared.sequents.BuildFault.{BuildFault}
use Rattle.dl_inv.specs.declared.sequents.BuildFault.TheVariants as unbuilt
use Rattle.dl_verdict.specs.Code.{IsBuiltFor, IsCleanFor, IsRefusedAs}

-- ---- sequents and their size

pub small-wrong : (file : File) (duty : Duty) (s : Sequent) (wrongs : List Wrong) → is_too_large s ≡ false → sequent_wrong file duty s wrongs ≡ wrongs
small-wrong file duty s wrongs e = rw e refl

pub large-wrong : (file : File) (duty : Duty) (s : Sequent) (wrongs : List Wrong) → is_too_large s ≡ true →
    earliest (sequent_wrong file duty s wrongs) ≡ Some (naming 33 (duty_place file duty) (Obligation duty))
large-wrong file duty s wrongs e = rw e refl

-- ---- scripts

-- what a refusal of a script is told as is what is wrong
pub refusal-told : (refusal : KernelFault) (first : Option KernelFault) (found : Option Wrong) → IsAnswer (Err refusal) first → IsRefusedAs refusal found → found ≡ earliest (script_wrong first)
refusal-told (RuleFails rule) first found answer told = told ∙ sym (ap (λ (o : Option KernelFault). earliest (script_wrong o)) answer)
refusal-told (Limit rule) first found answer told = told ∙ sym (ap (λ (o : Option KernelFault). earliest (script_wrong o)) answer)
refusal-told Memory first found answer told = absurd told

-- ---- names

pub proof-takes : (file : File) → FileIsFormed file → (duty : Duty) (proof : Proof) → proof_of file duty ≡ Some proof → TakesNames file.decls duty proof.names
proof-takes file formed duty proof e =
    let found = found-passes (ProofIsFormed file.decls) (is_proof_of duty) file.proofs proof formed.proofs e in
    proof-taken file formed duty proof found.0 (same-is proof.duty duty found.1)

-- ---- clean sequents, which can be built

-- each obligation of a formed file is clean
pub clean-there : (decls : Decls) → IsFormed decls → (duties : List Duty) (i : ℕ) (duty : Duty) → duties ≡ duties_of decls → slice_get duties i ≡ Some duty → IsCleanFor decls duty
clean-there decls formed duties i duty all e =
    each-found (IsCleanFor decls) duties i duty (subst (λ (ds : List Duty). Each (IsCleanFor decls) ds) (sym all) (whole-clean decls formed)) e

kind-false : (b : Bool) → b ≡ false → b ≡ true → ⊥
kind-false true e f = cc
kind-false false e f = cc

states-built : (decls : Decls) (duties : List Duty) → Each (λ duty. is_of_program duty ≡ false) duties → Each (IsBuiltFor decls) duties
states-built decls [] kind = tt
states-built decls (duty ∷ duties) kind = (
  (λ names takes. record { of_states = λ e. state-may decls duty names e takes; of_programs = λ e. absurd (kind-false (is_of_program duty) kind.0 e) }),
  states-built decls duties kind.1,
)

programs-built : (decls : Decls) (duties : List Duty) → Each (IsQuiet decls) duties → Each (λ duty. is_of_program duty ≡ true) duties → Each (IsBuiltFor decls) duties
programs-built decls [] quiet kind = tt
programs-built decls (duty ∷ duties) quiet kind = (
  (λ names takes. record {
    of_states = λ e. absurd (kind-false (is_of_program duty) e kind.0);
    of_programs = λ e. quiet.0 names (program-count decls duty names e takes) takes.distinct takes.new takes.unbound;
  }),
  programs-built decls duties quiet.1 kind.1,
)

-- and can be built
pub built-there : (decls : Decls) → IsFormed decls → (duties : List Duty) (i : ℕ) (duty : Duty) → duties ≡ duties_of decls → slice_get duties i ≡ Some duty → IsBuiltFor decls duty
built-there decls formed duties i duty all e =
    each-found (IsBuiltFor decls) duties i duty (subst (λ (ds : List Duty). Each (IsBuiltFor decls) ds) (sym all)
    (each-append (IsBuiltFor decls) (duties_of_states decls) (duties_of_programs decls) (states-built decls (duties_of_states decls) (all-of-states decls))
    (programs-built decls (duties_of_programs decls) (programs-quiet decls formed) (all-of-programs decls)))) e

-- ---- answers

-- what is told of an answer, told in other words
pub told-so : {X E : Type 0} (P Q : X → Type 0) (r : Result X E) → ((x : X) → P x → Q x) → IfOk r P → IfOk r Q
told-so P Q (Ok x) f h = f x h
told-so P Q (Err e) f h = tt

-- what was found of a sequent that isn't too large
pub found-small : {E : Type 0} (file : File) (duty : Duty) (made s : Sequent) (said : Sequent → List Wrong) (r : Result (Option Wrong) E) → made ≡ s → is_too_large made ≡ false →
    IfOk r (λ found. found ≡ earliest (said made)) → IfOk r (λ found. found ≡ earliest (sequent_wrong file duty s (said s)))
found-small file duty made s said r same small =
    told-so (λ found. found ≡ earliest (said made)) (λ found. found ≡ earliest (sequent_wrong file duty s (said s))) r
    (λ found h. h ∙ (ap (λ (x : Sequent). earliest (said x)) same ∙ sym (ap earliest (small-wrong file duty s (said s) (sym (ap is_too_large same) ∙ small)))))

-- what was found of a sequent that was not built
pub found-large : {E : Type 0} (file : File) (duty : Duty) (s : Sequent) (wrongs : List Wrong) (fault : BuildFault) (r : Result (Option Wrong) E) → (fault ≡ unbuilt.Limit → is_too_large s ≡ true) →
    IfOk r (λ found. (fault ≡ unbuilt.Limit) × (found ≡ Some (naming 33 (duty_place file duty) (Obligation duty)))) → IfOk r (λ found. found ≡ earliest (sequent_wrong file duty s wrongs))
found-large file duty s wrongs fault r large =
    told-so (λ found. (fault ≡ unbuilt.Limit) × (found ≡ Some (naming 33 (duty_place file duty) (Obligation duty)))) (λ found. found ≡ earliest (sequent_wrong file duty s wrongs)) r
    (λ found h. h.1 ∙ sym (large-wrong file duty s wrongs (large h.0)))
