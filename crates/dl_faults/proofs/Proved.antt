-- Where nothing is wrong with the obligations and their proofs, each obligation is met.
use Rattle.std.proofs.Common.{◌≡◌, ℕ, zero, suc, ◌+◌, ◌<◌, ◌≤◌, ◌==◌, Bool, true, false, cond, if◌then◌else◌, List, [], ◌∷◌, Option, Some, None, length, refl, ap, subst, arith}
use Rattle.std.specs.List.{AllByRecursion as Each, find, flat_map, range_with_len}
use Rattle.dl_model.specs.Sorts.{has}
use Rattle.dl_model.specs.declared.file.Decls.{Decls}
use Rattle.dl_model.specs.Formed.{AreDistinct, IsFormed, file_bound}
use Rattle.dl_model.specs.Sequents.{IsValid}
use Rattle.dl_model.proofs.Small.{eqb-other, or-both, some-same, each-map, each-zip, each-front, each-back}
use Rattle.dl_sequent.specs.declared.duty.Duty.{Duty}
use Rattle.dl_sequent.specs.Plain.{is_plain_sequent}
use Rattle.dl_sequent.specs.Sizes.{is_too_large}
use Rattle.dl_sequent.proofs.Follows.{plain-valid}
use Rattle.dl_kernel.specs.declared.fault.KernelFault.{KernelFault}
use Rattle.dl_kernel.specs.declared.fault.KernelFault.TheVariants.{RuleFails, Limit, Memory}
use Rattle.dl_kernel.specs.Outcome.{fault}
use Rattle.dl_kernel.proofs.Replayed.{replay-sound}
use Rattle.dl_inv.specs.Duties.{duties_of as duties_of_states}
use Rattle.dl_inv.specs.Taken.{IsMet as StateIsMet}
use Rattle.dl_triples.specs.Duties.{duties_of as duties_of_programs}
use Rattle.dl_triples.specs.Taken.{own_names, IsMet as ProgramIsMet}
use Rattle.dl_file.specs.declared.file.Proof.{Proof}
use Rattle.dl_file.specs.declared.file.File.{File}
use Rattle.dl_faults.specs.declared.wrong.Wrong.{Wrong}
use Rattle.dl_faults.specs.Shown.{texts_of}
use Rattle.dl_faults.specs.Whole.{duties_of, is_of_program, sequent_of, names_taken}
use Rattle.dl_faults.specs.Obligations.{is_proof_of, proof_of, spare_names, script_wrong, proof_wrong, duty_wrong, extra_wrong, obligation_wrongs, obligation_fault}
use Rattle.dl_faults.specs.Given.{TakesNames, FileIsFormed, ProofIsFormed, program_names}
use Rattle.dl_faults.proofs.Same.{same-is}
use Rattle.dl_faults.proofs.Nothing.{front-none, each-none, unless-fine}
use Rattle.dl_faults.proofs.Earliest.{none-earliest}
use Rattle.dl_faults.proofs.Answered.{never-memory}
use Rattle.dl_faults.proofs.TwoKinds.{all-of-states, all-of-programs}
use Rattle.dl_faults.proofs.Names.{IsCleanFor, whole-clean, own-lacks, state-sequent, program-sequent, state-may, program-may}

-- ---- proofs

-- the first one that passes is one of the list, and passes
pub found-passes : {X : Type 0} (P : X → Type 0) (test : X → Bool) (xs : List X) (found : X) → Each P xs → find test xs ≡ Some found → P found × (test found ≡ true)
found-passes P test [] found each e = cc
found-passes P test (x ∷ xs) found each e = go (test x) refl (found-passes P test xs found each.1) e
  where
    go : (b : Bool) → test x ≡ b → (find test xs ≡ Some found → P found × (test found ≡ true)) → cond b (Some x) (find test xs) ≡ Some found → P found × (test found ≡ true)
    go true passes later is = (subst P (some-same x found is) each.0, subst (λ y. test y ≡ true) (some-same x found is) passes)
    go false fails later is = later is

-- ---- spare names

range-length : (n a : ℕ) → length (range_with_len a n) ≡ n
range-length zero a = refl
range-length (suc n) a = ap suc (range-length n (a + 1))

range-lacks : (n a x : ℕ) → x < a → has (range_with_len a n) x ≡ false
range-lacks zero a x below = refl
range-lacks (suc n) a x below = or-both (x == a) _ (eqb-other x a (λ e. omega (e, below, arith))) (range-lacks n (a + 1) x (omega (below, arith)))

range-distinct : (n a : ℕ) → AreDistinct (range_with_len a n)
range-distinct zero a = tt
range-distinct (suc n) a = (range-lacks n (a + 1) a (omega arith), range-distinct n (a + 1))

below-lack : (names : List ℕ) (limit x : ℕ) → Each (λ name. name < limit) names → limit ≤ x → has names x ≡ false
below-lack [] limit x below above = refl
below-lack (name ∷ names) limit x below above =
    let first : name < limit = below.0 in
    or-both (x == name) _ (eqb-other x name (λ e. omega (e, first, above, arith))) (below-lack names limit x below.1 above)

range-above : (n a limit : ℕ) → limit ≤ a → Each (λ x. limit ≤ x) (range_with_len a n)
range-above zero a limit h = tt
range-above (suc n) a limit h = (h, range-above n (a + 1) limit (omega (h, arith)))

pub spare-taken : (file : File) → FileIsFormed file → (duty : Duty) → TakesNames file.decls duty (spare_names file duty)
spare-taken file formed duty =
    let count = names_taken file.decls duty in
    let limit = length (texts_of file) in
    let above = range-above count limit limit (omega arith) in
    record {
      count = range-length count limit;
      distinct = range-distinct count limit;
      new = each-map (λ x. limit ≤ x) (λ name. has (own_names file.decls duty) name ≡ false) (range_with_len limit count) above
          (λ x high. own-lacks file.decls x (below-lack (program_names file.decls) limit x formed.variables high) duty);
      unbound = each-map (λ x. limit ≤ x) (λ name. has (file_bound file.decls) name ≡ false) (range_with_len limit count) above
          (λ x high. below-lack (file_bound file.decls) limit x formed.texts high);
    }

-- ---- what is not wrong

size-fine : (large : Bool) (wrong : Wrong) (wrongs : List Wrong) → (if large then wrong ∷ [] else wrongs) ≡ [] → wrongs ≡ []
size-fine true wrong wrongs h = cc
size-fine false wrong wrongs h = h

script-fine : (o : Option KernelFault) → (o ≡ Some Memory → ⊥) → script_wrong o ≡ [] → o ≡ None
script-fine None never h = refl
script-fine (Some (RuleFails rule)) never h = cc
script-fine (Some (Limit rule)) never h = cc
script-fine (Some Memory) never h = absurd (never refl)

-- The obligation is valid for some names that it takes.
abbrev WholeIsMet : Decls → Duty → Type 0
WholeIsMet d duty = (names : List ℕ) × TakesNames d duty names × IsValid d.inst (sequent_of d duty names)

states-met : (d : Decls) (duties : List Duty) → Each (WholeIsMet d) duties → Each (λ duty. is_of_program duty ≡ false) duties → Each (StateIsMet d) duties
states-met d [] met kind = tt
states-met d (duty ∷ duties) met kind = (
  (met.0.0, state-may d duty met.0.0 kind.0 met.0.1, subst (IsValid d.inst) (state-sequent d duty met.0.0 kind.0) met.0.2),
  states-met d duties met.1 kind.1,
)

programs-met : (d : Decls) → IsFormed d → (duties : List Duty) → Each (WholeIsMet d) duties → Each (λ duty. is_of_program duty ≡ true) duties → Each (ProgramIsMet d) duties
programs-met d formed [] met kind = tt
programs-met d formed (duty ∷ duties) met kind = (
  (met.0.0, program-may d duty met.0.0 formed kind.0 met.0.1, subst (IsValid d.inst) (program-sequent d duty met.0.0 kind.0) met.0.2),
  programs-met d formed duties met.1 kind.1,
)

module _ (file : File) (formed : FileIsFormed file) where
  without-proof : (duty : Duty) → IsCleanFor file.decls duty → proof_wrong file duty None ≡ [] → WholeIsMet file.decls duty
  without-proof duty clean h =
      let names = spare_names file duty in
      let may = spare-taken file formed duty in
      let s = sequent_of file.decls duty names in
      let plain = unless-fine (is_plain_sequent s) _ (size-fine (is_too_large s) _ _ h) in
      (names, may, plain-valid file.decls.inst s (clean names may) plain)

  pub proof-taken : (duty : Duty) (proof : Proof) → ProofIsFormed file.decls proof → proof.duty ≡ duty → TakesNames file.decls duty proof.names
  proof-taken duty proof given same = subst (λ a. TakesNames file.decls a proof.names) same given

  with-proof : (duty : Duty) (proof : Proof) → proof_of file duty ≡ Some proof → proof_wrong file duty (Some proof) ≡ [] → WholeIsMet file.decls duty
  with-proof duty proof e h =
      let found = found-passes (ProofIsFormed file.decls) (is_proof_of duty) file.proofs proof formed.proofs e in
      let s = sequent_of file.decls duty proof.names in
      let fine = script-fine (fault file.decls.inst proof.script.rule proof.script.place s) (never-memory file.decls.inst proof.script.rule proof.script.place s) (size-fine (is_too_large s) _ _ h) in
      (proof.names, proof-taken duty proof found.0 (same-is proof.duty duty found.1), replay-sound file.decls.inst proof.script.rule proof.script.place s formed.decls.inst fine)

  is-met : (duty : Duty) → IsCleanFor file.decls duty → duty_wrong file duty ≡ [] → WholeIsMet file.decls duty
  is-met duty clean h = by_proof (proof_of file duty) refl h
    where
      by_proof : (o : Option Proof) → proof_of file duty ≡ o → proof_wrong file duty o ≡ [] → WholeIsMet file.decls duty
      by_proof None e k = without-proof duty clean k
      by_proof (Some proof) e k = with-proof duty proof e k

  all-met : obligation_fault file ≡ None → Each (WholeIsMet file.decls) (duties_of file.decls)
  all-met none =
      let duties = duties_of file.decls in
      each-zip (IsCleanFor file.decls) (λ duty. duty_wrong file duty ≡ []) (WholeIsMet file.decls) duties (whole-clean file.decls formed.decls)
      (each-none (duty_wrong file) duties (front-none (flat_map (duty_wrong file) duties) (flat_map (extra_wrong file) file.proofs) (none-earliest (obligation_wrongs file) none)))
      is-met

  pub obligations-met : obligation_fault file ≡ None → Each (StateIsMet file.decls) (duties_of_states file.decls)
  obligations-met none =
      states-met file.decls (duties_of_states file.decls)
      (each-front (WholeIsMet file.decls) (duties_of_states file.decls) (duties_of_programs file.decls) (all-met none)) (all-of-states file.decls)

  pub program-obligations-met : obligation_fault file ≡ None → Each (ProgramIsMet file.decls) (duties_of_programs file.decls)
  program-obligations-met none =
      programs-met file.decls formed.decls (duties_of_programs file.decls)
      (each-back (WholeIsMet file.decls) (duties_of_states file.decls) (duties_of_programs file.decls) (all-met none)) (all-of-programs file.decls)
