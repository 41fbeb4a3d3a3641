-- The names that the obligations of a whole file take.
use Rattle.std.proofs.Common.{◌≡◌, ℕ, zero, suc, ◌==◌, Bool, true, false, if◌then◌else◌, List, [], ◌∷◌, length, refl, ap, sym, ◌∙◌, subst}
use Rattle.std.specs.List.{AllByRecursion as Each, flat_map}
use Rattle.dl_model.specs.declared.program.Proc.{Proc}
use Rattle.dl_model.specs.declared.file.Decls.{Decls}
use Rattle.dl_model.specs.Sorts.{has}
use Rattle.dl_model.specs.Lookup.{proc_at, no_proc}
use Rattle.dl_model.specs.Words.{me_word, result_word}
use Rattle.dl_model.specs.Formed.{IsFormed, proc_variables}
use Rattle.dl_model.proofs.Small.{or-left, or-right, or-both}
use Rattle.dl_sequent.specs.declared.duty.Duty.{Duty}
use Rattle.dl_sequent.specs.declared.duty.Duty.TheVariants as duty
use Rattle.dl_sequent.specs.Clean.{IsClean}
use Rattle.dl_inv.specs.Duties.{duties_of as duties_of_states}
use Rattle.dl_inv.specs.Obligations.{sequent_of as sequent_of_state}
use Rattle.dl_inv.specs.Taken.{names_taken as taken_of_state, MayTake as StateMayTake}
use Rattle.dl_inv.proofs.Lists.{each-get, lacks-each, each-append}
use Rattle.dl_inv.proofs.FileNames.{file-names}
use Rattle.dl_inv.proofs.Clean.{obligations-clean}
use Rattle.dl_triples.specs.Duties.{duties_of as duties_of_programs}
use Rattle.dl_triples.specs.Obligations.{sequent_of as sequent_of_program}
use Rattle.dl_triples.specs.Taken.{names_in, names_at, own_names, names_taken as taken_of_program, MayTake as ProgramMayTake}
use Rattle.dl_programs.proofs.Points.{vars-names}
use Rattle.dl_programs.proofs.ProgramNames.{program-names}
use Rattle.dl_programs.proofs.Clean.{IsCleanOf, programs-clean}
use Rattle.dl_faults.specs.Whole.{duties_of, is_of_program, sequent_of}
use Rattle.dl_faults.specs.Given.{TakesNames, proc_names, program_names}
use Rattle.dl_faults.proofs.TwoKinds.{all-of-states, all-of-programs}

-- ---- the two kinds of obligations

abbrev by_kind : {X : Type 0} → X → X → Bool → X
by_kind of_program of_state b = if b then of_program else of_state

module _ (d : Decls) (duty : Duty) (names : List ℕ) where
  pub state-sequent : is_of_program duty ≡ false → sequent_of d duty names ≡ sequent_of_state d duty names
  state-sequent e = ap (by_kind (sequent_of_program d duty names) (sequent_of_state d duty names)) e

  pub program-sequent : is_of_program duty ≡ true → sequent_of d duty names ≡ sequent_of_program d duty names
  program-sequent e = ap (by_kind (sequent_of_program d duty names) (sequent_of_state d duty names)) e

  pub state-may : is_of_program duty ≡ false → TakesNames d duty names → StateMayTake d duty names
  state-may e takes = file-names d duty names (takes.count ∙ ap (by_kind (taken_of_program d duty) (taken_of_state d duty)) e) takes.distinct takes.unbound

  pub program-count : is_of_program duty ≡ true → TakesNames d duty names → length names ≡ taken_of_program d duty
  program-count e takes = takes.count ∙ ap (by_kind (taken_of_program d duty) (taken_of_state d duty)) e

  pub program-may : IsFormed d → is_of_program duty ≡ true → TakesNames d duty names → ProgramMayTake d duty names
  program-may formed e takes = program-names d formed duty names (program-count e takes) takes.distinct takes.new takes.unbound

-- ---- clean

-- clean with all names that it takes
abbrev pub IsCleanFor : Decls → Duty → Type 0
IsCleanFor d duty = (names : List ℕ) → TakesNames d duty names → IsClean (sequent_of d duty names)

states-clean : (d : Decls) (duties : List Duty) → Each (λ duty. (names : List ℕ) → StateMayTake d duty names → IsClean (sequent_of_state d duty names)) duties → Each (λ duty. is_of_program duty ≡ false) duties → Each (IsCleanFor d) duties
states-clean d [] clean kind = tt
states-clean d (duty ∷ duties) clean kind = (
  (λ names takes. subst IsClean (sym (state-sequent d duty names kind.0)) (clean.0 names (state-may d duty names kind.0 takes))),
  states-clean d duties clean.1 kind.1,
)

programs-clean-too : (d : Decls) (duties : List Duty) → Each (IsCleanOf d) duties → Each (λ duty. is_of_program duty ≡ true) duties → Each (IsCleanFor d) duties
programs-clean-too d [] clean kind = tt
programs-clean-too d (duty ∷ duties) clean kind = (
  (λ names takes. subst IsClean (sym (program-sequent d duty names kind.0)) (clean.0 names (program-count d duty names kind.0 takes) takes.distinct takes.new takes.unbound)),
  programs-clean-too d duties clean.1 kind.1,
)

-- each obligation of a formed file is clean
pub whole-clean : (d : Decls) → IsFormed d → Each (IsCleanFor d) (duties_of d)
whole-clean d formed =
    each-append (IsCleanFor d) (duties_of_states d) (duties_of_programs d)
    (states-clean d (duties_of_states d) (obligations-clean d formed) (all-of-states d))
    (programs-clean-too d (duties_of_programs d) (programs-clean d formed) (all-of-programs d))

-- ---- variables

-- a name that is no variable of a procedure is none of an obligation
module _ (d : Decls) (y : ℕ) (lacks : has (program_names d) y ≡ false) where
  other-than-result : (y == result_word) ≡ false
  other-than-result = or-left (y == result_word) (has (me_word ∷ flat_map proc_names d.procs) y) lacks

  with-me : has (me_word ∷ flat_map proc_names d.procs) y ≡ false
  with-me = or-right (y == result_word) (has (me_word ∷ flat_map proc_names d.procs) y) lacks

  of-proc : (p : ℕ) → has (proc_variables (proc_at d.procs p)) y ≡ false
  of-proc p =
      or-both (y == me_word) (has (proc_names (proc_at d.procs p)) y) (or-left (y == me_word) (has (flat_map proc_names d.procs) y) with-me)
      (each-get (λ (proc : Proc). has (proc_names proc) y ≡ false) d.procs p no_proc refl
      (lacks-each proc_names d.procs y (or-right (y == me_word) (has (flat_map proc_names d.procs) y) with-me)))

  in-names : (p : ℕ) → has (names_in d p) y ≡ false
  in-names p = ap (λ names. has names y) (vars-names d (proc_at d.procs p)) ∙ of-proc p

  at-names : (p k : ℕ) → has (names_at d p k) y ≡ false
  at-names p zero = or-both (y == result_word) (has (names_in d p) y) other-than-result (in-names p)
  at-names p (suc k) = in-names p

  pub own-lacks : (a : Duty) → has (own_names d a) y ≡ false
  own-lacks (duty.Start p) = in-names p
  own-lacks (duty.Guard p k) = in-names p
  own-lacks (duty.AfterSend p k) = in-names p
  own-lacks (duty.Got p k) = in-names p
  own-lacks (duty.Miss p k) = in-names p
  own-lacks (duty.AfterRead p k) = in-names p
  own-lacks (duty.Body p k) = in-names p
  own-lacks (duty.Exit p k) = in-names p
  own-lacks (duty.Enter p k) = in-names p
  own-lacks (duty.Leave p k) = in-names p
  own-lacks (duty.Stable p k label tag receive) = at-names p k
  own-lacks (duty.Frame p k label tag receive) = in-names p
  own-lacks (duty.InitProtocol p) = refl
  own-lacks (duty.InitInvariant i) = refl
  own-lacks (duty.StepProtocol p tag receive) = refl
  own-lacks (duty.StepInvariant i label tag receive) = refl
  own-lacks (duty.Deploy node) = refl
