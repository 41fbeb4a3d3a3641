-- No step of another node makes an annotation, a frame or a postcondition false, where the obligations that are not waived are valid.
use Rattle.std.proofs.Common.{◌≡◌, ℕ, zero, suc, ◌≤◌, Bool, true, ◌==◌, List, [], ◌∷◌, ◌++◌, refl, ap, subst, ◌∙◌, inl, inr, arith}
use Rattle.std.specs.List.{AllByRecursion as Each}
use Rattle.dl_term.specs.declared.syntax.Formula.{Formula}
use Rattle.dl_term.specs.Names.{Names}
use Rattle.dl_model.specs.declared.program.Proc.{Proc}
use Rattle.dl_model.specs.declared.file.Decls.{Decls}
use Rattle.dl_model.specs.Sorts.{in_sort, is_i64, has}
use Rattle.dl_model.specs.Lookup.{Parameter, arg_names, proc_at, world_of}
use Rattle.dl_model.specs.Words.{me_word, result_word}
use Rattle.dl_model.specs.Scopes.{FormulaIsKnown}
use Rattle.dl_model.specs.Formed.{proc_variables, IsFormed}
use Rattle.dl_model.proofs.Small.{or-true-left, or-true-right, either-true}
use Rattle.dl_sequent.specs.declared.duty.Duty.{Duty}
use Rattle.dl_sequent.specs.declared.duty.Duty.TheVariants.{Stable, Frame}
use Rattle.dl_inv.specs.Obligations.{with_sort}
use Rattle.dl_inv.proofs.Lists.{each-append, has-front}
use Rattle.dl_sound.specs.Obligations.{Wherever, IsKeptAt, IsStable, NamesAreSorted}
use Rattle.dl_triples.specs.Points.{Point, point_at, note_of, frame_of}
use Rattle.dl_triples.specs.Duties.{stability, frame_stability, steps_of_world}
use Rattle.dl_triples.specs.Obligations.{int_sort, vars_of}
use Rattle.dl_triples.specs.Taken.{var_names, IsMet}
use Rattle.dl_programs.proofs.Known.{file_scope, binds-none}
use Rattle.dl_programs.proofs.Standing.{plain, vars-fit}
use Rattle.dl_programs.proofs.Ready.{IsNote}
use Rattle.dl_programs.proofs.Others.{KeptMet, step-kept}
use Rattle.dl_programs.proofs.Points.{vars-names}
use Rattle.std.proofs.lemmas.Bool.{eqb-true}

module _ (d : Decls) (formed : IsFormed d) (number : ℕ) where
  abbrev proc : Proc
  proc = proc_at d.procs number

  abbrev whole : List ℕ
  whole = var_names (vars_of d proc)

  -- besides, what was returned
  abbrev with_result : List Parameter
  with_result = vars_of d proc ++ with_sort int_sort result_word ∷ []

  mine-whole : (x : ℕ) → has (proc_variables proc) x ≡ true → has whole x ≡ true
  mine-whole x h = ap (λ xs. has xs x) (vars-names d proc) ∙ h

  me-mine : has (proc_variables proc) me_word ≡ true
  me-mine = or-true-left (me_word == me_word) (has (arg_names proc.params ++ proc.locals) me_word) refl

  fit-vars : (node : ℕ) (names : Names) → NamesAreSorted d number node names → (n : Names) → ((x : ℕ) → has whole x ≡ true → n.number x ≡ names.number x) → Each (λ v. in_sort v.1 (n.number v.0) ≡ true) (vars_of d proc)
  fit-vars node names sorted n same = vars-fit d formed number node names (plain n) sorted (record { own = refl; same = λ x h. same x (mine-whole x h) })

  -- a formula over the variables of the procedure
  kept-formula : (f : Formula) → IsNote d number proc f → (duty : ℕ → ℕ → Bool → Duty) → ((label tag : ℕ) (receive : Bool) → IsMet d (duty label tag receive) → KeptMet d number f whole (vars_of d proc) label tag receive)
      → Each (IsMet d) (steps_of_world d (world_of d number) duty f) → IsStable d number f
  kept-formula f known duty met each_met node names state stands mover step moves other label can meets =
      step-kept d formed number f (proc_variables proc) whole (vars_of d proc) known mine-whole mine-whole node names state stands (fit-vars node names stands.named) mover moves other
      (binds-none f (file_scope d.inst (proc_variables proc)) me_word known me-mine) duty met each_met step label can meets

  -- the annotation of a point
  pub note-stable : (k : ℕ) (point : Point) (f : Formula) → 1 ≤ k → point_at proc k ≡ point → note_of point.block ≡ f → IsNote d number proc f → Each (IsMet d) (stability d number k f) → IsStable d number f
  note-stable k point f some at is known each_met = kept-formula f known (Stable number k) (met k some at) each_met
    where
      met : (k : ℕ) → 1 ≤ k → point_at proc k ≡ point → (label tag : ℕ) (receive : Bool) → IsMet d (Stable number k label tag receive) → KeptMet d number f whole (vars_of d proc) label tag receive
      met zero some at label tag receive m = absurd (omega (some, arith))
      met (suc k) some at label tag receive m =
          subst (λ g. KeptMet d number g whole (vars_of d proc) label tag receive) (ap (λ (p : Point). note_of p.block) at ∙ is)
          (record { names = m.0; count = m.1.count; distinct = m.1.distinct; new = m.1.new; unbound = m.1.unbound; valid = m.2 })

  -- what a call holds on to
  pub frame-stable : (k : ℕ) (point : Point) (f : Formula) → point_at proc k ≡ point → frame_of point.block ≡ f → IsNote d number proc f → Each (IsMet d) (frame_stability d number k f) → IsStable d number f
  frame-stable k point f at is known each_met = kept-formula f known (Frame number k) met each_met
    where
      frame-is : frame_of (point_at proc k).block ≡ f
      frame-is = ap (λ (p : Point). frame_of p.block) at ∙ is

      met : (label tag : ℕ) (receive : Bool) → IsMet d (Frame number k label tag receive) → KeptMet d number f whole (vars_of d proc) label tag receive
      met label tag receive m =
          subst (λ g. KeptMet d number g whole (vars_of d proc) label tag receive) frame-is
          (record { names = m.0; count = m.1.count; distinct = m.1.distinct; new = m.1.new; unbound = m.1.unbound; valid = m.2 })

  -- the postcondition, with what was returned
  pub post-stable : FormulaIsKnown (file_scope d.inst (result_word ∷ me_word ∷ arg_names proc.params)) proc.post → Each (IsMet d) (stability d number 0 proc.post)
      → Wherever d number proc.post (λ node names state. is_i64 (names.number result_word) ≡ true → IsKeptAt d number proc.post node names state)
  post-stable known each_met node names state stands range mover step moves other label can meets =
      step-kept d formed number proc.post (result_word ∷ me_word ∷ arg_names proc.params) (result_word ∷ whole) with_result known seen (λ x h. widen x (mine-whole x h)) node names state stands fit mover moves other
      (binds-none proc.post (file_scope d.inst (result_word ∷ me_word ∷ arg_names proc.params)) me_word known (or-true-right (me_word == result_word) (has (me_word ∷ arg_names proc.params) me_word) (or-true-left (me_word == me_word) (has (arg_names proc.params) me_word) refl)))
      (Stable number 0) met each_met step label can meets
    where
      widen : (x : ℕ) → has whole x ≡ true → has (result_word ∷ whole) x ≡ true
      widen x h = or-true-right (x == result_word) (has whole x) h

      result-there : has (result_word ∷ whole) result_word ≡ true
      result-there = or-true-left (result_word == result_word) (has whole result_word) refl

      seen : (x : ℕ) → has (result_word ∷ me_word ∷ arg_names proc.params) x ≡ true → has (result_word ∷ whole) x ≡ true
      seen x h = elim (either-true (x == result_word) (has (me_word ∷ arg_names proc.params) x) h) [
        | inl e ↦ ap (has (result_word ∷ whole)) (eqb-true x result_word e) ∙ result-there
        | inr r ↦ elim (either-true (x == me_word) (has (arg_names proc.params) x) r) [
          | inl e ↦ widen x (mine-whole x (or-true-left (x == me_word) (has (arg_names proc.params ++ proc.locals) x) e))
          | inr e ↦ widen x (mine-whole x (or-true-right (x == me_word) (has (arg_names proc.params ++ proc.locals) x) (has-front (arg_names proc.params) proc.locals x e)))
        ]
      ]

      fit : (n : Names) → ((x : ℕ) → has (result_word ∷ whole) x ≡ true → n.number x ≡ names.number x) → Each (λ v. in_sort v.1 (n.number v.0) ≡ true) with_result
      fit n same = each-append (λ v. in_sort v.1 (n.number v.0) ≡ true) (vars_of d proc) (with_sort int_sort result_word ∷ []) (fit-vars node names stands.named n (λ x h. same x (widen x h))) (ap is_i64 (same result_word result-there) ∙ range, tt)

      met : (label tag : ℕ) (receive : Bool) → IsMet d (Stable number 0 label tag receive) → KeptMet d number proc.post (result_word ∷ whole) with_result label tag receive
      met label tag receive m = record { names = m.0; count = m.1.count; distinct = m.1.distinct; new = m.1.new; unbound = m.1.unbound; valid = m.2 }
