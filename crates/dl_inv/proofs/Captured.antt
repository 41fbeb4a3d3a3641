-- No name that an obligation may take is captured.
use Rattle.std.proofs.Common.{◌≡◌, ℕ, true, false, Some, None, List, [], ◌∷◌, refl, ◌∙◌, sym, arith}
use Rattle.dl_term.specs.declared.syntax.Lab.TheVariants.{Own, At}
use Rattle.dl_term.specs.declared.syntax.Formula.{Formula}
use Rattle.dl_model.specs.declared.sequent.Sequent.{Sequent}
use Rattle.dl_model.specs.declared.file.Decls.{Decls}
use Rattle.dl_model.specs.Sorts.{has}
use Rattle.dl_model.specs.Spoken.{bound_names}
use Rattle.std.specs.List.{AllByRecursion as Each}
use Rattle.dl_sequent.specs.declared.duty.Duty.{Duty}
use Rattle.dl_sequent.specs.declared.duty.Duty.TheVariants.{StepProtocol, StepInvariant}
use Rattle.dl_wp.specs.Steps.{Step, send_step, receive_step}
use Rattle.dl_wp.specs.Before.{before}
use Rattle.dl_wp.specs.Captures.{captures, nothing_around}
use Rattle.dl_inv.specs.Steps.{send_by, receive_by}
use Rattle.dl_inv.specs.Obligations.{coherence_of, invariant_at, sequent_of}
use Rattle.dl_inv.specs.Taken.{bound_in, MayTake, captured}
use Rattle.dl_inv.proofs.Lists.{each-at}
use Rattle.dl_inv.proofs.Bound.{bound-before, goal-lacks, turned}
use Rattle.dl_inv.proofs.Clear.{StepsOver, send-over, receive-over, step-clear}

-- a step over names that are bound nowhere in the sequent, whose goal is the formula before the step
step-captures : (s : Sequent) (ns : List ℕ) (step : Step) (f : Formula) → s.goal ≡ before step (λ m. false) f → StepsOver ns step → Each (λ name. has (bound_in s) name ≡ false) ns → captures step nothing_around f ≡ false
step-captures s ns step f is over unbound = step-clear ns step over f (turned (bound_names f) ns (λ y m.
    sym (bound-before step (λ k. false) f y) ∙ (λ i. has (bound_names (sym is i)) y) ∙ goal-lacks s y (each-at (λ name. has (bound_in s) name ≡ false) ns y unbound m)))

pub none-captured : (d : Decls) (duty : Duty) (names : List ℕ) → MayTake d duty names → captured d duty names ≡ false
none-captured d (StepProtocol p tag false) [] may = absurd (let e = may.count in omega (e, arith))
none-captured d (StepProtocol p tag false) (s ∷ []) may = absurd (let e = may.count in omega (e, arith))
none-captured d (StepProtocol p tag false) (s ∷ t ∷ xs) may =
    step-captures (sequent_of d (StepProtocol p tag false) (s ∷ t ∷ xs)) (s ∷ t ∷ xs) (send_step d.inst (Some p) (send_by Own tag (s ∷ t ∷ xs))) (coherence_of d.inst p) refl (send-over d.inst (Some p) Own tag s t xs) may.unbound
none-captured d (StepProtocol p tag true) [] may = absurd (let e = may.count in omega (e, arith))
none-captured d (StepProtocol p tag true) (r ∷ []) may = absurd (let e = may.count in omega (e, arith))
none-captured d (StepProtocol p tag true) (r ∷ k ∷ xs) may =
    step-captures (sequent_of d (StepProtocol p tag true) (r ∷ k ∷ xs)) (r ∷ k ∷ xs) (receive_step d.inst (Some p) (receive_by Own tag (r ∷ k ∷ xs))) (coherence_of d.inst p) refl (receive-over d.inst (Some p) Own tag r k xs) may.unbound
none-captured d (StepInvariant i label tag false) [] may = absurd (let e = may.count in omega (e, arith))
none-captured d (StepInvariant i label tag false) (s ∷ []) may = absurd (let e = may.count in omega (e, arith))
none-captured d (StepInvariant i label tag false) (s ∷ t ∷ xs) may =
    step-captures (sequent_of d (StepInvariant i label tag false) (s ∷ t ∷ xs)) (s ∷ t ∷ xs) (send_step d.inst None (send_by (At label) tag (s ∷ t ∷ xs))) (invariant_at d i).formula refl (send-over d.inst None (At label) tag s t xs) may.unbound
none-captured d (StepInvariant i label tag true) [] may = absurd (let e = may.count in omega (e, arith))
none-captured d (StepInvariant i label tag true) (r ∷ []) may = absurd (let e = may.count in omega (e, arith))
none-captured d (StepInvariant i label tag true) (r ∷ k ∷ xs) may =
    step-captures (sequent_of d (StepInvariant i label tag true) (r ∷ k ∷ xs)) (r ∷ k ∷ xs) (receive_step d.inst None (receive_by (At label) tag (r ∷ k ∷ xs))) (invariant_at d i).formula refl (receive-over d.inst None (At label) tag r k xs) may.unbound
none-captured d _ names may = refl
