-- The names that an obligation takes, and what it is that an obligation is valid.
use Rattle.std.specs.Prelude.{◌≡◌, ℕ, ◌+◌, false, true, List, ◌++◌, None, Some, length, Bool}
use Rattle.std.specs.List.{AllByRecursion as Each, flat_map}
use Rattle.dl_term.specs.declared.syntax.Lab.TheVariants.{Own, At}
use Rattle.dl_model.specs.declared.sequent.Hypothesis.{Hypothesis}
use Rattle.dl_model.specs.declared.sequent.Sequent.{Sequent}
use Rattle.dl_model.specs.declared.file.Decls.{Decls}
use Rattle.dl_model.specs.Sorts.{has}
use Rattle.dl_model.specs.Spoken.{bound_names}
use Rattle.dl_model.specs.Formed.{AreDistinct}
use Rattle.dl_model.specs.Sequents.{IsValid}
use Rattle.dl_sequent.specs.declared.duty.Duty.{Duty}
use Rattle.dl_sequent.specs.declared.duty.Duty.TheVariants.{StepProtocol, StepInvariant}
use Rattle.dl_wp.specs.Steps.{send_step, receive_step}
use Rattle.dl_wp.specs.Captures.{captures, nothing_around}
use Rattle.dl_inv.specs.Steps.{tag_of, send_by, receive_by}
use Rattle.dl_inv.specs.Obligations.{coherence_of, invariant_at, sequent_of}

-- none at first, a sender, an addressee and the arguments for a send, a receiver and a message for a receive
abbrev pub names_taken : Decls → Duty → ℕ
names_taken decls (StepProtocol p tag false) = 2 + length (tag_of decls.inst (Some p) Own tag).args
names_taken decls (StepProtocol p tag true) = 2
names_taken decls (StepInvariant i label tag false) = 2 + length (tag_of decls.inst None (At label) tag).args
names_taken decls (StepInvariant i label tag true) = 2
names_taken decls _ = 0

-- the names that quantifiers bind in the sequent's formulas
abbrev pub bound_in : Sequent → List ℕ
bound_in s = flat_map (λ (h : Hypothesis). bound_names h.formula) s.facts ++ bound_names s.goal

-- The obligation may take these names: as many as it takes, distinct, and bound in none of its formulas.
pub record MayTake (decls : Decls) (duty : Duty) (names : List ℕ) : Type 0 where
  pub count : length names ≡ names_taken decls duty
  pub distinct : AreDistinct names
  pub unbound : Each (λ name. has (bound_in (sequent_of decls duty names)) name ≡ false) names

-- A name that the step of the obligation takes is bound around a place of the formula where it is put.
abbrev pub captured : Decls → Duty → List ℕ → Bool
captured decls (StepProtocol p tag false) names = captures (send_step decls.inst (Some p) (send_by Own tag names)) nothing_around (coherence_of decls.inst p)
captured decls (StepProtocol p tag true) names = captures (receive_step decls.inst (Some p) (receive_by Own tag names)) nothing_around (coherence_of decls.inst p)
captured decls (StepInvariant i label tag false) names = captures (send_step decls.inst None (send_by (At label) tag names)) nothing_around (invariant_at decls i).formula
captured decls (StepInvariant i label tag true) names = captures (receive_step decls.inst None (receive_by (At label) tag names)) nothing_around (invariant_at decls i).formula
captured decls _ names = false

-- The obligation is valid for some names that it may take.
abbrev pub IsMet : Decls → Duty → Type 0
IsMet decls duty = (names : List ℕ) × MayTake decls duty names × IsValid decls.inst (sequent_of decls duty names)
