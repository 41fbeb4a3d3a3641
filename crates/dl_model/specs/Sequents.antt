-- When a sequent is valid.
use Rattle.std.specs.Prelude.{◌≡◌, ℕ, true, ◌==◌, if◌then◌else◌, List, Option, Some, None, slice_get}
use Rattle.std.specs.List.{AllByRecursion as Each}
use Rattle.dl_term.specs.State.{State}
use Rattle.dl_term.specs.Names.{Names, Stored}
use Rattle.dl_term.specs.Meaning.{holds, IsMessageOf}
use Rattle.dl_model.specs.declared.protocol.Instances.{Instances}
use Rattle.dl_model.specs.declared.sequent.Hypothesis.{Hypothesis}
use Rattle.dl_model.specs.declared.sequent.Sequent.{Sequent}
use Rattle.dl_model.specs.Sorts.{in_sort}
use Rattle.dl_model.specs.States.{IsWellSorted}

-- the label of a sequent's message, where `self` is this one
abbrev pub message_label : ℕ → ℕ → ℕ
message_label own label = if label == 255 then own else label

-- the name stands for a message of the label and tag
abbrev pub StandsForMessage : State → Names → ℕ → ℕ → ℕ → Type 0
StandsForMessage state names name label tag = (id : ℕ) × (names.message name ≡ Some (Stored label id)) × IsMessageOf state label tag id

-- Each variable has a number of its sort, and each message name stands for a message of its label and tag.
pub record Fits (sequent : Sequent) (own : ℕ) (state : State) (names : Names) : Type 0 where
  pub own_label : names.own ≡ own
  pub variables : Each (λ v. in_sort v.1 (names.number v.0) ≡ true) sequent.vars
  pub messages : Each (λ m. StandsForMessage state names m.0 (message_label own m.1) m.2) sequent.messages

abbrev pub FactsHold : List Hypothesis → Names → State → Type 0
FactsHold facts names state = Each (λ fact. holds fact.formula names state ≡ true) facts

-- In every well-sorted state, and for all names that fit, the goal holds where all hypotheses hold.
abbrev pub IsValidAt : Instances → Sequent → ℕ → Type 0
IsValidAt inst sequent own =
    (state : State) (names : Names) → IsWellSorted inst state → Fits sequent own state names → FactsHold sequent.facts names state →
    holds sequent.goal names state ≡ true

-- the same for each label of the own protocol, or for any where there is none
abbrev pub IsValidFor : Instances → Sequent → Option ℕ → Type 0
IsValidFor inst sequent None = (label : ℕ) → IsValidAt inst sequent label
IsValidFor inst sequent (Some protocol) = (label : ℕ) → slice_get inst.of label ≡ Some protocol → IsValidAt inst sequent label

abbrev pub IsValid : Instances → Sequent → Type 0
IsValid inst sequent = IsValidFor inst sequent sequent.own
