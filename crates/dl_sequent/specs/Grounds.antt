-- What bounds promise, and what they ask of the declarations.
use Rattle.std.specs.Prelude.{◌≡◌, ℕ, ◌<◌, pos, true, Option, Some, slice_get, IfSome}
use Rattle.std.specs.List.{AllByRecursion as Each}
use Rattle.dl_term.specs.declared.syntax.Sort.{Sort}
use Rattle.dl_term.specs.declared.syntax.Term.{Term}
use Rattle.dl_term.specs.State.{State}
use Rattle.dl_term.specs.Names.{Names}
use Rattle.dl_term.specs.Meaning.{value}
use Rattle.dl_model.specs.declared.protocol.FieldDecl.{FieldDecl}
use Rattle.dl_model.specs.declared.protocol.Protocol.{Protocol}
use Rattle.dl_model.specs.declared.protocol.Instances.{Instances}
use Rattle.dl_model.specs.declared.sequent.Sequent.{Sequent}
use Rattle.dl_model.specs.Sorts.{in_sort}
use Rattle.dl_model.specs.States.{IsWellSorted}
use Rattle.dl_model.specs.Sequents.{Fits}

-- The sort of each field holds 0, which is what a read outside the node list gives. Formed instances are grounded.
pub record IsGrounded (inst : Instances) : Type 0 where
  pub zeros : (p : ℕ) (protocol : Protocol) → slice_get inst.protocols p ≡ Some protocol → Each (λ (field : FieldDecl). in_sort field.sort (pos 0) ≡ true) protocol.fields

-- the label has the own protocol, where there is one
abbrev pub IsOwn : Instances → Option ℕ → ℕ → Type 0
IsOwn inst own label = IfSome own (λ protocol. slice_get inst.of label ≡ Some protocol)

-- the term is in the sort in every well-sorted state, for all names that fit
abbrev pub LiesBetween : Instances → Sequent → Term → Sort → Type 0
LiesBetween inst sequent term sort =
    (own : ℕ) (state : State) (names : Names) → IsOwn inst sequent.own own → IsWellSorted inst state → Fits sequent own state names →
    in_sort sort (value term names state) ≡ true

-- the term is a node there
abbrev pub StandsForNode : Instances → Sequent → Term → Type 0
StandsForNode inst sequent term =
    (own : ℕ) (state : State) (names : Names) → IsOwn inst sequent.own own → IsWellSorted inst state → Fits sequent own state names →
    (node : ℕ) × (value term names state ≡ pos node) × (node < inst.nodes)
