-- Which obligations of protocols and invariants a file has, in their order.
use Rattle.std.specs.Prelude.{ℕ, Bool, true, false, if◌then◌else◌, List, [], ◌∷◌, ◌++◌, Option, Some, None, length, slice_get, unwrap_or}
use Rattle.std.specs.List.{flat_map, range_with_len}
use Rattle.dl_term.specs.declared.syntax.Lab.{Lab}
use Rattle.dl_term.specs.declared.syntax.Lab.TheVariants.{Own, At}
use Rattle.dl_term.specs.declared.syntax.Formula.{Formula}
use Rattle.dl_term.specs.Same.{same_label}
use Rattle.dl_model.specs.declared.protocol.Transition.{Transition}
use Rattle.dl_model.specs.declared.protocol.Tag.{Tag}
use Rattle.dl_model.specs.declared.protocol.Protocol.{Protocol}
use Rattle.dl_model.specs.declared.file.Decls.{Decls}
use Rattle.dl_model.specs.Lookup.{protocol_in, protocol_at, no_tag}
use Rattle.dl_sequent.specs.declared.duty.Duty.{Duty}
use Rattle.dl_sequent.specs.declared.duty.Duty.TheVariants.{InitProtocol, InitInvariant, StepProtocol, StepInvariant}
use Rattle.dl_inv.specs.Touched.{Touch, fields_of, is_touched}
use Rattle.dl_inv.specs.Obligations.{invariant_at, invariant_world}

-- ---- steps

abbrev pub send_touch : Lab → ℕ → Transition → Touch
send_touch label tag transition =
    record { here = λ l. same_label l label; tag = tag; fields = fields_of transition.updates; grows = true; spares_me = false }

abbrev pub receive_touch : Lab → ℕ → Transition → Touch
receive_touch label tag transition =
    record { here = λ l. same_label l label; tag = tag; fields = fields_of transition.updates; grows = false; spares_me = false }

-- The obligation, where the formula is touched: no other one needs a proof.
abbrev pub if_touched : Touch → Formula → Duty → List Duty
if_touched touch f duty = if is_touched touch f then duty ∷ [] else []

abbrev pub receive_of_tag : Duty → Lab → ℕ → Formula → Option Transition → List Duty
receive_of_tag duty label tag f (Some transition) = if_touched (receive_touch label tag transition) f duty
receive_of_tag duty label tag f None = []

-- The steps of a tag that touch a formula: its send, and then its receive. `duty` is the obligation of the one and of the other.
abbrev pub steps_of_tag : (Bool → Duty) → Lab → ℕ → Formula → Tag → List Duty
steps_of_tag duty label tag f declared =
    if_touched (send_touch label tag declared.send) f (duty false) ++ receive_of_tag (duty true) label tag f declared.receive

-- the positions of a list
abbrev pub positions : {X : Type 0} → List X → List ℕ
positions xs = range_with_len 0 (length xs)

-- the same for each tag of a protocol, in their order
abbrev pub steps_of_tags : (ℕ → Bool → Duty) → Lab → Formula → Protocol → List Duty
steps_of_tags duty label f protocol =
    flat_map (λ tag. steps_of_tag (duty tag) label tag f (unwrap_or (slice_get protocol.tags tag) no_tag)) (positions protocol.tags)

-- ---- the list

-- A protocol without coherence has no obligation.
abbrev pub duties_with : Decls → ℕ → Option Formula → List Duty
duties_with decls p (Some f) = InitProtocol p ∷ steps_of_tags (StepProtocol p) Own f (protocol_in decls.inst (Some p))
duties_with decls p None = []

abbrev pub duties_of_protocol : Decls → ℕ → List Duty
duties_of_protocol decls p = duties_with decls p (protocol_in decls.inst (Some p)).coherence

-- the steps at a label of the invariant's world
abbrev pub steps_at_label : Decls → ℕ → ℕ → List Duty
steps_at_label decls i label = steps_of_tags (StepInvariant i label) (At label) (invariant_at decls i).formula (protocol_at decls.inst label)

abbrev pub duties_of_invariant : Decls → ℕ → List Duty
duties_of_invariant decls i = InitInvariant i ∷ flat_map (steps_at_label decls i) (invariant_world decls i).labels

-- the protocols in their order, and then the invariants
abbrev pub duties_of : Decls → List Duty
duties_of decls = flat_map (duties_of_protocol decls) (positions decls.inst.protocols) ++ flat_map (duties_of_invariant decls) (positions decls.invariants)
