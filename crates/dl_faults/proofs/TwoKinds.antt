-- Which obligations are those of protocols and invariants, and which those of programs.
use Rattle.std.proofs.Common.{◌≡◌, ℕ, Bool, true, false, Option, Some, None, List, [], ◌∷◌, map, slice_get, unwrap_or, refl}
use Rattle.std.specs.List.{AllByRecursion as Each, flat_map}
use Rattle.dl_term.specs.declared.syntax.Lab.{Lab}
use Rattle.dl_term.specs.declared.syntax.Lab.TheVariants.{Own, At}
use Rattle.dl_term.specs.declared.syntax.Formula.{Formula}
use Rattle.dl_model.specs.declared.protocol.Transition.{Transition}
use Rattle.dl_model.specs.declared.protocol.Tag.{Tag}
use Rattle.dl_model.specs.declared.protocol.Protocol.{Protocol}
use Rattle.dl_model.specs.declared.file.Program.{Program}
use Rattle.dl_model.specs.declared.file.Decls.{Decls}
use Rattle.dl_model.specs.Lookup.{protocol_in, protocol_at, no_tag, deploy_of}
use Rattle.dl_sequent.specs.declared.duty.Duty.{Duty}
use Rattle.dl_sequent.specs.declared.duty.Duty.TheVariants.{StepProtocol, StepInvariant, Deploy}
use Rattle.dl_inv.specs.Touched.{is_touched}
use Rattle.dl_inv.specs.Duties.{send_touch, receive_touch, if_touched, receive_of_tag, steps_of_tag, positions, steps_of_tags, duties_with, duties_of_protocol, steps_at_label, duties_of_invariant, duties_of as duties_of_states}
use Rattle.dl_inv.specs.Obligations.{invariant_at, invariant_world}
use Rattle.dl_inv.proofs.Lists.{each-append, each-flat}
use Rattle.dl_triples.specs.Duties.{duties_of_proc, duties_of_deployment, duties_of as duties_of_programs}
use Rattle.dl_programs.proofs.EachDuty.{everywhere, one-if, OfProc, of-proc}
use Rattle.dl_faults.specs.Whole.{is_of_program}

module _ (P : Duty → Type 0) where
  -- ---- steps that a protocol or an invariant has an obligation for

  of-receive : (duty : Duty) (label : Lab) (tag : ℕ) (f : Formula) (o : Option Transition) → P duty → Each P (receive_of_tag duty label tag f o)
  of-receive duty label tag f (Some t) h = one-if P (is_touched (receive_touch label tag t) f) duty h
  of-receive duty label tag f None h = tt

  of-tag : (duty : Bool → Duty) (label : Lab) (tag : ℕ) (f : Formula) (t : Tag) → ((receive : Bool) → P (duty receive)) → Each P (steps_of_tag duty label tag f t)
  of-tag duty label tag f t h =
      each-append P (if_touched (send_touch label tag t.send) f (duty false)) (receive_of_tag (duty true) label tag f t.receive)
      (one-if P (is_touched (send_touch label tag t.send) f) (duty false) (h false)) (of-receive (duty true) label tag f t.receive (h true))

  of-tags : (duty : ℕ → Bool → Duty) (label : Lab) (f : Formula) (protocol : Protocol) → ((tag : ℕ) (receive : Bool) → P (duty tag receive)) → Each P (steps_of_tags duty label f protocol)
  of-tags duty label f protocol h =
      each-flat P (λ tag. steps_of_tag (duty tag) label tag f (unwrap_or (slice_get protocol.tags tag) no_tag)) (positions protocol.tags)
      (everywhere (λ tag. Each P (steps_of_tag (duty tag) label tag f (unwrap_or (slice_get protocol.tags tag) no_tag))) (positions protocol.tags)
      (λ tag. of-tag (duty tag) label tag f (unwrap_or (slice_get protocol.tags tag) no_tag) (h tag)))

-- ---- protocols and invariants

abbrev IsOfState : Duty → Type 0
IsOfState duty = is_of_program duty ≡ false

with-coherence : (d : Decls) (p : ℕ) (o : Option Formula) → Each IsOfState (duties_with d p o)
with-coherence d p (Some f) = (refl, of-tags IsOfState (StepProtocol p) Own f (protocol_in d.inst (Some p)) (λ tag receive. refl))
with-coherence d p None = tt

of-invariant : (d : Decls) (i : ℕ) → Each IsOfState (duties_of_invariant d i)
of-invariant d i = (
  refl,
  each-flat IsOfState (steps_at_label d i) (invariant_world d i).labels
      (everywhere (λ label. Each IsOfState (steps_at_label d i label)) (invariant_world d i).labels
      (λ label. of-tags IsOfState (StepInvariant i label) (At label) (invariant_at d i).formula (protocol_at d.inst label) (λ tag receive. refl))),
)

pub all-of-states : (d : Decls) → Each IsOfState (duties_of_states d)
all-of-states d =
    each-append IsOfState (flat_map (duties_of_protocol d) (positions d.inst.protocols)) (flat_map (duties_of_invariant d) (positions d.invariants))
    (each-flat IsOfState (duties_of_protocol d) (positions d.inst.protocols)
    (everywhere (λ p. Each IsOfState (duties_of_protocol d p)) (positions d.inst.protocols) (λ p. with-coherence d p (protocol_in d.inst (Some p)).coherence)))
    (each-flat IsOfState (duties_of_invariant d) (positions d.invariants) (everywhere (λ i. Each IsOfState (duties_of_invariant d i)) (positions d.invariants) (of-invariant d)))

-- ---- procedures and the deployment

abbrev IsOfProgram : Duty → Type 0
IsOfProgram duty = is_of_program duty ≡ true

proc-each : (p : ℕ) → OfProc IsOfProgram p
proc-each p = record {
  start = refl;
  guard = λ k. refl;
  after_send = λ k. refl;
  got = λ k. refl;
  miss = λ k. refl;
  after_read = λ k. refl;
  body = λ k. refl;
  exit = λ k. refl;
  enter = λ k. refl;
  leave = λ k. refl;
  stable = λ k label tag receive. refl;
  frame = λ k label tag receive. refl;
}

deployed-each : (programs : List Program) → Each IsOfProgram (map (λ (program : Program). Deploy program.node) programs)
deployed-each [] = tt
deployed-each (program ∷ programs) = (refl, deployed-each programs)

pub all-of-programs : (d : Decls) → Each IsOfProgram (duties_of_programs d)
all-of-programs d =
    each-append IsOfProgram (flat_map (duties_of_proc d) (positions d.procs)) (duties_of_deployment d)
    (each-flat IsOfProgram (duties_of_proc d) (positions d.procs) (everywhere (λ p. Each IsOfProgram (duties_of_proc d p)) (positions d.procs) (λ p. of-proc IsOfProgram d p (proc-each p))))
    (deployed-each (deploy_of d).programs)
