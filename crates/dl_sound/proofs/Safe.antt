-- Every run is safe.
use Rattle.std.proofs.Common.{◌≡◌, ℕ, ◌<◌, pos, true, Option, Some, None, List, [], ◌∷◌, refl, ap, sym, ◌∙◌, subst, cond, eq-eqb, inl, inr}
use Rattle.std.proofs.lemmas.Bool.{cases_eq}
use Rattle.std.specs.Prelude.{option_map}
use Rattle.dl_term.specs.State.{State}
use Rattle.dl_model.specs.declared.history.Entry.{Entry}
use Rattle.dl_model.specs.declared.file.Program.{Program}
use Rattle.dl_model.specs.declared.file.Decls.{Decls}
use Rattle.dl_model.specs.Lookup.{program_of, proc_at}
use Rattle.dl_model.specs.Steps.{Step, Sending, Receiving}
use Rattle.dl_model.specs.States.{first_state}
use Rattle.dl_model.specs.Machine.{Machine, Over, after_reply, entry_names}
use Rattle.dl_model.specs.Runs.{Config, Event, ProgramEvent, FreeEvent, step_of, state_after, Leads, machine_of, initial}
use Rattle.dl_model.specs.Safe.{IsSafe, IsSafeStep, LeadsSafely, EachRunIsSafe, MeetsPostconditions, post_holds}
use Rattle.dl_sound.proofs.Needed.{AllObligations, StateNeeds, ProgramNeeds}
use Rattle.dl_sound.proofs.Kept.{IsSound, IsStep, step-sound, first-sound, free-step}
use Rattle.dl_sound.proofs.Named.{fine-entry}
use Rattle.dl_sound.proofs.Fine.{MachineIsFine, ConfigIsFine}
use Rattle.dl_sound.proofs.Others.{machine-kept}
use Rattle.dl_sound.proofs.Ticks.{ticked-fine, holds-here}
use Rattle.dl_sound.proofs.Asks.{answer-fine}
use Rattle.dl_model.proofs.Small.{eqb-other, some-same, some-none}

module _ (d : Decls) (formed : StateNeeds d) (programs : ProgramNeeds d) (duties : AllObligations d) where
  -- a step of one node, and the machine of another
  kept-by : (s : State) → IsSound d s → (mover : ℕ) → mover < d.inst.nodes → (move : Option Step) → IsStep d s mover move → (node : ℕ) → (mover ≡ node → ⊥) → (machine : Machine) →
      MachineIsFine d s node machine → MachineIsFine d (state_after d.inst s mover move) node machine
  kept-by s sound mover known (Some move) step node other machine h = machine-kept d programs duties s sound mover move known step.0 step.1 node other machine h
  kept-by s sound mover known None step node other machine h = h

  -- ---- events

  program-step : (before : Config) (e : Entry) (after : Config) → ConfigIsFine d before → e.node < d.inst.nodes → (p : ProgramEvent d before e after) →
      IsStep d before.state e.node (step_of e.call e.reply) × MachineIsFine d (state_after d.inst before.state e.node (step_of e.call e.reply)) e.node (after_reply p.asking e.reply)
  program-step before e after h known p =
      answer-fine d formed programs duties before.state h.sound e.node known p.asking e.call e.reply
      (ticked-fine d formed programs duties before.state h.sound e.node known e.ticks p.machine p.asking (h.machines e.node p.machine p.there) p.ticks) p.asks p.replies

  -- the machines after the event of a program
  program-machine : (before : Config) (e : Entry) (after : Config) → ConfigIsFine d before → e.node < d.inst.nodes → (p : ProgramEvent d before e after) → (node : ℕ) (machine : Machine) → after.machines node ≡ Some machine →
      MachineIsFine d (state_after d.inst before.state e.node (step_of e.call e.reply)) node machine
  program-machine before e after h known p node machine m = elim (cases_eq node e.node) [
    | inl q ↦
        let own = p.machines node ∙ ap (λ b. cond b (Some (after_reply p.asking e.reply)) (before.machines node)) (eq-eqb node e.node q) in
        subst (λ n. MachineIsFine d (state_after d.inst before.state e.node (step_of e.call e.reply)) n machine) (sym q)
        (subst (MachineIsFine d (state_after d.inst before.state e.node (step_of e.call e.reply)) e.node) (some-same _ _ (sym own ∙ m)) (program-step before e after h known p).1)
    | inr n ↦
        let other = p.machines node ∙ ap (λ b. cond b (Some (after_reply p.asking e.reply)) (before.machines node)) (eqb-other node e.node n) in
        kept-by before.state h.sound e.node known (step_of e.call e.reply) (program-step before e after h known p).0 node (λ q. n (sym q)) machine (h.machines node machine (sym other ∙ m))
  ]

  free-machine : (before : Config) (e : Entry) (after : Config) → ConfigIsFine d before → e.node < d.inst.nodes → (f : FreeEvent d before e after) → (node : ℕ) (machine : Machine) → after.machines node ≡ Some machine →
      MachineIsFine d (state_after d.inst before.state e.node (step_of e.call e.reply)) node machine
  free-machine before e after h known f node machine m =
      let there = sym (f.machines node) ∙ m in
      kept-by before.state h.sound e.node known (step_of e.call e.reply) (free-step d before.state e.node e.call e.reply f.allowed) node
      (λ q. some-none (before.machines node) machine there (subst (λ n. before.machines n ≡ None) q f.free)) machine (h.machines node machine there)

  event-step : (before : Config) (e : Entry) (after : Config) → ConfigIsFine d before → Event d before e after → IsStep d before.state e.node (step_of e.call e.reply)
  event-step before e after h event = elim event.acts [
    | inl p ↦ (program-step before e after h event.node p).0
    | inr f ↦ free-step d before.state e.node e.call e.reply f.allowed
  ]

  event-state : (before : Config) (e : Entry) (after : Config) → Event d before e after → state_after d.inst before.state e.node (step_of e.call e.reply) ≡ after.state
  event-state before e after event = elim event.acts [ inl p ↦ sym p.state | inr f ↦ sym f.state ]

  event-machine : (before : Config) (e : Entry) (after : Config) → ConfigIsFine d before → Event d before e after → (node : ℕ) (machine : Machine) → after.machines node ≡ Some machine →
      MachineIsFine d (state_after d.inst before.state e.node (step_of e.call e.reply)) node machine
  event-machine before e after h event node machine m = elim event.acts [
    | inl p ↦ program-machine before e after h event.node p node machine m
    | inr f ↦ free-machine before e after h event.node f node machine m
  ]

  event-fine : (before : Config) (e : Entry) (after : Config) → ConfigIsFine d before → Event d before e after → ConfigIsFine d after
  event-fine before e after h event = record {
    sound = subst (IsSound d) (event-state before e after event)
        (step-sound d formed duties.states before.state e.node (step_of e.call e.reply) h.sound event.node (event-step before e after h event));
    machines = λ node machine m. subst (λ s. MachineIsFine d s node machine) (event-state before e after event) (event-machine before e after h event node machine m);
  }

  -- ---- the beginning

  initial-machine : (node : ℕ) (machine : Machine) (o : Option Program) → program_of d node ≡ o → option_map (machine_of d node) o ≡ Some machine → MachineIsFine d (first_state d.inst) node machine
  initial-machine node machine None e m = cc
  initial-machine node machine (Some p) e m =
      let k = programs.programs node p e in
      let n = fine-entry d p.proc node p.constants (programs.procs p.proc) k.known k.constants in
      subst (MachineIsFine d (first_state d.inst) node) (some-same _ _ m) (
        p.constants,
        record { world = k.injected; formed = (programs.procs p.proc).body; duties = (duties.procs p.proc).body; fine = n },
        (duties.procs p.proc).start node p.constants (first_state d.inst)
            (holds-here d formed programs duties (first_state d.inst) (first-sound d formed duties.states) node k.known p.proc k.injected (proc_at d.procs p.proc).pre
            (entry_names (proc_at d.procs p.proc) (pos node) p.constants) n.sorted (duties.deployed node p e)),
        (p, e, refl, refl),
      )

  initial-fine : ConfigIsFine d (initial d)
  initial-fine = record { sound = first-sound d formed duties.states; machines = λ node machine m. initial-machine node machine (program_of d node) refl m }

  -- ---- safe

  ends-well : (c : Config) → ConfigIsFine d c → MeetsPostconditions d c
  ends-well c h = λ node p machine ticks v e m t.
      let over = ticked-fine d formed programs duties c.state h.sound node (programs.programs node p e).known ticks machine (Over v) (h.machines node machine m) t in
      subst (λ q. post_holds d node q v c.state ≡ true) (some-same _ _ (sym over.1 ∙ e)) over.3

  safe-step : (s : State) (node : ℕ) (step : Option Step) → IsStep d s node step → IsSafeStep d s node step
  safe-step s node (Some (Sending label tag to args)) h = (h.0, h.1)
  safe-step s node (Some (Receiving label id)) h = tt
  safe-step s node None h = tt

  config-safe : (c : Config) → ConfigIsFine d c → IsSafe d c
  config-safe c h = record { invariants = h.sound.good; posts = ends-well c h }

  run-safe : (es : List Entry) (before after : Config) → ConfigIsFine d before → Leads d before es after → LeadsSafely d before es after
  run-safe [] before after h l = (config-safe before h, l)
  run-safe (e ∷ es) before after h (mid, event, l) = (
    config-safe before h,
    safe-step before.state e.node (step_of e.call e.reply) (event-step before e mid h event),
    (mid, event, run-safe es mid after (event-fine before e mid h event) l),
  )

  pub runs-safe : EachRunIsSafe d
  runs-safe es c l = run-safe es (initial d) c initial-fine l
