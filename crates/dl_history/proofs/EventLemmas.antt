-- What the code does at an entry is an event of the model, or there is none.
use Rattle.std.proofs.Common.{◌≡◌, ℕ, ◌==◌, Some, None, List, refl, ap, sym, ◌∙◌, subst, cond, inl, inr}
use Rattle.std.specs.Prelude.{slice_get}
use Rattle.dl_term.specs.State.{State}
use Rattle.dl_model.specs.declared.history.Entry.{Entry}
use Rattle.dl_model.specs.declared.file.Decls.{Decls}
use Rattle.dl_model.specs.Machine.{Machine, Ticked}
use Rattle.dl_model.specs.Runs.{Config, Event, step_of, state_after}
use Rattle.dl_model.proofs.Small.{some-same, some-none}
use Rattle.dl_prog.specs.Places.{machine_of}
use Rattle.dl_history.specs.Runners.{Runner, place_of, machine_at}
use Rattle.dl_history.specs.Replayed.{IsNoEvent}
use Rattle.dl_history.specs.Taken.{IsRefused, TookTurn, IsDeclared, IsFreeTurn}
use Rattle.dl_history.proofs.Places.{place-is, machine-there, machine-replaced, no-machine}

abbrev at : Decls → State → List Runner → Config
at d s runners = record { state = s; machines = machine_at d.procs runners }

-- ---- nodes with programs

pub program-made : (d : Decls) (e : Entry) (before after : State) (old new : List Runner) (place : ℕ) → IsDeclared d e → place_of old e.node ≡ Some place → TookTurn d before e after old place new →
    Event d (at d before old) e (at d after new)
program-made d e before after old new place k p t = record {
  node = k.node;
  label = k.label;
  acts = inl (record {
    machine = machine_of d.procs t.runner.1;
    asking = t.taken.asking;
    there = machine-there d.procs old e.node place t.runner p t.there;
    ticks = t.taken.reached.ticks;
    asks = t.taken.reached.asks;
    replies = t.taken.replies;
    state = t.taken.state;
    machines = λ node.
        ap (λ (rs : List Runner). machine_at d.procs rs node) t.others
        ∙ machine-replaced d.procs old e.node place t.runner t.cont node p t.there
        ∙ ap (λ (m : Machine). cond (node == e.node) (Some m) (machine_at d.procs old node)) t.taken.machine;
  });
}

pub program-refused : (d : Decls) (e : Entry) (before : State) (old : List Runner) (place : ℕ) → place_of old e.node ≡ Some place →
    ((runner : Runner) → slice_get old place ≡ Some runner → IsRefused d before e (machine_of d.procs runner.1)) → IsNoEvent d (at d before old) e
program-refused d e before old place p refused = record {
  never = λ after event.
      let is = place-is old e.node place p in
      let here = machine-there d.procs old e.node place is.runner p is.there in
      elim event.acts [
        | inl a ↦
            let same : a.machine ≡ machine_of d.procs is.runner.1 = some-same _ _ (sym a.there ∙ here) in
            (refused is.runner is.there).never a.asking
            (record { ticks = subst (λ m. Ticked d.procs e.ticks m a.asking) same a.ticks; asks = a.asks }) a.replies
        | inr f ↦ absurd (some-none (machine_at d.procs old e.node) _ here f.free)
      ];
}

-- ---- nodes without

pub free-made : (d : Decls) (e : Entry) (before after : State) (old : List Runner) → IsDeclared d e → place_of old e.node ≡ None → IsFreeTurn d before e →
    after ≡ state_after d.inst before e.node (step_of e.call e.reply) → Event d (at d before old) e (at d after old)
free-made d e before after old k p t s = record {
  node = k.node;
  label = k.label;
  acts = inr (record {
    free = no-machine d.procs old e.node p;
    ticks = t.ticks;
    allowed = t.allowed;
    state = s;
    machines = λ node. refl;
  });
}

pub free-refused : (d : Decls) (e : Entry) (before : State) (old : List Runner) → place_of old e.node ≡ None → (IsFreeTurn d before e → ⊥) → IsNoEvent d (at d before old) e
free-refused d e before old p refused = record {
  never = λ after event. elim event.acts [
    | inl a ↦ absurd (some-none (machine_at d.procs old e.node) a.machine a.there (no-machine d.procs old e.node p))
    | inr f ↦ refused (record { ticks = f.ticks; allowed = f.allowed })
  ];
}

pub undeclared-refused : (d : Decls) (e : Entry) (before : Config) → (IsDeclared d e → ⊥) → IsNoEvent d before e
undeclared-refused d e before refused = record { never = λ after event. refused (record { node = event.node; label = event.label }) }
