-- The configuration before the first event is the model's.
use Rattle.std.proofs.Common.{◌≡◌, ℕ, ◌<◌, ◌^◌, ◌==◌, Bool, true, false, Option, Some, None, List, [], ◌∷◌, map, refl, ap, sym, ◌∙◌, subst, cond, arith}
use mathlib.Core.Path.{fun_ext}
use Rattle.std.proofs.lemmas.Bool.{eqb-true}
use Rattle.std.proofs.lemmas.List.Elements.{All-from_recursion}
use Rattle.std.specs.Prelude.{option_map, unwrap_or}
use Rattle.std.specs.List.{All, AllZip, AllByRecursion as Each}
use Rattle.dl_term.specs.State.{State}
use Rattle.dl_model.specs.declared.file.Program.{Program}
use Rattle.dl_model.specs.declared.file.Deploy.{Deploy}
use Rattle.dl_model.specs.declared.file.Decls.{Decls}
use Rattle.dl_model.specs.Lookup.{deploy_of, program_in}
use Rattle.dl_model.specs.Machine.{Machine}
use Rattle.dl_model.specs.Formed.{IsFormed, DeployIsFormed, ProgramIsFormed}
use Rattle.dl_model.specs.Runs.{Config, machine_of as first_machine, initial}
use Rattle.dl_model.specs.States.{first_state}
use Rattle.dl_prog.specs.Places.{machine_of}
use Rattle.dl_state.specs.declared.shape.Shape.{Shape}
use Rattle.dl_state.specs.Shapes.{shape_state, shape_statelet}
use Rattle.dl_state.specs.Writes.{CanGrow}
use Rattle.dl_history.specs.Given.{ContIsGiven}
use Rattle.dl_history.specs.Sends.{MachineIsGiven}
use Rattle.dl_history.specs.Runners.{Runner, machine_at}
use Rattle.dl_history.specs.Started.{IsStarted}
use Rattle.dl_history.proofs.Sends.{proc-sends}

-- the programs of a formed file are formed
pub programs-formed : (d : Decls) → IsFormed d → Each (ProgramIsFormed d) (deploy_of d).programs
programs-formed d h = there d.deploy h.deploy
  where
    there : (o : Option Deploy) → DeployIsFormed d o → Each (ProgramIsFormed d) (unwrap_or o (record { world = 0; programs = [] })).programs
    there (Some deploy) f = f.1
    there None f = tt

abbrev StartedAt : Decls → List Program → List Runner → ℕ → Type 0
StartedAt d programs runners node = machine_at d.procs runners node ≡ option_map (first_machine d node) (program_in programs node)

started-step : (d : Decls) (p : Program) (ps : List Program) (r : Runner) (rs : List Runner) (node : ℕ) → IsStarted d p r → StartedAt d ps rs node → (b : Bool) → (node == p.node) ≡ b →
    cond b (Some (machine_of d.procs r.1)) (machine_at d.procs rs node) ≡ option_map (first_machine d node) (cond b (Some p) (program_in ps node))
started-step d p ps r rs node h more true t = ap (λ (m : Machine). Some m) (h.machine ∙ ap (λ n. first_machine d n p) (sym (eqb-true node p.node t)))
started-step d p ps r rs node h more false t = more

started-at : (d : Decls) (programs : List Program) (runners : List Runner) (node : ℕ) → AllZip (IsStarted d) programs runners → StartedAt d programs runners node
started-at d [] [] node h = refl
started-at d [] (r ∷ rs) node h = absurd h
started-at d (p ∷ ps) [] node h = absurd h
started-at d (p ∷ ps) (r ∷ rs) node h =
    ap (λ n. cond (node == n) (Some (machine_of d.procs r.1)) (machine_at d.procs rs node)) h.0.node
    ∙ started-step d p ps r rs node h.0 (started-at d ps rs node h.1) (node == p.node) refl

pub started-given : (d : Decls) (programs : List Program) (runners : List Runner) → IsFormed d → AllZip (IsStarted d) programs runners → Each (ContIsGiven d) runners
started-given d [] [] f h = tt
started-given d [] (r ∷ rs) f h = absurd h
started-given d (p ∷ ps) [] f h = absurd h
started-given d (p ∷ ps) (r ∷ rs) f h = (
  record { ready = h.0.ready; sends = subst (MachineIsGiven d) (sym h.0.machine) (proc-sends d p.proc f, tt) },
  started-given d ps rs f h.1,
)

pub started-meant : (d : Decls) (s : State) (runners : List Runner) → s ≡ first_state d.inst → AllZip (IsStarted d) (deploy_of d).programs runners
    → ◌≡◌ {A = Config} (record { state = s; machines = machine_at d.procs runners }) (initial d)
started-meant d s runners e h = λ i. record { state = e i; machines = fun_ext (λ node. started-at d (deploy_of d).programs runners node h) i }

-- ---- room

each-mapped : {X Y : Type 0} (P : Y → Type 0) (f : X → Y) (xs : List X) → ((x : X) → P (f x)) → Each P (map f xs)
each-mapped P f [] h = tt
each-mapped P f (x ∷ xs) h = (h x, each-mapped P f xs h)

-- soups without messages can grow
pub first-grow : (shape : Shape) (room : ℕ) → room < 2 ^ 32 → All (CanGrow room) (shape_state shape).labels
first-grow shape room h =
    All-from_recursion (CanGrow room) (shape_state shape).labels (each-mapped (CanGrow room) (shape_statelet shape.nodes) shape.labels (λ fields. omega arith))
