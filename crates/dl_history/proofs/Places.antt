-- A machine in the list, and the list with another one in its place.
use Rattle.std.proofs.Common.{◌≡◌, ℕ, zero, suc, ◌+◌, ◌-◌, ◌<◌, ◌==◌, Bool, true, false, Option, Some, None, List, [], ◌∷◌, length, take, drop, length-take, length-drop, slice_set, refl, ap, sym, ◌∙◌, subst, cond, eq-eqb, arith}
use Rattle.std.specs.Prelude.{slice_get, option_map}
use Rattle.std.proofs.lemmas.Bool.{eqb-true}
use Rattle.std.proofs.lemmas.Option.{slice_get_within}
use Rattle.std.specs.List.{AllByRecursion as Each}
use Rattle.dl_model.specs.declared.program.Proc.{Proc}
use Rattle.dl_model.specs.Machine.{Machine}
use Rattle.dl_model.proofs.Small.{eqb-other}
use Rattle.dl_prog.specs.declared.cont.Cont.{Cont}
use Rattle.dl_prog.specs.Places.{machine_of}
use Rattle.dl_history.specs.Runners.{Runner, place_of, machine_at}

-- ---- the place

-- a place among the others
place-later : (o : Option ℕ) (place : ℕ) → option_map suc o ≡ Some place → (p : ℕ) × (o ≡ Some p) × (place ≡ suc p)
place-later (Some p) place e = (p, refl, cc)
place-later None place e = cc

-- what stands at a node's place
pub record IsPlace (runners : List Runner) (at_node place : ℕ) : Type 0 where
  pub runner : Runner
  pub there : slice_get runners place ≡ Some runner
  pub node : at_node ≡ runner.0

abbrev PlaceIs : List Runner → ℕ → Type 0
PlaceIs runners node = (place : ℕ) → place_of runners node ≡ Some place → IsPlace runners node place

place-step : (runner : Runner) (runners : List Runner) (node place : ℕ) → PlaceIs runners node → (b : Bool) → (node == runner.0) ≡ b →
    cond b (Some 0) (option_map suc (place_of runners node)) ≡ Some place → IsPlace (runner ∷ runners) node place
place-step runner runners node place more true t q =
    let first : place ≡ 0 = cc in
    record { runner = runner; there = ap (slice_get (runner ∷ runners)) first; node = eqb-true node runner.0 t }
place-step runner runners node place more false t q =
    let later = place-later (place_of runners node) place q in
    let rest = more later.0 later.1 in
    record { runner = rest.runner; there = ap (slice_get (runner ∷ runners)) later.2 ∙ rest.there; node = rest.node }

place-from : (runners : List Runner) (node : ℕ) → PlaceIs runners node
place-from [] node place e = cc
place-from (runner ∷ runners) node place e = place-step runner runners node place (place-from runners node) (node == runner.0) refl e

pub place-is : (runners : List Runner) (node place : ℕ) → place_of runners node ≡ Some place → IsPlace runners node place
place-is runners node place e = place-from runners node place e

pub place-within : (runners : List Runner) (node place : ℕ) → place_of runners node ≡ Some place → place < length runners
place-within runners node place e =
    let is = place-is runners node place e in
    slice_get_within runners place is.runner is.there

-- a place among the others is one before the last
pub place-below : (runners : List Runner) (node place : ℕ) → place_of (take (length runners - 1) (drop 1 runners)) node ≡ Some place → place + 1 < length runners + 1
place-below runners node place e =
    let within = place-within (take (length runners - 1) (drop 1 runners)) node place e in
    omega (arith, within, length-take (length runners - 1) (drop 1 runners), length-drop 1 runners)

-- ---- the machine there

abbrev MachineThere : List Proc → List Runner → ℕ → Type 0
MachineThere procs runners node =
    (place : ℕ) (runner : Runner) → place_of runners node ≡ Some place → slice_get runners place ≡ Some runner → machine_at procs runners node ≡ Some (machine_of procs runner.1)

machine-step : (procs : List Proc) (first : Runner) (runners : List Runner) (node place : ℕ) (runner : Runner) → MachineThere procs runners node → slice_get (first ∷ runners) place ≡ Some runner → (b : Bool) →
    cond b (Some 0) (option_map suc (place_of runners node)) ≡ Some place → cond b (Some (machine_of procs first.1)) (machine_at procs runners node) ≡ Some (machine_of procs runner.1)
machine-step procs first runners node place runner more s true q =
    let here : place ≡ 0 = cc in
    let same : Some first ≡ Some runner = subst (λ p. slice_get (first ∷ runners) p ≡ Some runner) here s in
    ap (λ (o : Option Runner). option_map (λ (r : Runner). machine_of procs r.1) o) same
machine-step procs first runners node place runner more s false q =
    let later = place-later (place_of runners node) place q in
    more later.0 runner later.1 (subst (λ p. slice_get (first ∷ runners) p ≡ Some runner) later.2 s)

machine-from : (procs : List Proc) (runners : List Runner) (node : ℕ) → MachineThere procs runners node
machine-from procs [] node place runner e s = cc
machine-from procs (first ∷ runners) node place runner e s = machine-step procs first runners node place runner (machine-from procs runners node) s (node == first.0) e

pub machine-there : (procs : List Proc) (runners : List Runner) (node place : ℕ) (runner : Runner) → place_of runners node ≡ Some place → slice_get runners place ≡ Some runner
    → machine_at procs runners node ≡ Some (machine_of procs runner.1)
machine-there procs runners node place runner e s = machine-from procs runners node place runner e s

none-later : (o : Option ℕ) → option_map suc o ≡ None → o ≡ None
none-later (Some p) q = cc
none-later None q = refl

no-machine-step : (procs : List Proc) (first : Runner) (runners : List Runner) (node : ℕ) → (place_of runners node ≡ None → machine_at procs runners node ≡ None) → (b : Bool) →
    cond b (Some 0) (option_map suc (place_of runners node)) ≡ None → cond b (Some (machine_of procs first.1)) (machine_at procs runners node) ≡ None
no-machine-step procs first runners node more true q = cc
no-machine-step procs first runners node more false q = more (none-later (place_of runners node) q)

pub no-machine : (procs : List Proc) (runners : List Runner) (node : ℕ) → place_of runners node ≡ None → machine_at procs runners node ≡ None
no-machine procs [] node e = refl
no-machine procs (first ∷ runners) node e = no-machine-step procs first runners node (no-machine procs runners node) (node == first.0) e

-- ---- another machine in its place

replaced-here : (procs : List Proc) (first : Runner) (runners : List Runner) (node : ℕ) (cont : Cont) (other : ℕ) → node ≡ first.0 →
    machine_at procs (record { 0 = first.0; 1 = cont } ∷ runners) other ≡ cond (other == node) (Some (machine_of procs cont)) (machine_at procs (first ∷ runners) other)
replaced-here procs first runners node cont other e = go (other == first.0) refl
  where
    go : (b : Bool) → (other == first.0) ≡ b → cond b (Some (machine_of procs cont)) (machine_at procs runners other)
        ≡ cond (other == node) (Some (machine_of procs cont)) (cond b (Some (machine_of procs first.1)) (machine_at procs runners other))
    go true t = sym (ap (λ c. cond c (Some (machine_of procs cont)) (Some (machine_of procs first.1))) (ap (λ n. other == n) e ∙ t))
    go false t = sym (ap (λ c. cond c (Some (machine_of procs cont)) (machine_at procs runners other)) (ap (λ n. other == n) e ∙ t))

-- the first node is another one
replaced-later : (procs : List Proc) (first : Runner) (x y : Option Machine) (node other : ℕ) (m : Machine) → (node == first.0) ≡ false → x ≡ cond (other == node) (Some m) y →
    cond (other == first.0) (Some (machine_of procs first.1)) x ≡ cond (other == node) (Some m) (cond (other == first.0) (Some (machine_of procs first.1)) y)
replaced-later procs first x y node other m t h = go (other == first.0) refl
  where
    go : (b : Bool) → (other == first.0) ≡ b → cond b (Some (machine_of procs first.1)) x ≡ cond (other == node) (Some m) (cond b (Some (machine_of procs first.1)) y)
    go true q =
        let same : other ≡ first.0 = eqb-true other first.0 q in
        let apart : (other == node) ≡ false = eqb-other other node (λ w. absurd (cc (sym t ∙ eq-eqb node first.0 (sym w ∙ same)))) in
        sym (ap (λ c. cond c (Some m) (Some (machine_of procs first.1))) apart)
    go false q = h

-- the list has another machine at the place, and the others as before
abbrev Replaced : List Proc → List Runner → ℕ → Cont → ℕ → Type 0
Replaced procs runners node cont other =
    (place : ℕ) (runner : Runner) → place_of runners node ≡ Some place → slice_get runners place ≡ Some runner →
    machine_at procs (slice_set runners place (record { 0 = runner.0; 1 = cont })) other ≡ cond (other == node) (Some (machine_of procs cont)) (machine_at procs runners other)

replaced-step : (procs : List Proc) (first : Runner) (runners : List Runner) (node place : ℕ) (runner : Runner) (cont : Cont) (other : ℕ) → Replaced procs runners node cont other →
    slice_get (first ∷ runners) place ≡ Some runner → (b : Bool) → (node == first.0) ≡ b → cond b (Some 0) (option_map suc (place_of runners node)) ≡ Some place →
    machine_at procs (slice_set (first ∷ runners) place (record { 0 = runner.0; 1 = cont })) other ≡ cond (other == node) (Some (machine_of procs cont)) (machine_at procs (first ∷ runners) other)
replaced-step procs first runners node place runner cont other more s true t q =
    let here : place ≡ 0 = cc in
    let found : slice_get (first ∷ runners) 0 ≡ Some runner = subst (λ p. slice_get (first ∷ runners) p ≡ Some runner) here s in
    let same : first ≡ runner = cc in
    (λ i. machine_at procs (slice_set (first ∷ runners) (here i) (record { 0 = (sym same i).0; 1 = cont })) other)
    ∙ replaced-here procs first runners node cont other (eqb-true node first.0 t)
replaced-step procs first runners node place runner cont other more s false t q =
    let later = place-later (place_of runners node) place q in
    ap (λ p. machine_at procs (slice_set (first ∷ runners) p (record { 0 = runner.0; 1 = cont })) other) later.2
    ∙ replaced-later procs first (machine_at procs (slice_set runners later.0 (record { 0 = runner.0; 1 = cont })) other) (machine_at procs runners other) node other (machine_of procs cont) t
    (more later.0 runner later.1 (subst (λ p. slice_get (first ∷ runners) p ≡ Some runner) later.2 s))

replaced-from : (procs : List Proc) (runners : List Runner) (node : ℕ) (cont : Cont) (other : ℕ) → Replaced procs runners node cont other
replaced-from procs [] node cont other place runner e s = cc
replaced-from procs (first ∷ runners) node cont other place runner e s =
    replaced-step procs first runners node place runner cont other (replaced-from procs runners node cont other) s (node == first.0) refl e

pub machine-replaced : (procs : List Proc) (runners : List Runner) (node place : ℕ) (runner : Runner) (cont : Cont) (other : ℕ) → place_of runners node ≡ Some place → slice_get runners place ≡ Some runner →
    machine_at procs (slice_set runners place (record { 0 = runner.0; 1 = cont })) other ≡ cond (other == node) (Some (machine_of procs cont)) (machine_at procs runners other)
machine-replaced procs runners node place runner cont other e s = replaced-from procs runners node cont other place runner e s

-- ---- what holds of each

pub each-replaced : (P : Runner → Type 0) (runners : List Runner) (place : ℕ) (new : Runner) → Each P runners → P new → Each P (slice_set runners place new)
each-replaced P [] place new h n = tt
each-replaced P (r ∷ rs) zero new h n = (n, h.1)
each-replaced P (r ∷ rs) (suc place) new h n = (h.0, each-replaced P rs place new h.1 n)
