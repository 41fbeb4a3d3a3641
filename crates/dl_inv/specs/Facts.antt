-- The facts of a world: the coherences of its labels, and the invariants that are visible in it.
use Rattle.std.specs.Prelude.{ℕ, Bool, not, ◌&&◌, if◌then◌else◌, List, [], ◌∷◌, ◌++◌, Option, Some, None, take, slice_get, unwrap_or}
use Rattle.std.specs.List.{list_all, flat_map}
use Rattle.dl_term.specs.declared.syntax.Formula.{Formula}
use Rattle.dl_model.specs.declared.sequent.Hypothesis.{Hypothesis}
use Rattle.dl_model.specs.declared.file.World.{World}
use Rattle.dl_model.specs.declared.file.Invariant.{Invariant}
use Rattle.dl_model.specs.declared.file.Decls.{Decls}
use Rattle.dl_model.specs.Sorts.{has}
use Rattle.dl_model.specs.Lookup.{protocol_at, world_at, hook_at}
use Rattle.dl_subst.specs.Substitution.{with_label}
use Rattle.dl_inv.specs.Steps.{called}

abbrev pub agree : Bool → Bool → Bool
agree a b = if a then b else not b

-- the hook is the small world's exactly where it is the large world's and its client is one of the small world's labels
abbrev pub hook_agrees : Decls → World → World → ℕ → Bool
hook_agrees decls small large hook = agree (has small.hooks hook) (has large.hooks hook && has small.labels (hook_at decls hook).client)

-- The small world can be injected into the large one: `Injects`, as a test.
abbrev pub injects : Decls → World → World → Bool
injects decls small large =
    list_all (has large.labels) small.labels && list_all (hook_agrees decls small large) (small.hooks ++ large.hooks)

abbrev pub label_name : Decls → ℕ → ℕ
label_name decls label = unwrap_or (slice_get decls.labels label) 0

-- the coherence of a label, by the label's name
abbrev pub coherence_fact : Decls → ℕ → Option Formula → List Hypothesis
coherence_fact decls label (Some f) = called (label_name decls label) (with_label f label) ∷ []
coherence_fact decls label None = []

abbrev pub coherence_at : Decls → ℕ → List Hypothesis
coherence_at decls label = coherence_fact decls label (protocol_at decls.inst label).coherence

-- an invariant that is visible in the world, by its name
abbrev pub visible_in : Decls → World → Invariant → List Hypothesis
visible_in decls world invariant =
    if injects decls (world_at decls invariant.world) world then called invariant.sym invariant.formula ∷ [] else []

-- the facts of the world, with the first so many invariants of the file
abbrev pub facts_of : Decls → ℕ → World → List Hypothesis
facts_of decls count world = flat_map (coherence_at decls) world.labels ++ flat_map (visible_in decls world) (take count decls.invariants)
