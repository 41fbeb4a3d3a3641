-- What a world shows: the labels and invariants that an obligation in it has as hypotheses.
use Rattle.std.specs.Prelude.{Bool, true, false, not, ◌&&◌, List, [], ◌∷◌, ◌++◌, unwrap_or, if◌then◌else◌}
use Rattle.std.specs.List.{list_all}
use Rattle.dl_forms.specs.Context.{Text, is_among, look_up}
use Rattle.dl_notation.specs.Environment.{WorldNames, Environment, no_protocol, protocol_of}

abbrev pub no_world : WorldNames
no_world = record { labels = []; hooks = [] }

abbrev pub world_named : Environment → Text → WorldNames
world_named env name = unwrap_or (look_up name env.worlds) no_world

-- those of the second list that aren't in the first one, behind it
abbrev pub without : List Text → List Text → List Text
without names [] = []
without names (text ∷ texts) = if is_among text names then without names texts else text ∷ without names texts

abbrev pub united : List Text → List Text → List Text
united first second = first ++ without first second

abbrev pub composed : WorldNames → WorldNames → WorldNames
composed first second = record { labels = united first.labels second.labels; hooks = united first.hooks second.hooks }

abbrev pub same_truth : Bool → Bool → Bool
same_truth true b = b
same_truth false b = not b

-- The small world can be injected into the large one: its labels are labels there, and the hooks of the large one whose client is one of its
-- labels are exactly its own.
abbrev pub is_injected : Environment → WorldNames → WorldNames → Bool
is_injected env small large =
    list_all (λ label. is_among label large.labels) small.labels
    && list_all (λ (hook : Text × Text). same_truth (is_among hook.0 small.hooks) (is_among hook.0 large.hooks && is_among hook.1 small.labels)) env.hooks

-- the names of the invariants that are visible in the world
abbrev pub visible : Environment → WorldNames → List (Text × Text) → List Text
visible env world [] = []
visible env world (invariant ∷ invariants) =
    if is_injected env (world_named env invariant.1) world then invariant.0 ∷ visible env world invariants else visible env world invariants

-- the labels that have a coherence
abbrev pub coherent : Environment → List Text → List Text
coherent env [] = []
coherent env (label ∷ labels) = if (unwrap_or (protocol_of env label) no_protocol).is_coherent then label ∷ coherent env labels else coherent env labels

-- what an obligation in the world knows besides its own hypotheses
abbrev pub facts : Environment → WorldNames → List Text
facts env world = coherent env world.labels ++ visible env world env.invariants
