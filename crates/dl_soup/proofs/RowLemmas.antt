-- The lists of live ids after a step.
use Rattle.std.proofs.Common.{◌≡◌, ◌<◌, ◌≤◌, ◌+◌, ◌^◌, ℕ, zero, suc, ℤ, true, Option, Some, None, List, [], ◌∷◌, ◌++◌, length, map, get_or, slice_set, refl, ap, sym, ◌∙◌, subst, arith}
use Rattle.std.specs.Prelude.{slice_get, unwrap_or, replicate}
use Rattle.std.specs.Option.{option_map}
use Rattle.std.specs.List.{All, filter}
use Rattle.std.proofs.lemmas.Option.{slice_get-map}
use Rattle.std.proofs.lemmas.List.{map-set, length-map}
use Rattle.std.proofs.lemmas.List.Elements.{All-map, All-set, All-replicate}
use Rattle.dl_term.specs.State.{State, Statelet, soup_at}
use Rattle.dl_model.specs.declared.protocol.Instances.{Instances}
use Rattle.dl_model.specs.Steps.{change, consumed, with_statelet, after_send, after_receive, statelet_sent, statelet_received}
use Rattle.dl_state.specs.declared.shape.FieldShape.{FieldShape}
use Rattle.dl_state.specs.declared.shape.Shape.{Shape}
use Rattle.dl_state.specs.Shapes.{shape_state, shape_statelet}
use Rattle.dl_state.specs.Writes.{CanGrow}
use Rattle.dl_state.proofs.LaidLemmas.{set-change, found-at}
use Rattle.dl_soup.specs.Live.{is_live, live_in, live_at, live_of, other_than}
use Rattle.dl_soup.specs.IdRows.{IdRow}
use Rattle.dl_soup.specs.PoolKept.{ids_of, HasSpare}
use Rattle.dl_soup.proofs.LiveLemmas.{live-pushed, live-changed}

-- ---- what is found

abbrev ids_or : Option IdRow → List ℕ
ids_or (Some row) = row.ids
ids_or None = []

same-row : (o : Option IdRow) (at : Option Statelet) → option_map ids_of o ≡ option_map live_at at → live_in (unwrap_or at (record { fields = []; soup = [] })).soup ≡ ids_or o
same-row (Some row) (Some at) e = ap (λ (o : Option (List ℕ)). unwrap_or o []) (sym e)
same-row (Some row) None e = cc
same-row None (Some at) e = cc
same-row None None e = refl

row-or : (rows : List IdRow) (s : State) (label : ℕ) → map ids_of rows ≡ live_of s → live_in (soup_at s label) ≡ ids_or (slice_get rows label)
row-or rows s label e =
    same-row (slice_get rows label) (slice_get s.labels label)
    (sym (slice_get-map ids_of rows label) ∙ ap (λ (xs : List (List ℕ)). slice_get xs label) e ∙ slice_get-map live_at s.labels label)

pub row-found : (rows : List IdRow) (s : State) (label : ℕ) (row : IdRow) → map ids_of rows ≡ live_of s → slice_get rows label ≡ Some row → row.ids ≡ live_in (soup_at s label)
row-found rows s label row e found = sym (row-or rows s label e ∙ ap ids_or found)

pub row-lacks : (rows : List IdRow) (s : State) (label : ℕ) → map ids_of rows ≡ live_of s → slice_get rows label ≡ None → [] ≡ live_in (soup_at s label)
row-lacks rows s label e found = sym (row-or rows s label e ∙ ap ids_or found)

pub row-at : (rows : List IdRow) (s : State) (from label : ℕ) (row : IdRow) → map ids_of rows ≡ live_of s → from ≡ label → from < length rows → row ≡ get_or rows from row → row.ids ≡ live_in (soup_at s label)
row-at rows s from label row e same lt is = row-found rows s label row e (found-at rows from label row same lt is)

pub rows-count : (rows : List IdRow) (s : State) → map ids_of rows ≡ live_of s → length rows ≡ length s.labels
rows-count rows s e = sym (length-map rows ids_of) ∙ ap length e ∙ length-map s.labels live_at

-- ---- what is written

map-change : {X Y : Type 0} (f : X → Y) (new : X) (xs : List X) (i : ℕ) → map f (change (λ old. new) xs i) ≡ change (λ old. f new) (map f xs) i
map-change f new [] i = refl
map-change f new (x ∷ xs) zero = refl
map-change f new (x ∷ xs) (suc i) = ap (λ ys. f x ∷ ys) (map-change f new xs i)

pub row-written : (rows : List IdRow) (s : State) (from label : ℕ) (row : IdRow) (new : Statelet) → map ids_of rows ≡ live_of s → from ≡ label → row.ids ≡ live_at new
    → map ids_of (slice_set rows from row) ≡ live_of (with_statelet s label new)
row-written rows s from label row new e same is =
    map-set ids_of rows from row
    ∙ set-change (map ids_of rows) from row.ids
    ∙ (λ i. change (λ old. is i) (e i) (same i))
    ∙ sym (map-change live_at new s.labels label)

pub row-sent : (inst : Instances) (rows : List IdRow) (s after : State) (node from label tag id : ℕ) (to : ℤ) (args : List ℤ) (before row : IdRow) → map ids_of rows ≡ live_of s → from ≡ label → from < length rows
    → before ≡ get_or rows from before → id ≡ length (soup_at s label) → row.ids ≡ before.ids ++ id ∷ [] → after ≡ after_send inst s node label tag to args
    → map ids_of (slice_set rows from row) ≡ live_of after
row-sent inst rows s after node from label tag id to args before row e same lt is last pushed sent =
    row-written rows s from label row (statelet_sent inst s node label tag to args) e same
    (pushed
    ∙ (λ i. row-at rows s from label before e same lt is i ++ last i ∷ [])
    ∙ sym (live-pushed is_live (soup_at s label) (record { tag = tag; from = node; to = to; live = true; args = args }) refl))
    ∙ ap live_of (sym sent)

pub row-received : (inst : Instances) (rows : List IdRow) (s after : State) (node from label id : ℕ) (before row : IdRow) → map ids_of rows ≡ live_of s → from ≡ label → from < length rows
    → before ≡ get_or rows from before → row.ids ≡ filter (other_than id) before.ids → after ≡ after_receive inst s node label id
    → map ids_of (slice_set rows from row) ≡ live_of after
row-received inst rows s after node from label id before row e same lt is removed received =
    row-written rows s from label row (statelet_received inst s node label id) e same
    (removed
    ∙ ap (λ (ids : List ℕ). filter (other_than id) ids) (row-at rows s from label before e same lt is)
    ∙ sym (live-changed is_live consumed (soup_at s label) id (λ m. refl) refl))
    ∙ ap live_of (sym received)

-- ---- room

pub all-room : (spare less from : ℕ) (rows : List IdRow) (row : IdRow) → less ≤ spare → less ≤ row.spare → All (HasSpare spare) rows → All (HasSpare less) (slice_set rows from row)
all-room spare less from rows row h k all = All-set (HasSpare less) rows from row k (λ n d lt. let a = all n d lt in omega (arith, a))

-- a row has as much room as each
pub room-at : (spare : ℕ) (rows : List IdRow) (from : ℕ) (row : IdRow) → from < length rows → row ≡ get_or rows from row → All (HasSpare spare) rows → spare ≤ row.spare
room-at spare rows from row lt is all = subst (λ (r : IdRow). spare ≤ r.spare) (sym is) (all from row lt)

-- ---- at first

empty-rows : (nodes : ℕ) (labels : List (List FieldShape)) (room : ℕ) → map ids_of (replicate (length labels) (record { ids = []; spare = room })) ≡ map live_at (map (shape_statelet nodes) labels)
empty-rows nodes [] room = refl
empty-rows nodes (fields ∷ labels) room = ap (λ (xs : List (List ℕ)). [] ∷ xs) (empty-rows nodes labels room)

pub first-rows : (shape : Shape) (room count : ℕ) (s : State) → count ≡ length shape.labels → s ≡ shape_state shape → map ids_of (replicate count (record { ids = []; spare = room })) ≡ live_of s
first-rows shape room count s e is =
    ap (λ (n : ℕ). map ids_of (replicate n (record { ids = []; spare = room }))) e
    ∙ empty-rows shape.nodes shape.labels room
    ∙ ap live_of (sym is)

pub first-room : (count room : ℕ) → All (HasSpare room) (replicate count (record { ids = []; spare = room }))
first-room count room = All-replicate (HasSpare room) count (record { ids = []; spare = room }) (omega arith)

small-room : (room : ℕ) → room < 2 ^ 32 → 0 + room < 2 ^ 32
small-room room h = omega arith

-- each label has room for messages
pub first-grow : (shape : Shape) (room : ℕ) (s : State) → room < 2 ^ 32 → s ≡ shape_state shape → All (CanGrow room) s.labels
first-grow shape room s h e =
    subst (λ (s : State). All (CanGrow room) s.labels) (sym e) (All-map (CanGrow room) (shape_statelet shape.nodes) shape.labels (λ k d lt. small-room room h))

pub room-first : (count room spare : ℕ) (rows : List IdRow) → spare ≡ room → rows ≡ replicate count (record { ids = []; spare = room }) → All (HasSpare spare) rows
room-first count room spare rows e is =
    subst (λ (n : ℕ). All (HasSpare n) rows) (sym e) (subst (λ (xs : List IdRow). All (HasSpare room) xs) (sym is) (first-room count room))
