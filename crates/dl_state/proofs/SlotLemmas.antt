-- What a write to a label does to the state.
use Rattle.std.proofs.Common.{◌≡◌, ◌<◌, ◌+◌, ℕ, zero, suc, List, [], ◌∷◌, length, map, take, get_or, slice_set, refl, ap, sym, ◌∙◌, subst, arith}
use Rattle.std.specs.Prelude.{unwrap_or, max}
use Rattle.std.specs.List.{All}
use Rattle.std.specs.Option.{option_map}
use Rattle.std.proofs.lemmas.Option.{slice_get-map}
use Rattle.std.proofs.lemmas.List.{map-set, take_more_set, get_or-map, length-map}
use Rattle.std.proofs.lemmas.List.Elements.{All-set, All-push, All-map}
use Rattle.dl_term.specs.State.{State, Statelet, statelet}
use Rattle.dl_model.specs.Steps.{change, with_statelet}
use Rattle.dl_state.specs.declared.world.Slot.{Slot}
use Rattle.dl_state.specs.declared.world.WorldState.TheInside.{Inside}
use Rattle.dl_state.specs.Known.{Known}
use Rattle.dl_state.specs.Kept.{statelet_of, known_of, HasSpare, SlotCanGrow}
use Rattle.dl_state.specs.Writes.{CanGrow}
use Rattle.dl_state.proofs.LaidLemmas.{set-change, found-at}

-- an item that is replaced by its change
pub set-changed : {X : Type 0} (f : X → X) (xs : List X) (i : ℕ) (x y : X) → i < length xs → x ≡ get_or xs i x → y ≡ f x → slice_set xs i y ≡ change f xs i
set-changed f [] i x y h e g = absurd (omega arith)
set-changed f (z ∷ zs) zero x y h e g = λ i. (g ∙ ap f e) i ∷ zs
set-changed f (z ∷ zs) (suc n) x y h e g = ap (λ ws. z ∷ ws) (set-changed f zs n x y (omega arith) e g)

-- the label's statelet
pub slot-is : (w : Inside) (known : Known) (from label : ℕ) (slot : Slot) → known_of w ≡ known → from ≡ label → from < length w.labels.items → slot ≡ get_or w.labels.items from slot
    → statelet known.state label ≡ statelet_of slot
slot-is w known from label slot view at h e =
    ap (λ (k : Known). statelet k.state label) (sym view)
    ∙ ap (λ o. unwrap_or {T = Statelet} o (record { fields = []; soup = [] }))
    (slice_get-map statelet_of w.labels.items label ∙ ap (option_map statelet_of) (found-at w.labels.items from label slot at h e))

pub slot-written : (w : Inside) (known : Known) (from label : ℕ) (new : Slot) (at : Statelet) → known_of w ≡ known → from ≡ label → statelet_of new ≡ at
    → ◌≡◌ {A = State} (record { nodes = w.nodes; labels = map statelet_of (slice_set w.labels.items from new) }) (with_statelet known.state label at)
slot-written w known from label new at view same is =
    (λ i. record { nodes = w.nodes; labels = (map-set statelet_of w.labels.items from new ∙ set-change (map statelet_of w.labels.items) from (statelet_of new)) i })
    ∙ (λ i. record { nodes = w.nodes; labels = change (λ old. is i) (map statelet_of w.labels.items) (same i) })
    ∙ ap (λ (k : Known). with_statelet k.state label at) view

pub known-written : (w : Inside) (known : Known) (from label : ℕ) (new : Slot) (at : Statelet) → known_of w ≡ known → from ≡ label → statelet_of new ≡ at
    → ◌≡◌ {A = Known} (record { state = record { nodes = w.nodes; labels = map statelet_of (slice_set w.labels.items from new) }; spare = w.spare }) (record { state = with_statelet known.state label at; spare = known.spare })
known-written w known from label new at view same is =
    λ i. record { state = slot-written w known from label new at view same is i; spare = ap (λ (k : Known). k.spare) view i }

-- ---- room

all-map : {X Y : Type 0} (P : Y → Type 0) (f : X → Y) (xs : List X) → All P (map f xs) → All (λ x. P (f x)) xs
all-map P f xs h = λ k d lt. subst P (get_or-map f xs k d (f d) lt) (h k (f d) (subst (λ n. k < n) (sym (length-map xs f)) lt))

-- one state's labels can grow where those of an equal one can
pub grow-kept : (more : ℕ) (before now : List Slot) → map statelet_of now ≡ map statelet_of before → All (SlotCanGrow more) before → All (SlotCanGrow more) now
grow-kept more before now same h = all-map (CanGrow more) statelet_of now (subst (All (CanGrow more)) (sym same) (All-map (CanGrow more) statelet_of before h))

pub can-grow : (more : ℕ) (w : Inside) (known : Known) → known_of w ≡ known → All (CanGrow more) known.state.labels → All (SlotCanGrow more) w.labels.items
can-grow more w known view h = all-map (CanGrow more) statelet_of w.labels.items (subst (λ (k : Known). All (CanGrow more) k.state.labels) (sym view) h)

pub all-max : (spare more both : ℕ) (slots : List Slot) → both ≡ max spare more → All (HasSpare spare) slots → All (HasSpare more) slots → All (HasSpare both) slots
all-max spare more both slots e h k = λ n d lt. let a = h n d lt in let b = k n d lt in omega (arith, a, b, e)

-- what holds of the soups while room is made in each
pub record Growing (more : ℕ) (before now : List Slot) (count : ℕ) : Type 0 where
  pub same : map statelet_of now ≡ map statelet_of before
  pub kept : (spare : ℕ) → All (HasSpare spare) before → All (HasSpare spare) now
  pub room : All (HasSpare more) (take count now)

pub map-same : {X Y : Type 0} (f : X → Y) (xs : List X) (i : ℕ) (d y : X) → i < length xs → f y ≡ f (get_or xs i d) → map f (slice_set xs i y) ≡ map f xs
map-same f [] i d y h g = refl
map-same f (z ∷ zs) zero d y h g = ap (λ v. v ∷ map f zs) g
map-same f (z ∷ zs) (suc n) d y h g = ap (λ ws. f z ∷ ws) (map-same f zs n d y (omega arith) g)

pub grown : (more : ℕ) (before now : List Slot) (i : ℕ) (d new : Slot) → Growing more before now i → i < length now
    → statelet_of new ≡ statelet_of (get_or now i d) → new.messages.spare ≡ max (get_or now i d).messages.spare more → Growing more before (slice_set now i new) (i + 1)
grown more before now i d new h lt same spare = record {
  same = map-same statelet_of now i d new lt same ∙ h.same;
  kept = λ s all. All-set (HasSpare s) now i new (let had : HasSpare s (get_or now i d) = h.kept s all i d lt in omega (arith, had, spare)) (h.kept s all);
  room = subst (All (HasSpare more)) (sym (take_more_set now i new lt))
      (All-push (HasSpare more) (take i now) new h.room (omega (arith, spare)));
}
