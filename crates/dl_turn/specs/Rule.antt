-- The rule of the table, which holds between any two steps.
-- Word 0 counts the turns that have ended and word 1 those that were drawn, both modulo 2^64. The slot has the value, or nothing while a seat is inside.
use Rattle.std.specs.Prelude.{◌≡◌, ◌≢◌, ◌⊎◌, ℕ, ◌+◌, ◌%◌, ◌^◌, ◌<◌, ◌≤◌, true, false, List, [], ◌∷◌, length, slice_index_or, All, Contains, Option, Some, nat_eq}
use Rattle.std.specs.List.{IsDistinct}
use mathlib.Core.Option.{some, none}
use mathlib.Core.Option as maybe
use lib.ListN.{get_elem?}
use Rattle.atomic_table.specs.Table.{State}
use Rattle.dl_turn.specs.declared.view.View.{View}
use Rattle.dl_turn.specs.Lists.{GrownByOthers}
use Rattle.dl_turn.specs.Views.{Claim, waiting}

-- In these records `who` says who has each number: 0 is for nobody yet, 1 for a seat that was taken in, and id + 2 for the seat id of the table. A function gives a number to one at most.
module _ {I G : Type 0} where
  -- the maker's view: the numbers that it has still to deal
  pub record FitsMaker (numbers : List ℕ) (count : ℕ) (base : G) (who : ℕ → ℕ) (id : ℕ) (v : View I G) : Type 0 where
    pub only : id ≡ 0
    pub apart : v.is_live ≡ false
    pub ground : v.ground ≡ Some base
    pub few : count + length v.to_deal ≤ 17
    pub new : All (λ n. who n ≡ 0) v.to_deal
    pub distinct : IsDistinct nat_eq v.to_deal
    pub among : All (λ n. Contains numbers n) v.to_deal

  -- what holds of the view with this id
  pub record Fits (numbers : List ℕ) (serving drawn count : ℕ) (log : List (ℕ × I)) (base : G) (who holder : ℕ → ℕ) (id : ℕ) (v : View I G) : Type 0 where
    pub ground : v.is_live ≡ true → v.ground ≡ Some base
    pub named : v.is_live ≡ true → who v.number ≡ id + 2
    pub grown : v.is_live ≡ true → GrownByOthers v.number v.seen log
    pub is_live : v.is_waiting ≡ true → v.is_live ≡ true
    pub from : v.is_waiting ≡ true → serving ≤ v.turn
    pub below : v.is_waiting ≡ true → v.turn < drawn
    pub holds : v.is_waiting ≡ true → holder v.turn ≡ id
    pub is_waiting : v.is_inside ≡ true → v.is_waiting ≡ true
    pub first : v.is_inside ≡ true → v.turn ≡ serving
    pub whole : v.is_inside ≡ true → v.seen ≡ log
    pub joined : All (λ (c : Claim I G). (who c.0 ≡ 1) × GrownByOthers c.0 c.1 log × (c.2 ≡ Some base)) v.joined
    pub is_maker : v.is_maker ≡ true → FitsMaker numbers count base who id v

  -- each of these numbers is the seat's, or that of a seat that it took in
  abbrev pub AllBack : List ℕ → View I G → Type 0
  AllBack numbers v = (n : ℕ) → Contains numbers n → (v.number ≡ n) ⊎ ((k : ℕ) × (k < length v.joined) × ((d : Claim I G) → (slice_index_or v.joined k d).0 ≡ n))

module _ {T I G : Type 0} (entries : T → List (ℕ × I)) (ground : T → G) where
  -- the value is at home, or a seat is inside
  abbrev pub Slot : List (ℕ × I) → G → List (maybe.Option (Option T)) → List (View I G) → Type 0
  Slot log base homes views =
      ((value : T) × (get_elem? homes 0 ≡ some (some (Some value))) × (entries value ≡ log) × (ground value ≡ base))
      ⊎ ((id : ℕ) × (v : View I G) × (get_elem? views id ≡ some v) × (v.is_inside ≡ true))

  -- The turns that are out are as many as the numbers from `serving` up to before `drawn`, each seat has one of these numbers, and `holder` gives each number one seat: so they are just these numbers
  pub record Ordered (numbers : List ℕ) (base : G) (s : State (Option T) (View I G)) : Type 0 where
    pub serving : ℕ
    pub drawn : ℕ
    pub log : List (ℕ × I)
    pub who : ℕ → ℕ
    pub holder : ℕ → ℕ
    pub words : s.words ≡ (serving % 2 ^ 64) ∷ (drawn % 2 ^ 64) ∷ []
    pub few : length s.views ≤ 17
    pub line : serving + waiting s.views ≡ drawn
    pub named : All (λ e. who e.0 ≢ 0) log
    pub known : (n : ℕ) → who n ≢ 0 → Contains numbers n
    pub each : (id : ℕ) (v : View I G) → get_elem? s.views id ≡ some v → Fits numbers serving drawn (length s.views) log base who holder id v
    pub slot : Slot log base s.homes s.views

  -- what holds of the value at the end, where v is the view of the last seat
  pub record Closed (numbers : List ℕ) (base : G) (v : View I G) (value : T) : Type 0 where
    pub stands : ground value ≡ base
    pub named : All (λ e. Contains numbers e.0) (entries value)
    pub grown : GrownByOthers v.number v.seen (entries value)
    pub mine : v.ground ≡ Some base
    pub joined : All (λ (c : Claim I G). GrownByOthers c.0 c.1 (entries value) × (c.2 ≡ Some base)) v.joined
