-- The maker's view, as its seats come and go.
use Rattle.std.specs.Prelude.{◌≡◌, ℕ, true, List, [], All, Option}
use Rattle.atomic_table.specs.Seated.{TableId}
use Rattle.atomic_table.specs.declared.shared.Seat.{Seat as Token}
use Rattle.dl_turn.specs.declared.view.View.{View}
use Rattle.dl_turn.specs.declared.lock.Seat.{Seat}
use Rattle.dl_turn.specs.Seats.{number_of, seen_by, IsOut}

-- the view is the same, but for the seats that it took in
abbrev pub IsSameView : {I G : Type 0} → View I G → View I G → Type 0
IsSameView v w = (w.is_live ≡ v.is_live) × (w.is_waiting ≡ v.is_waiting) × (w.number ≡ v.number) × (w.seen ≡ v.seen) × (w.ground ≡ v.ground)

module _ {T I G : Type 0} where
  -- what a seat keeps of one that it took in
  abbrev pub claim : Seat T I G → ℕ × List (ℕ × I) × Option G
  claim s = (number_of s, seen_by s, s.token.me.0.ground)

  abbrev pub AreOut : TableId → List (Seat T I G) → Type 0
  AreOut id seats = All (λ s. (s.token.table_id ≡ id) × (s.token.me.0.is_live ≡ true) × (s.token.me.0.number ≡ s.number) × IsOut s) seats

  abbrev pub AreNew : TableId → Option G → List (Seat T I G) → Type 0
  AreNew id base seats = All (λ s. (s.token.table_id ≡ id) × (s.token.me.0.is_live ≡ true) × (s.token.me.0.number ≡ s.number) × IsOut s × (seen_by s ≡ []) × (s.token.me.0.ground ≡ base)) seats

  -- the maker has these numbers left
  pub record Deals (token : Token (Option T) (View I G)) (id : TableId) (base : Option G) (left : List ℕ) : Type 0 where
    pub table : token.table_id ≡ id
    pub is_maker : token.me.0.is_maker ≡ true
    pub ground : token.me.0.ground ≡ base
    pub rest : token.me.0.to_deal ≡ left
