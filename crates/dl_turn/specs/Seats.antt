-- What a caller says of a lock and of its seats. Callers use these words, and need none of the fields behind them.
use Rattle.std.specs.Prelude.{◌≡◌, ℕ, true, false, List, [], ◌∷◌, map, Contains, Some, None}
use Rattle.dl_turn.specs.declared.lock.Seat.{Seat}
use Rattle.dl_turn.specs.declared.lock.Turn.{Turn}
use Rattle.dl_turn.specs.Lists.{entries_of}

module _ {T I G : Type 0} where
  -- the number of the seat
  abbrev pub number_of : Seat T I G → ℕ
  number_of seat = seat.number

  -- the list as the seat saw it last: inside, the one that it took out, and else the one that it put back
  abbrev pub seen_by : Seat T I G → List (ℕ × I)
  seen_by seat = seat.token.me.0.seen

  -- the entries of the turns that the seat took, in order: those of its number in what it has seen
  abbrev pub own_of : Seat T I G → List (ℕ × I)
  own_of seat = entries_of (number_of seat) (seen_by seat)

  -- this is the ground that the seat knows
  abbrev pub KnowsGround : Seat T I G → G → Type 0
  KnowsGround seat base = seat.token.me.0.ground ≡ Some base

  -- it is a seat of this lock
  abbrev pub IsOf : Turn T I G → Seat T I G → Type 0
  IsOf lock seat = (seat.token.table_id ≡ lock.table.shared.table_id) × (seat.token.me.0.is_live ≡ true) × (seat.token.me.0.number ≡ seat.number)

  -- it isn't inside, and waits for no turn
  abbrev pub IsOut : Seat T I G → Type 0
  IsOut seat = (seat.token.me.0.is_waiting ≡ false) × (seat.token.me.0.is_inside ≡ false) × (seat.token.me.1 ≡ [])

  -- it is inside: its caller has the value
  abbrev pub IsInside : Seat T I G → Type 0
  IsInside seat = (seat.token.me.0.is_inside ≡ true) × (seat.token.me.1 ≡ (0, None) ∷ [])

  -- it is the same seat of the same lock, with the same number, and knows the same ground
  abbrev pub IsSameSeat : Seat T I G → Seat T I G → Type 0
  IsSameSeat old new = (new.token.table_id ≡ old.token.table_id) × (new.token.id ≡ old.token.id) × (new.token.me.0.is_live ≡ old.token.me.0.is_live) × (number_of new ≡ number_of old) × (new.token.me.0.number ≡ old.token.me.0.number) × (new.token.me.0.ground ≡ old.token.me.0.ground)

  -- the numbers of the lock's seats
  abbrev pub numbers_of : Turn T I G → List ℕ
  numbers_of lock = lock.table.shared.key.numbers.value.items

  -- the value that the lock was made with
  abbrev pub made_with : Turn T I G → T
  made_with lock = lock.table.shared.key.value.value

  -- it is a seat of this lock that took no turn: it is out, has seen nothing, and knows this ground
  abbrev pub IsNew : Turn T I G → G → Seat T I G → Type 0
  IsNew lock base seat = IsOf lock seat × IsOut seat × (seen_by seat ≡ []) × KnowsGround seat base

  -- each number of the lock is the number of one of these seats
  abbrev pub AreAll : Turn T I G → List (Seat T I G) → Type 0
  AreAll lock seats = (n : ℕ) → Contains (numbers_of lock) n → Contains (map number_of seats) n
