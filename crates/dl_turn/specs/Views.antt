-- The views of the seats, and what each kind of step does to one and tells its seat.
use Rattle.std.specs.Prelude.{◌≡◌, ◌≢◌, ℕ, ◌+◌, ◌%◌, ◌^◌, true, false, List, [], ◌∷◌, if◌then◌else◌, Option, Some, None}
use Rattle.atomic_table.specs.Table.{Me}
use Rattle.dl_turn.specs.declared.view.View.{View}
use Rattle.dl_turn.specs.Lists.{GrownByOthers}

abbrev pub head : List ℕ → ℕ
head [] = 0
head (n ∷ ns) = n

abbrev pub tail : List ℕ → List ℕ
tail [] = []
tail (n ∷ ns) = ns

-- a seat that was taken in: its number, what it had seen, and its ground
abbrev pub Claim : Type 0 → Type 0 → Type 0
Claim I G = ℕ × List (ℕ × I) × Option G

module _ {I G : Type 0} where
  -- 1 for a seat that has a turn
  abbrev pub busy : View I G → ℕ
  busy v = if v.is_waiting then 1 else 0

  -- how many turns are out
  abbrev pub waiting : List (View I G) → ℕ
  waiting [] = 0
  waiting (v ∷ vs) = busy v + waiting vs

  -- the maker's view at the start
  abbrev pub maker : List ℕ → G → View I G
  maker numbers ground = record { is_maker = true; is_live = false; is_waiting = false; is_inside = false; number = 0; turn = 0; seen = []; ground = Some ground; to_deal = numbers; joined = [] }

  -- the maker, after it gave out its next number
  abbrev pub gave : View I G → View I G
  gave v = record v { to_deal = tail v.to_deal }

  -- the seat that gets the number
  abbrev pub seated : View I G → View I G
  seated v = record { is_maker = false; is_live = true; is_waiting = false; is_inside = false; number = head v.to_deal; turn = 0; seen = []; ground = v.ground; to_deal = []; joined = [] }

  -- a seat that drew this turn
  abbrev pub queued : View I G → ℕ → View I G
  queued v turn = record v { is_waiting = true; turn = turn }

  -- a seat that took out the list
  abbrev pub entered : View I G → List (ℕ × I) → View I G
  entered v log = record v { is_inside = true; seen = log }

  -- a seat that put back the list
  abbrev pub parted : View I G → List (ℕ × I) → View I G
  parted v log = record v { is_inside = false; is_waiting = false; seen = log }

  -- a seat, after it took in another
  abbrev pub took : View I G → View I G → View I G
  took v w = record v { joined = (w.number, w.seen, w.ground) ∷ v.joined }

  -- the view that is left of the other
  abbrev pub spent : View I G
  spent = record { is_maker = false; is_live = false; is_waiting = false; is_inside = false; number = 0; turn = 0; seen = []; ground = None; to_deal = []; joined = [] }

  -- the seat has a turn, which the word told modulo 2^64
  abbrev pub drew : {S : Type 0} → Me S (View I G) → ℕ → Me S (View I G) → Type 0
  drew old told new = (turn : ℕ) × (turn % 2 ^ 64 ≡ told) × (new ≡ (queued old.0 turn, old.1))

module _ {T I G : Type 0} (entries : T → List (ℕ × I)) (ground : T → G) where
  -- The seat has taken the value out. Its list begins with what the seat had seen, and what came since is of other seats
  pub record Entered (v : View I G) (new : Me (Option T) (View I G)) : Type 0 where
    pub value : T
    pub holds : new.1 ≡ (0, Some value) ∷ []
    pub view : new.0 ≡ entered v (entries value)
    pub grown : GrownByOthers v.number v.seen (entries value)
    pub stands : v.ground ≡ Some (ground value)

  -- the seat is inside where its turn is the one that is served, and else nothing changes
  abbrev pub looked : Me (Option T) (View I G) → ℕ → Me (Option T) (View I G) → Type 0
  looked old told new = (told ≡ old.0.turn % 2 ^ 64 → Entered old.0 new) × (told ≢ old.0.turn % 2 ^ 64 → new ≡ old)

  -- the seat has given the value back, and has seen its list
  abbrev pub advanced : Me (Option T) (View I G) → ℕ → Me (Option T) (View I G) → Type 0
  advanced old told new = (value : T) × (old.1 ≡ (0, Some value) ∷ []) × (new ≡ (parted old.0 (entries value), []))
