-- The serial schedule: rounds in which each node with a program has one turn, in the order of the node list.
use Rattle.std.specs.Prelude.{◌≡◌, ℕ, zero, suc, ◌+◌, ◌-◌, Bool, true, false, ◌||◌, if◌then◌else◌, Option, Some, None, List, [], ◌∷◌}
use Rattle.dl_model.specs.declared.history.Call.{Call}
use Rattle.dl_model.specs.declared.program.Proc.{Proc}
use Rattle.dl_model.specs.Machine.{Machine, Next, Ticks, Asks, Ends, Stops, next, after_reply}
use Rattle.dl_model.specs.Ends.{Rest, after_ticks}
use Rattle.dl_soup.specs.Seen.{Seen}
use Rattle.dl_soup.specs.Replies.{acted, can_call, reply_of}

-- A node with a program: its machine, its ticks since its last entry, and its units.
pub record Player : Type 0 where
  pub node : ℕ
  pub machine : Machine
  pub ticks : ℕ
  pub units : ℕ

-- ---- a turn

-- the units that are left
abbrev pub left_of : ℕ → Player → ℕ
left_of budget player = budget - player.units

-- the node after the ticks that lead to a machine with this many units left
abbrev pub rested : ℕ → Player → Rest → Player
rested budget player rest = record {
  node = player.node;
  machine = rest.machine;
  ticks = player.ticks + (left_of budget player - rest.left);
  units = player.units + (left_of budget player - rest.left);
}

-- A turn begins with the node's ticks up to a call, an end or the budget.
abbrev pub ticked : List Proc → ℕ → Player → Player
ticked procs budget player = rested budget player (after_ticks procs (left_of budget player) player.machine)

-- the call that the machine asks for, where units are left
abbrev pub asked : ℕ → Next → Option Call
asked zero _ = None
asked (suc left) (Asks call) = Some call
asked (suc left) (Ticks after) = None
asked (suc left) (Ends result) = None
asked (suc left) Stops = None

-- an await is made only where there is a match
abbrev pub if_can : Seen → ℕ → Option Call → Option Call
if_can soup node (Some call) = if can_call soup node call then Some call else None
if_can soup node None = None

-- The call that is then made, if one is.
abbrev pub call_of : List Proc → ℕ → Seen → Player → Option Call
call_of procs budget soup player = if_can soup player.node (asked (left_of budget player) (next procs player.machine))

-- the soup and the node after the turn, and whether there is a new entry
pub record Turn : Type 0 where
  pub soup : Seen
  pub player : Player
  pub acts : Bool

-- The node makes the call and takes the reply.
abbrev pub called : Seen → Player → Option Call → Turn
called soup player (Some call) = record {
  soup = acted soup player.node player.ticks call;
  player = record {
    node = player.node;
    machine = after_reply player.machine (reply_of soup player.node call);
    ticks = 0;
    units = player.units + 1;
  };
  acts = true;
}
called soup player None = record { soup = soup; player = player; acts = false }

abbrev pub turn_of : List Proc → ℕ → Seen → Player → Turn
turn_of procs budget soup player = called soup (ticked procs budget player) (call_of procs budget soup (ticked procs budget player))

-- ---- rounds

-- the soup and the nodes after a round, and whether there is a new entry
pub record Round : Type 0 where
  pub soup : Seen
  pub players : List Player
  pub acts : Bool

-- a turn and the rest of the round
abbrev pub joined : Turn → Round → Round
joined turn rest = record { soup = rest.soup; players = turn.player ∷ rest.players; acts = turn.acts || rest.acts }

abbrev pub round_of : List Proc → ℕ → Seen → List Player → Round
round_of procs budget soup [] = record { soup = soup; players = []; acts = false }
round_of procs budget soup (player ∷ players) =
    joined (turn_of procs budget soup player) (round_of procs budget (turn_of procs budget soup player).soup players)

-- This many rounds with an entry, and then one without, lead from the one soup and its nodes to the other.
abbrev pub Rounds : List Proc → ℕ → ℕ → Seen → List Player → Seen → List Player → Type 0
Rounds procs budget zero soup players after ended =
    ((round_of procs budget soup players).acts ≡ false) × ((round_of procs budget soup players).soup ≡ after) × ((round_of procs budget soup players).players ≡ ended)
Rounds procs budget (suc more) soup players after ended =
    ((round_of procs budget soup players).acts ≡ true) ×
    Rounds procs budget more (round_of procs budget soup players).soup (round_of procs budget soup players).players after ended

-- The schedule ends after the first round without an entry.
abbrev pub IsSerial : List Proc → ℕ → Seen → List Player → Seen → List Player → Type 0
IsSerial procs budget soup players after ended = (rounds : ℕ) × Rounds procs budget rounds soup players after ended
