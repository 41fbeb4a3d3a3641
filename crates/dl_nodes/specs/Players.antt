-- How a node with a program is kept, and what a run of the schedule needs.
use Rattle.std.specs.Prelude.{◌≡◌, ℕ, zero, suc, ◌-◌, ◌≤◌, ◌<◌, Bool, true, false, Some, None, is_some, List, map, sum_by}
use Rattle.std.specs.List.{AllZip}
use Rattle.dl_model.specs.declared.history.End.{End}
use Rattle.dl_model.specs.declared.history.End.TheVariants.{Ended, Stopped, Spent, Waiting}
use Rattle.dl_model.specs.declared.program.Proc.{Proc}
use Rattle.dl_model.specs.declared.protocol.Instances.{Instances}
use Rattle.dl_model.specs.Machine.{next}
use Rattle.dl_model.specs.Ends.{after_ticks, end_of, units_at_end}
use Rattle.dl_prog.specs.declared.answer.At.{At}
use Rattle.dl_prog.specs.declared.answer.At.TheVariants as at
use Rattle.dl_prog.specs.Moves.{answer_of}
use Rattle.dl_prog.specs.Places.{machine_of}
use Rattle.dl_prog.specs.Ready.{IsReady}
use Rattle.dl_soup.specs.Seen.{Seen}
use Rattle.dl_nodes.specs.declared.bare.Bare.{Bare}
use Rattle.dl_nodes.specs.Given.{MachineIsGiven}
use Rattle.dl_nodes.specs.Serial.{Player, IsSerial, call_of, left_of}

abbrev pub player_of : List Proc → Bare → Player
player_of procs bare = record { node = bare.node; machine = machine_of procs bare.cont; ticks = bare.ticks; units = bare.units }

abbrev pub players_of : List Proc → List Bare → List Player
players_of procs nodes = map (player_of procs) nodes

-- The node exists, its machine was made for these procedures, and its units and ticks are within the budget.
pub record BareIsReady (procs : List Proc) (inst : Instances) (budget : ℕ) (bare : Bare) : Type 0 where
  pub cont : IsReady procs bare.cont
  pub given : MachineIsGiven inst (machine_of procs bare.cont)
  pub node : bare.node < inst.nodes
  pub units : bare.units ≤ budget
  pub ticks : bare.ticks ≤ bare.units

abbrev pub left_to_one : ℕ → Bare → ℕ
left_to_one budget bare = budget - bare.units

-- the units that are left to all nodes
abbrev pub left_to : ℕ → List Bare → ℕ
left_to budget nodes = sum_by (left_to_one budget) nodes

-- how many entries a turn makes
abbrev pub entries_of : Bool → ℕ
entries_of true = 1
entries_of false = 0

-- The node has an end. It is that of its machine in the soup's state within the budget, and the units are those of the
-- machine there.
pub record HasEnd (procs : List Proc) (soup : Seen) (budget : ℕ) (player : Player) (bare : Bare) : Type 0 where
  pub node : bare.node ≡ player.node
  pub told : bare.end ≡ end_of procs soup.inst soup.state player.node budget player.units player.machine
  pub ends : is_some bare.end ≡ true
  pub units : bare.units ≡ units_at_end procs budget player.units player.machine

-- the soup after a run has the instances, the shape and the order that it had
pub record SoupIsSame (soup after : Seen) : Type 0 where
  pub inst : after.inst ≡ soup.inst
  pub shape : after.shape ≡ soup.shape
  pub order : after.order ≡ soup.order

-- The soup is the one after the serial schedule of these nodes, and each node has its end there.
pub record IsFinished (procs : List Proc) (budget : ℕ) (soup after : Seen) (before nodes : List Bare) : Type 0 where
  pub players : List Player
  pub serial : IsSerial procs budget soup (players_of procs before) after players
  pub ends : AllZip (HasEnd procs after budget) players nodes
  pub same : SoupIsSame soup after

-- how a node ends that stands here and doesn't go on, with so many units left
abbrev pub judged : At → ℕ → End
judged (at.Ended v) left = Ended v
judged at.Tick left = Spent
judged (at.Call call) zero = Spent
judged (at.Call call) (suc left) = Waiting
judged at.Stopped zero = Spent
judged at.Stopped (suc left) = Stopped

-- the end that is noted of a node
pub record HasJudged (procs : List Proc) (budget : ℕ) (player : Player) (bare : Bare) : Type 0 where
  pub same_node : bare.node ≡ player.node
  pub same_units : bare.units ≡ player.units
  pub noted : bare.end ≡ Some (judged (answer_of (next procs player.machine)) (left_of budget player))

-- No tick is left to the node, and no call.
pub record IsAtRest (procs : List Proc) (budget : ℕ) (soup : Seen) (player : Player) : Type 0 where
  pub few : player.units ≤ budget
  pub still : after_ticks procs (left_of budget player) player.machine ≡ record { machine = player.machine; left = left_of budget player }
  pub none : call_of procs budget soup player ≡ None

-- what is needed to note the end of a node
pub record CanJudge (procs : List Proc) (budget : ℕ) (bare : Bare) : Type 0 where
  pub cont : IsReady procs bare.cont
  pub units : bare.units ≤ budget
