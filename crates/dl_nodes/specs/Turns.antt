-- What a node's turn does, and a round, as the nodes are kept.
use Rattle.std.specs.Prelude.{◌≡◌, ℕ, ◌+◌, ◌≤◌, Bool, List}
use Rattle.std.specs.List.{All, AllByRecursion as Each}
use Rattle.dl_model.specs.declared.program.Proc.{Proc}
use Rattle.dl_model.specs.declared.protocol.Instances.{Instances}
use Rattle.dl_soup.specs.Seen.{Seen}
use Rattle.dl_nodes.specs.declared.bare.Bare.{Bare}
use Rattle.dl_nodes.specs.Players.{BareIsReady, CanJudge, IsAtRest, entries_of, left_to, left_to_one, player_of, players_of}
use Rattle.dl_nodes.specs.Serial.{Player, Round, Turn, IsSerial, round_of, turn_of}

-- the node where it stands, its ticks over
pub record Stands (procs : List Proc) (inst : Instances) (budget : ℕ) (whole : Player) (bare : Bare) : Type 0 where
  pub ready : BareIsReady procs inst budget bare
  pub is : player_of procs bare ≡ whole

-- The turn is the schedule's. An entry takes a unit of the node, and room for one.
pub record TurnIsMade (procs : List Proc) (budget : ℕ) (soup after : Seen) (before bare : Bare) (acts : Bool) : Type 0 where
  pub ready : BareIsReady procs soup.inst budget bare
  pub whole : ◌≡◌ {A = Turn} (record { soup = after; player = player_of procs bare; acts = acts }) (turn_of procs budget soup (player_of procs before))
  pub same : after.inst ≡ soup.inst
  pub spare : after.spare + entries_of acts ≡ soup.spare
  pub left : left_to_one budget bare + entries_of acts ≤ left_to_one budget before

-- The round is the schedule's. There is still room for the units that are left, and after an entry there are fewer of these.
pub record RoundIsMade (procs : List Proc) (budget : ℕ) (soup after : Seen) (before nodes : List Bare) (acts : Bool) : Type 0 where
  pub ready : All (BareIsReady procs soup.inst budget) nodes
  pub whole : ◌≡◌ {A = Round} (record { soup = after; players = players_of procs nodes; acts = acts }) (round_of procs budget soup (players_of procs before))
  pub same : after.inst ≡ soup.inst
  pub room : left_to budget nodes ≤ after.spare
  pub left : left_to budget nodes + entries_of acts ≤ left_to budget before

-- The rounds are made, up to the one without an entry.
pub record IsPlayed (procs : List Proc) (budget : ℕ) (soup after : Seen) (before nodes : List Bare) : Type 0 where
  pub serial : IsSerial procs budget soup (players_of procs before) after (players_of procs nodes)
  pub rests : Each (IsAtRest procs budget after) (players_of procs nodes)
  pub ready : All (CanJudge procs budget) nodes
