-- A file's nodes at the beginning of their programs, and the serial run of the file.
use Rattle.std.specs.Prelude.{◌≡◌, ℕ, Option, Some, None, List, [], ◌∷◌, ◌++◌}
use Rattle.std.specs.List.{AllZip, range_with_len}
use Rattle.dl_model.specs.declared.file.Decls.{Decls}
use Rattle.dl_model.specs.declared.file.Program.{Program}
use Rattle.dl_model.specs.declared.history.Order.{Order}
use Rattle.dl_model.specs.Lookup.{program_of}
use Rattle.dl_model.specs.States.{first_state}
use Rattle.dl_model.specs.Runs.{machine_of}
use Rattle.dl_state.specs.Shapes.{shape_state}
use Rattle.dl_soup.specs.Seen.{Seen}
use Rattle.dl_nodes.specs.declared.begin.Run.{Run}
use Rattle.dl_nodes.specs.Serial.{Player, IsSerial}
use Rattle.dl_nodes.specs.Players.{HasEnd}

-- the node at the beginning of its program, if it has one
abbrev pub first_player : Decls → ℕ → Option Program → List Player
first_player decls node (Some program) = record { node = node; machine = machine_of decls node program; ticks = 0; units = 0 } ∷ []
first_player decls node None = []

abbrev pub first_players_of : Decls → List ℕ → List Player
first_players_of decls [] = []
first_players_of decls (node ∷ nodes) = first_player decls node (program_of decls node) ++ first_players_of decls nodes

-- the nodes with a program, in the order of the node list
abbrev pub first_players : Decls → List Player
first_players decls = first_players_of decls (range_with_len 0 decls.inst.nodes)

-- a soup of the file in the first state, with no history
pub record IsFirst (decls : Decls) (under : Order) (soup : Seen) : Type 0 where
  pub same_inst : soup.inst ≡ decls.inst
  pub same_order : soup.order ≡ under
  pub at_first : soup.state ≡ first_state decls.inst
  pub from_first : shape_state soup.shape ≡ first_state decls.inst
  pub empty : soup.history ≡ []

-- The soup is the one after the serial schedule of the file's programs, and each node with a program has its end there.
pub record IsSerialRun (decls : Decls) (budget : ℕ) (under : Order) (run : Run) : Type 0 where
  pub first : Seen
  pub players : List Player
  pub begins : IsFirst decls under first
  pub serial : IsSerial decls.procs budget first (first_players decls) run.soup players
  pub ends : AllZip (HasEnd decls.procs run.soup budget) players run.nodes.items
