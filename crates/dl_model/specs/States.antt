-- The first state of the world, and the states in which each number is in its sort.
use Rattle.std.specs.Prelude.{◌≡◌, ℕ, ◌<◌, ℤ, pos, true, if◌then◌else◌, Some, List, [], map, length, replicate}
use Rattle.std.specs.List.{AllByRecursion as Each, AllZip, range_with_len}
use Rattle.dl_term.specs.State.{State, Statelet, Message, statelet}
use Rattle.dl_term.specs.Meaning.{value}
use Rattle.dl_model.specs.declared.protocol.FieldDecl.{FieldDecl}
use Rattle.dl_model.specs.declared.protocol.Instances.{Instances}
use Rattle.dl_model.specs.Sorts.{in_sort, all_in_sorts, is_node}
use Rattle.dl_model.specs.Lookup.{protocol_in, protocol_at, tag_at, arg_sorts}
use Rattle.dl_model.specs.Words.{me_names, no_state}

-- ---- the first state: declared first values, and empty soups

abbrev pub first_value : FieldDecl → ℕ → ℤ
first_value field node = value field.first (me_names 0 (pos node)) no_state

-- a row has a number for each index, which is a node, and another field has one
abbrev pub width : ℕ → FieldDecl → ℕ
width nodes field = if field.row then nodes else 1

abbrev pub first_row : ℕ → FieldDecl → ℕ → List ℤ
first_row nodes field node = replicate (width nodes field) (first_value field node)

abbrev pub first_column : ℕ → FieldDecl → List (List ℤ)
first_column nodes field = map (first_row nodes field) (range_with_len 0 nodes)

abbrev pub first_statelet : Instances → ℕ → Statelet
first_statelet inst protocol = record { fields = map (first_column inst.nodes) (protocol_in inst (Some protocol)).fields; soup = [] }

abbrev pub first_state : Instances → State
first_state inst = record { nodes = inst.nodes; labels = map (first_statelet inst) inst.of }

-- ---- well-sorted states

-- There is a number for each node, or for a row one for each node and index, and each is in the field's sort.
pub record FieldIsSorted (nodes : ℕ) (field : FieldDecl) (column : List (List ℤ)) : Type 0 where
  pub height : length column ≡ nodes
  pub widths : Each (λ row. length row ≡ width nodes field) column
  pub sorted : Each (Each (λ v. in_sort field.sort v ≡ true)) column

-- A message has a tag of its protocol. It is between nodes, with as many arguments as its tag, each in its sort.
pub record MessageIsSorted (inst : Instances) (label : ℕ) (message : Message) : Type 0 where
  pub tag : message.tag < length (protocol_at inst label).tags
  pub from : message.from < inst.nodes
  pub to : is_node inst.nodes message.to ≡ true
  pub args : all_in_sorts (arg_sorts (tag_at inst label message.tag).args) message.args ≡ true

pub record StateletIsSorted (inst : Instances) (label : ℕ) (at : Statelet) : Type 0 where
  pub fields : AllZip (FieldIsSorted inst.nodes) (protocol_at inst label).fields at.fields
  pub soup : Each (MessageIsSorted inst label) at.soup

pub record IsWellSorted (inst : Instances) (state : State) : Type 0 where
  pub nodes : state.nodes ≡ inst.nodes
  pub labels : length state.labels ≡ length inst.of
  pub each : (label : ℕ) → StateletIsSorted inst label (statelet state label)
