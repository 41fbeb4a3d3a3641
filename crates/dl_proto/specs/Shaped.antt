-- States that have the nodes, labels and fields of instances.
use Rattle.std.specs.Prelude.{◌≡◌, ℕ, ℤ, List, length}
use Rattle.std.specs.List.{AllByRecursion as Each, AllZip}
use Rattle.dl_term.specs.State.{State, statelet}
use Rattle.dl_model.specs.declared.protocol.FieldDecl.{FieldDecl}
use Rattle.dl_model.specs.declared.protocol.Instances.{Instances}
use Rattle.dl_model.specs.Lookup.{protocol_at}
use Rattle.dl_model.specs.States.{width}

-- There is a number for each node, or for a row one for each node and index.
pub record FieldIsShaped (nodes : ℕ) (field : FieldDecl) (column : List (List ℤ)) : Type 0 where
  pub height : length column ≡ nodes
  pub widths : Each (λ row. length row ≡ width nodes field) column

pub record IsShaped (inst : Instances) (state : State) : Type 0 where
  pub nodes : state.nodes ≡ inst.nodes
  pub labels : length state.labels ≡ length inst.of
  pub fields : (label : ℕ) → AllZip (FieldIsShaped inst.nodes) (protocol_at inst label).fields (statelet state label).fields
