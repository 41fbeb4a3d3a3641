-- The first state and well-sorted states have the shape of their instances.
use Rattle.std.proofs.Common.{◌≡◌, ℕ, zero, suc, ◌+◌, ℤ, Option, Some, None, List, [], ◌∷◌, length, map, refl, ap, sym, ◌∙◌, subst}
use Rattle.std.specs.Prelude.{slice_get, unwrap_or}
use Rattle.std.specs.Option.{option_map}
use Rattle.std.specs.List.{AllByRecursion as Each, AllZip, range_with_len}
use Rattle.std.proofs.lemmas.Option.{slice_get-map}
use Rattle.std.proofs.lemmas.List.{length-map, length-replicate}
use Rattle.dl_term.specs.State.{State, Statelet, statelet}
use Rattle.dl_model.specs.declared.protocol.FieldDecl.{FieldDecl}
use Rattle.dl_model.specs.declared.protocol.Instances.{Instances}
use Rattle.dl_model.specs.Lookup.{protocol_in, protocol_at}
use Rattle.dl_model.specs.States.{width, first_value, first_row, first_column, first_statelet, first_state, FieldIsSorted, IsWellSorted}
use Rattle.dl_proto.specs.Shaped.{FieldIsShaped, IsShaped}

length-range : (n k : ℕ) → length (range_with_len k n) ≡ n
length-range zero k = refl
length-range (suc n) k = ap suc (length-range n (k + 1))

rows-wide : (nodes : ℕ) (field : FieldDecl) (n k : ℕ) → Each (λ row. length row ≡ width nodes field) (map (first_row nodes field) (range_with_len k n))
rows-wide nodes field zero k = tt
rows-wide nodes field (suc n) k = (length-replicate (width nodes field) (first_value field k), rows-wide nodes field n (k + 1))

columns-shaped : (nodes : ℕ) (fields : List FieldDecl) → AllZip (FieldIsShaped nodes) fields (map (first_column nodes) fields)
columns-shaped nodes [] = tt
columns-shaped nodes (field ∷ fields) = (
  record {
    height = length-map (range_with_len 0 nodes) (first_row nodes field) ∙ length-range nodes 0;
    widths = rows-wide nodes field nodes 0;
  },
  columns-shaped nodes fields,
)

label-shaped : (inst : Instances) (o : Option ℕ) → AllZip (FieldIsShaped inst.nodes) (protocol_in inst o).fields (unwrap_or {T = Statelet} (option_map (first_statelet inst) o) (record { fields = []; soup = [] })).fields
label-shaped inst (Some protocol) = columns-shaped inst.nodes (protocol_in inst (Some protocol)).fields
label-shaped inst None = tt

pub first-shaped : (inst : Instances) → IsShaped inst (first_state inst)
first-shaped inst = record {
  nodes = refl;
  labels = length-map inst.of (first_statelet inst);
  fields = λ label. subst (λ o. AllZip (FieldIsShaped inst.nodes) (protocol_at inst label).fields (unwrap_or {T = Statelet} o (record { fields = []; soup = [] })).fields)
      (sym (slice_get-map (first_statelet inst) inst.of label)) (label-shaped inst (slice_get inst.of label));
}

fields-sorted : (nodes : ℕ) (fields : List FieldDecl) (columns : List (List (List ℤ))) → AllZip (FieldIsSorted nodes) fields columns → AllZip (FieldIsShaped nodes) fields columns
fields-sorted nodes [] [] h = tt
fields-sorted nodes [] (column ∷ columns) h = absurd h
fields-sorted nodes (field ∷ fields) [] h = absurd h
fields-sorted nodes (field ∷ fields) (column ∷ columns) h = (record { height = h.0.height; widths = h.0.widths }, fields-sorted nodes fields columns h.1)

pub sorted-shaped : (inst : Instances) (s : State) → IsWellSorted inst s → IsShaped inst s
sorted-shaped inst s h = record {
  nodes = h.nodes;
  labels = h.labels;
  fields = λ label. fields-sorted inst.nodes (protocol_at inst label).fields (statelet s label).fields (h.each label).fields;
}
