-- The shape of a file has a first value for each node, and is that of the first state.
use Rattle.std.proofs.Common.{◌≡◌, ℕ, ℤ, List, [], ◌∷◌, get_or, map, replicate, Result, Ok, Err, refl, sym, subst, ap, ◌∙◌}
use Rattle.std.specs.List.{All, range_with_len}
use Rattle.std.specs.Prelude.{Some, IfOk}
use Rattle.std.specs.declared.alloc.AllocError.{AllocError}
use Rattle.dl_state.specs.declared.shape.Shape.{Shape}
use Rattle.std.proofs.lemmas.List.Elements.{All-map}
use Rattle.std.proofs.lemmas.List.FromFn.{length-map-range_with_len}
use Rattle.dl_term.specs.State.{Statelet}
use Rattle.dl_model.specs.declared.protocol.FieldDecl.{FieldDecl}
use Rattle.dl_model.specs.declared.protocol.Instances.{Instances}
use Rattle.dl_model.specs.Lookup.{protocol_in}
use Rattle.dl_model.specs.States.{width, first_value, first_row, first_column, first_statelet, first_state}
use Rattle.dl_state.specs.Shapes.{shape_column, shape_statelet, shape_state, IsFilled, EachIsFilled}
use Rattle.dl_world.specs.Shaped.{field_shape, label_shape, shape_of}

map-of-map : {X Y Z : Type 0} (g : Y → Z) (f : X → Y) (h : X → Z) (xs : List X) → ((x : X) → g (f x) ≡ h x) → map g (map f xs) ≡ map h xs
map-of-map g f h [] e = refl
map-of-map g f h (x ∷ xs) e = ap (λ z. z ∷ map g (map f xs)) (e x) ∙ ap (λ zs. h x ∷ zs) (map-of-map g f h xs e)

column-same : (nodes : ℕ) (field : FieldDecl) → shape_column nodes (field_shape nodes field) ≡ first_column nodes field
column-same nodes field =
    map-of-map (λ value. replicate (width nodes field) value) (first_value field) (first_row nodes field) (range_with_len 0 nodes) (λ node. refl)

statelet-same : (inst : Instances) (protocol : ℕ) → shape_statelet inst.nodes (label_shape inst protocol) ≡ first_statelet inst protocol
statelet-same inst protocol =
    let fields = map-of-map (shape_column inst.nodes) (field_shape inst.nodes) (first_column inst.nodes) (protocol_in inst (Some protocol)).fields (column-same inst.nodes) in
    let made : List (List (List ℤ)) → Statelet = λ columns. record { fields = columns; soup = [] } in
    ap made fields

pub shape-first : (inst : Instances) → shape_state (shape_of inst) ≡ first_state inst
shape-first inst =
    ap (λ labels. record { nodes = inst.nodes; labels = labels })
    (map-of-map (shape_statelet inst.nodes) (label_shape inst) (first_statelet inst) inst.of (statelet-same inst))

fields-filled : (nodes : ℕ) (fields : List FieldDecl) → All (IsFilled nodes) (map (field_shape nodes) fields)
fields-filled nodes fields = All-map (IsFilled nodes) (field_shape nodes) fields (λ k field h. length-map-range_with_len (first_value (get_or fields k field)) 0 nodes)

pub shape-filled : (inst : Instances) → EachIsFilled (shape_of inst)
shape-filled inst = All-map (All (IsFilled inst.nodes)) (label_shape inst) inst.of (λ k protocol h. fields-filled inst.nodes (protocol_in inst (Some (get_or inst.of k protocol))).fields)

-- what holds of the shape holds of what was made
pub where-made : (P : Shape → Type 0) (made : Result Shape AllocError) (shape : Shape) → IfOk made (λ s. s ≡ shape) → P shape → IfOk made P
where-made P (Ok s) shape same holds = subst P (sym same) holds
where-made P (Err e) shape same holds = tt
