-- What updates do to the fields of a label.
use Rattle.std.proofs.Common.{◌≡◌, ◌<◌, ◌==◌, ℕ, zero, suc, ℤ, pos, negsuc, Bool, true, false, not, cond, Option, Some, None, List, [], ◌∷◌, length, refl, ap, sym, ◌∙◌, subst, arith}
use Rattle.std.proofs.Common.{◌≤◌, ◌-◌, take, drop, get_or}
use Rattle.std.proofs.lemmas.List.{take_all}
use Rattle.std.specs.Prelude.{slice_get, unwrap_or, is_some, if◌then◌else◌}
use Rattle.std.specs.List.{AllByRecursion as Each, AllZip}
use Rattle.std.proofs.lemmas.Bool.{eqb-false, ltb-true}
use Rattle.dl_term.specs.declared.syntax.Term.{Term}
use Rattle.dl_term.specs.State.{State, Statelet, Message, statelet, soup_at}
use Rattle.dl_term.specs.Names.{Names}
use Rattle.dl_term.specs.Meaning.{value}
use Rattle.dl_model.specs.declared.protocol.FieldDecl.{FieldDecl}
use Rattle.dl_model.specs.declared.protocol.Update.{Update}
use Rattle.dl_model.specs.declared.protocol.Instances.{Instances}
use Rattle.dl_model.specs.Sorts.{has, is_node}
use Rattle.dl_model.specs.Lookup.{protocol_at}
use Rattle.dl_model.specs.States.{width}
use Rattle.dl_model.specs.Scopes.{is_field_with}
use Rattle.dl_model.specs.Steps.{change, put, set_cell, index_of, index_fits, update_fits, updated, with_statelet}
use Rattle.dl_model.proofs.Small.{or-left, or-right, and-left}
use Rattle.dl_model.proofs.Sorted.{each-change, length-change, statelet-written}
use Rattle.dl_model.specs.Formed.{AreDistinct}
use Rattle.dl_state.specs.Known.{Known}
use Rattle.dl_state.specs.Places.{HasPlace}
use Rattle.dl_state.specs.Writes.{with_fields, with_soup}
use Rattle.dl_proto.specs.Shaped.{FieldIsShaped, IsShaped}
use Rattle.dl_proto.specs.Ready.{UpdateIsReady, updated_fields}
use Rattle.dl_proto.specs.Writes.{IsWritten, after_updates}

-- ---- changes of lists

change-comm : {X : Type 0} (f g : X → X) (xs : List X) (m n : ℕ) → (m ≡ n → ⊥) → change f (change g xs n) m ≡ change g (change f xs m) n
change-comm f g [] m n h = refl
change-comm f g (x ∷ xs) zero zero h = absurd (h refl)
change-comm f g (x ∷ xs) zero (suc n) h = refl
change-comm f g (x ∷ xs) (suc m) zero h = refl
change-comm f g (x ∷ xs) (suc m) (suc n) h = ap (λ ys. x ∷ ys) (change-comm f g xs m n (λ e. h (ap suc e)))

change-twice : {X : Type 0} (xs : List X) (n : ℕ) (x y : X) → change (λ old. y) (change (λ old. x) xs n) n ≡ change (λ old. y) xs n
change-twice [] n x y = refl
change-twice (z ∷ zs) zero x y = refl
change-twice (z ∷ zs) (suc n) x y = ap (λ ys. z ∷ ys) (change-twice zs n x y)

change-same : {X : Type 0} (xs : List X) (n : ℕ) (d : X) → change (λ old. unwrap_or (slice_get xs n) d) xs n ≡ xs
change-same [] n d = refl
change-same (z ∷ zs) zero d = refl
change-same (z ∷ zs) (suc n) d = ap (λ ys. z ∷ ys) (change-same zs n d)

got-changed : {X : Type 0} (xs : List X) (n : ℕ) (x d : X) → n < length xs → unwrap_or (slice_get (change (λ old. x) xs n) n) d ≡ x
got-changed [] n x d h = absurd (omega arith)
got-changed (z ∷ zs) zero x d h = refl
got-changed (z ∷ zs) (suc n) x d h = got-changed zs n x d (omega arith)

-- ---- statelets that are written

pub written-is : (s : State) (label : ℕ) (new : Statelet) → label < length s.labels → statelet (with_statelet s label new) label ≡ new
written-is s label new h = got-changed s.labels label new (record { fields = []; soup = [] }) h

pub written-twice : (s : State) (label : ℕ) (first second : Statelet) → with_statelet (with_statelet s label first) label second ≡ with_statelet s label second
written-twice s label first second = λ i. record { nodes = s.nodes; labels = change-twice s.labels label first second i }

pub written-same : (s : State) (label : ℕ) → with_fields s label (statelet s label).fields ≡ s
written-same s label = λ i. record { nodes = s.nodes; labels = change-same s.labels label (record { fields = []; soup = [] }) i }

-- fields after fields, and a soup after fields
pub fields-twice : (s : State) (label : ℕ) (first : List (List (List ℤ))) (f : List (List (List ℤ)) → List (List (List ℤ))) → label < length s.labels
    → with_fields (with_fields s label first) label (f (statelet (with_fields s label first) label).fields) ≡ with_fields s label (f first)
fields-twice s label first f h =
    let is = written-is s label (record { fields = first; soup = soup_at s label }) h in
    (λ i. with_statelet (with_fields s label first) label (record { fields = f (ap (λ (t : Statelet). t.fields) is i); soup = ap (λ (t : Statelet). t.soup) is i }))
    ∙ written-twice s label (record { fields = first; soup = soup_at s label }) (record { fields = f first; soup = soup_at s label })

pub soup-after : (s : State) (label : ℕ) (fields : List (List (List ℤ))) (f : List Message → List Message) → label < length s.labels
    → with_soup (with_fields s label fields) label (f (soup_at (with_fields s label fields) label)) ≡ with_statelet s label (record { fields = fields; soup = f (soup_at s label) })
soup-after s label fields f h =
    let is = written-is s label (record { fields = fields; soup = soup_at s label }) h in
    (λ i. with_statelet (with_fields s label fields) label (record { fields = ap (λ (t : Statelet). t.fields) is i; soup = f (ap (λ (t : Statelet). t.soup) is i) }))
    ∙ written-twice s label (record { fields = fields; soup = soup_at s label }) (record { fields = fields; soup = f (soup_at s label) })

pub soup-stays : (s : State) (label : ℕ) (fields : List (List (List ℤ))) → label < length s.labels → soup_at (with_fields s label fields) label ≡ soup_at s label
soup-stays s label fields h = ap (λ (t : Statelet). t.soup) (written-is s label (record { fields = fields; soup = soup_at s label }) h)

-- ---- the order of updates

set-comm : (fields : List (List (List ℤ))) (f g node : ℕ) (i j v w : ℤ) → (g ≡ f → ⊥) → set_cell (set_cell fields f node i v) g node j w ≡ set_cell (set_cell fields g node j w) f node i v
set-comm fields f g node i j v w h = change-comm (λ column. change (λ row. put w row j) column node) (λ column. change (λ row. put v row i) column node) fields g f h

set-if-comm : (b : Bool) (fields : List (List (List ℤ))) (f g node : ℕ) (i j v w : ℤ) → (g ≡ f → ⊥)
    → cond b (set_cell (set_cell fields f node i v) g node j w) (set_cell fields f node i v) ≡ set_cell (cond b (set_cell fields g node j w) fields) f node i v
set-if-comm true fields f g node i j v w h = set-comm fields f g node i j v w h
set-if-comm false fields f g node i j v w h = refl

-- a write to a field that no update is of may come before them or after them
pub updated-after : (inst : Instances) (label : ℕ) (names : Names) (s : State) (node : ℕ) (us : List Update) (fields : List (List (List ℤ))) (f : ℕ) (i v : ℤ) → has (updated_fields us) f ≡ false
    → updated inst label names s node us (set_cell fields f node i v) ≡ set_cell (updated inst label names s node us fields) f node i v
updated-after inst label names s node [] fields f i v h = refl
updated-after inst label names s node (u ∷ us) fields f i v h =
    let other : u.field ≡ f → ⊥ = λ e. eqb-false f u.field (or-left (f == u.field) _ h) (sym e) in
    ap (λ fs. updated inst label names s node us fs)
    (set-if-comm (update_fits inst label names s u) fields f u.field node i (index_of u.index names s) v (value u.value names s) other)
    ∙ updated-after inst label names s node us _ f i v (or-right (f == u.field) _ h)

-- ---- shape

pub fields-changed : (nodes : ℕ) (decls : List FieldDecl) (columns : List (List (List ℤ))) (g : List (List ℤ) → List (List ℤ)) (n : ℕ) → AllZip (FieldIsShaped nodes) decls columns
    → ((d : FieldDecl) (column : List (List ℤ)) → FieldIsShaped nodes d column → FieldIsShaped nodes d (g column)) → AllZip (FieldIsShaped nodes) decls (change g columns n)
fields-changed nodes [] [] g n s h = tt
fields-changed nodes [] (column ∷ columns) g n s h = absurd s
fields-changed nodes (d ∷ decls) [] g n s h = absurd s
fields-changed nodes (d ∷ decls) (column ∷ columns) g zero s h = (h d column s.0, s.1)
fields-changed nodes (d ∷ decls) (column ∷ columns) g (suc n) s h = (s.0, fields-changed nodes decls columns g n s.1 h)

length-put : (row : List ℤ) (index new : ℤ) → length (put new row index) ≡ length row
length-put row (pos index) new = length-change (λ old. new) row index
length-put row (negsuc index) new = refl

cell-shaped : (nodes : ℕ) (decls : List FieldDecl) (columns : List (List (List ℤ))) (field node : ℕ) (index v : ℤ) → AllZip (FieldIsShaped nodes) decls columns → AllZip (FieldIsShaped nodes) decls (set_cell columns field node index v)
cell-shaped nodes decls columns field node index v s =
    fields-changed nodes decls columns (λ column. change (λ row. put v row index) column node) field s
    (λ d column c. record {
      height = length-change (λ row. put v row index) column node ∙ c.height;
      widths = each-change (λ row. length row ≡ width nodes d) (λ row. put v row index) column node c.widths (λ row e. length-put row index v ∙ e);
    })

cell-if-shaped : (nodes : ℕ) (decls : List FieldDecl) (columns : List (List (List ℤ))) (field node : ℕ) (index v : ℤ) (b : Bool) → AllZip (FieldIsShaped nodes) decls columns
    → AllZip (FieldIsShaped nodes) decls (cond b (set_cell columns field node index v) columns)
cell-if-shaped nodes decls columns field node index v true s = cell-shaped nodes decls columns field node index v s
cell-if-shaped nodes decls columns field node index v false s = s

updated-shaped : (inst : Instances) (label : ℕ) (names : Names) (s : State) (node : ℕ) (us : List Update) (decls : List FieldDecl) (columns : List (List (List ℤ))) → AllZip (FieldIsShaped inst.nodes) decls columns
    → AllZip (FieldIsShaped inst.nodes) decls (updated inst label names s node us columns)
updated-shaped inst label names s node [] decls columns h = h
updated-shaped inst label names s node (u ∷ us) decls columns h =
    updated-shaped inst label names s node us decls _
    (cell-if-shaped inst.nodes decls columns u.field node (index_of u.index names s) (value u.value names s) (update_fits inst label names s u) h)

-- a state in which one label has other fields of its shape
pub written-shaped : (inst : Instances) (s : State) (label : ℕ) (new : Statelet) → IsShaped inst s → AllZip (FieldIsShaped inst.nodes) (protocol_at inst label).fields new.fields → IsShaped inst (with_statelet s label new)
written-shaped inst s label new h w = record {
  nodes = h.nodes;
  labels = length-change (λ old. new) s.labels label ∙ h.labels;
  fields = λ other. statelet-written (λ at. AllZip (FieldIsShaped inst.nodes) (protocol_at inst other).fields at.fields) s.labels new (record { fields = []; soup = [] }) label other (h.fields other)
      (λ e. subst (λ l. AllZip (FieldIsShaped inst.nodes) (protocol_at inst l).fields new.fields) (sym e) w);
}

pub updates-shaped : (inst : Instances) (s at : State) (label node : ℕ) (names : Names) (us : List Update) (soup : List Message) → IsShaped inst s
    → IsShaped inst (with_statelet s label (record { fields = updated inst label names at node us (statelet s label).fields; soup = soup }))
updates-shaped inst s at label node names us soup h =
    written-shaped inst s label _ h (updated-shaped inst label names at node us (protocol_at inst label).fields (statelet s label).fields (h.fields label))

-- ---- places

-- the numbers of a row, or of another field
abbrev pub width_if : Bool → ℕ → ℕ
width_if row nodes = if row then nodes else 1

width-is : (d : FieldDecl) (row : Bool) (nodes : ℕ) → is_field_with (Some d) row ≡ true → width nodes d ≡ width_if row nodes
width-is d true nodes h = ap (λ b. width_if b nodes) h
width-is d false nodes h = ap (λ b. width_if b nodes) (not-true d.row h)
  where
    not-true : (b : Bool) → not b ≡ true → b ≡ false
    not-true true e = cc
    not-true false e = refl

row-has : (rows : List (List ℤ)) (node size : ℕ) → Each (λ row. length row ≡ size) rows → node < length rows → length (unwrap_or (slice_get rows node) []) ≡ size
row-has [] node size h lt = absurd (omega arith)
row-has (row ∷ rows) zero size h lt = h.0
row-has (row ∷ rows) (suc node) size h lt = row-has rows node size h.1 (omega arith)

pub place-in : (nodes : ℕ) (decls : List FieldDecl) (columns : List (List (List ℤ))) (field node index : ℕ) (row : Bool) → AllZip (FieldIsShaped nodes) decls columns
    → is_field_with (slice_get decls field) row ≡ true → node < nodes → index < width_if row nodes → HasPlace columns field node index
place-in nodes [] columns field node index row s h n i = cc
place-in nodes (d ∷ decls) [] field node index row s h n i = absurd s
place-in nodes (d ∷ decls) (column ∷ columns) zero node index row s h n i =
    let height : node < length column = subst (λ k. node < k) (sym s.0.height) n in
    record {
      field = omega arith;
      node = height;
      index = subst (λ k. index < k) (sym (row-has column node (width nodes d) s.0.widths height ∙ width-is d row nodes h)) i;
    }
place-in nodes (d ∷ decls) (column ∷ columns) (suc field) node index row s h n i =
    let later = place-in nodes decls columns field node index row s.1 h n i in
    record { field = omega (arith, later.field); node = later.node; index = later.index }

node-below : (nodes : ℕ) (z : ℤ) (at : ℕ) → is_node nodes z ≡ true → z ≡ pos at → at < nodes
node-below nodes z at h e = ltb-true at nodes (subst (λ k. is_node nodes k ≡ true) e h)

pos-same : (m n : ℕ) → pos m ≡ pos n → m ≡ n
pos-same m n e = cc

index-below : (index : Option Term) (names : Names) (s : State) (at : ℕ) → index_fits index names s ≡ true → index_of index names s ≡ pos at → at < width_if (is_some index) s.nodes
index-below (Some t) names s at h e = node-below s.nodes (value t names s) at h e
index-below None names s at h e = let zero-is : 0 ≡ at = pos-same 0 at e in omega (arith, zero-is)

-- what an update writes has a place, also where other updates were made
pub write-place : (inst : Instances) (s : State) (label node : ℕ) (names : Names) (u : Update) (us : List Update) (index : ℕ) (new : ℤ) → IsShaped inst s → label < length inst.of → node < inst.nodes
    → UpdateIsReady (protocol_at inst label) u → IsWritten inst label names s u index new
    → HasPlace (statelet (after_updates inst s label node names us) label).fields u.field node index
write-place inst s label node names u us index new h l n ready w =
    let lt : label < length s.labels = subst (λ k. label < k) (sym h.labels) l in
    let below : index < width_if (is_some u.index) inst.nodes =
    subst (λ k. index < width_if (is_some u.index) k) h.nodes (index-below u.index names s index (and-left (index_fits u.index names s) _ w.fits) w.index) in
    subst (λ (t : Statelet). HasPlace t.fields u.field node index) (sym (written-is s label _ lt))
    (place-in inst.nodes (protocol_at inst label).fields (updated inst label names s node us (statelet s label).fields) u.field node index (is_some u.index)
    (updated-shaped inst label names s node us (protocol_at inst label).fields (statelet s label).fields (h.fields label)) ready.field n below)

-- ---- one update and the others

pub one-made : (inst : Instances) (s : State) (label node : ℕ) (names : Names) (u : Update) (us : List Update) (index : ℕ) (new : ℤ) → label < length s.labels → has (updated_fields us) u.field ≡ false
    → IsWritten inst label names s u index new
    → with_fields (after_updates inst s label node names us) label (set_cell (statelet (after_updates inst s label node names us) label).fields u.field node (pos index) new)
    ≡ after_updates inst s label node names (u ∷ us)
one-made inst s label node names u us index new lt once w =
    fields-twice s label (updated inst label names s node us (statelet s label).fields) (λ fs. set_cell fs u.field node (pos index) new) lt
    ∙ ap (λ fs. with_fields s label fs)
    (sym (updated-after inst label names s node us (statelet s label).fields u.field (pos index) new once)
    ∙ ap (λ fs. updated inst label names s node us fs)
    ((λ i. set_cell (statelet s label).fields u.field node (sym w.index i) (sym w.number i))
    ∙ sym (ap (λ b. cond b (set_cell (statelet s label).fields u.field node (index_of u.index names s) (value u.value names s)) (statelet s label).fields) w.fits)))

pub none-made : (inst : Instances) (s : State) (label node : ℕ) (names : Names) (u : Update) (us : List Update) → update_fits inst label names s u ≡ false
    → after_updates inst s label node names us ≡ after_updates inst s label node names (u ∷ us)
none-made inst s label node names u us h =
    ap (λ fs. with_fields s label (updated inst label names s node us fs))
    (sym (ap (λ b. cond b (set_cell (statelet s label).fields u.field node (index_of u.index names s) (value u.value names s)) (statelet s label).fields) h))

-- ---- the first update and the rest

pub first-rest : {X : Type 0} (xs : List X) (x : X) → 1 ≤ length xs → x ≡ get_or xs 0 x → xs ≡ x ∷ take (length xs - 1) (drop 1 xs)
first-rest [] x h e = absurd (omega arith)
first-rest (y ∷ ys) x h e = λ i. sym e i ∷ sym (take_all (length (y ∷ ys) - 1) ys (omega arith)) i

pub only-one : {X : Type 0} (xs : List X) (x : X) → 1 ≤ length xs → length xs < 2 → x ≡ get_or xs 0 x → xs ≡ x ∷ []
only-one [] x h k e = absurd (omega arith)
only-one (y ∷ []) x h k e = λ i. sym e i ∷ []
only-one (y ∷ z ∷ zs) x h k e = absurd (omega arith)

pub distinct-rest : (us : List Update) (u : Update) (rest : List Update) → us ≡ u ∷ rest → AreDistinct (updated_fields us) → (has (updated_fields rest) u.field ≡ false) × AreDistinct (updated_fields rest)
distinct-rest us u rest e h = subst (λ vs. AreDistinct (updated_fields vs)) e h

-- a state after updates, and after no update
pub nothing-made : (inst : Instances) (s : State) (label node : ℕ) (names : Names) (us : List Update) → us ≡ [] → s ≡ after_updates inst s label node names us
nothing-made inst s label node names us e =
    sym (written-same s label) ∙ ap (λ vs. after_updates inst s label node names vs) (sym e)

pub labels-after : (inst : Instances) (s : State) (label node : ℕ) (names : Names) (us : List Update) → IsShaped inst s → label < length inst.of → label < length (after_updates inst s label node names us).labels
labels-after inst s label node names us h l =
    subst (λ k. label < k) (sym (length-change (λ old. record { fields = updated inst label names s node us (statelet s label).fields; soup = soup_at s label }) s.labels label ∙ h.labels)) l

-- the whole state after one more update
pub known-one : (inst : Instances) (before after : Known) (label node : ℕ) (names : Names) (us : List Update) (u : Update) (rest : List Update) (index : ℕ) (new new' : ℤ) → IsShaped inst before.state → label < length inst.of
    → us ≡ u ∷ rest → AreDistinct (updated_fields us) → IsWritten inst label names before.state u index new → new' ≡ new
    → after ≡ record { state = after_updates inst before.state label node names rest; spare = before.spare }
    → ◌≡◌ {A = Known} (record { state = with_fields after.state label (set_cell (statelet after.state label).fields u.field node (pos index) new'); spare = after.spare }) (record { state = after_updates inst before.state label node names us; spare = before.spare })
known-one inst before after label node names us u rest index new new' h l e once w same is =
    let lt : label < length before.state.labels = subst (λ k. label < k) (sym h.labels) l in
    (λ i. record { state = with_fields (is i).state label (set_cell (statelet (is i).state label).fields u.field node (pos index) (same i)); spare = (is i).spare })
    ∙ (λ i. record { state = (one-made inst before.state label node names u rest index new lt (distinct-rest us u rest e once).0 w ∙ ap (λ vs. after_updates inst before.state label node names vs) (sym e)) i; spare = before.spare })

pub known-none : (inst : Instances) (before after : Known) (label node : ℕ) (names : Names) (us : List Update) (u : Update) (rest : List Update) → us ≡ u ∷ rest → update_fits inst label names before.state u ≡ false
    → after ≡ record { state = after_updates inst before.state label node names rest; spare = before.spare }
    → after ≡ record { state = after_updates inst before.state label node names us; spare = before.spare }
known-none inst before after label node names us u rest e h is =
    is ∙ (λ i. record { state = (none-made inst before.state label node names u rest h ∙ ap (λ vs. after_updates inst before.state label node names vs) (sym e)) i; spare = before.spare })
