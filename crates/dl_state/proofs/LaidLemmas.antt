-- How the fields that lie in a buffer are read and written.
use Rattle.std.proofs.Common.{◌≡◌, ◌<◌, ◌≤◌, ◌+◌, ◌*◌, ◌-◌, ℕ, zero, suc, ℤ, pos, negsuc, List, [], ◌∷◌, ◌++◌, length, map, take, drop, get_or, slice_set, Some, None, refl, ap, sym, ◌∙◌, subst, arith}
use Rattle.std.specs.Prelude.{slice_get, unwrap_or, replicate}
use Rattle.std.specs.List.{flat_map}
use Rattle.std.specs.Option.{option_map}
use Rattle.std.proofs.lemmas.Option.{unwrap_or-slice_get, slice_get-map, slice_get-get_or}
use Rattle.std.proofs.lemmas.List.{get_or-take, get_or-drop, length-take, length-drop, length-append, length-replicate, take-set-le, drop-set-lt, drop-set-add, drop-drop, drop-append-le, take-append-le, take_at, drop_at, map-append}
use Rattle.dl_term.specs.State.{item, cell}
use Rattle.dl_model.specs.Steps.{change, put, set_cell}
use Rattle.dl_state.specs.declared.board.Column.{Column}
use Rattle.dl_state.specs.Laid.{rows, column_of, columns_of, AreLaidOut}
use Rattle.dl_state.specs.Places.{HasPlace, IsOutside, column_at, row_at}

-- ---- numbers

-- a number of a row of a field is one of the field
pub inside : (nodes width node index : ℕ) → node < nodes → index < width → node * width + index < nodes * width
inside zero width node index h k = absurd (omega arith)
inside (suc nodes) width zero index h k = grind (arith)
inside (suc nodes) width (suc node) index h k = let less = inside nodes width node index (omega arith) k in grind (arith, less)

pub set-change : {X : Type 0} (xs : List X) (i : ℕ) (x : X) → slice_set xs i x ≡ change (λ old. x) xs i
set-change [] i x = refl
set-change (y ∷ ys) zero x = refl
set-change (y ∷ ys) (suc i) x = ap (λ zs. y ∷ zs) (set-change ys i x)

pub get-past : {X : Type 0} (xs : List X) (i : ℕ) → length xs ≤ i → slice_get xs i ≡ None
get-past [] i h = refl
get-past (x ∷ xs) zero h = absurd (omega arith)
get-past (x ∷ xs) (suc i) h = get-past xs i (omega arith)

pub get-within : {X : Type 0} (xs : List X) (i : ℕ) (x : X) → slice_get xs i ≡ Some x → i < length xs
get-within [] i x e = cc
get-within (y ∷ ys) zero x e = omega arith
get-within (y ∷ ys) (suc i) x e = let h = get-within ys i x e in omega arith

-- ---- columns

-- a column lies between the first place and the last one
pub column-starts : (nodes start : ℕ) (columns : List Column) (end field : ℕ) (column : Column) → AreLaidOut nodes start columns end → slice_get columns field ≡ Some column → start ≤ column.start
column-starts nodes start [] end field column h e = cc
column-starts nodes start (first ∷ columns) end zero column h e =
    let same : first ≡ column = cc in
    subst (λ (c : Column). start ≤ c.start) same (subst (λ n. start ≤ n) (sym h.0) (omega arith))
column-starts nodes start (first ∷ columns) end (suc field) column h e =
    let later = column-starts nodes (start + nodes * first.width) columns end field column h.1 e in omega arith

laid-grows : (nodes start : ℕ) (columns : List Column) (end : ℕ) → AreLaidOut nodes start columns end → start ≤ end
laid-grows nodes start [] end h = subst (λ n. start ≤ n) h (omega arith)
laid-grows nodes start (column ∷ columns) end h = let later = laid-grows nodes (start + nodes * column.width) columns end h.1 in omega arith

pub column-ends : (nodes start : ℕ) (columns : List Column) (end field : ℕ) (column : Column) → AreLaidOut nodes start columns end → slice_get columns field ≡ Some column → column.start + nodes * column.width ≤ end
column-ends nodes start [] end field column h e = cc
column-ends nodes start (first ∷ columns) end zero column h e =
    let same : first ≡ column = cc in
    subst (λ (c : Column). c.start + nodes * c.width ≤ end) same
    (subst (λ n. n + nodes * first.width ≤ end) (sym h.0) (laid-grows nodes (start + nodes * first.width) columns end h.1))
column-ends nodes start (first ∷ columns) end (suc field) column h e = column-ends nodes (start + nodes * first.width) columns end field column h.1 e

-- ---- rows

pub length-rows : (nodes width : ℕ) (cells : List ℤ) → length (rows nodes width cells) ≡ nodes
length-rows zero width cells = refl
length-rows (suc nodes) width cells = ap suc (length-rows nodes width (drop width cells))

pub row-at : (nodes width : ℕ) (cells : List ℤ) (node : ℕ) → node < nodes → slice_get (rows nodes width cells) node ≡ Some (take width (drop (node * width) cells))
row-at zero width cells node h = absurd (omega arith)
row-at (suc nodes) width cells zero h = let none : 0 ≡ 0 * width = grind arith in ap (λ n. Some (take width (drop n cells))) none
row-at (suc nodes) width cells (suc node) h =
    row-at nodes width (drop width cells) node (omega arith)
    ∙ ap (λ xs. Some (take width xs)) (drop-drop (node * width) width cells)
    ∙ ap (λ n. Some (take width (drop n cells))) (grind arith)

-- the number of a field at a node and an index
pub field-at : (nodes : ℕ) (cells : List ℤ) (column : Column) (node index : ℕ) → node < nodes → index < column.width
    → item (item (column_of nodes cells column) (pos node) []) (pos index) (pos 0) ≡ get_or cells (column.start + (node * column.width + index)) (pos 0)
field-at nodes cells column node index h k =
    ap (λ o. unwrap_or (slice_get (unwrap_or o []) index) (pos 0)) (row-at nodes column.width (drop column.start cells) node h)
    ∙ unwrap_or-slice_get (take column.width (drop (node * column.width) (drop column.start cells))) index (pos 0)
    ∙ get_or-take column.width (drop (node * column.width) (drop column.start cells)) index (pos 0) k
    ∙ get_or-drop (node * column.width) (drop column.start cells) index (pos 0)
    ∙ get_or-drop column.start cells (node * column.width + index) (pos 0)

pub no-node : (nodes : ℕ) (cells : List ℤ) (column : Column) (node index : ℤ) → IsOutside nodes node → item (item (column_of nodes cells column) node []) index (pos 0) ≡ pos 0
no-node nodes cells column (pos node) (pos index) h =
    ap (λ o. unwrap_or (slice_get (unwrap_or o []) index) (pos 0)) (get-past (column_of nodes cells column) node (subst (λ n. n ≤ node) (sym (length-rows nodes column.width (drop column.start cells))) h))
no-node nodes cells column (pos node) (negsuc index) h = refl
no-node nodes cells column (negsuc node) (pos index) h = refl
no-node nodes cells column (negsuc node) (negsuc index) h = refl

pub no-index : (nodes : ℕ) (cells : List ℤ) (column : Column) (at : ℤ) (node : ℕ) (index : ℤ) → at ≡ pos node → node < nodes → IsOutside column.width index → item (item (column_of nodes cells column) at []) index (pos 0) ≡ pos 0
no-index nodes cells column at node (pos index) e h k =
    ap (λ z. item (item (column_of nodes cells column) z []) (pos index) (pos 0)) e
    ∙ ap (λ o. unwrap_or (slice_get (unwrap_or o []) index) (pos 0)) (row-at nodes column.width (drop column.start cells) node h)
    ∙ ap (λ o. unwrap_or o (pos 0)) (get-past (take column.width (drop (node * column.width) (drop column.start cells))) index
    (omega (arith, length-take column.width (drop (node * column.width) (drop column.start cells)))))
no-index nodes cells column at node (negsuc index) e h k = refl

-- the number of a field at a node and an index that are given as whole numbers
pub field-read : (nodes : ℕ) (cells : List ℤ) (column : Column) (at : ℤ) (node : ℕ) (at_index : ℤ) (index place : ℕ) → at ≡ pos node → node < nodes → at_index ≡ pos index → index < column.width
    → place ≡ column.start + (node * column.width + index) → get_or cells place (pos 0) ≡ item (item (column_of nodes cells column) at []) at_index (pos 0)
field-read nodes cells column at node at_index index place e h f k p =
    ap (λ n. get_or cells n (pos 0)) p
    ∙ sym (field-at nodes cells column node index h k)
    ∙ (λ i. item (item (column_of nodes cells column) (sym e i) []) (sym f i) (pos 0))

-- what a place of the fields says of the buffer
pub record Within (nodes : ℕ) (cells : List ℤ) (column : Column) (at_node at_index : ℕ) : Type 0 where
  pub node : at_node < nodes
  pub index : at_index < column.width
  pub place : column.start + (at_node * column.width + at_index) < length cells

pub place-within : (nodes : ℕ) (cells : List ℤ) (columns : List Column) (fields : List (List (List ℤ))) (field node index : ℕ) (column : Column) → columns_of nodes cells columns ≡ fields → AreLaidOut nodes 0 columns (length cells)
    → HasPlace fields field node index → slice_get columns field ≡ Some column → Within nodes cells column node index
place-within nodes cells columns fields field node index column e laid h f =
    let found : column_at fields field ≡ column_of nodes cells column =
    ap (λ fs. unwrap_or (slice_get fs field) []) (sym e) ∙ ap (λ o. unwrap_or o []) (slice_get-map (column_of nodes cells) columns field ∙ ap (option_map (column_of nodes cells)) f) in
    let first : node < nodes = subst (λ n. node < n) (ap length found ∙ length-rows nodes column.width (drop column.start cells)) h.node in
    let row : row_at fields field node ≡ take column.width (drop (node * column.width) (drop column.start cells)) =
    ap (λ c. unwrap_or (slice_get c node) []) found ∙ ap (λ o. unwrap_or o []) (row-at nodes column.width (drop column.start cells) node first) in
    let second : index < column.width = omega (arith, subst (λ xs. index < length xs) row h.index, length-take column.width (drop (node * column.width) (drop column.start cells))) in
    record {
      node = first;
      index = second;
      place = omega (arith, inside nodes column.width node index first second, column-ends nodes 0 columns (length cells) field column laid f);
    }

-- ---- writes

take-set-lt : (n : ℕ) (xs : List ℤ) (i : ℕ) (v : ℤ) → i < n → take n (slice_set xs i v) ≡ slice_set (take n xs) i v
take-set-lt zero xs i v h = absurd (omega arith)
take-set-lt (suc n) [] i v h = refl
take-set-lt (suc n) (x ∷ xs) zero v h = refl
take-set-lt (suc n) (x ∷ xs) (suc i) v h = ap (λ ys. x ∷ ys) (take-set-lt n xs i v (omega arith))

rows-set : (nodes width : ℕ) (cells : List ℤ) (node index : ℕ) (v : ℤ) → node < nodes → index < width
    → rows nodes width (slice_set cells (node * width + index) v) ≡ change (λ row. put v row (pos index)) (rows nodes width cells) node
rows-set zero width cells node index v h k = absurd (omega arith)
rows-set (suc nodes) width cells zero index v h k =
    ap (λ n. rows (suc nodes) width (slice_set cells n v)) (zero-product width index)
    ∙ (λ i. (take-set-lt width cells index v k ∙ set-change (take width cells) index v) i ∷ rows nodes width (drop-set-lt width cells index v k i))
  where
    zero-product : (w i : ℕ) → zero * w + i ≡ i
    zero-product w i = grind arith
rows-set (suc nodes) width cells (suc node) index v h k =
    ap (λ n. rows (suc nodes) width (slice_set cells n v)) (suc-product node width index)
    ∙ (λ i. take-set-le width cells (width + (node * width + index)) v (omega arith) i ∷ (ap (λ xs. rows nodes width xs) (drop-set-add width cells (node * width + index) v) ∙ rows-set nodes width (drop width cells) node index v (omega arith) k) i)
  where
    suc-product : (n w i : ℕ) → suc n * w + i ≡ w + (n * w + i)
    suc-product n w i = grind arith

rows-past : (nodes width : ℕ) (cells : List ℤ) (p : ℕ) (v : ℤ) → nodes * width ≤ p → rows nodes width (slice_set cells p v) ≡ rows nodes width cells
rows-past zero width cells p v h = refl
rows-past (suc nodes) width cells p v h =
    let more : width + nodes * width ≤ p = grind (arith, h) in
    let at : width + (p - width) ≡ p = omega arith in
    (λ i. take-set-le width cells p v (omega arith) i ∷
    (ap (λ xs. rows nodes width xs) (ap (λ n. drop width (slice_set cells n v)) (sym at) ∙ drop-set-add width cells (p - width) v) ∙ rows-past nodes width (drop width cells) (p - width) v (omega arith)) i)

-- a write before a column, or behind it
column-before : (nodes : ℕ) (cells : List ℤ) (column : Column) (p : ℕ) (v : ℤ) → p < column.start → column_of nodes (slice_set cells p v) column ≡ column_of nodes cells column
column-before nodes cells column p v h = ap (λ xs. rows nodes column.width xs) (drop-set-lt column.start cells p v h)

column-behind : (nodes : ℕ) (cells : List ℤ) (column : Column) (p : ℕ) (v : ℤ) → column.start + nodes * column.width ≤ p → column_of nodes (slice_set cells p v) column ≡ column_of nodes cells column
column-behind nodes cells column p v h =
    let at : column.start + (p - column.start) ≡ p = omega arith in
    ap (λ xs. rows nodes column.width xs) (ap (λ n. drop column.start (slice_set cells n v)) (sym at) ∙ drop-set-add column.start cells (p - column.start) v)
    ∙ rows-past nodes column.width (drop column.start cells) (p - column.start) v (omega arith)

columns-before : (nodes : ℕ) (cells : List ℤ) (start : ℕ) (columns : List Column) (end p : ℕ) (v : ℤ) → AreLaidOut nodes start columns end → p < start → columns_of nodes (slice_set cells p v) columns ≡ columns_of nodes cells columns
columns-before nodes cells start [] end p v h k = refl
columns-before nodes cells start (column ∷ columns) end p v h k =
    λ i. column-before nodes cells column p v (subst (λ n. p < n) (sym h.0) k) i ∷ columns-before nodes cells (start + nodes * column.width) columns end p v h.1 (omega arith) i

pub columns-set : (nodes : ℕ) (cells : List ℤ) (start : ℕ) (columns : List Column) (end field : ℕ) (column : Column) (node index : ℕ) (v : ℤ) → AreLaidOut nodes start columns end → slice_get columns field ≡ Some column
    → node < nodes → index < column.width
    → columns_of nodes (slice_set cells (column.start + (node * column.width + index)) v) columns ≡ set_cell (columns_of nodes cells columns) field node (pos index) v
columns-set nodes cells start [] end field column node index v h e k l = cc
columns-set nodes cells start (first ∷ columns) end zero column node index v h e k l =
    let same : first ≡ column = cc in
    let less = inside nodes column.width node index k l in
    let ends : column.start + (node * column.width + index) < start + nodes * first.width =
    subst (λ (c : Column). column.start + (node * column.width + index) < start + nodes * c.width) (sym same)
    (subst (λ n. column.start + (node * column.width + index) < n + nodes * column.width) (ap (λ (c : Column). c.start) (sym same) ∙ h.0) (omega arith)) in
    λ i. (ap (λ c. column_of nodes (slice_set cells (column.start + (node * column.width + index)) v) c) same
    ∙ ap (λ xs. rows nodes column.width xs) (drop-set-add column.start cells (node * column.width + index) v)
    ∙ rows-set nodes column.width (drop column.start cells) node index v k l
    ∙ ap (λ c. change (λ row. put v row (pos index)) (column_of nodes cells c) node) (sym same)) i
    ∷ columns-before nodes cells (start + nodes * first.width) columns end (column.start + (node * column.width + index)) v h.1 ends i
columns-set nodes cells start (first ∷ columns) end (suc field) column node index v h e k l =
    let later = column-starts nodes (start + nodes * first.width) columns end field column h.1 e in
    let behind : first.start + nodes * first.width ≤ column.start + (node * column.width + index) = subst (λ n. n + nodes * first.width ≤ column.start + (node * column.width + index)) (sym h.0) (omega arith) in
    λ i. column-behind nodes cells first (column.start + (node * column.width + index)) v behind i
    ∷ columns-set nodes cells (start + nodes * first.width) columns end field column node index v h.1 e k l i

-- a write to the buffer is one to the fields
pub write-is : (nodes : ℕ) (cells : List ℤ) (columns : List Column) (fields : List (List (List ℤ))) (field node index : ℕ) (column : Column) (v v' : ℤ) (place : ℕ) → columns_of nodes cells columns ≡ fields → AreLaidOut nodes 0 columns (length cells)
    → HasPlace fields field node index → slice_get columns field ≡ Some column → v' ≡ v → place ≡ column.start + (node * column.width + index)
    → columns_of nodes (slice_set cells place v') columns ≡ set_cell fields field node (pos index) v
write-is nodes cells columns fields field node index column v v' place e laid h f same p =
    let within = place-within nodes cells columns fields field node index column e laid h f in
    (λ i. columns_of nodes (slice_set cells (p i) (same i)) columns)
    ∙ columns-set nodes cells 0 columns (length cells) field column node index v laid f within.node within.index
    ∙ ap (λ fs. set_cell fs field node (pos index) v) e

-- an element as a place
pub found-at : {X : Type 0} (xs : List X) (i j : ℕ) (x : X) → i ≡ j → i < length xs → x ≡ get_or xs i x → slice_get xs j ≡ Some x
found-at xs i j x same lt is = ap (λ k. slice_get xs k) (sym same) ∙ slice_get-get_or xs i x lt ∙ ap Some (sym is)

pub read-found : (nodes : ℕ) (cells : List ℤ) (columns : List Column) (fields : List (List (List ℤ))) (field : ℕ) (node index : ℤ) (column : Column) → columns_of nodes cells columns ≡ fields → slice_get columns field ≡ Some column
    → item (item (column_of nodes cells column) node []) index (pos 0) ≡ cell fields field node index
read-found nodes cells columns fields field node index column e f =
    ap (λ o. item (item (unwrap_or o []) node []) index (pos 0)) (sym (slice_get-map (column_of nodes cells) columns field ∙ ap (option_map (column_of nodes cells)) f))
    ∙ ap (λ fs. cell fs field node index) e

pub read-none : (nodes : ℕ) (cells : List ℤ) (columns : List Column) (fields : List (List (List ℤ))) (field : ℕ) (node index : ℤ) → columns_of nodes cells columns ≡ fields → slice_get columns field ≡ None
    → pos 0 ≡ cell fields field node index
read-none nodes cells columns fields field node index e f =
    sym (nothing node index)
    ∙ ap (λ o. item (item (unwrap_or o []) node []) index (pos 0)) (sym (slice_get-map (column_of nodes cells) columns field ∙ ap (option_map (column_of nodes cells)) f))
    ∙ ap (λ fs. cell fs field node index) e
  where
    nothing : (node index : ℤ) → item (item {X = List ℤ} [] node []) index (pos 0) ≡ pos 0
    nothing (pos n) (pos i) = refl
    nothing (pos n) (negsuc i) = refl
    nothing (negsuc n) (pos i) = refl
    nothing (negsuc n) (negsuc i) = refl

-- ---- fields that are added

rows-flat : (width : ℕ) (values : List ℤ) → rows (length values) width (flat_map (replicate width) values) ≡ map (λ value. replicate width value) values
rows-flat width [] = refl
rows-flat width (v ∷ vs) =
    λ i. take_at (replicate width v) (flat_map (replicate width) vs) width (length-replicate width v) i
    ∷ (ap (λ xs. rows (length vs) width xs) (drop_at (replicate width v) (flat_map (replicate width) vs) width (length-replicate width v)) ∙ rows-flat width vs) i

pub length-flat : (width : ℕ) (values : List ℤ) → length (flat_map (replicate width) values) ≡ length values * width
length-flat width [] = grind arith
length-flat width (v ∷ vs) = grind (arith, length-append (replicate width v) (flat_map (replicate width) vs), length-replicate width v, length-flat width vs)

rows-append : (nodes width : ℕ) (cells more : List ℤ) → nodes * width ≤ length cells → rows nodes width (cells ++ more) ≡ rows nodes width cells
rows-append zero width cells more h = refl
rows-append (suc nodes) width cells more h =
    let enough : width + nodes * width ≤ length cells = grind (arith, h) in
    λ i. take-append-le width cells more (omega arith) i
    ∷ (ap (λ xs. rows nodes width xs) (drop-append-le width cells more (omega arith)) ∙ rows-append nodes width (drop width cells) more (omega (arith, length-drop width cells))) i

columns-append : (nodes : ℕ) (cells more : List ℤ) (start : ℕ) (columns : List Column) (end : ℕ) → AreLaidOut nodes start columns end → end ≤ length cells → columns_of nodes (cells ++ more) columns ≡ columns_of nodes cells columns
columns-append nodes cells more start [] end h k = refl
columns-append nodes cells more start (column ∷ columns) end h k =
    let grows = laid-grows nodes (start + nodes * column.width) columns end h.1 in
    let ends : column.start + nodes * column.width ≤ length cells = subst (λ n. n + nodes * column.width ≤ length cells) (sym h.0) (omega arith) in
    λ i. (ap (λ xs. rows nodes column.width xs) (drop-append-le column.start cells more (omega arith)) ∙ rows-append nodes column.width (drop column.start cells) more (omega (arith, length-drop column.start cells))) i
    ∷ columns-append nodes cells more (start + nodes * column.width) columns end h.1 k i

pub laid-more : (nodes start : ℕ) (columns : List Column) (end width : ℕ) → AreLaidOut nodes start columns end → AreLaidOut nodes start (columns ++ record { start = end; width = width } ∷ []) (end + nodes * width)
laid-more nodes start [] end width h = (sym h, ap (λ n. n + nodes * width) h)
laid-more nodes start (column ∷ columns) end width h = (h.0, laid-more nodes (start + nodes * column.width) columns end width h.1)

-- a field that is added behind the others
pub columns-more : (nodes : ℕ) (cells : List ℤ) (columns : List Column) (values : List ℤ) (width : ℕ) → length values ≡ nodes → AreLaidOut nodes 0 columns (length cells)
    → columns_of nodes (cells ++ flat_map (replicate width) values) (columns ++ record { start = length cells; width = width } ∷ [])
    ≡ columns_of nodes cells columns ++ map (λ value. replicate width value) values ∷ []
columns-more nodes cells columns values width e h =
    map-append (column_of nodes (cells ++ flat_map (replicate width) values)) columns (record { start = length cells; width = width } ∷ [])
    ∙ (λ i. columns-append nodes cells (flat_map (replicate width) values) 0 columns (length cells) h (omega arith) i
    ++ (ap (λ xs. rows nodes width xs) (drop_at cells (flat_map (replicate width) values) (length cells) refl)
    ∙ ap (λ n. rows n width (flat_map (replicate width) values)) (sym e)
    ∙ rows-flat width values) i ∷ [])

pub laid-field : (nodes : ℕ) (cells all : List ℤ) (columns more : List Column) (values : List ℤ) (start width : ℕ) → length values ≡ nodes → AreLaidOut nodes 0 columns (length cells) → start ≡ length cells
    → all ≡ cells ++ flat_map (replicate width) values → more ≡ columns ++ record { start = start; width = width } ∷ []
    → AreLaidOut nodes 0 more (length all)
laid-field nodes cells all columns more values start width e h at f g =
    let end : length cells + nodes * width ≡ length all =
    ap (λ n. length cells + n * width) (sym e) ∙ ap (λ n. length cells + n) (sym (length-flat width values)) ∙ sym (length-append cells (flat_map (replicate width) values)) ∙ ap length (sym f) in
    let columns' : columns ++ record { start = length cells; width = width } ∷ [] ≡ more = (λ i. columns ++ record { start = sym at i; width = width } ∷ []) ∙ sym g in
    subst (λ n. AreLaidOut nodes 0 more n) end (subst (λ cs. AreLaidOut nodes 0 cs (length cells + nodes * width)) columns' (laid-more nodes 0 columns (length cells) width h))

pub field-laid : (nodes : ℕ) (cells all : List ℤ) (columns more : List Column) (values : List ℤ) (start width : ℕ) → length values ≡ nodes → AreLaidOut nodes 0 columns (length cells) → start ≡ length cells
    → all ≡ cells ++ flat_map (replicate width) values → more ≡ columns ++ record { start = start; width = width } ∷ []
    → columns_of nodes all more ≡ columns_of nodes cells columns ++ map (λ value. replicate width value) values ∷ []
field-laid nodes cells all columns more values start width e h at f g =
    (λ i. columns_of nodes (f i) (g i))
    ∙ (λ i. columns_of nodes (cells ++ flat_map (replicate width) values) (columns ++ record { start = at i; width = width } ∷ []))
    ∙ columns-more nodes cells columns values width e h
