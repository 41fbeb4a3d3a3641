-- A field or row after the updates of a step, each of which fits, in a well-sorted state.
use Rattle.std.proofs.Common.{◌≡◌, ℕ, zero, suc, ◌<◌, ◌==◌, ℤ, pos, negsuc, Bool, true, false, ◌&&◌, Option, Some, None, List, [], ◌∷◌, refl, ap, sym, ◌∙◌, subst, eq-eqb, length, map, arith, ◌⊎◌, inl, inr}
use Rattle.std.proofs.lemmas.Bool.{cases_eq, eqb-true, ltb-true}
use Rattle.std.proofs.lemmas.Bool.Decides.{Decides-int_eq}
use Rattle.std.specs.Prelude.{slice_get, unwrap_or, is_some, if◌then◌else◌}
use Rattle.std.specs.Ordering.{int_eq}
use Rattle.std.specs.List.{AllByRecursion as Each, AllZip, list_all}
use Rattle.dl_term.specs.declared.syntax.Term.{Term}
use Rattle.dl_term.specs.State.{State, item, cell}
use Rattle.dl_term.specs.Names.{Names}
use Rattle.dl_term.specs.Meaning.{value}
use Rattle.dl_model.specs.declared.protocol.FieldDecl.{FieldDecl}
use Rattle.dl_model.specs.declared.protocol.Update.{Update}
use Rattle.dl_model.specs.declared.protocol.Instances.{Instances}
use Rattle.dl_model.specs.Sorts.{is_node, has}
use Rattle.dl_model.specs.Lookup.{protocol_at}
use Rattle.dl_model.specs.Steps.{change, put, index_of, index_fits, update_fits, set_cell, updated}
use Rattle.dl_model.specs.States.{width, FieldIsSorted}
use Rattle.dl_model.specs.Formed.{AreDistinct}
use Rattle.dl_model.proofs.Small.{and-left, and-right, or-left, or-right, eqb-other}
use Rattle.dl_model.proofs.Sorted.{set-fits}
use Rattle.dl_wp.specs.Before.{update_of}

-- ---- lists

pub int-true : (x y : ℤ) → x ≡ y → int_eq x y ≡ true
int-true x y e = (Decides-int_eq x y).1 e

pub int-false : (x y : ℤ) → (x ≡ y → ⊥) → int_eq x y ≡ false
int-false x y n = go (int_eq x y) refl
  where
    go : (b : Bool) → int_eq x y ≡ b → int_eq x y ≡ false
    go true e = absurd (n ((Decides-int_eq x y).0 e))
    go false e = e

cases-int : (x y : ℤ) → (x ≡ y) ⊎ (x ≡ y → ⊥)
cases-int x y = go (int_eq x y) refl
  where
    go : (b : Bool) → int_eq x y ≡ b → (x ≡ y) ⊎ (x ≡ y → ⊥)
    go true e = inl ((Decides-int_eq x y).0 e)
    go false e = inr (λ q. cc (e, int-true x y q))

pub change-other : {X : Type 0} (f : X → X) (xs : List X) (n m : ℕ) → (m ≡ n → ⊥) → slice_get (change f xs n) m ≡ slice_get xs m
change-other f [] n m h = refl
change-other f (x ∷ xs) zero zero h = absurd (h refl)
change-other f (x ∷ xs) zero (suc m) h = refl
change-other f (x ∷ xs) (suc n) zero h = refl
change-other f (x ∷ xs) (suc n) (suc m) h = change-other f xs n m (λ e. h (ap suc e))

pub changed-get : {X : Type 0} (f : X → X) (xs : List X) (n : ℕ) (d : X) → n < length xs → unwrap_or (slice_get (change f xs n) n) d ≡ f (unwrap_or (slice_get xs n) d)
changed-get f [] n d h = absurd (omega arith)
changed-get f (x ∷ xs) zero d h = refl
changed-get f (x ∷ xs) (suc n) d h = changed-get f xs n d (omega arith)

item-other : {X : Type 0} (f : X → X) (xs : List X) (n : ℕ) (v : ℤ) (d : X) → (v ≡ pos n → ⊥) → item (change f xs n) v d ≡ item xs v d
item-other f xs n (pos m) d h = ap (λ o. unwrap_or o d) (change-other f xs n m (λ e. h (ap pos e)))
item-other f xs n (negsuc m) d h = refl

each-at : {X : Type 0} (P : X → Type 0) (xs : List X) (n : ℕ) (d : X) → n < length xs → Each P xs → P (unwrap_or (slice_get xs n) d)
each-at P [] n d h e = absurd (omega arith)
each-at P (x ∷ xs) zero d h e = e.0
each-at P (x ∷ xs) (suc n) d h e = each-at P xs n d (omega arith) e.1

fields-get : (nodes : ℕ) (fields : List FieldDecl) (columns : List (List (List ℤ))) (f : ℕ) (decl : FieldDecl) → AllZip (FieldIsSorted nodes) fields columns → slice_get fields f ≡ Some decl →
    (f < length columns) × FieldIsSorted nodes decl (unwrap_or (slice_get columns f) [])
fields-get nodes [] columns f decl s e = cc
fields-get nodes (x ∷ fields) [] f decl s e = absurd s
fields-get nodes (x ∷ fields) (c ∷ columns) zero decl s e = (omega arith, subst (λ q. FieldIsSorted nodes q c) (same x decl e) s.0)
  where
    same : (a b : FieldDecl) → Some a ≡ Some b → a ≡ b
    same a b q = cc
fields-get nodes (x ∷ fields) (c ∷ columns) (suc f) decl s e = let k = fields-get nodes fields columns f decl s.1 e in let w = k.0 in (omega arith, k.1)

-- ---- one update

-- the value at a cell after it may have been written
abbrev pub put_at : ℤ → ℤ → ℤ → ℤ → ℤ → ℤ → ℤ
put_at mover index new v i old = if int_eq v mover then (if int_eq i index then new else old) else old

put-there : (mover index new v i old : ℤ) → v ≡ mover → i ≡ index → new ≡ put_at mover index new v i old
put-there mover index new v i old e f = sym (ap (λ b. if b then (if int_eq i index then new else old) else old) (int-true v mover e) ∙ ap (λ b. if b then new else old) (int-true i index f))

put-else : (mover index new v i old : ℤ) → v ≡ mover → (i ≡ index → ⊥) → old ≡ put_at mover index new v i old
put-else mover index new v i old e n = sym (ap (λ b. if b then (if int_eq i index then new else old) else old) (int-true v mover e) ∙ ap (λ b. if b then new else old) (int-false i index n))

put-away : (mover index new v i old : ℤ) → (v ≡ mover → ⊥) → old ≡ put_at mover index new v i old
put-away mover index new v i old n = sym (ap (λ b. if b then (if int_eq i index then new else old) else old) (int-false v mover n))

cell-set : (columns : List (List (List ℤ))) (f mover j : ℕ) (new v i : ℤ) → f < length columns → mover < length (unwrap_or (slice_get columns f) []) → j < length (unwrap_or (slice_get (unwrap_or (slice_get columns f) []) mover) []) →
    cell (set_cell columns f mover (pos j) new) f v i ≡ put_at (pos mover) (pos j) new v i (cell columns f v i)
cell-set columns f mover j new v i a b c =
    ap (λ column. item (item column v []) i (pos 0)) (changed-get (λ column. change (λ row. put new row (pos j)) column mover) columns f [] a)
    ∙ elim (cases-int v (pos mover)) [
      | inl e ↦
          subst (λ w. item (item (change (λ row. change (λ old. new) row j) (unwrap_or (slice_get columns f) []) mover) w []) i (pos 0) ≡ put_at (pos mover) (pos j) new w i (cell columns f w i)) (sym e)
          (ap (λ row. item row i (pos 0)) (changed-get (λ row. change (λ old. new) row j) (unwrap_or (slice_get columns f) []) mover [] b)
          ∙ elim (cases-int i (pos j)) [
            | inl q ↦ subst (λ k. item (change (λ old. new) (unwrap_or (slice_get (unwrap_or (slice_get columns f) []) mover) []) j) k (pos 0) ≡ put_at (pos mover) (pos j) new (pos mover) k (cell columns f (pos mover) k)) (sym q)
                (changed-get (λ old. new) (unwrap_or (slice_get (unwrap_or (slice_get columns f) []) mover) []) j (pos 0) c ∙ put-there (pos mover) (pos j) new (pos mover) (pos j) (cell columns f (pos mover) (pos j)) refl refl)
            | inr n ↦ item-other (λ old. new) (unwrap_or (slice_get (unwrap_or (slice_get columns f) []) mover) []) j i (pos 0) n ∙ put-else (pos mover) (pos j) new (pos mover) i (cell columns f (pos mover) i) refl n
          ])
      | inr n ↦ ap (λ row. item row i (pos 0)) (item-other (λ row. change (λ old. new) row j) (unwrap_or (slice_get columns f) []) mover v [] n) ∙ put-away (pos mover) (pos j) new v i (cell columns f v i) n
    ]

cell-field : (columns : List (List (List ℤ))) (f mover : ℕ) (i v : ℤ) (field : ℕ) (node index : ℤ) → (field ≡ f → ⊥) → cell (set_cell columns f mover i v) field node index ≡ cell columns field node index
cell-field columns f mover i v field node index n = ap (λ o. item (item (unwrap_or o []) node []) index (pos 0)) (change-other (λ column. change (λ row. put v row i) column mover) columns f field n)

-- an update of a field that there is, with an index where it is a row
pub record UpdateIsFormed (fields : List FieldDecl) (u : Update) : Type 0 where
  pub decl : FieldDecl
  pub there : slice_get fields u.field ≡ Some decl
  pub row : decl.row ≡ is_some u.index

index-place : (nodes wide : ℕ) (decl : FieldDecl) (index : Option Term) (names : Names) (s : State) → s.nodes ≡ nodes → wide ≡ width nodes decl → decl.row ≡ is_some index → index_fits index names s ≡ true →
    (j : ℕ) × (index_of index names s ≡ pos j) × (j < wide)
index-place nodes wide decl None names s e w r h = (0, refl, rw w (rw r (omega arith)))
index-place nodes wide decl (Some t) names s e w r h = at (value t names s) refl h
  where
    at : (v : ℤ) → value t names s ≡ v → is_node s.nodes v ≡ true → (j : ℕ) × (value t names s ≡ pos j) × (j < wide)
    at (pos j) q k = let below : j < s.nodes = ltb-true j s.nodes k in (j, q, rw w (rw r (rw (sym e) below)))
    at (negsuc j) q k = cc

abbrev pub put_by : ℕ → Names → State → Option Update → ℤ → ℤ → ℤ → ℤ
put_by mover names s None v i old = old
put_by mover names s (Some u) v i old = put_at (pos mover) (index_of u.index names s) (value u.value names s) v i old

-- no update has the field
none-of : (us : List Update) (field : ℕ) → has (map (λ (u : Update). u.field) us) field ≡ false → update_of us field ≡ None
none-of [] field h = refl
none-of (u ∷ us) field h =
    ap (λ b. if b then Some u else update_of us field) (eqb-other u.field field (λ e. clash e))
    ∙ none-of us field (or-right (field == u.field) _ h)
  where
    clash : u.field ≡ field → ⊥
    clash e = let one : (field == u.field) ≡ true = eq-eqb field u.field (sym e) in let other = or-left (field == u.field) _ h in cc

module _ (inst : Instances) (label : ℕ) (names : Names) (s : State) (mover : ℕ) (nodes : s.nodes ≡ inst.nodes) (known : mover < inst.nodes) where
  one-update : (u : Update) (columns : List (List (List ℤ))) (v i : ℤ) → AllZip (FieldIsSorted inst.nodes) (protocol_at inst label).fields columns → UpdateIsFormed (protocol_at inst label).fields u → update_fits inst label names s u ≡ true →
      cell (set_cell columns u.field mover (index_of u.index names s) (value u.value names s)) u.field v i ≡ put_at (pos mover) (index_of u.index names s) (value u.value names s) v i (cell columns u.field v i)
  one-update u columns v i sorted f h =
      let c = fields-get inst.nodes (protocol_at inst label).fields columns u.field f.decl sorted f.there in
      let column = unwrap_or (slice_get columns u.field) [] in
      let m : mover < length column = let l : length column ≡ inst.nodes = c.1.height in omega arith in
      let wide = each-at (λ row. length row ≡ width inst.nodes f.decl) column mover [] m c.1.widths in
      let j = index-place inst.nodes (length (unwrap_or (slice_get column mover) [])) f.decl u.index names s nodes wide f.row (and-left (index_fits u.index names s) _ h) in
      subst (λ x. cell (set_cell columns u.field mover x (value u.value names s)) u.field v i ≡ put_at (pos mover) x (value u.value names s) v i (cell columns u.field v i)) (sym j.1)
      (cell-set columns u.field mover j.0 (value u.value names s) v i c.0 m j.2)

  set-all : (u : Update) (us : List Update) (columns : List (List (List ℤ))) → update_fits inst label names s u ≡ true →
      updated inst label names s mover (u ∷ us) columns ≡ updated inst label names s mover us (set_cell columns u.field mover (index_of u.index names s) (value u.value names s))
  set-all u us columns h = ap (λ b. updated inst label names s mover us (if b then set_cell columns u.field mover (index_of u.index names s) (value u.value names s) else columns)) h

  -- each field and row after the updates, which are all made
  pub updated-cell : (us : List Update) (columns : List (List (List ℤ))) (field : ℕ) (v i : ℤ) → AreDistinct (map (λ (u : Update). u.field) us) → list_all (update_fits inst label names s) us ≡ true →
      AllZip (FieldIsSorted inst.nodes) (protocol_at inst label).fields columns → Each (UpdateIsFormed (protocol_at inst label).fields) us →
      cell (updated inst label names s mover us columns) field v i ≡ put_by mover names s (update_of us field) v i (cell columns field v i)
  updated-cell [] columns field v i d h sorted f = refl
  updated-cell (u ∷ us) columns field v i d h sorted f =
      let fit = and-left (update_fits inst label names s u) _ h in
      let columns' = set_cell columns u.field mover (index_of u.index names s) (value u.value names s) in
      let sorted' = set-fits inst.nodes (protocol_at inst label).fields columns u.field mover (index_of u.index names s) (value u.value names s) sorted (and-right (index_fits u.index names s) _ fit) in
      let rest = updated-cell us columns' field v i d.1 (and-right (update_fits inst label names s u) _ h) sorted' f.1 in
      ap (λ c. cell c field v i) (set-all u us columns fit) ∙ rest
      ∙ elim (cases_eq u.field field) [
        | inl e ↦
            ap (λ o. put_by mover names s o v i (cell columns' field v i)) (ap (update_of us) (sym e) ∙ none-of us u.field d.0)
            ∙ subst (λ x. cell columns' x v i ≡ put_at (pos mover) (index_of u.index names s) (value u.value names s) v i (cell columns x v i)) e (one-update u columns v i sorted f.0 fit)
            ∙ ap (λ b. put_by mover names s (if b then Some u else update_of us field) v i (cell columns field v i)) (sym (eq-eqb u.field field e))
        | inr n ↦
            ap (put_by mover names s (update_of us field) v i) (cell-field columns u.field mover (index_of u.index names s) (value u.value names s) field v i (λ e. n (sym e)))
            ∙ ap (λ b. put_by mover names s (if b then Some u else update_of us field) v i (cell columns field v i)) (sym (eqb-other u.field field n))
      ]
