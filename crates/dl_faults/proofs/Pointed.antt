-- The points of a command, list by list.
use Rattle.std.proofs.Common.{◌≡◌, ℕ, zero, suc, ◌+◌, ◌<◌, ◌≤◌, nat_lt, max, Bool, true, false, ◌||◌, if◌then◌else◌, List, [], ◌∷◌, ◌++◌, map, length, drop, drop-cons, get_or, slice_get, unwrap_or, append_assoc, append-nil, refl, ap, sym, ◌∙◌, arith}
use Rattle.std.proofs.lemmas.Bool.{ltb-true, ltb-false}
use Rattle.std.proofs.Math.ListN.{drop_of_length-le}
use Rattle.std.specs.Prelude.{codes}
use Rattle.std.specs.List.{flat_map}
use Rattle.dl_tree.specs.declared.tree.Place.{Place}
use Rattle.dl_tree.specs.declared.tree.Tree.{Tree, List', Row_of-Tree, end_of-Tree, more_of-Tree, items-the_row-Tree, items_hidden-the_row-Tree-0}
use Rattle.dl_tree.specs.declared.tree.Tree.TheVariants as tree
use Rattle.dl_tree.specs.TreePlace.{place_of}
use Rattle.dl_faults.specs.Places.{begins_with}
use Rattle.dl_faults.specs.ProgramPlaces.{is_side, is_plain_point, point_lists, points_after, points_in, body_of, proc_tree, point_place}
use Rattle.dl_faults.specs.Code.{own_point, parts_before, points_unless}
use Rattle.dl_faults.specs.Spots.{spots_of, spot_in}

abbrev row_of : Tree → (n : _) × Row_of-Tree n
row_of (List' shape row p) = (_, row)
row_of _ = (_, end_of-Tree)

row-after : (k : ℕ) (n : _) (row : Row_of-Tree n) → points_after k row ≡ flat_map point_lists (drop k (items-the_row-Tree n row))
row-after zero n end_of-Tree = refl
row-after (suc k) n end_of-Tree = refl
row-after zero n (more_of-Tree part parts) = ap (λ rest. point_lists part ++ rest) (row-after zero _ parts)
row-after (suc k) n (more_of-Tree part parts) = row-after k _ parts

module _ (items : List Tree) (p : Place) where
  abbrev whole : Tree
  whole = tree.List items p

  behind-so-many : (k : ℕ) → points_after k (row_of whole).1 ≡ flat_map point_lists (drop k items)
  behind-so-many k = let row = row_of whole in row-after k row.0 row.1 ∙ ap (λ parts. flat_map point_lists (drop k parts)) (items_hidden-the_row-Tree-0 items)

  -- the points of a list
  pub points-List : point_lists whole ≡
      (if begins_with (codes "if") whole then flat_map point_lists (drop 2 items) else
      if is_side whole then flat_map point_lists (drop 1 items) else
      if begins_with (codes "while") whole then whole ∷ flat_map point_lists (drop 3 items) else
      if is_plain_point whole then whole ∷ [] else [])
  points-List =
      ap (λ x. if begins_with (codes "if") whole then x else if is_side whole then points_after 1 (row_of whole).1 else if begins_with (codes "while") whole then whole ∷ points_after 3 (row_of whole).1 else if is_plain_point whole then whole ∷ [] else []) (behind-so-many 2)
      ∙ ap (λ x. if begins_with (codes "if") whole then flat_map point_lists (drop 2 items) else if is_side whole then x else if begins_with (codes "while") whole then whole ∷ points_after 3 (row_of whole).1 else if is_plain_point whole then whole ∷ [] else []) (behind-so-many 1)
      ∙ ap (λ x. if begins_with (codes "if") whole then flat_map point_lists (drop 2 items) else if is_side whole then flat_map point_lists (drop 1 items) else if begins_with (codes "while") whole then whole ∷ x else if is_plain_point whole then whole ∷ [] else []) (behind-so-many 3)

  abbrev from_part : ℕ → List Tree
  from_part k = flat_map point_lists (drop k items)

  none-behind : from_part (length items) ≡ []
  none-behind = ap (flat_map point_lists) (drop_of_length-le items (omega arith))

  in-parts : (a b c e : Bool) →
      (if a then from_part 2 else if b then from_part 1 else if c then whole ∷ from_part 3 else if e then whole ∷ [] else [])
      ≡ (if (if a || b then false else (c || e)) then whole ∷ [] else []) ++ from_part (if a then 2 else if b then 1 else if c then 3 else length items)
  in-parts true b c e = refl
  in-parts false true c e = refl
  in-parts false false true e = refl
  in-parts false false false true = ap (λ rest. whole ∷ rest) (sym none-behind)
  in-parts false false false false = sym none-behind

  -- by the list itself and its commands
  pub points-parts : point_lists whole ≡ own_point whole ++ from_part (parts_before whole (length items))
  points-parts = points-List ∙ in-parts (begins_with (codes "if") whole) (is_side whole) (begins_with (codes "while") whole) (is_plain_point whole)

map-append : (xs ys : List Tree) → map place_of (xs ++ ys) ≡ map place_of xs ++ map place_of ys
map-append [] ys = refl
map-append (x ∷ xs) ys = ap (λ rest. place_of x ∷ rest) (map-append xs ys)

-- the place of a list that is a point, and then those of its commands
pub points-placed : (old middle new : List Place) (list : Tree) (items : List Tree) (p : Place) (first : ℕ) → list ≡ tree.List items p → first ≡ parts_before list (length items) →
    middle ≡ old ++ map place_of (own_point list) → new ≡ middle ++ map place_of (flat_map point_lists (drop first items)) → new ≡ old ++ map place_of (point_lists list)
points-placed old middle new list items p first is begins own further =
    let here = tree.List items p in
    let own_places = map place_of (own_point list) in
    let inside = flat_map point_lists (drop first items) in
    let count : parts_before here (length items) ≡ first = ap (λ (t : Tree). parts_before t (length items)) (sym is) ∙ sym begins in
    let lists : point_lists list ≡ own_point list ++ inside =
    ap point_lists is ∙ (points-parts items p ∙ (ap (λ k. own_point here ++ flat_map point_lists (drop k items)) count ∙ ap (λ (t : Tree). own_point t ++ inside) (sym is))) in
    further ∙ (ap (λ m. m ++ map place_of inside) own ∙ (append_assoc old own_places (map place_of inside)
    ∙ ap (λ rest. old ++ rest) (sym (ap (map place_of) lists ∙ map-append (own_point list) inside))))

-- ---- the parts from a number on, one after another

module _ (items : List Tree) (first : ℕ) where
  abbrev pub still : ℕ → List Place
  still n = map place_of (flat_map point_lists (drop (max first n) items))

  pub still-all : (places : List Place) → places ++ still 0 ≡ places ++ map place_of (flat_map point_lists (drop first items))
  still-all places = let e : max first 0 ≡ first = omega arith in ap (λ k. places ++ map place_of (flat_map point_lists (drop k items))) e

  skipped-part : (n : ℕ) → n < first → still (n + 1) ≡ still n
  skipped-part n h =
      let e : max first n ≡ first = omega (h, arith) in
      let f : max first (n + 1) ≡ first = omega (h, arith) in
      ap (λ k. map place_of (flat_map point_lists (drop k items))) (f ∙ sym e)

  added-part : (n : ℕ) (part d : Tree) → first ≤ n → n < length items → part ≡ get_or items n d → still n ≡ map place_of (point_lists part) ++ still (n + 1)
  added-part n part d h within here =
      let e : max first n ≡ n = omega (h, arith) in
      let f : max first (n + 1) ≡ suc n = omega (h, arith) in
      let cut : drop n items ≡ part ∷ drop (suc n) items = drop-cons items n d within ∙ ap (λ y. y ∷ drop (suc n) items) (sym here) in
      ap (λ k. map place_of (flat_map point_lists (drop k items))) e
      ∙ (ap (λ (ts : List Tree). map place_of (flat_map point_lists ts)) cut
      ∙ (map-append (point_lists part) (flat_map point_lists (drop (suc n) items))
      ∙ ap (λ k. map place_of (point_lists part) ++ map place_of (flat_map point_lists (drop k items))) (sym f)))

  pub next-part : (n : ℕ) (part d : Tree) (skipped : Bool) (old new whole : List Place) → n < length items → part ≡ get_or items n d → skipped ≡ nat_lt n first →
      new ≡ old ++ map place_of (points_unless skipped part) → old ++ still n ≡ whole → new ++ still (n + 1) ≡ whole
  next-part n part d skipped old new whole within here test added before = go (nat_lt n first) refl
    where
      go : (b : Bool) → nat_lt n first ≡ b → new ++ still (n + 1) ≡ whole
      go true e =
          let same : new ≡ old = added ∙ (ap (λ b. old ++ map place_of (points_unless b part)) (test ∙ e) ∙ append-nil old) in
          ap (λ ps. ps ++ still (n + 1)) same ∙ (ap (λ ps. old ++ ps) (skipped-part n (ltb-true n first e)) ∙ before)
      go false e =
          let more : new ≡ old ++ map place_of (point_lists part) = added ∙ ap (λ b. old ++ map place_of (points_unless b part)) (test ∙ e) in
          ap (λ ps. ps ++ still (n + 1)) more
          ∙ (append_assoc old (map place_of (point_lists part)) (still (n + 1))
          ∙ (ap (λ ps. old ++ ps) (sym (added-part n part d (ltb-false n first e) within here)) ∙ before))

  pub all-added : (n : ℕ) (places whole : List Place) → length items ≤ n → places ++ still n ≡ whole → places ≡ whole
  all-added n places whole end before =
      let bound : length items ≤ max first n = omega (end, arith) in
      sym (ap (λ (ts : List Tree). places ++ map place_of (flat_map point_lists ts)) (drop_of_length-le items bound) ∙ append-nil places) ∙ before

pub points_flat : (commands : List Tree) → points_in commands ≡ flat_map point_lists commands
points_flat [] = refl
points_flat (command ∷ commands) = ap (λ rest. point_lists command ++ rest) (points_flat commands)

-- ---- places

place-mapped : (whole : Tree) (lists : List Tree) (n : ℕ) → unwrap_or (slice_get (map place_of lists) n) (place_of whole) ≡ place_of (unwrap_or (slice_get lists n) whole)
place-mapped _ [] n = refl
place-mapped _ (list ∷ lists) zero = refl
place-mapped whole (list ∷ lists) (suc n) = place-mapped whole lists n

-- the place of a point, as the code keeps it
pub spot-told : (file : Tree) (p k : ℕ) → spot_in (spots_of file p) k ≡ point_place file p k
spot-told file p zero = refl
spot-told file p (suc k) = place-mapped (proc_tree file p) (points_in (body_of (proc_tree file p))) k
