-- Lists with the same elements, and places in lists without repetition.
use Rattle.std.proofs.Common.{◌≡◌, ℕ, zero, suc, ◌<◌, Bool, true, false, ◌==◌, List, [], ◌∷◌, ◌++◌, length, map, Some, refl, ap, sym, subst, ◌∙◌, eq-eqb, arith}
use Rattle.std.specs.Prelude.{slice_get, ◌||◌}
use Rattle.std.specs.List.{list_all, AllByRecursion as Each}
use Rattle.dl_tree.specs.declared.tree.Tree.{Tree}
use Rattle.dl_model.specs.Sorts.{has}
use Rattle.dl_model.specs.Formed.{AreDistinct}
use Rattle.dl_one_file.proofs.Trees.{apart, first, second, IsPlain, same-head, same-tail}

-- lists of one length with the same elements
pub same-lists : {X : Type 0} (xs ys : List X) → length xs ≡ length ys → ((i : ℕ) (x y : X) → slice_get xs i ≡ Some x → slice_get ys i ≡ Some y → x ≡ y) → xs ≡ ys
same-lists [] [] n same = refl
same-lists [] (y ∷ ys) n same = absurd (omega (arith, n))
same-lists (x ∷ xs) [] n same = absurd (omega (arith, n))
same-lists (x ∷ xs) (y ∷ ys) n same =
    let head : x ≡ y = same 0 x y refl refl in
    let tail : xs ≡ ys = same-lists xs ys (omega (arith, n)) (λ i a b ha hb. same (suc i) a b ha hb) in
    λ j. head j ∷ tail j

-- what is written alike, one by one
pub same-map : {X : Type 0} (f g : X → Tree) (p q : X → Bool) → ((x y : X) → f x ≡ g y → p x ≡ true → q y ≡ true → IsPlain (f x) → x ≡ y) →
    (xs ys : List X) → map f xs ≡ map g ys → list_all p xs ≡ true → list_all q ys ≡ true → Each IsPlain (map f xs) → xs ≡ ys
same-map f g p q same [] [] e hp hq plain = refl
same-map f g p q same [] (y ∷ ys) e hp hq plain = cc
same-map f g p q same (x ∷ xs) [] e hp hq plain = cc
same-map f g p q same (x ∷ xs) (y ∷ ys) e hp hq plain =
    let head : x ≡ y = same x y (same-head _ _ _ _ e) (first _ _ hp) (first _ _ hq) plain.0 in
    let tail : xs ≡ ys = same-map f g p q same xs ys (same-tail _ _ _ _ e) (second _ _ hp) (second _ _ hq) plain.1 in
    λ i. head i ∷ tail i

pub same-names : {X : Type 0} (f g : X → Tree) → ((x y : X) → f x ≡ g y → IsPlain (f x) → x ≡ y) → (xs ys : List X) → map f xs ≡ map g ys → Each IsPlain (map f xs) → xs ≡ ys
same-names f g same [] [] e plain = refl
same-names f g same [] (y ∷ ys) e plain = cc
same-names f g same (x ∷ xs) [] e plain = cc
same-names f g same (x ∷ xs) (y ∷ ys) e plain =
    let head : x ≡ y = same x y (same-head _ _ _ _ e) plain.0 in
    let tail : xs ≡ ys = same-names f g same xs ys (same-tail _ _ _ _ e) plain.1 in
    λ i. head i ∷ tail i

-- what is written alike has the same numbers
pub same-images : {X : Type 0} (f g : X → Tree) (n : X → ℕ) → ((x y : X) → f x ≡ g y → IsPlain (f x) → n x ≡ n y) → (xs ys : List X) → map f xs ≡ map g ys → Each IsPlain (map f xs) → map n xs ≡ map n ys
same-images f g n same [] [] e plain = refl
same-images f g n same [] (y ∷ ys) e plain = cc
same-images f g n same (x ∷ xs) [] e plain = cc
same-images f g n same (x ∷ xs) (y ∷ ys) e plain =
    let head : n x ≡ n y = same x y (same-head _ _ _ _ e) plain.0 in
    let tail : map n xs ≡ map n ys = same-images f g n same xs ys (same-tail _ _ _ _ e) plain.1 in
    λ i. head i ∷ tail i

-- the same numbers, place by place
pub same-numbers : {X : Type 0} (n : X → ℕ) (xs ys : List X) → length xs ≡ length ys → ((i : ℕ) (x y : X) → slice_get xs i ≡ Some x → slice_get ys i ≡ Some y → n x ≡ n y) → map n xs ≡ map n ys
same-numbers n [] [] e same = refl
same-numbers n [] (y ∷ ys) e same = absurd (omega (arith, e))
same-numbers n (x ∷ xs) [] e same = absurd (omega (arith, e))
same-numbers n (x ∷ xs) (y ∷ ys) e same =
    let head : n x ≡ n y = same 0 x y refl refl in
    let tail : map n xs ≡ map n ys = same-numbers n xs ys (omega (arith, e)) (λ i a b ha hb. same (suc i) a b ha hb) in
    λ j. head j ∷ tail j

pub each-from : {X : Type 0} (P : X → Type 0) (xs : List X) → ((i : ℕ) (x : X) → slice_get xs i ≡ Some x → P x) → Each P xs
each-from P [] h = tt
each-from P (x ∷ xs) h = (h 0 x refl, each-from P xs (λ i y e. h (suc i) y e))

pub map-id : (xs : List ℕ) → map (λ (x : ℕ). x) xs ≡ xs
map-id [] = refl
map-id (x ∷ xs) = ap (λ ys. x ∷ ys) (map-id xs)

-- two lists behind one another, of which the test tells the first
pub same-front : (test : Tree → Bool) (ks bs cs ds : List Tree) → Each (λ t. test t ≡ true) ks → Each (λ t. test t ≡ false) bs → Each (λ t. test t ≡ true) cs → Each (λ t. test t ≡ false) ds →
    ks ++ bs ≡ cs ++ ds → (ks ≡ cs) × (bs ≡ ds)
same-front test [] bs [] ds ha hb hc hd e = (refl, e)
same-front test [] [] (c ∷ cs) ds ha hb hc hd e = cc
same-front test [] (b ∷ bs) (c ∷ cs) ds ha hb hc hd e = absurd (apart (sym hb.0 ∙ (ap test (same-head _ _ _ _ e) ∙ hc.0)))
same-front test (a ∷ ks) bs [] [] ha hb hc hd e = cc
same-front test (a ∷ ks) bs [] (d ∷ ds) ha hb hc hd e = absurd (apart (sym hd.0 ∙ (ap test (sym (same-head _ _ _ _ e)) ∙ ha.0)))
same-front test (a ∷ ks) bs (c ∷ cs) ds ha hb hc hd e =
    let rest = same-front test ks bs cs ds ha.1 hb hc.1 hd (same-tail _ _ _ _ e) in
    let head : a ≡ c = same-head _ _ _ _ e in
    (λ i. head i ∷ rest.0 i, rest.1)

pub each-append : {X : Type 0} (P : X → Type 0) (ks bs : List X) → Each P ks → Each P bs → Each P (ks ++ bs)
each-append P [] bs ha hb = hb
each-append P (a ∷ ks) bs ha hb = (ha.0, each-append P ks bs ha.1 hb)

pub front : {X : Type 0} (P : X → Type 0) (ks bs : List X) → Each P (ks ++ bs) → Each P ks
front P [] bs h = tt
front P (a ∷ ks) bs h = (h.0, front P ks bs h.1)

pub back : {X : Type 0} (P : X → Type 0) (ks bs : List X) → Each P (ks ++ bs) → Each P bs
back P [] bs h = h
back P (a ∷ ks) bs h = back P ks bs h.1

-- ---- places

pub each-at : {X : Type 0} (P : X → Type 0) (xs : List X) (i : ℕ) (x : X) → Each P xs → slice_get xs i ≡ Some x → P x
each-at P [] i x h e = cc
each-at P (y ∷ ys) zero x h e = let is : y ≡ x = cc in subst P is h.0
each-at P (y ∷ ys) (suc i) x h e = each-at P ys i x h.1 e

pub map-at : {X Y : Type 0} (f : X → Y) (xs : List X) (i : ℕ) (x : X) → slice_get xs i ≡ Some x → slice_get (map f xs) i ≡ Some (f x)
map-at f [] i x e = cc
map-at f (y ∷ ys) zero x e = let is : y ≡ x = cc in ap (λ z. Some (f z)) is
map-at f (y ∷ ys) (suc i) x e = map-at f ys i x e

pub there : {X : Type 0} (xs : List X) (i : ℕ) → i < length xs → (x : X) × (slice_get xs i ≡ Some x)
there [] i h = absurd (omega (arith, h))
there (x ∷ xs) zero h = (x, refl)
there (x ∷ xs) (suc i) h = there xs i (omega (arith, h))

pub within : {X : Type 0} (xs : List X) (i : ℕ) (x : X) → slice_get xs i ≡ Some x → i < length xs
within [] i x e = cc
within (y ∷ ys) zero x e = omega arith
within (y ∷ ys) (suc i) x e = let h : i < length ys = within ys i x e in omega (arith, h)

either : (a b : Bool) → b ≡ true → (a || b) ≡ true
either true b h = refl
either false b h = h

has-at : (xs : List ℕ) (i x : ℕ) → slice_get xs i ≡ Some x → has xs x ≡ true
has-at [] i x e = cc
has-at (y ∷ ys) zero x e = let is : y ≡ x = cc in ap (λ b. b || has ys x) (eq-eqb x y (sym is))
has-at (y ∷ ys) (suc i) x e = either (x == y) (has ys x) (has-at ys i x e)

pub one-place : (xs : List ℕ) (i j x : ℕ) → AreDistinct xs → slice_get xs i ≡ Some x → slice_get xs j ≡ Some x → i ≡ j
one-place [] i j x d hi hj = cc
one-place (y ∷ ys) zero zero x d hi hj = refl
one-place (y ∷ ys) zero (suc j) x d hi hj = let is : y ≡ x = cc in absurd (apart (sym d.0 ∙ (ap (has ys) is ∙ has-at ys j x hj)))
one-place (y ∷ ys) (suc i) zero x d hi hj = let is : y ≡ x = cc in absurd (apart (sym d.0 ∙ (ap (has ys) is ∙ has-at ys i x hi)))
one-place (y ∷ ys) (suc i) (suc j) x d hi hj = ap suc (one-place ys i j x d.1 hi hj)

-- ---- lists behind one another without repetition

neither : (a b : Bool) → (a || b) ≡ false → (a ≡ false) × (b ≡ false)
neither true b h = cc
neither false b h = (refl, h)

no-either : (a b : Bool) → a ≡ false → b ≡ false → (a || b) ≡ false
no-either true b ha hb = ha
no-either false b ha hb = hb

has-front : (xs ys : List ℕ) (x : ℕ) → has (xs ++ ys) x ≡ false → has xs x ≡ false
has-front [] ys x h = refl
has-front (y ∷ xs) ys x h = let each = neither (x == y) (has (xs ++ ys) x) h in no-either (x == y) (has xs x) each.0 (has-front xs ys x each.1)

has-behind : (xs ys : List ℕ) (x : ℕ) → has ys x ≡ true → has (xs ++ ys) x ≡ true
has-behind [] ys x h = h
has-behind (y ∷ xs) ys x h = either (x == y) (has (xs ++ ys) x) (has-behind xs ys x h)

pub distinct-front : (xs ys : List ℕ) → AreDistinct (xs ++ ys) → AreDistinct xs
distinct-front [] ys d = tt
distinct-front (x ∷ xs) ys d = (has-front xs ys x d.0, distinct-front xs ys d.1)

pub distinct-back : (xs ys : List ℕ) → AreDistinct (xs ++ ys) → AreDistinct ys
distinct-back [] ys d = d
distinct-back (x ∷ xs) ys d = distinct-back xs ys d.1

pub disjoint : (xs ys : List ℕ) (i j x : ℕ) → AreDistinct (xs ++ ys) → slice_get xs i ≡ Some x → slice_get ys j ≡ Some x → ⊥
disjoint [] ys i j x d hi hj = cc
disjoint (y ∷ xs) ys zero j x d hi hj = let is : y ≡ x = cc in apart (sym d.0 ∙ (ap (has (xs ++ ys)) is ∙ has-behind xs ys x (has-at ys j x hj)))
disjoint (y ∷ xs) ys (suc i) j x d hi hj = disjoint xs ys i j x d.1 hi hj

pub behind-at : (xs ys : List ℕ) (j x : ℕ) → slice_get ys j ≡ Some x → (k : ℕ) × (slice_get (xs ++ ys) k ≡ Some x)
behind-at [] ys j x h = (j, h)
behind-at (y ∷ xs) ys j x h = let (k, e) = behind-at xs ys j x h in (suc k, e)

pub front-at : (xs ys : List ℕ) (j x : ℕ) → slice_get xs j ≡ Some x → slice_get (xs ++ ys) j ≡ Some x
front-at [] ys j x h = cc
front-at (y ∷ xs) ys zero x h = h
front-at (y ∷ xs) ys (suc j) x h = front-at xs ys j x h
