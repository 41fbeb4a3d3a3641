-- Lists that a loop has gone through up to some place.
use Rattle.std.proofs.Common.{◌≡◌, ◌+◌, ℕ, zero, suc, Bool, true, false, ◌&&◌, if◌then◌else◌, List, [], ◌∷◌, ◌++◌, take, map, slice_get, Some, None, refl, ◌∙◌, ap, add-one}
use Rattle.std.specs.List.{list_all}

pub map-next : {X Y : Type 0} (f : X → Y) (xs : List X) (k : ℕ) (x : X) → slice_get xs k ≡ Some x → map f (take (k + 1) xs) ≡ map f (take k xs) ++ f x ∷ []
map-next f xs k x e = rw add-one (go xs k e)
  where
    go : (xs : List _) (k : ℕ) → slice_get xs k ≡ Some x → map f (take (suc k) xs) ≡ map f (take k xs) ++ f x ∷ []
    go [] k e = cc
    go (y ∷ ys) zero e = let is : y ≡ x = cc in ap (λ z. f z ∷ []) is
    go (y ∷ ys) (suc k) e = ap (λ zs. f y ∷ zs) (go ys k e)

pub all-next : {X : Type 0} (p : X → Bool) (xs : List X) (k : ℕ) (x : X) → list_all p (take k xs) ≡ true → slice_get xs k ≡ Some x → p x ≡ true → list_all p (take (k + 1) xs) ≡ true
all-next p xs k x h e test = rw add-one (go xs k h e)
  where
    go : (xs : List _) (k : ℕ) → list_all p (take k xs) ≡ true → slice_get xs k ≡ Some x → list_all p (take (suc k) xs) ≡ true
    go [] k h e = cc
    go (y ∷ ys) zero h e = let is : y ≡ x = cc in ap (λ z. p z && true) is ∙ ap (λ b. b && true) test
    go (y ∷ ys) (suc k) h e = by_test (p y) h (λ rest. go ys k rest e)
      where
        by_test : (b : Bool) → (b && list_all p (take k ys)) ≡ true → (list_all p (take k ys) ≡ true → list_all p (take (suc k) ys) ≡ true) → (b && list_all p (take (suc k) ys)) ≡ true
        by_test true h ih = ih h
        by_test false h ih = cc

pub all-fails : {X : Type 0} (p : X → Bool) (xs : List X) (k : ℕ) (x : X) → slice_get xs k ≡ Some x → p x ≡ false → list_all p xs ≡ false
all-fails p [] k x e test = cc
all-fails p (y ∷ ys) zero x e test = let is : y ≡ x = cc in ap (λ z. p z && list_all p ys) is ∙ ap (λ b. b && list_all p ys) test
all-fails p (y ∷ ys) (suc k) x e test = by_test (p y) (all-fails p ys k x e test)
  where
    by_test : (b : Bool) → list_all p ys ≡ false → (b && list_all p ys) ≡ false
    by_test true h = h
    by_test false h = refl

pub if-none : {X : Type 0} (test : Bool) (v : X) → (if test then Some v else None) ≡ None → test ≡ false
if-none true v h = cc
if-none false v h = refl

pub if-some : {X : Type 0} (test : Bool) (v w : X) → (if test then Some v else None) ≡ Some w → (test ≡ true) × (v ≡ w)
if-some true v w h = (refl, cc)
if-some false v w h = cc

pub map-at : {X Y : Type 0} (f : X → Y) (xs : List X) (k : ℕ) (x : X) → slice_get xs k ≡ Some x → slice_get (map f xs) k ≡ Some (f x)
map-at f [] k x e = cc
map-at f (y ∷ ys) zero x e = let is : y ≡ x = cc in ap (λ z. Some (f z)) is
map-at f (y ∷ ys) (suc k) x e = map-at f ys k x e
