-- Steps of loops over lists.
use Rattle.std.proofs.Common.{◌≡◌, ℕ, ◌+◌, ◌<◌, Bool, true, false, not, ◌&&◌, List, ◌∷◌, ◌++◌, length, get_or, drop, sym, subst, ◌∙◌, ap, append_assoc}
use Rattle.std.proofs.lemmas.List.{drop_more}
use Rattle.std.specs.List.{list_all, flat_map, AllByRecursion as Each}
use Rattle.dl_model.specs.Sorts.{has}
use Rattle.dl_formed.specs.Decided.{are_distinct}
use Rattle.dl_formed.proofs.Marking.{MarksBefore}

-- the number at a place, and then those after it
pub distinct-here : (xs : List ℕ) (i : ℕ) → i < length xs → are_distinct (drop i xs) ≡ (not (has (drop (i + 1) xs) (get_or xs i 0)) && are_distinct (drop (i + 1) xs))
distinct-here xs i h = ap are_distinct (drop_more xs i 0 h)

-- what the item at a place gives was added
pub added-here : {X : Type 0} (f : X → List ℕ) (out old added : List ℕ) (xs : List X) (i : ℕ) (d : X) → i < length xs → added ≡ f (get_or xs i d) →
    out ++ flat_map f (drop i xs) ≡ old ++ flat_map f xs → (out ++ added) ++ flat_map f (drop (i + 1) xs) ≡ old ++ flat_map f xs
added-here f out old added xs i d h e g =
    ap (λ v. (out ++ v) ++ flat_map f (drop (i + 1) xs)) e
    ∙ append_assoc out (f (get_or xs i d)) (flat_map f (drop (i + 1) xs))
    ∙ sym (ap (λ v. out ++ flat_map f v) (drop_more xs i d h))
    ∙ g

-- there is room for the name at a place
pub room-here : (xs all : List ℕ) (i : ℕ) (marks : List Bool) → i < length xs → MarksBefore (drop i xs) all marks → get_or xs i 0 < length marks
room-here xs all i marks h before =
    let room : Each (λ name. name < length marks) (get_or xs i 0 ∷ drop (i + 1) xs) = subst (Each (λ name. name < length marks)) (drop_more xs i 0 h) before.room in
    room.0

-- a test of each item, where the item at a place fails or passes
pub item-fails : {X : Type 0} (p : X → Bool) (xs : List X) (i : ℕ) (x : X) (b : Bool) → i < length xs → x ≡ get_or xs i x → b ≡ p x → b ≡ false →
    list_all p (drop i xs) ≡ list_all p xs → false ≡ list_all p xs
item-fails p xs i x b h is e f g =
    let here : p (get_or xs i x) ≡ false = ap p (sym is) ∙ (sym e ∙ f) in
    sym (sym g ∙ (ap (list_all p) (drop_more xs i x h) ∙ ap (λ v. v && list_all p (drop (i + 1) xs)) here))

pub item-passes : {X : Type 0} (p : X → Bool) (xs : List X) (i : ℕ) (x : X) (b : Bool) → i < length xs → x ≡ get_or xs i x → b ≡ p x → b ≡ true →
    list_all p (drop i xs) ≡ list_all p xs → list_all p (drop (i + 1) xs) ≡ list_all p xs
item-passes p xs i x b h is e f g =
    let here : p (get_or xs i x) ≡ true = ap p (sym is) ∙ (sym e ∙ f) in
    sym (ap (λ v. v && list_all p (drop (i + 1) xs)) here) ∙ (sym (ap (list_all p) (drop_more xs i x h)) ∙ g)
