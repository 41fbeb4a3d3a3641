-- Marks of the names that a loop has passed.
use Rattle.std.proofs.Common.{◌≡◌, ◌≢◌, ℕ, zero, suc, ◌<◌, ◌==◌, Bool, true, false, ◌||◌, List, [], ◌∷◌, length, get_or, set, replicate, refl, sym, ◌∙◌, ap, subst, eq-eqb, arith}
use Rattle.std.specs.List.{AllByRecursion as Each}
use Rattle.std.proofs.lemmas.Bool.{eqb-true}
use Rattle.std.proofs.lemmas.List.{get_or-set_other, length-replicate, length-set}
use Rattle.std.proofs.lemmas.Grind.{get_or-set_at}
use Rattle.dl_model.specs.Sorts.{has}
use Rattle.dl_formed.specs.Marked.{AreMarked}

-- the marks are those of the list but for what is left of it, and there is room for each name that is left
pub record MarksBefore (rest all : List ℕ) (marks : List Bool) : Type 0 where
  pub room : Each (λ name. name < length marks) rest
  pub each : (n : ℕ) → (get_or marks n false || has rest n) ≡ has all n

or-true : (a : Bool) → (a || true) ≡ true
or-true true = refl
or-true false = refl

or-false : (a : Bool) → (a || false) ≡ a
or-false true = refl
or-false false = refl

unmarked : (room n : ℕ) → get_or (replicate room false) n false ≡ false
unmarked zero n = refl
unmarked (suc room) zero = refl
unmarked (suc room) (suc n) = unmarked room n

pub none-marked : (all : List ℕ) (room : ℕ) → Each (λ name. name < room) all → MarksBefore all all (replicate room false)
none-marked all room h = record {
  room = subst (λ n. Each (λ name. name < n) all) (sym (length-replicate room false)) h;
  each = λ n. ap (λ v. v || has all n) (unmarked room n);
}

pub one-marked : (p : ℕ) (rest all : List ℕ) (marks : List Bool) → MarksBefore (p ∷ rest) all marks → MarksBefore rest all (set marks p true)
one-marked p rest all marks before = record {
  room = subst (λ n. Each (λ name. name < n) rest) (sym (length-set marks p true)) before.room.1;
  each = λ n. go n (n == p) refl (before.each n);
}
  where
    go : (n : ℕ) (b : Bool) → (n == p) ≡ b → (get_or marks n false || (b || has rest n)) ≡ has all n → (get_or (set marks p true) n false || has rest n) ≡ has all n
    go n true e f = ap (λ v. v || has rest n) (get_or-set_at marks p n true false (eqb-true n p e) before.room.0) ∙ (sym (or-true (get_or marks n false)) ∙ f)
    go n false e f =
        let other : n ≢ p = λ same. cc (eq-eqb n p same, e) in
        ap (λ v. v || has rest n) (get_or-set_other marks p n true false other) ∙ f

pub all-marked : (all : List ℕ) (marks : List Bool) → MarksBefore [] all marks → AreMarked all marks
all-marked all marks before = record { each = λ n. sym (or-false (get_or marks n false)) ∙ before.each n }

-- ---- room

pub each-below : (xs : List ℕ) (room : ℕ) → ((k : ℕ) → k < length xs → get_or xs k 0 < room) → Each (λ name. name < room) xs
each-below [] room h = tt
each-below (x ∷ xs) room h = (h 0 (omega arith), each-below xs room (λ k b. h (suc k) (omega arith)))
