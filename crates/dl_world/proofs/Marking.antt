-- Marks of the positions that a loop has passed.
use Rattle.std.proofs.Common.{◌≡◌, ◌≢◌, ℕ, ◌<◌, ◌==◌, Bool, true, false, ◌||◌, List, [], ◌∷◌, length, get_or, set, replicate, refl, sym, ◌∙◌, ap, subst, eq-eqb}
use Rattle.std.proofs.lemmas.Bool.{eqb-true}
use Rattle.std.proofs.lemmas.List.{get_or-set_other, get_or-replicate, length-replicate, length-set}
use Rattle.std.proofs.lemmas.Grind.{get_or-set_at}
use Rattle.dl_model.specs.Sorts.{has}
use Rattle.dl_world.specs.Positions.{AreMarked}

-- the marks are those of the list but for what is left of it
pub record MarksBefore (rest all : List ℕ) (marks : List Bool) : Type 0 where
  pub long : length marks ≡ 256
  pub each : (n : ℕ) → n < 256 → (get_or marks n false || has rest n) ≡ has all n

or-true : (a : Bool) → (a || true) ≡ true
or-true true = refl
or-true false = refl

or-false : (a : Bool) → (a || false) ≡ a
or-false true = refl
or-false false = refl

pub none-marked : (all : List ℕ) → MarksBefore all all (replicate 256 false)
none-marked all = record { long = length-replicate 256 false; each = λ n h. ap (λ v. v || has all n) (get_or-replicate 256 n false false h) }

pub one-marked : (p : ℕ) (rest all : List ℕ) (marks : List Bool) → p < 256 → MarksBefore (p ∷ rest) all marks → MarksBefore rest all (set marks p true)
one-marked p rest all marks small before = record {
  long = length-set marks p true ∙ before.long;
  each = λ n h. go n (n == p) refl (before.each n h);
}
  where
    go : (n : ℕ) (b : Bool) → (n == p) ≡ b → (get_or marks n false || (b || has rest n)) ≡ has all n → (get_or (set marks p true) n false || has rest n) ≡ has all n
    go n true e f = ap (λ v. v || has rest n) (get_or-set_at marks p n true false (eqb-true n p e) (subst (λ k. p < k) (sym before.long) small)) ∙ (sym (or-true (get_or marks n false)) ∙ f)
    go n false e f =
        let other : n ≢ p = λ same. cc (eq-eqb n p same, e) in
        ap (λ v. v || has rest n) (get_or-set_other marks p n true false other) ∙ f

pub all-marked : (all : List ℕ) (marks : List Bool) → MarksBefore [] all marks → AreMarked all marks
all-marked all marks before = record { each = λ n h. sym (or-false (get_or marks n false)) ∙ before.each n h }
