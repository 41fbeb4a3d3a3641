-- Lists of views, lists that only grow, and the numbers that the maker has to deal.
use Rattle.std.proofs.Common.{◌≡◌, ◌≢◌, ◌⊎◌, ℕ, zero, suc, ◌+◌, ◌<◌, ◌≤◌, ◌==◌, Bool, true, false, cond, List, [], ◌∷◌, ◌++◌, length, All, set, refl, sym, ap, ◌∙◌, inl, inr, ⊎_elim, arith, eq-eqb, ne_eqb, append_assoc, append-nil, nat_eq, true≢false}
use Rattle.std.specs.List.{IsDistinct, AllByRecursion}
use Rattle.std.proofs.lemmas.Map.Keys.{IsDistinct-head, IsDistinct-tail}
use mathlib.Core.Option.{some, some-injective, some-ne-none}
use lib.ListN.{get_elem?}
use Rattle.std.proofs.lemmas.List.Elements.{filter-append}
use Rattle.dl_turn.specs.declared.view.View.{View}
use Rattle.dl_turn.specs.Lists.{entries_of, GrownByOthers}
use Rattle.dl_turn.specs.Views.{busy, waiting, head, tail}

module _ {A : Type 0} where
  pub set_at : (l : List A) (i : ℕ) (a b : A) → get_elem? l i ≡ some a → get_elem? (set l i b) i ≡ some b
  set_at [] i a b e = absurd (some-ne-none a (sym e))
  set_at (x ∷ xs) zero a b e = refl
  set_at (x ∷ xs) (suc i) a b e = set_at xs i a b e

  pub at_below : (l : List A) (i : ℕ) (a : A) → get_elem? l i ≡ some a → i < length l
  at_below [] i a e = absurd (some-ne-none a (sym e))
  at_below (x ∷ xs) zero a e = omega arith
  at_below (x ∷ xs) (suc i) a e = let h = at_below xs i a e in omega arith

  pub at_push : (l : List A) (a b : A) (j : ℕ) → get_elem? (l ++ a ∷ []) j ≡ some b → (get_elem? l j ≡ some b) ⊎ ((j ≡ length l) × (a ≡ b))
  at_push [] a b zero e = inr (refl, some-injective a b e)
  at_push [] a b (suc j) e = absurd (some-ne-none b (sym e))
  at_push (x ∷ xs) a b zero e = inl e
  at_push (x ∷ xs) a b (suc j) e = ⊎_elim inl (λ h. inr (ap suc h.0, h.1)) (at_push xs a b j e)

-- f, with x at k
pub put : (ℕ → ℕ) → ℕ → ℕ → ℕ → ℕ
put f k x j = cond (j == k) x (f j)

pub put_here : (f : ℕ → ℕ) (k x : ℕ) → put f k x k ≡ x
unfolding put
put_here f k x = ap (λ b. cond b x (f k)) (eq-eqb k k refl)

pub put_else : (f : ℕ → ℕ) (k x j : ℕ) → j ≢ k → put f k x j ≡ f j
unfolding put
put_else f k x j n = ap (λ b. cond b x (f j)) (ne_eqb j k n)

one_at_most : (b : Bool) → cond {A = ℕ} b 1 0 ≤ 1
one_at_most true = omega arith
one_at_most false = omega arith

module _ {I G : Type 0} where
  pub waiting_set : (vs : List (View I G)) (id : ℕ) (v w : View I G) → get_elem? vs id ≡ some v → waiting (set vs id w) + busy v ≡ waiting vs + busy w
  waiting_set [] id v w e = absurd (some-ne-none v (sym e))
  waiting_set (u ∷ us) zero v w e = let same : busy u ≡ busy v = ap busy (some-injective u v e) in omega arith
  waiting_set (u ∷ us) (suc id) v w e = let h : waiting (set us id w) + busy v ≡ waiting us + busy w = waiting_set us id v w e in omega arith

  pub waiting_push : (vs : List (View I G)) (w : View I G) → waiting (vs ++ w ∷ []) ≡ waiting vs + busy w
  waiting_push [] w = omega arith
  waiting_push (u ∷ us) w = let h = waiting_push us w in omega arith

  pub waiting_below : (vs : List (View I G)) → waiting vs ≤ length vs
  waiting_below [] = omega arith
  waiting_below (u ∷ us) = let h = waiting_below us in let k : busy u ≤ 1 = one_at_most u.is_waiting in omega arith

module _ {I : Type 0} where
  pub own_one : (n : ℕ) (e : ℕ × I) → e.0 ≢ n → entries_of n (e ∷ []) ≡ []
  own_one n e ne = ap (λ b. cond b (e ∷ []) []) (ne_eqb e.0 n ne)

  pub grown_none : (log : List (ℕ × I)) (n : ℕ) → GrownByOthers n log log
  grown_none log n = record { added = []; begins = sym (append-nil log); others = refl }

  pub grown_more : (log seen : List (ℕ × I)) (n : ℕ) (e : ℕ × I) → e.0 ≢ n → GrownByOthers n seen log → GrownByOthers n seen (log ++ e ∷ [])
  grown_more log seen n e ne s = record {
    added = s.added ++ e ∷ [];
    begins = ap (λ l. l ++ e ∷ []) s.begins ∙ append_assoc seen s.added (e ∷ []);
    others = filter-append (λ (x : ℕ × I). x.0 == n) s.added (e ∷ []) ∙ ap (λ l. l ++ entries_of n (e ∷ [])) s.others ∙ own_one n e ne;
  }

  pub own_none : (who : ℕ → ℕ) (n : ℕ) (log : List (ℕ × I)) → who n ≡ 0 → All (λ e. who e.0 ≢ 0) log → entries_of n log ≡ []
  own_none who n [] z h = refl
  own_none who n (e ∷ es) z h = ap (λ b. cond b (e ∷ entries_of n es) (entries_of n es)) (ne_eqb e.0 n (λ same. h 0 e (omega arith) (ap who same ∙ z))) ∙ own_none who n es z (λ k d b. h (suc k) d (omega arith))

-- the parts of a list that is not empty
pub head_all : (P : ℕ → Type 0) (l : List ℕ) → l ≢ [] → All P l → P (head l)
head_all P [] ne h = absurd (ne refl)
head_all P (x ∷ xs) ne h = h 0 x (omega arith)

pub tail_all : (P : ℕ → Type 0) (l : List ℕ) → All P l → All P (tail l)
tail_all P [] h = h
tail_all P (x ∷ xs) h = λ k d b. h (suc k) d (omega arith)

pub tail_distinct : (l : List ℕ) → IsDistinct nat_eq l → IsDistinct nat_eq (tail l)
tail_distinct [] h = h
tail_distinct (x ∷ xs) h = IsDistinct-tail nat_eq x xs h

pub head_apart : (l : List ℕ) → l ≢ [] → IsDistinct nat_eq l → All (λ m. m ≢ head l) (tail l)
head_apart [] ne h = absurd (ne refl)
head_apart (x ∷ xs) ne h = apart xs (IsDistinct-head nat_eq x xs h)
  where
    apart : (ys : List ℕ) → AllByRecursion (λ y. nat_eq x y ≡ false) ys → All (λ m. m ≢ x) ys
    apart [] a i d b = absurd (omega arith)
    apart (y ∷ ys) a zero d b = λ same. true≢false (sym (eq-eqb x y (sym same)) ∙ a.0)
    apart (y ∷ ys) a (suc i) d b = apart ys a.1 i d (omega arith)

pub length_tail : (l : List ℕ) → l ≢ [] → suc (length (tail l)) ≡ length l
length_tail [] ne = absurd (ne refl)
length_tail (x ∷ xs) ne = refl
