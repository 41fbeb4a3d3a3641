-- Lemmas for callers on seats.
use Rattle.std.proofs.Common.{◌≡◌, ℕ, suc, ◌<◌, List, [], ◌∷◌, map, length, get_or, All, Contains, refl, sym, ap₂, ◌∙◌, subst, arith}
use Rattle.dl_turn.specs.declared.lock.Seat.{Seat}
use Rattle.dl_turn.specs.declared.lock.Turn.{Turn}
use Rattle.dl_turn.specs.Seats.{number_of, KnowsGround, IsOf, IsSameSeat, numbers_of, AreAll}

module _ {T I G : Type 0} where
  pub IsSameSeat-refl : (seat : Seat T I G) → IsSameSeat seat seat
  IsSameSeat-refl seat = (refl, refl, refl, refl, refl, refl)

  pub IsSameSeat-trans : (first second third : Seat T I G) → IsSameSeat first second → IsSameSeat second third → IsSameSeat first third
  IsSameSeat-trans first second third p q = (q.0 ∙ p.0, q.1 ∙ p.1, q.2 ∙ p.2, q.3 ∙ p.3, q.4 ∙ p.4, q.5 ∙ p.5)

  pub number_of-same : (old new : Seat T I G) → IsSameSeat old new → number_of new ≡ number_of old
  number_of-same old new same = same.3

  pub KnowsGround-same : (base : G) (old new : Seat T I G) → IsSameSeat old new → KnowsGround old base → KnowsGround new base
  KnowsGround-same base old new same knows = same.5 ∙ knows

  pub IsOf-same : (lock : Turn T I G) (old new : Seat T I G) → IsSameSeat old new → IsOf lock old → IsOf lock new
  IsOf-same lock old new same of = (same.0 ∙ of.0, same.2 ∙ of.1, same.4 ∙ (of.2 ∙ sym same.3))

  -- seats that have the lock's numbers are all its seats
  pub AreAll-numbers : (lock : Turn T I G) (seats : List (Seat T I G)) → map number_of seats ≡ numbers_of lock → AreAll lock seats
  AreAll-numbers lock seats numbers n is = subst (λ (l : List ℕ). Contains l n) (sym numbers) is

  -- each seat of the one list is the seat at its place in the other
  abbrev pub AreSameSeats : List (Seat T I G) → List (Seat T I G) → Type 0
  AreSameSeats old new = (length new ≡ length old) × ((k : ℕ) (d : Seat T I G) → k < length old → IsSameSeat (get_or old k d) (get_or new k d))

  pub numbers-same : (old new : List (Seat T I G)) → AreSameSeats old new → map number_of new ≡ map number_of old
  numbers-same [] [] same = refl
  numbers-same [] (s ∷ ss) same = let none : length (s ∷ ss) ≡ 0 = same.0 in absurd (omega arith)
  numbers-same (s ∷ ss) [] same = let none : 0 ≡ length (s ∷ ss) = same.0 in absurd (omega arith)
  numbers-same (s ∷ ss) (t ∷ ts) same =
      let long : length (t ∷ ts) ≡ length (s ∷ ss) = same.0 in
      ap₂ (λ n ns. n ∷ ns) (same.1 0 s (omega arith)).3 (numbers-same ss ts (omega arith, λ k d b. same.1 (suc k) d (omega arith)))

  pub AreAll-same : (lock : Turn T I G) (old new : List (Seat T I G)) → AreSameSeats old new → AreAll lock old → AreAll lock new
  AreAll-same lock old new same all n is = subst (λ (l : List ℕ). Contains l n) (sym (numbers-same old new same)) (all n is)

  pub All-IsOf-same : (lock : Turn T I G) (old new : List (Seat T I G)) → AreSameSeats old new → All (λ s. IsOf lock s) old → All (λ s. IsOf lock s) new
  All-IsOf-same lock old new same of k d b = let below : k < length old = subst (λ (n : ℕ). k < n) same.0 b in IsOf-same lock (get_or old k d) (get_or new k d) (same.1 k d below) (of k d below)
