-- The table at the start, and what holds of each seat at the end.
use Rattle.std.proofs.Common.{◌≡◌, ℕ, zero, suc, ◌<◌, ◌≤◌, List, [], ◌∷◌, ◌++◌, map, length, get_or, All, Contains, refl, sym, ap, ◌∙◌, subst, inl, inr, ⊎_elim, arith, Option, Some, nat_eq}
use Rattle.std.specs.List.{IsDistinct}
use mathlib.Core.Option.{some, some-injective, some-ne-none}
use lib.ListN.{get_elem?}
use Rattle.atomic_table.specs.Table.{opening}
use Rattle.dl_turn.specs.declared.view.View.{View}
use Rattle.dl_turn.specs.declared.lock.Seat.{Seat}
use Rattle.std.proofs.lemmas.List.{map-append}
use Rattle.std.proofs.lemmas.List.Elements.{All-push, Contains-append_cases}
use Rattle.dl_turn.specs.Lists.{GrownByOthers}
use Rattle.dl_turn.specs.Views.{Claim, maker}
use Rattle.dl_turn.specs.Rule.{AllBack, Fits, Ordered, Closed}
use Rattle.dl_turn.specs.Seats.{number_of, seen_by, KnowsGround}
use Rattle.dl_turn.specs.Dealt.{claim}
use Rattle.dl_turn.proofs.Keeps.{off}

at_own : (ns : List ℕ) (i d : ℕ) → i < length ns → Contains ns (get_or ns i d)
at_own [] i d b = absurd (omega arith)
at_own (n ∷ ns) zero d b = (0, b, refl)
at_own (n ∷ ns) (suc i) d b = let t = at_own ns i d (omega arith) in (suc t.0, (let h : t.0 < length ns = t.1 in omega arith), t.2)

module _ {T I G : Type 0} (entries : T → List (ℕ × I)) (ground : T → G) where
  abbrev V : Type 0
  V = View I G

  opens_at : (value : T) (numbers : List ℕ) → length numbers ≤ 16 → IsDistinct nat_eq numbers → entries value ≡ [] → Ordered entries ground numbers (ground value) (opening (0 ∷ 0 ∷ []) (Some value ∷ []) (maker {I = I} numbers (ground value)))
  opens_at value numbers few distinct empty = record {
    serving = 0;
    drawn = 0;
    log = [];
    who = λ _. 0;
    holder = λ _. 0;
    words = refl;
    few = omega arith;
    line = refl;
    named = λ i d b. absurd (omega arith);
    known = λ n h. absurd (h refl);
    each = each;
    slot = inl (value, refl, empty, refl);
  }
    where
      first : Fits numbers 0 0 1 [] (ground value) (λ _. 0) (λ _. 0) 0 (maker {I = I} numbers (ground value))
      first = record {
        ground = λ x. absurd (off x);
        named = λ x. absurd (off x);
        grown = λ x. absurd (off x);
        is_live = λ x. absurd (off x);
        from = λ x. absurd (off x);
        below = λ x. absurd (off x);
        holds = λ x. absurd (off x);
        is_waiting = λ x. absurd (off x);
        first = λ x. absurd (off x);
        whole = λ x. absurd (off x);
        joined = λ i d b. absurd (omega arith);
        is_maker = λ _. record {
          only = refl;
          apart = refl;
          ground = refl;
          few = omega arith;
          new = λ i d b. refl;
          distinct = distinct;
          among = λ i d b. at_own numbers i d b;
        };
      }

      each : (id : ℕ) (v : V) → get_elem? (maker {I = I} numbers (ground value) ∷ []) id ≡ some v → Fits numbers 0 0 1 [] (ground value) (λ _. 0) (λ _. 0) id v
      each zero v e = subst (Fits numbers 0 0 1 [] (ground value) (λ _. 0) (λ _. 0) 0) (some-injective _ _ e) first
      each (suc id) v e = absurd (some-ne-none v (sym e))

  pub opens : (value was : T) (slots : List (Option T)) (ns numbers : List ℕ) → slots ≡ Some value ∷ [] → ns ≡ numbers → was ≡ value → length numbers ≤ 16 → IsDistinct nat_eq numbers → entries value ≡ []
      → Ordered entries ground ns (ground was) (opening (0 ∷ 0 ∷ []) slots (maker {I = I} ns (ground was)))
  opens value was slots ns numbers a b c few distinct empty =
      subst (λ (z : List (Option T) × List ℕ × T). Ordered entries ground z.1 (ground z.2) (opening (0 ∷ 0 ∷ []) z.0 (maker {I = I} z.1 (ground z.2)))) (λ k. (sym a k, sym b k, sym c k)) (opens_at value numbers few distinct empty)

  back_of : (seats : List (Seat T I G)) (more : List (Claim I G)) (n k : ℕ) → k < length (map number_of seats) → get_or (map number_of seats) k n ≡ n
      → (k : ℕ) × (k < length (map claim seats ++ more)) × ((d : Claim I G) → (get_or (map claim seats ++ more) k d).0 ≡ n)
  back_of [] more n k b e = absurd (omega arith)
  back_of (s ∷ ss) more n zero b e = (0, omega arith, λ d. e)
  back_of (s ∷ ss) more n (suc k) b e = let t = back_of ss more n k (omega arith) e in (suc t.0, (let h : t.0 < length (map claim ss ++ more) = t.1 in omega arith), t.2)

  each_seat : (es : List (ℕ × I)) (b : Option G) (seats : List (Seat T I G)) (more : List (Claim I G)) → All (λ (e : Claim I G). GrownByOthers e.0 e.1 es × (e.2 ≡ b)) (map claim seats ++ more)
      → All (λ (s : Seat T I G). GrownByOthers (number_of s) (seen_by s) es × (s.token.me.0.ground ≡ b)) seats
  each_seat es b [] more h k d a = absurd (omega arith)
  each_seat es b (s ∷ ss) more h zero d a = h 0 (claim s) (omega arith)
  each_seat es b (s ∷ ss) more h (suc k) d a = each_seat es b ss more (λ i e x. h (suc i) e (omega arith)) k d (omega arith)

  only : (a n k : ℕ) → k < length (a ∷ []) → get_or (a ∷ []) k n ≡ n → a ≡ n
  only a n zero b e = e
  only a n (suc k) b e = absurd (omega arith)

  -- the last seat, which took in the others, has each number that the seats have
  pub all_back : (numbers : List ℕ) (v : V) (all rest : List (Seat T I G)) (last : Seat T I G) (more : List (Claim I G)) → all ≡ rest ++ last ∷ [] → v.number ≡ number_of last → v.joined ≡ map claim rest ++ more
      → ((n : ℕ) → Contains numbers n → Contains (map number_of all) n) → AllBack numbers v
  all_back numbers v all rest last more split number joined every n has =
      let t = subst (λ (l : List (Seat T I G)). Contains (map number_of l) n) split (every n has) in
      let u : Contains (map number_of rest ++ number_of last ∷ []) n = subst (λ (l : List ℕ). Contains l n) (map-append number_of rest (last ∷ [])) t in
      ⊎_elim (λ (x : Contains (map number_of rest) n). inr (subst (λ (l : List (Claim I G)). (k : ℕ) × (k < length l) × ((d : Claim I G) → (get_or l k d).0 ≡ n)) (sym joined) (back_of rest more n x.0 x.1 x.2)))
      (λ (x : Contains (number_of last ∷ []) n). inl (number ∙ only (number_of last) n x.0 x.1 x.2)) (Contains-append_cases (map number_of rest) (number_of last ∷ []) n u)

  -- what the last seat found holds of each seat
  pub closed_each : (numbers : List ℕ) (base : G) (v : V) (value : T) (all rest : List (Seat T I G)) (last : Seat T I G) (more : List (Claim I G)) → Closed entries ground numbers base v value → all ≡ rest ++ last ∷ []
      → v.number ≡ number_of last → v.seen ≡ seen_by last → v.ground ≡ last.token.me.0.ground → v.joined ≡ map claim rest ++ more → All (λ (s : Seat T I G). GrownByOthers (number_of s) (seen_by s) (entries value) × KnowsGround s (ground value)) all
  closed_each numbers base v value all rest last more c split number seen grounds joined =
      let P : Seat T I G → Type 0 = λ s. GrownByOthers (number_of s) (seen_by s) (entries value) × KnowsGround s (ground value) in
      let grown : GrownByOthers (number_of last) (seen_by last) (entries value) = subst (λ (z : ℕ × List (ℕ × I)). GrownByOthers z.0 z.1 (entries value)) (λ k. (number k, seen k)) c.grown in
      let stand : Some base ≡ Some (ground value) = ap Some (sym c.stands) in
      let claims : All (λ (e : Claim I G). GrownByOthers e.0 e.1 (entries value) × (e.2 ≡ Some (ground value))) (map claim rest ++ more) =
      subst (All (λ (e : Claim I G). GrownByOthers e.0 e.1 (entries value) × (e.2 ≡ Some (ground value)))) joined (λ i d b. let h = c.joined i d b in (h.0, h.1 ∙ stand)) in
      subst (All P) (sym split) (All-push P rest last (each_seat (entries value) (Some (ground value)) rest more claims) (grown, sym grounds ∙ (c.mine ∙ stand)))

-- a lock with a number has a seat
pub some_seat : {T I G : Type 0} (numbers : List ℕ) (seats : List (Seat T I G)) → 0 < length numbers → ((n : ℕ) → Contains numbers n → Contains (map number_of seats) n) → 0 < length seats
some_seat numbers [] pos every = let t = every (get_or numbers 0 0) (at_own numbers 0 0 pos) in let h : t.0 < 0 = t.1 in omega arith
some_seat numbers (s ∷ ss) pos every = omega arith
