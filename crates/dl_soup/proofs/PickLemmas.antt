-- One of the items that pass a test, one item after another.
use Rattle.std.proofs.Common.{◌≡◌, ◌<◌, ◌≤◌, ◌+◌, ◌-◌, ◌==◌, ℕ, zero, suc, Bool, true, false, ◌&&◌, cond, Some, None, List, [], length, take, drop, get_or, refl, ap, sym, ◌∙◌, subst, arith}
use Rattle.std.specs.Prelude.{slice_get}
use Rattle.std.specs.List.{filter, last_or}
use Rattle.std.proofs.lemmas.Bool.{eqb-true}
use Rattle.std.proofs.lemmas.List.{take_all}
use Rattle.std.proofs.lemmas.Option.{slice_get_past}
use Rattle.dl_model.proofs.Small.{and-left, and-right}
use Rattle.dl_soup.proofs.Filtered.{count-hit, filter-miss, last-here, none-here, passed-at}

pub nth-found : (p : ℕ → Bool) (ids : List ℕ) (i id left number : ℕ) (hit : Bool) → i < length ids → id ≡ get_or ids i 0 → hit ≡ p id → (hit && (left == 0)) ≡ true → length (filter p (take i ids)) + left ≡ number
    → Some id ≡ slice_get (filter p ids) number
nth-found p ids i id left number hit lt is e wanted count =
    let none : left ≡ 0 = eqb-true left 0 (and-right hit (left == 0) wanted) in
    let passes : p (get_or ids i 0) ≡ true = ap p (sym is) ∙ sym e ∙ and-left hit (left == 0) wanted in
    let here : length (filter p (take i ids)) ≡ number = omega arith in
    ap Some is ∙ sym (passed-at p ids i 0 lt passes) ∙ ap (slice_get (filter p ids)) here

more-left : (b : Bool) (left : ℕ) → (b && (left == 0)) ≡ false → b ≡ true → 0 < left
more-left true zero h e = cc
more-left true (suc left) h e = omega arith
more-left false left h e = cc

pub nth-more : (p : ℕ → Bool) (ids : List ℕ) (i id left number : ℕ) (hit : Bool) → i < length ids → id ≡ get_or ids i 0 → hit ≡ p id → (hit && (left == 0)) ≡ false → length (filter p (take i ids)) + left ≡ number
    → length (filter p (take (i + 1) ids)) + cond hit (left - 1) left ≡ number
nth-more p ids i id left number true lt is e wanted count =
    let some : 0 < left = more-left true left wanted refl in
    let more : length (filter p (take (i + 1) ids)) ≡ length (filter p (take i ids)) + 1 = count-hit p ids i 0 lt (ap p (sym is) ∙ sym e) in
    omega arith
nth-more p ids i id left number false lt is e wanted count =
    let same : length (filter p (take (i + 1) ids)) ≡ length (filter p (take i ids)) = ap length (filter-miss p ids i 0 lt (ap p (sym is) ∙ sym e)) in
    omega arith

pub nth-none : (p : ℕ → Bool) (ids : List ℕ) (i left number : ℕ) → length ids ≤ i → length (filter p (take i ids)) + left ≡ number → None ≡ slice_get (filter p ids) number
nth-none p ids i left number lt count =
    let all : length (filter p (take i ids)) ≡ length (filter p ids) = ap (λ (xs : List ℕ). length (filter p xs)) (take_all i ids lt) in
    sym (slice_get_past (filter p ids) number (omega arith))

-- ---- how many

pub count-more : (p : ℕ → Bool) (ids : List ℕ) (i id count : ℕ) (hit : Bool) → i < length ids → id ≡ get_or ids i 0 → hit ≡ p id → count ≡ length (filter p (take i ids))
    → count + cond hit 1 0 ≡ length (filter p (take (i + 1) ids))
count-more p ids i id count true lt is e was =
    let more : length (filter p (take (i + 1) ids)) ≡ length (filter p (take i ids)) + 1 = count-hit p ids i 0 lt (ap p (sym is) ∙ sym e) in
    omega arith
count-more p ids i id count false lt is e was =
    let same : length (filter p (take (i + 1) ids)) ≡ length (filter p (take i ids)) = ap length (filter-miss p ids i 0 lt (ap p (sym is) ∙ sym e)) in
    omega arith

pub cond-few : (hit : Bool) → cond hit 1 0 ≤ 1
cond-few true = omega arith
cond-few false = omega arith

pub few-more : (count i n : ℕ) (hit : Bool) → n ≡ cond hit 1 0 → count ≤ i → count + n ≤ i + 1
few-more count i n hit e few =
    let small : n ≤ 1 = subst (λ (k : ℕ). k ≤ 1) (sym e) (cond-few hit) in
    omega arith

pub count-all : (p : ℕ → Bool) (ids : List ℕ) (i count : ℕ) → length ids ≤ i → count ≡ length (filter p (take i ids)) → count ≡ length (filter p ids)
count-all p ids i count lt was = was ∙ ap (λ (xs : List ℕ). length (filter p xs)) (take_all i ids lt)

-- ---- the last one

pub last-found : (p : ℕ → Bool) (ids : List ℕ) (end id : ℕ) (hit : Bool) → end < length ids → id ≡ get_or ids end 0 → hit ≡ p id → hit ≡ true → filter p (drop (end + 1) ids) ≡ [] → Some id ≡ last_or None (filter p ids)
last-found p ids end id hit lt is e h none =
    let next : end + 1 ≡ suc end = omega arith in
    ap Some is ∙ sym (last-here p ids end 0 None lt (ap p (sym is) ∙ sym e ∙ h) (ap (λ (n : ℕ). filter p (drop n ids)) (sym next) ∙ none))

pub last-less : (p : ℕ → Bool) (ids : List ℕ) (end id : ℕ) (hit : Bool) → end < length ids → id ≡ get_or ids end 0 → hit ≡ p id → hit ≡ false → filter p (drop (end + 1) ids) ≡ [] → filter p (drop end ids) ≡ []
last-less p ids end id hit lt is e h none =
    let next : end + 1 ≡ suc end = omega arith in
    none-here p ids end 0 lt (ap p (sym is) ∙ sym e ∙ h) (ap (λ (n : ℕ). filter p (drop n ids)) (sym next) ∙ none)

pub before-within : (end n : ℕ) → end ≤ n → end - 1 ≤ n
before-within end n h = omega arith

pub last-before : (p : ℕ → Bool) (ids : List ℕ) (end : ℕ) (hit : Bool) → 0 < end → end ≤ length ids → hit ≡ p (get_or ids (end - 1) 0) → hit ≡ true → filter p (drop end ids) ≡ []
    → Some (get_or ids (end - 1) 0) ≡ last_or None (filter p ids)
last-before p ids end hit some within e h none =
    let next : end - 1 + 1 ≡ end = omega arith in
    last-found p ids (end - 1) (get_or ids (end - 1) 0) hit (omega arith) refl e h (ap (λ (n : ℕ). filter p (drop n ids)) next ∙ none)

pub less-before : (p : ℕ → Bool) (ids : List ℕ) (end : ℕ) (hit : Bool) → 0 < end → end ≤ length ids → hit ≡ p (get_or ids (end - 1) 0) → hit ≡ false → filter p (drop end ids) ≡ [] → filter p (drop (end - 1) ids) ≡ []
less-before p ids end hit some within e h none =
    let next : end - 1 + 1 ≡ end = omega arith in
    last-less p ids (end - 1) (get_or ids (end - 1) 0) hit (omega arith) refl e h (ap (λ (n : ℕ). filter p (drop n ids)) next ∙ none)

pub last-none : (p : ℕ → Bool) (ids : List ℕ) (end : ℕ) → end ≤ 0 → filter p (drop end ids) ≡ [] → None ≡ last_or None (filter p ids)
last-none p ids end h none =
    let first : end ≡ 0 = omega arith in
    sym (ap (λ (xs : List ℕ). last_or None xs) (ap (λ (n : ℕ). filter p (drop n ids)) (sym first) ∙ none))

-- ---- the one that is drawn

pub drawn-none : (xs : List ℕ) (count n : ℕ) → count ≡ length xs → count ≡ 0 → None ≡ slice_get xs n
drawn-none xs count n e none = sym (slice_get_past xs n (omega arith))
