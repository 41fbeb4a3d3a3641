-- How the numbers of a call are packed, one after the other.
use Rattle.std.proofs.Common.{◌≡◌, ◌≤◌, ◌<◌, ◌+◌, ◌-◌, ℕ, suc, ℤ, pos, Bool, true, false, ◌&&◌, List, [], ◌∷◌, ◌++◌, Some, None, length, drop, get_or, slice_set, refl, ap, sym, ◌∙◌, arith}
use Rattle.std.specs.Prelude.{replicate, if◌then◌else◌}
use Rattle.std.proofs.Math.Seq.{paste}
use Rattle.std.proofs.lemmas.List.{drop_more, drop_all, drop-replicate, get_or-map}
use Rattle.std.proofs.lemmas.List.Edits.{paste_more, paste_all}
use Rattle.dl_term.specs.declared.syntax.Term.{Term}
use Rattle.dl_term.specs.Names.{Names}
use Rattle.dl_model.specs.Sorts.{is_i64, all_i64}
use Rattle.dl_model.specs.Machine.{value_of, values_of, packed}

abbrev pub zeros : List ℤ
zeros = replicate 8 (pos 0)

-- what an Option of a number in range says
pub fits : (t : Bool) (v w : ℤ) → (if t then Some v else None) ≡ Some w → (t ≡ true) × (v ≡ w)
fits true v w e = (refl, cc e)
fits false v w e = absurd (cc e)

values-many : (terms : List Term) (names : Names) → length (values_of terms names) ≡ length terms
values-many [] names = refl
values-many (term ∷ terms) names = ap suc (values-many terms names)

-- one more number
pub numbers-more : (terms : List Term) (names : Names) (values : List ℤ) (i : ℕ) (item : Term) (written number : ℤ) → i < length terms → length terms ≤ 8 → item ≡ get_or terms i item →
    written ≡ number → value_of item names ≡ number → is_i64 (value_of item names) ≡ true →
    values ≡ paste zeros 0 (values_of terms names) i → all_i64 (values_of (drop i terms) names) ≡ all_i64 (values_of terms names) →
    (slice_set values i written ≡ paste zeros 0 (values_of terms names) (i + 1)) × (all_i64 (values_of (drop (i + 1) terms) names) ≡ all_i64 (values_of terms names))
numbers-more terms names values i item written number within few is same here good h all =
    let vs = values_of terms names in
    let many : length vs ≡ length terms = values-many terms names in
    let inside : i < length vs = omega arith in
    let room : 0 + i < length zeros = omega arith in
    let plain : 0 + i ≡ i = omega arith in
    let read : get_or vs i (pos 0) ≡ written =
    get_or-map (λ term. value_of term names) terms i item (pos 0) within ∙ (ap (λ term. value_of term names) (sym is) ∙ (here ∙ sym same)) in (
      ap (λ xs. slice_set xs i written) h ∙ (ap (slice_set (paste zeros 0 vs i) i) (sym read)
          ∙ (ap (λ n. slice_set (paste zeros 0 vs i) n (get_or vs i (pos 0))) (sym plain) ∙ paste_more zeros 0 vs i (pos 0) room inside)),
      sym (ap (λ xs. all_i64 (values_of xs names)) (drop_more terms i item within ∙ ap (λ term. term ∷ drop (i + 1) terms) (sym is))
          ∙ ap (λ b. b && all_i64 (values_of (drop (i + 1) terms) names)) good) ∙ all,
    )

-- all the numbers
pub numbers-packed : (terms : List Term) (names : Names) (values : List ℤ) (i : ℕ) → length terms ≤ i → i ≤ length terms →
    values ≡ paste zeros 0 (values_of terms names) i → all_i64 (values_of (drop i terms) names) ≡ all_i64 (values_of terms names) →
    Some (record { count = length terms; values = values }) ≡ (if all_i64 (values_of terms names) then Some (packed (values_of terms names)) else None)
numbers-packed terms names values i past least h all =
    let vs = values_of terms names in
    let many : length vs ≡ length terms = values-many terms names in
    let whole : i ≡ length vs = omega arith in
    let plain : 0 + i ≡ length vs = omega arith in
    let good : true ≡ all_i64 vs = sym (ap (λ xs. all_i64 (values_of xs names)) (drop_all i terms past)) ∙ all in
    let filled : values ≡ vs ++ replicate (8 - length vs) (pos 0) =
    h ∙ (paste_all zeros 0 vs i whole ∙ (ap (λ xs. vs ++ xs) (drop-replicate (0 + i) 8 (pos 0)) ∙ ap (λ n. vs ++ replicate (8 - n) (pos 0)) plain)) in
    (λ j. Some (record { count = sym many j; values = filled j })) ∙ ap (λ b. if b then Some (packed vs) else None) good
