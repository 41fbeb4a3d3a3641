-- Numbers, and what `parse` gives of one.
use Rattle.std.proofs.Common.{rules, ◌≡◌, ℕ, suc, zero, ◌≤◌, ◌<◌, ◌^◌, ℤ, pos, neg_ℤ, Bool, true, false, not, ◌&&◌, ◌==◌, List, [], ◌∷◌, length, inl, inr, refl, sym, ◌∙◌, subst, arith, Result, Ok, Err, w64, MatchResult, MatchOption}
use Rattle.std.proofs.lemmas.Bool.Decides.{nat_tests}
use Rattle.std.proofs.lemmas.Str.{IsUtf8-from_ascii}
use Rattle.std.proofs.lemmas.Str.Parse.{IsNumeralModel, numerals_by_value, parse_signed_minus, parse_signed_plain}
use Rattle.std.specs.List.{list_all}
use Rattle.std.specs.Char.{is_ascii_digit}
use Rattle.std.specs.Result.{OkIff, result_ok}
use Rattle.std.specs.Str.{IsAscii, IsUtf8}
use Rattle.std.specs.Str.Parse.{ParsesSigned, digits_value}
use Rattle.dl_tree.specs.Word.{is_positive, is_natural, is_number, value_of, fits_i64}
use Rattle.dl_tree.proofs.TextLemmas.{decide}

abbrev pub AreDigits : List ℕ → Type 0
AreDigits ds = list_all is_ascii_digit ds ≡ true

pub own : IsNumeralModel AreDigits (digits_value 10)
own = numerals_by_value AreDigits (search rules)

fits_pos : (n : ℕ) → n < 2 ^ 63 → fits_i64 (pos n) ≡ true
fits_pos n h = grind (arith, nat_tests)

fits_pos_not : (n : ℕ) → 2 ^ 63 ≤ n → fits_i64 (pos n) ≡ false
fits_pos_not n h = grind (arith, nat_tests)

fits_neg : (n : ℕ) → n ≤ 2 ^ 63 → fits_i64 (neg_ℤ (pos n)) ≡ true
fits_neg zero h = refl
fits_neg (suc n) h = fits_pos n (omega arith)

fits_neg_not : (n : ℕ) → 2 ^ 63 < n → fits_i64 (neg_ℤ (pos n)) ≡ false
fits_neg_not zero h = absurd (omega arith)
fits_neg_not (suc n) h = fits_pos_not n (omega arith)

abbrev Told : {E : Type 0} → List ℕ → Result ℤ E → Type 0
Told w r = MatchResult r (λ z. (value_of w ≡ z) × (fits_i64 z ≡ true)) (λ _. fits_i64 (value_of w) ≡ false)

told_minus : {E : Type 0} (w ds : List ℕ) (r : Result ℤ E) → AreDigits ds → 0 < length ds → value_of w ≡ neg_ℤ (pos (digits_value 10 ds))
    → OkIff r (AreDigits ds × (0 < length ds) × (digits_value 10 ds ≤ 2 ^ 63)) (neg_ℤ (pos (digits_value 10 ds))) → Told w r
told_minus w ds (Ok z) digits some value h = (value ∙ sym h.1, rw h.1 (fits_neg (digits_value 10 ds) h.0.2))
told_minus w ds (Err e) digits some value h = rw value (fits_neg_not (digits_value 10 ds) (omega (arith, λ (le : digits_value 10 ds ≤ 2 ^ 63). h (digits, some, le))))

told_plain : {E : Type 0} (w ds : List ℕ) (r : Result ℤ E) → AreDigits ds → 0 < length ds → value_of w ≡ pos (digits_value 10 ds)
    → OkIff r (AreDigits ds × (0 < length ds) × (digits_value 10 ds < 2 ^ 63)) (pos (digits_value 10 ds)) → Told w r
told_plain w ds (Ok z) digits some value h = (value ∙ sym h.1, rw h.1 (fits_pos (digits_value 10 ds) h.0.2))
told_plain w ds (Err e) digits some value h = rw value (fits_pos_not (digits_value 10 ds) (omega (arith, λ (lt : digits_value 10 ds < 2 ^ 63). h (digits, some, lt))))

pub and_parts : (a b : Bool) → (a && b) ≡ true → (a ≡ true) × (b ≡ true)
and_parts true true e = (refl, refl)
and_parts true false e = cc
and_parts false b e = cc

pub positive_digits : (ds : List ℕ) → is_positive ds ≡ true → AreDigits ds × (0 < length ds)
positive_digits [] e = cc
positive_digits (d ∷ ds) e = ((and_parts (not (d == 48)) (list_all is_ascii_digit (d ∷ ds)) e).1, omega arith)

pub natural_digits : (ds : List ℕ) → is_natural ds ≡ true → AreDigits ds × (0 < length ds)
natural_digits [] e = cc
natural_digits (d ∷ []) e = (rw e refl, omega arith)
natural_digits (d ∷ c ∷ ds) e = positive_digits (d ∷ c ∷ ds) e

pub number_parses : {E : Type 0} (w : List ℕ) (r : Result ℤ E) → is_number w ≡ true → ParsesSigned w64 10 w r → Told w r
unfolding is_number value_of
number_parses [] r e h = cc
number_parses (b ∷ bs) r e h = elim (decide (b == 45)) [
  | inl minus ↦
      (let digits = positive_digits bs (rw minus at e) in
      let is : b ≡ 45 = grind (arith, nat_tests) in
      told_minus (b ∷ bs) bs r digits.0 digits.1 (rw minus refl) (parse_signed_minus own w64 (b ∷ bs) r h is))
  | inr plain ↦
      (let digits = natural_digits (b ∷ bs) (rw plain at e) in
      let digit : is_ascii_digit b ≡ true = (and_parts (is_ascii_digit b) (list_all is_ascii_digit bs) digits.0).0 in
      let range : (48 ≤ b) × (b ≤ 57) = grind (arith, nat_tests) in
      told_plain (b ∷ bs) (b ∷ bs) r digits.0 digits.1 (rw plain refl) (parse_signed_plain own w64 (b ∷ bs) r h (omega arith) (omega arith)))
]

ascii_digit : (d : ℕ) → is_ascii_digit d ≡ true → d < 128
ascii_digit d e = grind (arith, nat_tests)

-- bytes that all pass a test which only ASCII passes
pub all_ascii : (test : ℕ → Bool) (bytes : List ℕ) → ((b : ℕ) → test b ≡ true → b < 128) → list_all test bytes ≡ true → IsAscii bytes
all_ascii test [] below e i = omega arith
all_ascii test (b ∷ bs) below e zero = below b (and_parts (test b) (list_all test bs) e).0
all_ascii test (b ∷ bs) below e (suc i) = all_ascii test bs below (and_parts (test b) (list_all test bs) e).1 i

digits_are_ascii : (ds : List ℕ) → AreDigits ds → IsAscii ds
digits_are_ascii ds e = all_ascii is_ascii_digit ds ascii_digit e

after_minus : (b : ℕ) (bs : List ℕ) → b < 128 → IsAscii bs → IsAscii (b ∷ bs)
after_minus b bs lt ascii zero = lt
after_minus b bs lt ascii (suc i) = ascii i

number_is_ascii : (w : List ℕ) → is_number w ≡ true → IsAscii w
unfolding is_number
number_is_ascii [] e = cc
number_is_ascii (b ∷ bs) e = elim (decide (b == 45)) [
  | inl minus ↦
      (let is : b ≡ 45 = grind (arith, nat_tests) in
      after_minus b bs (omega arith) (digits_are_ascii bs (positive_digits bs (rw minus at e)).0))
  | inr plain ↦ digits_are_ascii (b ∷ bs) (natural_digits (b ∷ bs) (rw plain at e)).0
]

pub number_is_utf8 : (w : List ℕ) → is_number w ≡ true → IsUtf8 w
number_is_utf8 w e = IsUtf8-from_ascii w (number_is_ascii w e)

told_ok : {E : Type 0} (w : List ℕ) (r : Result ℤ E) → Told w r → MatchOption (result_ok r) (fits_i64 (value_of w) ≡ false) (λ z. (value_of w ≡ z) × (fits_i64 z ≡ true))
told_ok w (Ok z) h = h
told_ok w (Err e) h = h

pub number_told : {E : Type 0} (w text : List ℕ) (r : Result ℤ E) → is_number w ≡ true → text ≡ w → ParsesSigned w64 10 text r
    → MatchOption (result_ok r) (fits_i64 (value_of w) ≡ false) (λ z. (value_of w ≡ z) × (fits_i64 z ≡ true))
number_told w text r number same h = told_ok w r (number_parses w r number (subst (λ t. ParsesSigned w64 10 t r) same h))
