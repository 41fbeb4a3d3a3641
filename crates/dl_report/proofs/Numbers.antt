-- Numbers as words: what is written is read again, and only that.
use Rattle.std.proofs.Common.{rules, ◌≡◌, ℕ, suc, zero, ◌≤◌, ◌<◌, ◌^◌, ℤ, pos, negsuc, neg_ℤ, Bool, true, false, not, ◌&&◌, ◌==◌, nat_lt, List, [], ◌∷◌, length, get_or, Option, Some, None, Result, Ok, Err, MatchOption, inl, inr, refl, sym, ap, ◌∙◌, subst, arith, decimal}
use Rattle.std.proofs.lemmas.Bool.Decides.{nat_tests}
use Rattle.std.proofs.lemmas.Fmt.{digits_decimal, digits_value-decimal, decimal_nonempty, first_decimal, decimal_digit, decimal-digits_value}
use Rattle.std.proofs.lemmas.Option.{cond_some, option_and_then_some}
use Rattle.std.proofs.lemmas.Str.{IsUtf8-from_ascii}
use Rattle.std.proofs.lemmas.Str.Parse.{parse_digits}
use Rattle.std.specs.Result.{OkIff, result_ok}
use Rattle.std.specs.Str.{IsUtf8}
use Rattle.std.specs.Fmt.{signed_decimal}
use Rattle.std.specs.List.{list_all}
use Rattle.std.specs.Char.{is_ascii_digit}
use Rattle.std.specs.Str.Parse.{ParsesUnsigned, digits_value}
use Rattle.dl_tree.specs.Word.{is_positive, is_natural, is_number, value_of, fits_i64}
use Rattle.dl_tree.proofs.WordLemmas.{own, AreDigits, natural_digits, positive_digits, all_ascii}
use Rattle.dl_tree.proofs.LayoutLemmas.{decimal_is_number}
use Rattle.dl_model.specs.Sorts.{is_i64}
use Rattle.dl_report.specs.Layout.{Text}
use Rattle.dl_report.specs.Reading.{natural_in, if_small, small_in, integer_in}
use Rattle.dl_report.proofs.Pieces.{decide, and_parts, and_both, is_above, IsPlain}

-- ---- natural numbers

positive_natural : (ds : Text) → is_positive ds ≡ true → is_natural ds ≡ true
positive_natural [] e = cc
positive_natural (d ∷ []) e = (and_parts (is_ascii_digit d) true (and_parts (not (d == 48)) (list_all is_ascii_digit (d ∷ [])) e).1).0
positive_natural (d ∷ c ∷ ds) e = e

first_positive : (ds : Text) → AreDigits ds → 0 < length ds → 48 < get_or ds 0 0 → is_positive ds ≡ true
first_positive [] e some first = absurd (omega arith)
first_positive (d ∷ ds) e some first =
    let other : (d == 48) ≡ false = grind (arith, nat_tests) in
    rw (other, e) refl

decimal_natural : (n : ℕ) → n < 2 ^ 64 → is_natural (decimal n) ≡ true
decimal_natural zero lt = rw (decimal_digit 0 (omega arith)) refl
decimal_natural (suc n) lt =
    positive_natural (decimal (suc n)) (first_positive (decimal (suc n)) (digits_decimal own (suc n) lt) (decimal_nonempty (suc n) lt) (first_decimal (suc n) (omega arith) lt))

pub natural_read : (n : ℕ) → n < 2 ^ 64 → natural_in (decimal n) ≡ Some n
natural_read n lt =
    let fits : nat_lt n (2 ^ 64) ≡ true = grind (arith, nat_tests) in
    rw (decimal_natural n lt, digits_value-decimal own n lt, fits) refl

natural_lead : (w : Text) → is_natural w ≡ true → get_or w 0 0 ≡ 48 → length w ≡ 1
natural_lead [] e first = cc
natural_lead (d ∷ []) e first = refl
natural_lead (d ∷ c ∷ ds) e first =
    let not_so : not (d == 48) ≡ true = (and_parts (not (d == 48)) (list_all is_ascii_digit (d ∷ c ∷ ds)) e).0 in
    let bad : not (48 == 48) ≡ true = subst (λ x. not (x == 48) ≡ true) first not_so in
    cc

decimal_text : (w : Text) → is_natural w ≡ true → digits_value 10 w < 2 ^ 64 → decimal (digits_value 10 w) ≡ w
decimal_text w e lt =
    let digits = natural_digits w e in
    decimal-digits_value own w digits.0 digits.1 (natural_lead w e) lt

pub natural_written : (w : Text) (n : ℕ) → natural_in w ≡ Some n → (decimal n ≡ w) × (n < 2 ^ 64)
natural_written w n e =
    let parts = cond_some (is_natural w && nat_lt (digits_value 10 w) (2 ^ 64)) (digits_value 10 w) n e in
    let both = and_parts (is_natural w) (nat_lt (digits_value 10 w) (2 ^ 64)) parts.0 in
    let lt : digits_value 10 w < 2 ^ 64 = grind (arith, nat_tests) in
    (subst (λ m. decimal m ≡ w) parts.1 (decimal_text w both.0 lt), subst (λ m. m < 2 ^ 64) parts.1 lt)

pub small_read : (n : ℕ) → n < 2 ^ 32 → small_in (decimal n) ≡ Some n
small_read n lt =
    let fits : nat_lt n (2 ^ 32) ≡ true = grind (arith, nat_tests) in
    rw (natural_read n (omega arith), fits) refl

pub small_written : (w : Text) (n : ℕ) → small_in w ≡ Some n → (decimal n ≡ w) × (n < 2 ^ 32)
small_written w n e =
    option_and_then_some if_small (natural_in w) n e (λ m found small.
    let parts = cond_some (nat_lt m (2 ^ 32)) m n small in
    let text = natural_written w m found in
    let lt : m < 2 ^ 32 = grind (arith, nat_tests) in
    (subst (λ k. decimal k ≡ w) parts.1 text.0, subst (λ k. k < 2 ^ 32) parts.1 lt))

-- ---- integers

pub i64_fits : (z : ℤ) → is_i64 z ≡ true → fits_i64 z ≡ true
i64_fits (pos n) e = grind (arith, nat_tests)
i64_fits (negsuc n) e = grind (arith, nat_tests)

pub fits_is_i64 : (z : ℤ) → fits_i64 z ≡ true → is_i64 z ≡ true
fits_is_i64 (pos n) e = grind (arith, nat_tests)
fits_is_i64 (negsuc n) e = grind (arith, nat_tests)

pub integer_read : (z : ℤ) → is_i64 z ≡ true → integer_in (signed_decimal z) ≡ Some z
integer_read z e =
    let fits = i64_fits z e in
    let number = decimal_is_number z fits in
    rw (number.0, number.1, fits) refl

minus_text : (bs : Text) (v : ℕ) → digits_value 10 bs ≡ v → is_positive bs ≡ true → fits_i64 (neg_ℤ (pos v)) ≡ true → signed_decimal (neg_ℤ (pos v)) ≡ 45 ∷ bs
minus_text bs zero same p fits =
    let text : decimal 0 ≡ bs = subst (λ v. decimal v ≡ bs) same (decimal_text bs (positive_natural bs p) (omega (arith, same))) in
    let is : 48 ∷ [] ≡ bs = sym (decimal_digit 0 (omega arith)) ∙ text in
    let bad : is_positive (48 ∷ []) ≡ true = subst (λ l. is_positive l ≡ true) (sym is) p in
    cc
minus_text bs (suc m) same p fits =
    let lt : m < 2 ^ 63 = grind (arith, nat_tests) in
    ap (λ l. 45 ∷ l) (subst (λ v. decimal v ≡ bs) same (decimal_text bs (positive_natural bs p) (omega (arith, same))))

signed_text : (w : Text) → is_number w ≡ true → fits_i64 (value_of w) ≡ true → signed_decimal (value_of w) ≡ w
unfolding is_number value_of
signed_text [] e fits = cc
signed_text (b ∷ bs) e fits = elim (decide (b == 45)) [
  | inl minus ↦
      (let is : b ≡ 45 = grind (arith, nat_tests) in
      rw (minus, is) (minus_text bs (digits_value 10 bs) refl (rw minus at e) (rw minus at fits)))
  | inr plain ↦
      (let small : nat_lt (digits_value 10 (b ∷ bs)) (2 ^ 63) ≡ true = rw plain at fits in
      let lt : digits_value 10 (b ∷ bs) < 2 ^ 63 = grind (arith, nat_tests) in
      rw plain (decimal_text (b ∷ bs) (rw plain at e) (omega arith)))
]

pub integer_written : (w : Text) (z : ℤ) → integer_in w ≡ Some z → (signed_decimal z ≡ w) × (is_i64 z ≡ true)
integer_written w z e =
    let parts = cond_some (is_number w && fits_i64 (value_of w)) (value_of w) z e in
    let both = and_parts (is_number w) (fits_i64 (value_of w)) parts.0 in
    (subst (λ v. signed_decimal v ≡ w) parts.1 (signed_text w both.0 both.1), subst (λ v. is_i64 v ≡ true) parts.1 (fits_is_i64 (value_of w) both.1))

-- ---- what `parse` gives of digits

abbrev pub IsDigitsTold : Text → Option ℕ → Type 0
IsDigitsTold w r = MatchOption r (nat_lt (digits_value 10 w) (2 ^ 64) ≡ false) (λ n. (digits_value 10 w ≡ n) × (nat_lt n (2 ^ 64) ≡ true))

below : (m : ℕ) → m < 2 ^ 64 → nat_lt m (2 ^ 64) ≡ true
below m lt = grind (arith, nat_tests)

not_below : (m : ℕ) → 2 ^ 64 ≤ m → nat_lt m (2 ^ 64) ≡ false
not_below m le = grind (arith, nat_tests)

digits_told : {E : Type 0} (w : Text) (r : Result ℕ E) → 0 < length w → OkIff r ((0 < length w) × (digits_value 10 w < 2 ^ 64)) (digits_value 10 w) → IsDigitsTold w (result_ok r)
digits_told w (Ok n) some h = (sym h.1, rw h.1 (below (digits_value 10 w) h.0.1))
digits_told w (Err e) some h = not_below (digits_value 10 w) (omega (arith, λ (lt : digits_value 10 w < 2 ^ 64). h (some, lt)))

pub natural_told : {E : Type 0} (w text : Text) (r : Result ℕ E) → is_natural w ≡ true → text ≡ w → ParsesUnsigned 64 10 text r → IsDigitsTold w (result_ok r)
natural_told w text r natural same h =
    let digits = natural_digits w natural in
    digits_told w r digits.1 (parse_digits own 64 w r (subst (λ t. ParsesUnsigned 64 10 t r) same h) digits.0)

ascii_digit : (d : ℕ) → is_ascii_digit d ≡ true → d < 128
ascii_digit d e = grind (arith, nat_tests)

pub natural_is_utf8 : (w : Text) → is_natural w ≡ true → IsUtf8 w
natural_is_utf8 w e = IsUtf8-from_ascii w (all_ascii is_ascii_digit w ascii_digit (natural_digits w e).0)

pub natural_found : (w : Text) (r : Option ℕ) → is_natural w ≡ true → IsDigitsTold w r → r ≡ natural_in w
natural_found w None is h = rw (is, h) refl
natural_found w (Some n) is h = rw (is, h.0, h.1) refl

pub natural_missing : (w : Text) → is_natural w ≡ false → None ≡ natural_in w
natural_missing w not_so = rw not_so refl

pub integer_found : (w : Text) (r : Option ℤ) → is_number w ≡ true → MatchOption r (fits_i64 (value_of w) ≡ false) (λ z. (value_of w ≡ z) × (fits_i64 z ≡ true)) → r ≡ integer_in w
integer_found w None is h = rw (is, h) refl
integer_found w (Some z) is h = rw (is, h.0, h.1) refl

pub integer_missing : (w : Text) → is_number w ≡ false → None ≡ integer_in w
integer_missing w not_so = rw not_so refl

-- ---- their bytes

digit_above : (b : ℕ) → is_ascii_digit b ≡ true → is_above b ≡ true
digit_above b e = grind (arith, nat_tests)

digits_plain : (ds : Text) → AreDigits ds → IsPlain ds
digits_plain [] e = refl
digits_plain (d ∷ ds) e =
    let parts = and_parts (is_ascii_digit d) (list_all is_ascii_digit ds) e in
    and_both (is_above d) (list_all is_above ds) (digit_above d parts.0) (digits_plain ds parts.1)

pub decimal_plain : (n : ℕ) → n < 2 ^ 64 → IsPlain (decimal n)
decimal_plain n lt = digits_plain (decimal n) (digits_decimal own n lt)

pub signed_plain : (z : ℤ) → is_i64 z ≡ true → IsPlain (signed_decimal z)
signed_plain (pos n) e =
    let lt : n < 2 ^ 64 = grind (arith, nat_tests) in
    decimal_plain n lt
signed_plain (negsuc n) e =
    let lt : suc n < 2 ^ 64 = grind (arith, nat_tests) in
    and_both true (list_all is_above (decimal (suc n))) refl (decimal_plain (suc n) lt)
