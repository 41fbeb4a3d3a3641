-- Numbers and symbols.
use Rattle.std.specs.Prelude.{ℕ, ◌^◌, ℤ, pos, negsuc, neg_ℤ, Bool, false, not, ◌||◌, ◌&&◌, ◌==◌, nat_le, nat_lt, if◌then◌else◌, List, [], ◌∷◌, length}
use Rattle.std.specs.List.{list_all}
use Rattle.std.specs.Char.{is_ascii_digit, is_ascii_alphabetic}
use Rattle.std.specs.Str.Parse.{digits_value}

-- digits that don't begin with 0
abbrev pub is_positive : List ℕ → Bool
is_positive [] = false
is_positive (digit ∷ digits) = not (digit == 48) && list_all is_ascii_digit (digit ∷ digits)

-- digits without leading zeros
abbrev pub is_natural : List ℕ → Bool
is_natural [] = false
is_natural (digit ∷ []) = is_ascii_digit digit
is_natural (digit ∷ next ∷ digits) = is_positive (digit ∷ next ∷ digits)

-- a natural number, or `-` and a positive one
unfoldable pub is_number : List ℕ → Bool
is_number [] = false
is_number (byte ∷ bytes) = if byte == 45 then is_positive bytes else is_natural (byte ∷ bytes)

-- the value of a number
unfoldable pub value_of : List ℕ → ℤ
value_of [] = pos 0
value_of (byte ∷ bytes) = if byte == 45 then neg_ℤ (pos (digits_value 10 bytes)) else pos (digits_value 10 (byte ∷ bytes))

abbrev pub fits_i64 : ℤ → Bool
fits_i64 (pos size) = nat_lt size (2 ^ 63)
fits_i64 (negsuc size) = nat_lt size (2 ^ 63)

abbrev pub is_name_byte : ℕ → Bool
is_name_byte byte = is_ascii_alphabetic byte || is_ascii_digit byte || byte == 95 || byte == 45

-- a letter and at most 63 letters, digits, `_` or `-`
abbrev pub is_name : List ℕ → Bool
is_name [] = false
is_name (byte ∷ bytes) = is_ascii_alphabetic byte && list_all is_name_byte bytes && nat_le (length bytes) 63

-- `=`, `<`, `+`, `-`, `*` or `<=`
abbrev pub is_operator : List ℕ → Bool
is_operator [] = false
is_operator (byte ∷ []) = byte == 61 || byte == 60 || byte == 43 || byte == 45 || byte == 42
is_operator (first ∷ second ∷ []) = first == 60 && second == 61
is_operator (first ∷ second ∷ third ∷ bytes) = false

unfoldable pub is_symbol : List ℕ → Bool
is_symbol word = is_name word || is_operator word
