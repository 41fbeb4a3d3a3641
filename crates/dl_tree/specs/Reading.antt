-- What the reader says of a word.
use Rattle.std.specs.Prelude.{◌≡◌, ℕ, true, false, List}
use Rattle.dl_tree.specs.declared.word.Reading.{Reading}
use Rattle.dl_tree.specs.declared.word.Reading.TheVariants.{Number, TooBig, Symbol, Other}
use Rattle.dl_tree.specs.Word.{is_number, value_of, fits_i64, is_symbol}

abbrev pub IsReading : List ℕ → Reading → Type 0
IsReading word (Number value) = (is_number word ≡ true) × (value_of word ≡ value) × (fits_i64 value ≡ true)
IsReading word TooBig = (is_number word ≡ true) × (fits_i64 (value_of word) ≡ false)
IsReading word Symbol = (is_number word ≡ false) × (is_symbol word ≡ true)
IsReading word Other = (is_number word ≡ false) × (is_symbol word ≡ false)
