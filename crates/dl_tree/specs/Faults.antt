-- The first fault of a text.
use Rattle.std.specs.Prelude.{◌≡◌, ℕ, ◌+◌, ◌-◌, Bool, true, false, not, ◌||◌, ◌&&◌, ◌==◌, nat_lt, if◌then◌else◌, List, [], ◌∷◌, Option, Some, None, Result, Ok, Err}
use Rattle.std.specs.Str.{bytes_eq}
use Rattle.dl_tree.specs.declared.tree.Place.{Place}
use Rattle.dl_tree.specs.declared.tree.Tree.{Tree}
use Rattle.dl_tree.specs.declared.reader.TreeFault.{TreeFault}
use Rattle.dl_tree.specs.declared.reader.TreeFault.TheVariants.{At, Memory}
use Rattle.dl_tree.specs.Text.{Token, tokens, bad_byte, place_after, start}
use Rattle.dl_tree.specs.Word.{is_number, value_of, fits_i64, is_symbol}

-- a rule and a place
abbrev pub Fault : Type 0
Fault = ℕ × Place

abbrev pub is_open : List ℕ → Bool
is_open word = bytes_eq word (40 ∷ [])

abbrev pub is_close : List ℕ → Bool
is_close word = bytes_eq word (41 ∷ [])

-- the smallest rule that a number or a symbol breaks, or another word, inside so many open lists
unfoldable pub word_fault : ℕ → List ℕ → Option ℕ
word_fault depth word =
    if is_number word || is_symbol word
    then (if depth == 0 then Some 4 else (if is_number word && not (fits_i64 (value_of word)) then Some 6 else None))
    else Some 2

-- the smallest rule that a token breaks, where it is the first of the text or not, inside so many open lists
abbrev pub token_fault : Bool → ℕ → List ℕ → Option ℕ
token_fault first depth word =
    if is_open word then (if depth == 0 && not first then Some 4 else (if nat_lt depth 200 then None else Some 5))
    else (if is_close word then (if depth == 0 then Some 4 else None)
    else word_fault depth word)

-- how many lists are open behind a token
abbrev pub depth_behind : ℕ → List ℕ → ℕ
depth_behind depth word = if is_open word then depth + 1 else (if is_close word then depth - 1 else depth)

abbrev pub fault_or : Option ℕ → Place → Option Fault → Option Fault
fault_or (Some rule) place later = Some (rule, place)
fault_or None place later = later

-- the first fault of tokens up to the end of the text, of which the first one may be the text's first one
abbrev pub first_fault : Bool → ℕ → List Token → Place → Option Fault
first_fault first depth [] end = if depth == 0 && not first then None else Some (3, end)
first_fault first depth (token ∷ behind) end = fault_or (token_fault first depth token.word) token.place (first_fault false (depth_behind depth token.word) behind end)

abbrev pub bad_or : Option Place → Option Fault → Option Fault
bad_or (Some place) later = Some (1, place)
bad_or None later = later

-- the first byte that may not stand there, or else the first fault of the tokens
abbrev pub fault_of : List ℕ → Option Fault
fault_of text = bad_or (bad_byte false start text) (first_fault true 0 (tokens false start text) (place_after start text))

-- a refusal is this fault, or want of memory
abbrev pub IsFault : Option Fault → TreeFault → Type 0
IsFault fault Memory = Unit {0}
IsFault fault (At rule place) = fault ≡ Some (rule, place)

-- the tree was read, unless memory ran out
abbrev pub Reads : Tree → Result Tree TreeFault → Type 0
Reads tree (Ok read) = read ≡ tree
Reads tree (Err Memory) = Unit {0}
Reads tree (Err (At rule place)) = ⊥
