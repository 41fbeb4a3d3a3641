-- The rules of bytes and tokens that a text breaks.
use Rattle.std.proofs.Common.{◌≡◌, ℕ, ◌==◌, Bool, true, false, if◌then◌else◌, List, [], ◌∷◌, Option, Some, None, refl, subst}
use Rattle.std.specs.Prelude.{not, ◌||◌, ◌&&◌, nat_lt}
use Rattle.dl_tree.specs.declared.tree.Place.{Place}
use Rattle.dl_tree.specs.Text.{Token, tokens, bad_byte, place_after, start}
use Rattle.dl_tree.specs.Word.{is_number, value_of, fits_i64, is_symbol}
use Rattle.dl_tree.specs.Faults.{Fault, is_open, is_close, word_fault, token_fault, depth_behind, fault_or, first_fault, bad_or, fault_of}
use Rattle.dl_check.specs.Rules.{is_text_rule}

-- a rule that is broken, if any, is one of bytes and tokens
abbrev IsByRule : Option ℕ → Type 0
IsByRule None = Unit {0}
IsByRule (Some rule) = is_text_rule rule ≡ true

-- and so is that of a fault
abbrev HasRule : Option Fault → Type 0
HasRule None = Unit {0}
HasRule (Some broken) = is_text_rule broken.0 ≡ true

one-by : (b : Bool) (x y : Option ℕ) → IsByRule x → IsByRule y → IsByRule (if b then x else y)
one-by true x y h k = h
one-by false x y h k = k

either-has : (o : Option ℕ) (p : Place) (later : Option Fault) → IsByRule o → HasRule later → HasRule (fault_or o p later)
either-has None p later h k = k
either-has (Some rule) p later h k = h

word-by : (depth : ℕ) (word : List ℕ) → IsByRule (word_fault depth word)
unfolding word_fault
word-by depth word =
    let large : Option ℕ = if is_number word && not (fits_i64 (value_of word)) then Some 6 else None in
    one-by (is_number word || is_symbol word) (if depth == 0 then Some 4 else large) (Some 2)
    (one-by (depth == 0) (Some 4) large refl (one-by (is_number word && not (fits_i64 (value_of word))) (Some 6) None refl tt))
    refl

token-by : (first : Bool) (depth : ℕ) (word : List ℕ) → IsByRule (token_fault first depth word)
token-by first depth word =
    let deep : Option ℕ = if nat_lt depth 200 then None else Some 5 in
    let stray : Option ℕ = if depth == 0 then Some 4 else None in
    one-by (is_open word) (if depth == 0 && not first then Some 4 else deep) (if is_close word then stray else word_fault depth word)
    (one-by (depth == 0 && not first) (Some 4) deep refl (one-by (nat_lt depth 200) None (Some 5) tt refl))
    (one-by (is_close word) stray (word_fault depth word) (one-by (depth == 0) (Some 4) None refl tt) (word-by depth word))

ended-has : (ended : Bool) (end : Place) → HasRule (if ended then None else Some (3, end))
ended-has true end = tt
ended-has false end = refl

tokens-have : (first : Bool) (depth : ℕ) (words : List Token) (end : Place) → HasRule (first_fault first depth words end)
tokens-have first depth [] end = ended-has (depth == 0 && not first) end
tokens-have first depth (token ∷ words) end =
    either-has (token_fault first depth token.word) token.place (first_fault false (depth_behind depth token.word) words end)
    (token-by first depth token.word) (tokens-have false (depth_behind depth token.word) words end)

bad-has : (o : Option Place) (later : Option Fault) → HasRule later → HasRule (bad_or o later)
bad-has None later h = h
bad-has (Some place) later h = refl

text-has : (text : List ℕ) → HasRule (fault_of text)
text-has text =
    bad-has (bad_byte false start text) (first_fault true 0 (tokens false start text) (place_after start text)) (tokens-have true 0 (tokens false start text) (place_after start text))

-- The first fault of a text's bytes and tokens is by a rule of them.
pub text-ruled : (text : List ℕ) (rule : ℕ) (place : Place) → fault_of text ≡ Some (rule, place) → is_text_rule rule ≡ true
text-ruled text rule place h = subst HasRule h (text-has text)
