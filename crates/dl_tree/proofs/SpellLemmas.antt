-- A text that spells a tree has no fault.
use Rattle.std.proofs.Common.{◌≡◌, ◌≢◌, ℕ, ◌≤◌, ◌<◌, Bool, true, false, ◌&&◌, ◌||◌, ◌==◌, nat_le, List, [], ◌∷◌, ◌++◌, length, inl, inr, Option, Some, None, refl, sym, ◌∙◌, ap, subst, arith}
use Rattle.std.proofs.lemmas.Bool.Decides.{nat_tests}
use Rattle.std.proofs.lemmas.Slice.Eq.{bytes_eq-Decides}
use Rattle.std.proofs.lemmas.Str.{IsUtf8-from_ascii}
use Rattle.std.specs.List.{list_all}
use Rattle.std.specs.Str.{IsUtf8}
use Rattle.std.specs.Char.{is_ascii_digit, is_ascii_alphabetic}
use Rattle.dl_tree.specs.declared.tree.Place.{Place}
use Rattle.dl_tree.specs.declared.tree.Tree.{Tree, Num, Sym, List'}
use Rattle.dl_tree.specs.Text.{is_blank, is_parenthesis, is_allowed, in_comment, next_place, place_after, Token, start, bad_byte}
use Rattle.dl_tree.specs.Word.{is_number, is_symbol, is_name, is_name_byte, is_operator}
use Rattle.dl_tree.specs.Faults.{Fault, is_open, is_close, word_fault, token_fault, depth_behind, fault_or, first_fault, fault_of}
use Rattle.dl_tree.specs.Spelling.{IsGap, IsLastGap, IsRun, IsTokenBefore, Lays, Spells, IsSpelled, IsList, nesting, close_at}
use Rattle.dl_tree.proofs.TextLemmas.{decide, run_is, in_comment-no, bad_byte-step}
use Rattle.dl_tree.proofs.WordLemmas.{and_parts, all_ascii, positive_digits, natural_digits}
use Rattle.dl_tree.proofs.FaultLemmas.{row_passes}
use Rattle.dl_tree.proofs.LayLemmas.{lays_tokens}

-- ---- the tokens have no fault

pub tree_faultless : (tree : Tree) (ts : List Token) (end : Place) → IsSpelled ts tree → IsList tree → nesting tree ≤ 200 → first_fault true 0 ts end ≡ None
tree_faultless (Num z p) ts end s l le = absurd l
tree_faultless (Sym name p) ts end s l le = absurd l
tree_faultless (List' shape parts p) ts end s l le =
    ap (λ x. first_fault true 0 x end) s.2 ∙ row_passes parts 1 s.0 (close_at s.1 ∷ []) end s.3 (omega arith) (omega arith)

-- ---- where tokens have no fault, each is a parenthesis, a number or a symbol

abbrev is_good : List ℕ → Bool
is_good w = is_open w || is_close w || is_number w || is_symbol w

abbrev AreGood : List Token → Type 0
AreGood [] = Unit {0}
AreGood (t ∷ ts) = (is_good t.word ≡ true) × AreGood ts

faultless_word : (depth : ℕ) (w : List ℕ) → word_fault depth w ≡ None → (is_number w || is_symbol w) ≡ true
unfolding word_fault
faultless_word depth w e = elim (decide (is_number w || is_symbol w)) [ inl good ↦ good | inr bad ↦ cc (rw bad at e) ]

faultless_token : (first : Bool) (depth : ℕ) (w : List ℕ) → token_fault first depth w ≡ None → is_good w ≡ true
faultless_token first depth w e = elim (decide (is_open w)) [
  | inl opens ↦ rw opens refl
  | inr other ↦ elim (decide (is_close w)) [
    | inl closes ↦ rw (other, closes) refl
    | inr word ↦ rw (other, word) (faultless_word depth w (rw (other, word) at e))
  ]
]

no_fault : (fault : Option ℕ) (p : Place) (later : Option Fault) → fault_or fault p later ≡ None → (fault ≡ None) × (later ≡ None)
no_fault None p later e = (refl, e)
no_fault (Some rule) p later e = cc

pub faultless_are_good : (first : Bool) (depth : ℕ) (ts : List Token) (end : Place) → first_fault first depth ts end ≡ None → AreGood ts
faultless_are_good first depth [] end e = tt
faultless_are_good first depth (t ∷ ts) end e =
    let parts = no_fault (token_fault first depth t.word) t.place (first_fault false (depth_behind depth t.word) ts end) e in
    (faultless_token first depth t.word parts.0, faultless_are_good false (depth_behind depth t.word) ts end parts.1)

-- ---- their bytes are allowed

abbrev AreAllowed : List ℕ → Type 0
AreAllowed w = list_all is_allowed w ≡ true

all_weaker : (p q : ℕ → Bool) (w : List ℕ) → ((b : ℕ) → p b ≡ true → q b ≡ true) → list_all p w ≡ true → list_all q w ≡ true
all_weaker p q [] h e = refl
all_weaker p q (b ∷ bs) h e =
    let parts = and_parts (p b) (list_all p bs) e in
    rw (h b parts.0, all_weaker p q bs h parts.1) refl

digit_allowed : (b : ℕ) → is_ascii_digit b ≡ true → is_allowed b ≡ true
digit_allowed b e = grind (arith, nat_tests)

letter_allowed : (b : ℕ) → is_ascii_alphabetic b ≡ true → is_allowed b ≡ true
letter_allowed b e = grind (arith, nat_tests)

name_byte_allowed : (b : ℕ) → is_name_byte b ≡ true → is_allowed b ≡ true
name_byte_allowed b e = grind (arith, nat_tests)

number_allowed : (w : List ℕ) → is_number w ≡ true → AreAllowed w
unfolding is_number
number_allowed [] e = refl
number_allowed (b ∷ bs) e = elim (decide (b == 45)) [
  | inl minus ↦
      (let is : b ≡ 45 = grind (arith, nat_tests) in
      let rest = all_weaker is_ascii_digit is_allowed bs digit_allowed (positive_digits bs (rw minus at e)).0 in
      subst (λ x. AreAllowed (x ∷ bs)) (sym is) rest)
  | inr plain ↦ all_weaker is_ascii_digit is_allowed (b ∷ bs) digit_allowed (natural_digits (b ∷ bs) (rw plain at e)).0
]

name_allowed : (w : List ℕ) → is_name w ≡ true → AreAllowed w
name_allowed [] e = refl
name_allowed (b ∷ bs) e =
    let front = (and_parts (is_ascii_alphabetic b && list_all is_name_byte bs) (nat_le (length bs) 63) e).0 in
    let parts = and_parts (is_ascii_alphabetic b) (list_all is_name_byte bs) front in
    rw (letter_allowed b parts.0, all_weaker is_name_byte is_allowed bs name_byte_allowed parts.1) refl

operator_byte : (b : ℕ) → (b == 61 || b == 60 || b == 43 || b == 45 || b == 42) ≡ true → is_allowed b ≡ true
operator_byte b e = grind (arith, nat_tests)

operator_bytes : (a b : ℕ) → (a == 60 && b == 61) ≡ true → AreAllowed (a ∷ b ∷ [])
operator_bytes a b e =
    let parts = and_parts (a == 60) (b == 61) e in
    let first : a ≡ 60 = grind (arith, nat_tests) in
    let second : b ≡ 61 = grind (arith, nat_tests) in
    rw (first, second) refl

operator_allowed : (w : List ℕ) → is_operator w ≡ true → AreAllowed w
operator_allowed [] e = refl
operator_allowed (b ∷ []) e = rw (operator_byte b e) refl
operator_allowed (a ∷ b ∷ []) e = operator_bytes a b e
operator_allowed (a ∷ b ∷ c ∷ bs) e = cc

pub symbol_allowed : (w : List ℕ) → is_symbol w ≡ true → AreAllowed w
unfolding is_symbol
symbol_allowed w e = elim (decide (is_name w)) [ inl name ↦ name_allowed w name | inr other ↦ operator_allowed w (rw other at e) ]

good_allowed : (w : List ℕ) → is_good w ≡ true → AreAllowed w
good_allowed w e = elim (decide (is_open w)) [
  | inl opens ↦ subst AreAllowed (sym ((bytes_eq-Decides w (40 ∷ [])).0 opens)) refl
  | inr not_open ↦ elim (decide (is_close w)) [
    | inl closes ↦ subst AreAllowed (sym ((bytes_eq-Decides w (41 ∷ [])).0 closes)) refl
    | inr not_close ↦ elim (decide (is_number w)) [
      | inl number ↦ number_allowed w number
      | inr other ↦ symbol_allowed w (rw (not_open, not_close, other) at e)
    ]
  ]
]

gap_byte_allowed : (comment : Bool) (b : ℕ) → (comment || is_blank b || b == 59) ≡ true → (comment || is_allowed b) ≡ true
gap_byte_allowed true b e = refl
gap_byte_allowed false b e = elim (decide (is_blank b)) [
  | inl blank ↦ rw blank refl
  | inr other ↦
      (let semicolon : (b == 59) ≡ true = rw other at e in
      let is : b ≡ 59 = grind (arith, nat_tests) in
      subst (λ x. is_allowed x ≡ true) (sym is) refl)
]

gap_not_bad : (comment : Bool) (p : Place) (gap rest : List ℕ) → IsGap comment gap → bad_byte comment p (gap ++ rest) ≡ bad_byte false (place_after p gap) rest
gap_not_bad comment p [] rest g = ap (λ m. bad_byte m p rest) g
gap_not_bad comment p (b ∷ bs) rest g =
    bad_byte-step comment p b (bs ++ rest) (gap_byte_allowed comment b g.0) ∙ gap_not_bad (in_comment comment b) (next_place p b) bs rest g.1

last_gap_not_bad : (comment : Bool) (p : Place) (bs : List ℕ) → IsLastGap comment bs → bad_byte comment p bs ≡ None
last_gap_not_bad comment p [] g = refl
last_gap_not_bad comment p (b ∷ bs) g =
    bad_byte-step comment p b bs (gap_byte_allowed comment b g.0) ∙ last_gap_not_bad (in_comment comment b) (next_place p b) bs g.1

byte_not_bad : (p : Place) (b : ℕ) (rest : List ℕ) → is_allowed b ≡ true → b ≢ 59 → bad_byte false p (b ∷ rest) ≡ bad_byte false (next_place p b) rest
byte_not_bad p b rest allowed other = bad_byte-step false p b rest allowed ∙ ap (λ m. bad_byte m (next_place p b) rest) (in_comment-no b other)

run_not_bad : (p : Place) (w rest : List ℕ) → IsRun w → AreAllowed w → bad_byte false p (w ++ rest) ≡ bad_byte false (place_after p w) rest
run_not_bad p [] rest run allowed = refl
run_not_bad p (b ∷ bs) rest run allowed =
    let parts = and_parts (is_allowed b) (list_all is_allowed bs) allowed in
    byte_not_bad p b (bs ++ rest) parts.0 (run_is b run.0).1 ∙ run_not_bad (next_place p b) bs rest run.1 parts.1

parenthesis_no_semicolon : (b : ℕ) → is_parenthesis b ≡ true → b ≢ 59
parenthesis_no_semicolon b e is = cc (subst (λ x. is_parenthesis x ≡ true) is e)

token_not_bad : (p : Place) (w rest : List ℕ) → IsTokenBefore rest w → AreAllowed w → bad_byte false p (w ++ rest) ≡ bad_byte false (place_after p w) rest
token_not_bad p [] rest h allowed = absurd h
token_not_bad p (b ∷ bs) rest h allowed = elim h [
  | inl paren ↦ rw paren.1 (byte_not_bad p b rest (and_parts (is_allowed b) (list_all is_allowed bs) allowed).0 (parenthesis_no_semicolon b paren.0))
  | inr run ↦ run_not_bad p (b ∷ bs) rest run.0 allowed
]

pub lays_not_bad : (p : Place) (text : List ℕ) (ts : List Token) → Lays p text ts → AreGood ts → bad_byte false p text ≡ None
lays_not_bad p text [] l good = last_gap_not_bad false p text l
lays_not_bad p text (t ∷ ts) l good =
    ap (bad_byte false p) l.2 ∙ gap_not_bad false p l.0 (t.word ++ l.1) l.3 ∙ ap (λ q. bad_byte false q (t.word ++ l.1)) (sym l.4)
    ∙ token_not_bad t.place t.word l.1 l.5 (good_allowed t.word good.0) ∙ lays_not_bad (place_after t.place t.word) l.1 ts l.6 good.1

-- ---- no tree is spelled where there is a fault

pub spelled_faultless : (text : List ℕ) (tree : Tree) → Spells text tree → fault_of text ≡ None
spelled_faultless text tree s =
    let same = lays_tokens start text s.tokens s.laid in
    let faultless = tree_faultless tree s.tokens (place_after start text) s.spelled s.list s.depth in
    rw (lays_not_bad start text s.tokens s.laid (faultless_are_good true 0 s.tokens (place_after start text) faultless), same) faultless

pub faulty_spells_none : (text : List ℕ) (rule : ℕ) (p : Place) → fault_of text ≡ Some (rule, p) → (tree : Tree) → Spells text tree → ⊥
faulty_spells_none text rule p e tree s = cc (spelled_faultless text tree s, e)

-- ---- the bytes of a symbol are text

ascii_allowed : (b : ℕ) → is_allowed b ≡ true → b < 128
ascii_allowed b e = grind (arith, nat_tests)

pub symbol_is_utf8 : (w : List ℕ) → is_symbol w ≡ true → IsUtf8 w
symbol_is_utf8 w e = IsUtf8-from_ascii w (all_ascii is_allowed w ascii_allowed (symbol_allowed w e))
