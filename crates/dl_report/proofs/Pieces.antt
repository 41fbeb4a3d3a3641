-- Words between blanks, and what stands before a byte and behind it.
use Rattle.std.proofs.Common.{◌≡◌, ℕ, Bool, true, false, not, ◌&&◌, ◌==◌, ◌++◌, List, [], ◌∷◌, Some, None, Option, refl, sym, ap, ◌∙◌, subst, arith, nat_lt, append_assoc, length, length-drop, take, drop, suc, ◌+◌, ◌-◌, ◌<◌, ◌⊎◌, inl, inr}
use Rattle.std.proofs.lemmas.Bool.Decides.{nat_tests}
use Rattle.std.proofs.lemmas.List.Folds.{list_all-append}
use Rattle.std.proofs.lemmas.List.{append-nil, take_all}
use Rattle.std.specs.Prelude.{IsTrue, ◌↔◌}
use Rattle.std.specs.List.{list_all, prefix_len, join_with_byte, slice_split, onto_first, AllByRecursion as Each}
use Rattle.std.specs.Option.{option_map}
use Rattle.std.proofs.lemmas.Option.{some_pair_parts}
use Rattle.dl_report.specs.Layout.{Text, line_of}
use Rattle.dl_report.specs.Split.{words_of, words_left}
use Rattle.dl_report.specs.Spaced.{spaced}
use Rattle.dl_report.specs.Reading.{cut, is_other, with_rest, word_from}

pub decide : (t : Bool) → (t ≡ true) ⊎ (t ≡ false)
decide true = inl refl
decide false = inr refl

pub and_parts : (a b : Bool) → (a && b) ≡ true → (a ≡ true) × (b ≡ true)
and_parts true true e = (refl, refl)
and_parts true false e = cc
and_parts false b e = cc

pub and_both : (a b : Bool) → a ≡ true → b ≡ true → (a && b) ≡ true
and_both true true e f = refl
and_both true false e f = cc
and_both false b e f = cc

pub negated : (b : Bool) → not b ≡ true → b ≡ false
negated true e = cc
negated false e = refl

-- ---- bytes of words

abbrev pub is_above : ℕ → Bool
is_above b = nat_lt 32 b

-- no blank and no LF
abbrev pub IsPlain : Text → Type 0
IsPlain word = list_all is_above word ≡ true

abbrev pub HasNone : ℕ → Text → Type 0
HasNone byte bytes = list_all (λ b. not (b == byte)) bytes ≡ true

pub plain-append : (a b : Text) → IsPlain a → IsPlain b → IsPlain (a ++ b)
plain-append a b p q = list_all-append is_above a b ∙ and_both (list_all is_above a) (list_all is_above b) p q

pub none-append : (byte : ℕ) (a b : Text) → HasNone byte a → HasNone byte b → HasNone byte (a ++ b)
none-append byte a b p q = list_all-append (λ b. not (b == byte)) a b ∙ and_both (list_all (λ b. not (b == byte)) a) (list_all (λ b. not (b == byte)) b) p q

pub plain-none : (byte : ℕ) (bytes : Text) → is_above byte ≡ false → IsPlain bytes → HasNone byte bytes
plain-none byte [] low p = refl
plain-none byte (b ∷ bs) low p =
    let parts = and_parts (is_above b) (list_all is_above bs) p in
    let not_so : (b == byte) ≡ false = grind (arith, nat_tests) in
    and_both (not (b == byte)) (list_all (λ b. not (b == byte)) bs) (rw not_so refl) (plain-none byte bs low parts.1)

-- ---- cuts

pub cut_at : (byte : ℕ) (front back : Text) → HasNone byte front → cut byte (front ++ (byte ∷ back)) ≡ Some (front, back)
cut_at byte [] back none =
    let same : (byte == byte) ≡ true = grind (arith, nat_tests) in
    rw same refl
cut_at byte (b ∷ bs) back none = elim (decide (b == byte)) [
  | inl is ↦ cc (rw is at none)
  | inr not_so ↦ rw (not_so, cut_at byte bs back (and_parts (not (b == byte)) (list_all (λ b. not (b == byte)) bs) none).1) refl
]

cut-more : (byte b : ℕ) (found : Option (Text × Text)) (front back : Text) → option_map {U = Text × Text} (λ (parts : Text × Text). (b ∷ parts.0, parts.1)) found ≡ Some (front, back) →
    (rest : Text) × (front ≡ b ∷ rest) × (found ≡ Some (rest, back))
cut-more byte b None front back e = cc
cut-more byte b (Some parts) front back e =
    let same = some_pair_parts (b ∷ parts.0) front parts.1 back e in
    (parts.0, sym same.0, ap (λ (r : Text). Some (parts.0, r)) same.1)

cut-nothing : (b : ℕ) (found : Option (Text × Text)) → option_map {U = Text × Text} (λ (parts : Text × Text). (b ∷ parts.0, parts.1)) found ≡ None → found ≡ None
cut-nothing b None e = refl
cut-nothing b (Some parts) e = cc

pub cut_is : (byte : ℕ) (bytes front back : Text) → cut byte bytes ≡ Some (front, back) → bytes ≡ front ++ (byte ∷ back)
cut_is byte [] front back e = cc
cut_is byte (b ∷ bs) front back e = elim (decide (b == byte)) [
  | inl is ↦
      (let found : ◌≡◌ {A = Option (Text × Text)} (Some ([], bs)) (Some (front, back)) = rw is at e in
      let parts = some_pair_parts [] front bs back found in
      let same : b ≡ byte = grind (arith, nat_tests) in
      subst (λ f. b ∷ bs ≡ f ++ (byte ∷ back)) parts.0 (ap (λ n. n ∷ bs) same ∙ ap (λ l. byte ∷ l) parts.1))
  | inr not_so ↦
      (let more = cut-more byte b (cut byte bs) front back (rw not_so at e) in
      ap (λ l. b ∷ l) (cut_is byte bs more.0 back more.2) ∙ ap (λ f. f ++ (byte ∷ back)) (sym more.1))
]

pub cut_none : (byte : ℕ) (bytes : Text) → cut byte bytes ≡ None → HasNone byte bytes
cut_none byte [] e = refl
cut_none byte (b ∷ bs) e = elim (decide (b == byte)) [
  | inl is ↦ cc (rw is at e)
  | inr not_so ↦ and_both (not (b == byte)) (list_all (λ b. not (b == byte)) bs) (rw not_so refl) (cut_none byte bs (cut-nothing b (cut byte bs) (rw not_so at e)))
]

-- a cut by the number of bytes before it
pub cut_missing : (byte : ℕ) (bytes : Text) → prefix_len (is_other byte) bytes ≡ length bytes → cut byte bytes ≡ None
cut_missing byte [] e = refl
cut_missing byte (b ∷ bs) e = elim (decide (b == byte)) [
  | inl is ↦ absurd (omega (arith, rw is at e))
  | inr not_so ↦ rw (not_so, cut_missing byte bs (omega (arith, rw not_so at e))) refl
]

pub cut_there : (byte : ℕ) (bytes : Text) → prefix_len (is_other byte) bytes < length bytes →
    cut byte bytes ≡ Some (take (prefix_len (is_other byte) bytes) bytes, drop (prefix_len (is_other byte) bytes + 1) bytes)
cut_there byte [] lt = absurd (omega arith)
cut_there byte (b ∷ bs) lt = elim (decide (b == byte)) [
  | inl is ↦ rw is refl
  | inr not_so ↦
      (let more = cut_there byte bs (omega (arith, rw not_so at lt)) in
      let one : suc (prefix_len (is_other byte) bs) ≡ 1 + prefix_len (is_other byte) bs = omega arith in
      let two : suc (prefix_len (is_other byte) bs + 1) ≡ 1 + prefix_len (is_other byte) bs + 1 = omega arith in
      rw (not_so, more) (λ i. Some (take (one i) (b ∷ bs), drop (two i) (b ∷ bs))))
]

-- the same by a place
pub cut_parts : (byte : ℕ) (bytes : Text) (at : ℕ) → at ≡ prefix_len (is_other byte) bytes → at < length bytes →
    cut byte bytes ≡ Some (take at bytes, take (length bytes - (at + 1)) (drop (at + 1) bytes))
cut_parts byte bytes at is lt =
    let within : prefix_len (is_other byte) bytes < length bytes = omega arith in
    let all : take (length bytes - (at + 1)) (drop (at + 1) bytes) ≡ drop (at + 1) bytes = take_all (length bytes - (at + 1)) (drop (at + 1) bytes) (omega (arith, length-drop (at + 1) bytes)) in
    let back : drop (prefix_len (is_other byte) bytes + 1) bytes ≡ take (length bytes - (at + 1)) (drop (at + 1) bytes) = ap (λ n. drop (n + 1) bytes) (sym is) ∙ sym all in
    let parts : ◌≡◌ {A = Option (Text × Text)} (Some (take (prefix_len (is_other byte) bytes) bytes, drop (prefix_len (is_other byte) bytes + 1) bytes)) (Some (take at bytes, take (length bytes - (at + 1)) (drop (at + 1) bytes))) =
    λ i. Some (take (sym is i) bytes, back i) in
    cut_there byte bytes within ∙ parts

-- ---- words of a line

split_blank : (word bytes : Text) → IsPlain word → words_of (word ++ (32 ∷ bytes)) ≡ word ∷ words_of bytes
split_blank [] bytes p = refl
split_blank (b ∷ bs) bytes p =
    let parts = and_parts (is_above b) (list_all is_above bs) p in
    let not_so : (b == 32) ≡ false = grind (arith, nat_tests) in
    rw (not_so, split_blank bs bytes parts.1) refl

split_last : (word : Text) → IsPlain word → words_of word ≡ word ∷ []
split_last [] p = refl
split_last (b ∷ bs) p =
    let parts = and_parts (is_above b) (list_all is_above bs) p in
    let not_so : (b == 32) ≡ false = grind (arith, nat_tests) in
    rw (not_so, split_last bs parts.1) refl

pub words_joined : (word : Text) (words : List Text) → IsPlain word → Each IsPlain words → words_of (join_with_byte 32 (word ∷ words)) ≡ word ∷ words
words_joined word [] p ps = split_last word p
words_joined word (next ∷ words) p ps = split_blank word (join_with_byte 32 (next ∷ words)) p ∙ ap (λ l. word ∷ l) (words_joined next words ps.0 ps.1)

pub joined_none : (word : Text) (words : List Text) → IsPlain word → Each IsPlain words → HasNone 10 (join_with_byte 32 (word ∷ words))
joined_none word [] p ps = plain-none 10 word refl p
joined_none word (next ∷ words) p ps = none-append 10 word (32 ∷ join_with_byte 32 (next ∷ words)) (plain-none 10 word refl p) (joined_none next words ps.0 ps.1)

-- the line of words, cut from the text that it begins
pub line_cut : (word : Text) (words : List Text) (rest : Text) → IsPlain word → Each IsPlain words →
    cut 10 (line_of (word ∷ words) ++ rest) ≡ Some (join_with_byte 32 (word ∷ words), rest)
line_cut word words rest p ps =
    ap (cut 10) (append_assoc (join_with_byte 32 (word ∷ words)) (10 ∷ []) rest) ∙ cut_at 10 (join_with_byte 32 (word ∷ words)) rest (joined_none word words p ps)

-- words with a blank between them are the first one and the others with a blank before each
pub joined_spaced : (word : Text) (words : List Text) → join_with_byte 32 (word ∷ words) ≡ word ++ spaced words
joined_spaced word [] = sym (append-nil word)
joined_spaced word (next ∷ words) = ap (λ l. word ++ (32 ∷ l)) (joined_spaced next words)

onto_first_is : (b : ℕ) (bytes word : Text) (words : List Text) → words_of bytes ≡ word ∷ words → (b == 32) ≡ false → words_of (b ∷ bytes) ≡ (b ∷ word) ∷ words
onto_first_is b bytes word words e not_so = rw (not_so, e) refl

-- the words of what was cut
pub words_cut : (bytes word rest : Text) → cut 32 bytes ≡ Some (word, rest) → words_of bytes ≡ word ∷ words_of rest
words_cut [] word rest e = cc
words_cut (b ∷ bs) word rest e = elim (decide (b == 32)) [
  | inl is ↦
      (let found : ◌≡◌ {A = Option (Text × Text)} (Some ([], bs)) (Some (word, rest)) = rw is at e in
      let parts = some_pair_parts [] word bs rest found in
      rw is (ap (λ w. w ∷ words_of bs) parts.0 ∙ ap (λ r. word ∷ words_of r) parts.1))
  | inr not_so ↦
      (let more = cut-more 32 b (cut 32 bs) word rest (rw not_so at e) in
      onto_first_is b bs more.0 (words_of rest) (words_cut bs more.0 rest more.2) not_so ∙ ap (λ w. w ∷ words_of rest) (sym more.1))
]

pub words_uncut : (bytes : Text) → cut 32 bytes ≡ None → words_of bytes ≡ bytes ∷ []
words_uncut [] e = refl
words_uncut (b ∷ bs) e = elim (decide (b == 32)) [
  | inl is ↦ cc (rw is at e)
  | inr not_so ↦ onto_first_is b bs bs [] (words_uncut bs (cut-nothing b (cut 32 bs) (rw not_so at e))) not_so
]

onto_some : (b : ℕ) (words : List Text) → onto_first b words ≡ [] → ⊥
onto_some b [] e = cc
onto_some b (word ∷ words) e = cc

-- a line has a word
words_some : (bytes : Text) → words_of bytes ≡ [] → ⊥
words_some [] e = cc
words_some (b ∷ bs) e = elim (decide (b == 32)) [
  | inl is ↦ cc (rw is at e)
  | inr not_so ↦ onto_some b (words_of bs) (rw not_so at e)
]

pub over_is : (over : Bool) (bytes : Text) → IsTrue over ↔ (words_left over bytes ≡ [])
over_is true bytes = (λ e. refl, λ e. refl)
over_is false bytes = (λ e. cc, λ e. absurd (words_some bytes e))

-- ---- one word, taken

pub word_taken : {X : Type 0} (read : Text → Option X) (old new : List Text) (word : Text) (r : Option X) → old ≡ word ∷ new → r ≡ read word → with_rest r new ≡ word_from read old
word_taken read old new word r e is = ap (λ x. with_rest x new) is ∙ sym (ap (word_from read) e)

pub word_lacks : {X : Type 0} (read : Text → Option X) (old new : List Text) → old ≡ [] → with_rest {X = X} None new ≡ word_from read old
word_lacks read old new e = sym (ap (word_from read) e)

-- ---- what is left of a text

pub none_left : (n : ℕ) → (n == 0) ≡ true → n ≡ 0
none_left n e = grind (arith, nat_tests)

some_above : (n : ℕ) → (n == 0) ≡ false → 0 < n
some_above n e = grind (arith, nat_tests)

pub some_left : (n : ℕ) → (n == 0) ≡ false → n ≡ 0 → ⊥
some_left n e is = absurd (omega (arith, some_above n e))

pub nothing : {X : Type 0} (xs : List X) → length xs ≡ 0 → xs ≡ []
nothing [] e = refl
nothing (x ∷ xs) e = absurd (omega arith)
