-- Words that name nodes, labels, tags and fields: what is written is read again, and only that.
use Rattle.std.proofs.Common.{◌≡◌, ℕ, zero, suc, ◌+◌, ◌≤◌, ◌<◌, ◌^◌, ℤ, pos, negsuc, Bool, true, false, not, ◌&&◌, ◌||◌, ◌==◌, nat_lt, ◌++◌, List, [], ◌∷◌, map, length, get_or, Option, Some, None, slice_get, is_some, bytes_eq, if◌then◌else◌, refl, sym, ap, ◌∙◌, subst, arith, decimal, ◌⊎◌, inl, inr}
use Rattle.std.proofs.lemmas.Bool.Decides.{nat_tests}
use Rattle.std.proofs.lemmas.Slice.Eq.{bytes_eq-Decides}
use Rattle.std.proofs.lemmas.Option.{slice_get-map, slice_get-get_or, slice_get_within, option_and_then_some, some_pair_parts, same_Some}
use Rattle.std.specs.Fmt.{signed_decimal}
use Rattle.std.specs.List.{list_all, list_any, AllByRecursion as Each}
use Rattle.std.specs.Char.{is_ascii_digit, is_ascii_alphabetic}
use Rattle.std.specs.Option.{option_map, option_and_then}
use Rattle.dl_tree.specs.Word.{is_positive, is_natural, is_number, is_name, is_name_byte, value_of, fits_i64}
use Rattle.dl_tree.proofs.WordLemmas.{natural_digits}
use Rattle.dl_model.specs.declared.protocol.Tag.{Tag}
use Rattle.dl_model.specs.declared.protocol.FieldDecl.{FieldDecl}
use Rattle.dl_model.specs.declared.file.Decls.{Decls}
use Rattle.dl_model.specs.Sorts.{is_i64, is_node, has}
use Rattle.dl_model.specs.Lookup.{protocol_at}
use Rattle.dl_model.specs.Formed.{AreDistinct}
use Rattle.dl_model.specs.Words.{first_name}
use Rattle.dl_report.specs.Layout.{Text, name_at, name_of, node_word, label_word, addressee_word}
use Rattle.dl_report.specs.Fitting.{NamesAreKnown}
use Rattle.dl_report.specs.Small.{IsSmall}
use Rattle.dl_report.specs.Reading.{cut, node_from, node_in, place_in, label_in, if_no_node, addressee_of, addressee_in, integer_in}
use Rattle.dl_report.proofs.Pieces.{decide, and_parts, and_both, is_above, IsPlain, HasNone, cut_at, cut_is, plain-append}
use Rattle.dl_report.proofs.Numbers.{integer_read, integer_written, signed_plain}

-- ---- texts as tests

same_text : (a : Text) → bytes_eq a a ≡ true
same_text a = (bytes_eq-Decides a a).1 refl

pub text_is : (a b : Text) → bytes_eq a b ≡ true → a ≡ b
text_is a b = (bytes_eq-Decides a b).0

other_text : (a b : Text) → (a ≡ b → ⊥) → bytes_eq a b ≡ false
other_text a b not_so = elim (decide (bytes_eq a b)) [ inl e ↦ absurd (not_so (text_is a b e)) | inr e ↦ e ]

-- ---- the bytes of names

or_cases : (a b : Bool) → (a || b) ≡ true → (a ≡ true) ⊎ (b ≡ true)
or_cases true b e = inl refl
or_cases false b e = inr e

-- neither a blank nor LF nor a dot
abbrev IsNamed : ℕ → Type 0
IsNamed b = (is_above b ≡ true) × ((b == 46) ≡ false)

letter : (b : ℕ) → is_ascii_alphabetic b ≡ true → IsNamed b
letter b e =
    let range : (65 ≤ b) × (b ≤ 122) = grind (arith, nat_tests) in
    (grind (arith, nat_tests), grind (arith, nat_tests))

digit : (b : ℕ) → is_ascii_digit b ≡ true → IsNamed b
digit b e =
    let range : (48 ≤ b) × (b ≤ 57) = grind (arith, nat_tests) in
    (grind (arith, nat_tests), grind (arith, nat_tests))

byte : (b k : ℕ) → IsNamed k → (b == k) ≡ true → IsNamed b
byte b k named e =
    let is : b ≡ k = grind (arith, nat_tests) in
    subst IsNamed (sym is) named

name_byte : (b : ℕ) → is_name_byte b ≡ true → IsNamed b
name_byte b e = elim (or_cases (is_ascii_alphabetic b || is_ascii_digit b || b == 95) (b == 45) e) [
  | inr minus ↦ byte b 45 (refl, refl) minus
  | inl other ↦ elim (or_cases (is_ascii_alphabetic b || is_ascii_digit b) (b == 95) other) [
    | inr line ↦ byte b 95 (refl, refl) line
    | inl word ↦ elim (or_cases (is_ascii_alphabetic b) (is_ascii_digit b) word) [ inl is ↦ letter b is | inr is ↦ digit b is ]
  ]
]

bytes_named : (bs : Text) → list_all is_name_byte bs ≡ true → IsPlain bs × HasNone 46 bs
bytes_named [] e = (refl, refl)
bytes_named (b ∷ bs) e =
    let parts = and_parts (is_name_byte b) (list_all is_name_byte bs) e in
    let here = name_byte b parts.0 in
    let more = bytes_named bs parts.1 in
    (and_both (is_above b) (list_all is_above bs) here.0 more.0, and_both (not (b == 46)) (list_all (λ b. not (b == 46)) bs) (rw here.1 refl) more.1)

pub name_bytes : (w : Text) → is_name w ≡ true → IsPlain w × HasNone 46 w
name_bytes [] e = cc
name_bytes (b ∷ bs) e =
    let front = and_parts (is_ascii_alphabetic b && list_all is_name_byte bs) _ e in
    let parts = and_parts (is_ascii_alphabetic b) (list_all is_name_byte bs) front.0 in
    let here = letter b parts.0 in
    let more = bytes_named bs parts.1 in
    (and_both (is_above b) (list_all is_above bs) here.0 more.0, and_both (not (b == 46)) (list_all (λ b. not (b == 46)) bs) (rw here.1 refl) more.1)

-- a name is no number
name_no_number : (w : Text) → is_name w ≡ true → is_number w ≡ true → ⊥
unfolding is_number
name_no_number [] n e = cc
name_no_number (b ∷ bs) n e =
    let front = and_parts (is_ascii_alphabetic b && list_all is_name_byte bs) _ n in
    let parts = and_parts (is_ascii_alphabetic b) (list_all is_name_byte bs) front.0 in
    let range : (65 ≤ b) × (b ≤ 122) = grind (arith, nat_tests) in
    let not_so : (b == 45) ≡ false = grind (arith, nat_tests) in
    let digits = natural_digits (b ∷ bs) (rw not_so at e) in
    let first : is_ascii_digit b ≡ true = (and_parts (is_ascii_digit b) (list_all is_ascii_digit bs) digits.0).0 in
    let low : b ≤ 57 = grind (arith, nat_tests) in
    omega arith

integer_number : (w : Text) (z : ℤ) → integer_in w ≡ Some z → is_number w ≡ true
integer_number w z e = elim (decide (is_number w)) [ inl is ↦ is | inr not_so ↦ cc (rw not_so at e) ]

-- ---- nodes

node_from_read : (names : List Text) (decls : Decls) → NamesAreKnown names decls → (count start node : ℕ) → start ≤ node → node < start + count → start + count ≤ decls.inst.nodes →
    node_from names (node_word names node) start count ≡ Some node
node_from_read names decls known zero start node low high within = absurd (omega arith)
node_from_read names decls known (suc count) start node low high within = elim (decide (bytes_eq (node_word names start) (node_word names node))) [
  | inl same ↦
      (let eq : first_name + start ≡ first_name + node =
      known.distinct (first_name + start) (first_name + node) (known.nodes start (omega arith)) (text_is (node_word names start) (node_word names node) same) in
      let is : start ≡ node = omega arith in
      rw same (ap Some is))
  | inr other ↦
      (let apart : (start ≡ node → ⊥) = λ (is : start ≡ node). cc (subst (λ n. bytes_eq (node_word names start) (node_word names n) ≡ true) is (same_text (node_word names start))) in
      let above : suc start ≤ node = omega (arith, apart) in
      rw other (node_from_read names decls known count (suc start) node above (omega arith) (omega arith)))
]

pub node_read : (names : List Text) (decls : Decls) → NamesAreKnown names decls → (node : ℕ) → node < decls.inst.nodes → node_in names decls (node_word names node) ≡ Some node
node_read names decls known node lt = node_from_read names decls known decls.inst.nodes 0 node (omega arith) (omega arith) (omega arith)

node_from_written : (names : List Text) (w : Text) (count start node : ℕ) → node_from names w start count ≡ Some node → (node_word names node ≡ w) × (node < start + count)
node_from_written names w zero start node e = cc
node_from_written names w (suc count) start node e = elim (decide (bytes_eq (node_word names start) w)) [
  | inl same ↦
      (let found : Some start ≡ Some node = rw same at e in
      let is : start ≡ node = cc in
      (subst (λ n. node_word names n ≡ w) is (text_is (node_word names start) w same), omega arith))
  | inr other ↦
      (let more = node_from_written names w count (suc start) node (rw other at e) in
      (more.0, omega (arith, more.1)))
]

pub node_written : (names : List Text) (decls : Decls) (w : Text) (node : ℕ) → node_in names decls w ≡ Some node → (node_word names node ≡ w) × (node < decls.inst.nodes)
node_written names decls w node e =
    let written = node_from_written names w decls.inst.nodes 0 node e in
    (written.0, omega (arith, written.1))

pub node_plain : (names : List Text) (decls : Decls) → NamesAreKnown names decls → (node : ℕ) → node < decls.inst.nodes → IsPlain (node_word names node)
node_plain names decls known node lt = (name_bytes (node_word names node) (known.nodes node lt)).0

-- ---- addressees

number_no_node : (names : List Text) (decls : Decls) → NamesAreKnown names decls → (w : Text) → is_number w ≡ true → (found : Option ℕ) → node_in names decls w ≡ found → found ≡ None
number_no_node names decls known w number None e = refl
number_no_node names decls known w number (Some node) e =
    let written = node_written names decls w node e in
    absurd (name_no_number w (subst (λ t. is_name t ≡ true) written.0 (known.nodes node written.1)) number)

number_read : (names : List Text) (decls : Decls) → NamesAreKnown names decls → (z : ℤ) → is_i64 z ≡ true → is_node decls.inst.nodes z ≡ false → addressee_in names decls (signed_decimal z) ≡ Some z
number_read names decls known z range not_so =
    let read = integer_read z range in
    let none = number_no_node names decls known (signed_decimal z) (integer_number (signed_decimal z) z read) (node_in names decls (signed_decimal z)) refl in
    ap (addressee_of decls (signed_decimal z)) none ∙ (ap (option_and_then (if_no_node decls)) read ∙ ap (λ b. if b then None else Some z) not_so)

pub addressee_read : (names : List Text) (decls : Decls) → NamesAreKnown names decls → (z : ℤ) → is_i64 z ≡ true → addressee_in names decls (addressee_word names decls z) ≡ Some z
addressee_read names decls known (pos n) range = elim (decide (nat_lt n decls.inst.nodes)) [
  | inl so ↦
      (let lt : n < decls.inst.nodes = grind (arith, nat_tests) in
      ap (λ b. addressee_in names decls (if b then node_word names n else decimal n)) so
      ∙ ap (addressee_of decls (node_word names n)) (node_read names decls known n lt))
  | inr not_so ↦ ap (λ b. addressee_in names decls (if b then node_word names n else decimal n)) not_so ∙ number_read names decls known (pos n) range not_so
]
addressee_read names decls known (negsuc n) range = number_read names decls known (negsuc n) range refl

small_i64 : (n : ℕ) → n < 16 → is_i64 (pos n) ≡ true
small_i64 n lt = grind (arith, nat_tests)

no_node : (decls : Decls) (v z : ℤ) → (if is_node decls.inst.nodes v then None else Some v) ≡ Some z → (is_node decls.inst.nodes v ≡ false) × (v ≡ z)
no_node decls v z e = elim (decide (is_node decls.inst.nodes v)) [
  | inl is ↦ cc (rw is at e)
  | inr not_so ↦ (let found : Some v ≡ Some z = rw not_so at e in (not_so, cc))
]

number_word : (names : List Text) (decls : Decls) (z : ℤ) → is_node decls.inst.nodes z ≡ false → addressee_word names decls z ≡ signed_decimal z
number_word names decls (pos n) not_so = ap (λ b. if b then node_word names n else decimal n) not_so
number_word names decls (negsuc n) not_so = refl

addressee_parts : (names : List Text) (decls : Decls) → IsSmall decls → (w : Text) (z : ℤ) (found : Option ℕ) → node_in names decls w ≡ found → addressee_of decls w found ≡ Some z →
    (addressee_word names decls z ≡ w) × (is_i64 z ≡ true)
addressee_parts names decls small w z (Some node) e a =
    let written = node_written names decls w node e in
    let is : pos node ≡ z = same_Some (pos node) z a in
    let so : nat_lt node decls.inst.nodes ≡ true = grind (arith, nat_tests, written.1) in
    let nodes = small.nodes in (
      subst (λ v. addressee_word names decls v ≡ w) is (ap (λ b. if b then node_word names node else decimal node) so ∙ written.0),
      subst (λ v. is_i64 v ≡ true) is (small_i64 node (omega (arith, written.1))),
    )
addressee_parts names decls small w z None e a = option_and_then_some (if_no_node decls) (integer_in w) z a (λ v found not_so.
    let parts = no_node decls v z not_so in
    let written = integer_written w v found in
    (subst (λ v. addressee_word names decls v ≡ w) parts.1 (number_word names decls v parts.0 ∙ written.0), subst (λ v. is_i64 v ≡ true) parts.1 written.1))

pub addressee_written : (names : List Text) (decls : Decls) → IsSmall decls → (w : Text) (z : ℤ) → addressee_in names decls w ≡ Some z → (addressee_word names decls z ≡ w) × (is_i64 z ≡ true)
addressee_written names decls small w z e = addressee_parts names decls small w z (node_in names decls w) refl e

pub addressee_plain : (names : List Text) (decls : Decls) → NamesAreKnown names decls → (z : ℤ) → is_i64 z ≡ true → IsPlain (addressee_word names decls z)
addressee_plain names decls known (pos n) range = elim (decide (nat_lt n decls.inst.nodes)) [
  | inl so ↦
      (let lt : n < decls.inst.nodes = grind (arith, nat_tests) in
      subst (λ b. IsPlain (if b then node_word names n else decimal n)) (sym so) (node_plain names decls known n lt))
  | inr not_so ↦ subst (λ b. IsPlain (if b then node_word names n else decimal n)) (sym not_so) (signed_plain (pos n) range)
]
addressee_plain names decls known (negsuc n) range = signed_plain (negsuc n) range

-- ---- places of names

has_at : (ms : List ℕ) (k n : ℕ) → slice_get ms k ≡ Some n → has ms n ≡ true
has_at [] k n e = cc
has_at (m ∷ ms) zero n e =
    let is : m ≡ n = cc in
    let same : (n == m) ≡ true = grind (arith, nat_tests) in
    rw same refl
has_at (m ∷ ms) (suc k) n e = elim (decide (n == m)) [ inl same ↦ rw same refl | inr other ↦ rw other (has_at ms k n e) ]

place_read : (names : List Text) (decls : Decls) → NamesAreKnown names decls → (syms : List ℕ) (at name : ℕ) → AreDistinct syms → slice_get syms at ≡ Some name → is_name (name_at names name) ≡ true →
    place_in names (name_at names name) syms ≡ Some at
place_read names decls known [] at name distinct e good = cc
place_read names decls known (s ∷ syms) zero name distinct e good =
    let is : s ≡ name = cc in
    let same : bytes_eq (name_at names s) (name_at names name) ≡ true = subst (λ n. bytes_eq (name_at names s) (name_at names n) ≡ true) is (same_text (name_at names s)) in
    rw same refl
place_read names decls known (s ∷ syms) (suc at) name distinct e good =
    let there = has_at syms at name e in
    let apart : (name ≡ s → ⊥) = λ (is : name ≡ s). cc (subst (λ n. has syms n ≡ true) is there, distinct.0) in
    let other = other_text (name_at names s) (name_at names name) (λ same. apart (known.distinct name s good (sym same))) in
    rw (other, place_read names decls known syms at name distinct.1 e good) refl

one_more : (found : Option ℕ) (at : ℕ) → option_map (λ k. suc k) found ≡ Some at → (k : ℕ) × (found ≡ Some k) × (at ≡ suc k)
one_more None at e = cc
one_more (Some k) at e = (k, refl, cc)

place_written : (names : List Text) (w : Text) (syms : List ℕ) (at : ℕ) → place_in names w syms ≡ Some at → (name : ℕ) × (slice_get syms at ≡ Some name) × (name_at names name ≡ w)
place_written names w [] at e = cc
place_written names w (s ∷ syms) at e = elim (decide (bytes_eq (name_at names s) w)) [
  | inl same ↦
      (let found : Some 0 ≡ Some at = rw same at e in
      let is : 0 ≡ at = cc in
      (s, subst (λ k. slice_get (s ∷ syms) k ≡ Some s) is refl, text_is (name_at names s) w same))
  | inr other ↦
      (let more = one_more (place_in names w syms) at (rw other at e) in
      let found = place_written names w syms more.0 more.1 in
      (found.0, subst (λ k. slice_get (s ∷ syms) k ≡ Some found.0) (sym more.2) found.1, found.2))
]

each_at : {X : Type 0} (P : X → Type 0) (xs : List X) (at : ℕ) (x : X) → Each P xs → slice_get xs at ≡ Some x → P x
each_at P [] at x ps e = cc
each_at P (y ∷ ys) zero x ps e =
    let is : y ≡ x = cc in
    subst P is ps.0
each_at P (y ∷ ys) (suc at) x ps e = each_at P ys at x ps.1 e

pub there : {X : Type 0} (xs : List X) (at : ℕ) → at < length xs → (x : X) × (slice_get xs at ≡ Some x)
there [] at lt = absurd (omega arith)
there (x ∷ xs) zero lt = (x, refl)
there (x ∷ xs) (suc at) lt = there xs at (omega arith)

-- what has a name, by the function that gives it
pub named_read : (names : List Text) (decls : Decls) → NamesAreKnown names decls → {X : Type 0} (name : X → ℕ) (xs : List X) (at : ℕ) (x : X) → slice_get xs at ≡ Some x → AreDistinct (map name xs) →
    Each (λ x. is_name (name_at names (name x)) ≡ true) xs → place_in names (name_of names name (slice_get xs at)) (map name xs) ≡ Some at
named_read names decls known name xs at x e distinct good =
    ap (λ found. place_in names (name_of names name found) (map name xs)) e
    ∙ place_read names decls known (map name xs) at (name x) distinct (slice_get-map name xs at ∙ ap (option_map name) e) (each_at (λ x. is_name (name_at names (name x)) ≡ true) xs at x good e)

name_found : {X : Type 0} (names : List Text) (name : X → ℕ) (found : Option X) (n : ℕ) → option_map name found ≡ Some n → (x : X) × (found ≡ Some x) × (name x ≡ n)
name_found names name None n e = cc
name_found names name (Some x) n e = (x, refl, cc)

pub named_written : (names : List Text) {X : Type 0} (name : X → ℕ) (w : Text) (xs : List X) (at : ℕ) → place_in names w (map name xs) ≡ Some at →
    (x : X) × (slice_get xs at ≡ Some x) × (name_of names name (slice_get xs at) ≡ w)
named_written names name w xs at e =
    let found = place_written names w (map name xs) at e in
    let item = name_found names name (slice_get xs at) found.0 (sym (slice_get-map name xs at) ∙ found.1) in
    (item.0, item.1, ap (name_of names name) item.1 ∙ (ap (name_at names) item.2 ∙ found.2))

pub named_plain : (names : List Text) {X : Type 0} (name : X → ℕ) (xs : List X) (at : ℕ) (x : X) → slice_get xs at ≡ Some x → Each (λ x. is_name (name_at names (name x)) ≡ true) xs →
    IsPlain (name_of names name (slice_get xs at)) × HasNone 46 (name_of names name (slice_get xs at))
named_plain names name xs at x e good =
    subst (λ (found : Option _). IsPlain (name_of names name found) × HasNone 46 (name_of names name found)) (sym e)
    (name_bytes (name_at names (name x)) (each_at (λ x. is_name (name_at names (name x)) ≡ true) xs at x good e))

-- ---- labels

pub label_read : (names : List Text) (decls : Decls) → NamesAreKnown names decls → AreDistinct decls.labels → (label : ℕ) (back : Text) → label < length decls.labels →
    label_in names decls (label_word names decls label ++ (46 ∷ back)) ≡ Some (label, back)
label_read names decls known distinct label back lt =
    let found = there decls.labels label lt in
    let good = each_at (λ s. is_name (name_at names s) ≡ true) decls.labels label found.0 known.labels found.1 in
    let text = name_at names found.0 in
    let split = cut_at 46 text back (name_bytes text good).1 in
    let place = place_read names decls known decls.labels label found.0 distinct found.1 good in
    ap (λ (found : Option ℕ). label_in names decls (name_of names (λ s. s) found ++ (46 ∷ back))) found.1
    ∙ (ap (option_and_then (λ (parts : Text × Text). option_map (λ (l : ℕ). (l, parts.1)) (place_in names parts.0 decls.labels))) split
    ∙ ap (option_map (λ (l : ℕ). (l, back))) place)

with_back : (found : Option ℕ) (back back' : Text) (label : ℕ) → ◌≡◌ {A = Option (ℕ × Text)} (option_map (λ (l : ℕ). (l, back')) found) (Some (label, back)) → (found ≡ Some label) × (back' ≡ back)
with_back None back back' label e = cc
with_back (Some l) back back' label e =
    let parts = some_pair_parts l label back' back e in
    (ap Some parts.0, parts.1)

pub label_written : (names : List Text) (decls : Decls) (w : Text) (label : ℕ) (back : Text) → label_in names decls w ≡ Some (label, back) →
    (w ≡ label_word names decls label ++ (46 ∷ back)) × (label < length decls.labels)
label_written names decls w label back e =
    option_and_then_some (λ (parts : Text × Text). option_map {U = ℕ × Text} (λ (l : ℕ). (l, parts.1)) (place_in names parts.0 decls.labels)) (cut 46 w) (label, back) e (λ parts split rest.
    let found = with_back (place_in names parts.0 decls.labels) back parts.1 label rest in
    let name = place_written names parts.0 decls.labels label found.0 in
    let text : w ≡ parts.0 ++ (46 ∷ parts.1) = cut_is 46 w parts.0 parts.1 split in
    let front : label_word names decls label ≡ parts.0 = ap (name_of names (λ s. s)) name.1 ∙ name.2 in
    (text ∙ (ap (λ l. l ++ (46 ∷ parts.1)) (sym front) ∙ ap (λ b. label_word names decls label ++ (46 ∷ b)) found.1), slice_get_within decls.labels label name.0 name.1))

pub label_plain : (names : List Text) (decls : Decls) → NamesAreKnown names decls → (label : ℕ) → label < length decls.labels → IsPlain (label_word names decls label)
label_plain names decls known label lt =
    let found = there decls.labels label lt in
    (named_plain names (λ s. s) decls.labels label found.0 found.1 known.labels).0
