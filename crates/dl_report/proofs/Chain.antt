-- What a chain of readings found.
use Rattle.std.proofs.Common.{◌≡◌, ℕ, Bool, true, false, ◌++◌, List, [], ◌∷◌, Option, Some, None, bytes_eq, refl, sym, ap, ◌∙◌, ◌⊎◌, inl, inr}
use Rattle.std.specs.Prelude.{if◌then◌else◌}
use Rattle.std.specs.Option.{option_map}
use Rattle.std.proofs.lemmas.Option.{some_pair_parts}
use Rattle.dl_report.specs.Layout.{Text}
use Rattle.dl_report.specs.Reading.{behind, with_rest, word_from, is_next, rest_of, at_end}
use Rattle.dl_report.proofs.Pieces.{decide}
use Rattle.dl_report.proofs.NameWords.{text_is}

pub behind_found : {X Y : Type 0} (found : Option (X × List Text)) (next : X → List Text → Option Y) (y : Y) → behind found next ≡ Some y →
    (x : X) × (rest : List Text) × (found ≡ Some (x, rest)) × (next x rest ≡ Some y)
behind_found None next y e = cc
behind_found (Some found) next y e = (found.0, found.1, refl, e)

pub rest_found : {X : Type 0} (found : Option X) (words : List Text) (x : X) (rest : List Text) → with_rest found words ≡ Some (x, rest) → (found ≡ Some x) × (words ≡ rest)
rest_found None words x rest e = cc
rest_found (Some y) words x rest e =
    let parts = some_pair_parts y x words rest e in
    (ap Some parts.0, parts.1)

pub word_found : {X : Type 0} (read : Text → Option X) (words : List Text) (x : X) (rest : List Text) → word_from read words ≡ Some (x, rest) →
    (word : Text) × (words ≡ word ∷ rest) × (read word ≡ Some x)
word_found read [] x rest e = cc
word_found read (word ∷ words) x rest e =
    let parts = rest_found (read word) words x rest e in
    (word, ap (λ l. word ∷ l) parts.1, parts.0)

pub if_found : {X : Type 0} (test : Bool) (found : Option X) (x : X) → (if test then found else None) ≡ Some x → (test ≡ true) × (found ≡ Some x)
if_found true found x e = (refl, e)
if_found false found x e = cc

pub next_found : (word : Text) (words : List Text) → is_next word words ≡ true → words ≡ word ∷ rest_of words
next_found word [] e = cc
next_found word (next ∷ words) e = ap (λ w. w ∷ words) (text_is next word e)

pub end_found : {X : Type 0} (x y : X) (words : List Text) → at_end x words ≡ Some y → (words ≡ []) × (x ≡ y)
end_found x y [] e = (refl, cc)
end_found x y (word ∷ words) e = cc

pub mapped_found : {X Y : Type 0} (f : X → Y) (found : Option X) (y : Y) → option_map f found ≡ Some y → (x : X) × (found ≡ Some x) × (f x ≡ y)
mapped_found f None y e = cc
mapped_found f (Some x) y e = (x, refl, cc)

pub choice : {X : Type 0} (test : Bool) (x y : X) (other : Option X) → (if test then Some x else other) ≡ Some y → ((test ≡ true) × (x ≡ y)) ⊎ ((test ≡ false) × (other ≡ Some y))
choice true x y other e = inl (refl, cc)
choice false x y other e = inr (refl, e)

-- ---- what a call of the reader goes on with

pub behind_none : {X Y : Type 0} (found : Option (X × List Text)) (next : X → List Text → Option Y) → None ≡ found → None ≡ behind found next
behind_none found next e = ap (λ f. behind f next) e

pub behind_some : {X Y : Type 0} (found : Option (X × List Text)) (next : X → List Text → Option Y) (x : X) (rest : List Text) (r : Option Y) → Some (x, rest) ≡ found → r ≡ next x rest → r ≡ behind found next
behind_some found next x rest r e q = q ∙ ap (λ f. behind f next) e
