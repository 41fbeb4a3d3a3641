-- Each name of a file has one number.
use Rattle.std.proofs.Common.{◌≡◌, ℕ, zero, suc, Bool, true, false, List, [], ◌∷◌, ◌++◌, Some, refl, ap, sym, ◌∙◌, ◌⊎◌, inl, inr}
use Rattle.std.specs.Prelude.{slice_get, unwrap_or, ◌||◌, codes}
use Rattle.std.specs.Str.{bytes_eq}
use Rattle.std.proofs.lemmas.Slice.Eq.{bytes_eq-Decides}
use Rattle.dl_forms.specs.Context.{Text, is_among}
use Rattle.dl_forms.specs.Table.{NameTable, reserved, first_names, with_name, numbered}
use Rattle.dl_one_file.specs.Plain.{has_text}
use Rattle.dl_one_file.proofs.Trees.{apart}
use Rattle.dl_one_file.proofs.Alike.{SameNames}

split : (b : Bool) → (b ≡ true) ⊎ (b ≡ false)
split true = inl refl
split false = inr refl

-- no text stands twice
abbrev pub AreApart : List Text → Type 0
AreApart [] = Unit {0}
AreApart (text ∷ texts) = (is_among text texts ≡ false) × AreApart texts

itself : (text : Text) → bytes_eq text text ≡ true
itself text = (bytes_eq-Decides text text).1 refl

either : (a b : Bool) → b ≡ true → (a || b) ≡ true
either true b h = refl
either false b h = h

neither : (a b : Bool) → (a || b) ≡ false → (a ≡ false) × (b ≡ false)
neither true b h = cc
neither false b h = (refl, h)

no-either : (a b : Bool) → a ≡ false → b ≡ false → (a || b) ≡ false
no-either true b ha hb = ha
no-either false b ha hb = hb

pub other-way : (s t : Text) → bytes_eq s t ≡ false → bytes_eq t s ≡ false
other-way s t h =
    elim (split (bytes_eq t s)) [
      | inl e ↦ (let same : t ≡ s = (bytes_eq-Decides t s).0 e in absurd (apart (sym h ∙ (bytes_eq-Decides s t).1 (sym same))))
      | inr e ↦ e
    ]

-- ---- a text has one number

among-at : (texts : List Text) (i : ℕ) (text : Text) → text ≡ unwrap_or (slice_get texts i) [] → has_text text ≡ true → is_among text texts ≡ true
among-at [] i text e some = absurd (apart (sym (ap has_text e) ∙ some))
among-at (t ∷ texts) zero text e some = ap (λ b. b || is_among text texts) ((bytes_eq-Decides text t).1 e)
among-at (t ∷ texts) (suc i) text e some = either (bytes_eq text t) (is_among text texts) (among-at texts i text e some)

pub one-number : (texts : List Text) → AreApart texts → (s t : ℕ) → unwrap_or (slice_get texts s) [] ≡ unwrap_or (slice_get texts t) [] →
    has_text (unwrap_or (slice_get texts s) []) ≡ true → s ≡ t
one-number [] d s t e some = absurd (apart some)
one-number (x ∷ xs) d zero zero e some = refl
one-number (x ∷ xs) d zero (suc j) e some = absurd (apart (sym d.0 ∙ among-at xs j x e some))
one-number (x ∷ xs) d (suc i) zero e some = absurd (apart (sym d.0 ∙ among-at xs i x (sym e) (sym (ap has_text e) ∙ some)))
one-number (x ∷ xs) d (suc i) (suc j) e some = ap suc (one-number xs d.1 i j e some)

-- ---- the texts of a table are apart

among-behind : (text : Text) (texts : List Text) (last : Text) → is_among text texts ≡ false → bytes_eq text last ≡ false → is_among text (texts ++ last ∷ []) ≡ false
among-behind text [] last h other = no-either (bytes_eq text last) false other refl
among-behind text (t ∷ texts) last h other =
    let each = neither (bytes_eq text t) (is_among text texts) h in
    no-either (bytes_eq text t) (is_among text (texts ++ last ∷ [])) each.0 (among-behind text texts last each.1 other)

apart-behind : (texts : List Text) (text : Text) → AreApart texts → is_among text texts ≡ false → AreApart (texts ++ text ∷ [])
apart-behind [] text d h = (refl, tt)
apart-behind (t ∷ texts) text d h =
    let each = neither (bytes_eq text t) (is_among text texts) h in
    (among-behind t texts text d.0 (other-way text t each.0), apart-behind texts text d.1 each.1)

apart-with : (names : NameTable) (text : Text) (among : Bool) → is_among text names.texts ≡ among → AreApart names.texts → AreApart (with_name names text).texts
apart-with names text true e d = rw e d
apart-with names text false e d = rw e (apart-behind names.texts text d e)

pub apart-numbered : (names : NameTable) (texts : List Text) → AreApart names.texts → AreApart (numbered names texts).texts
apart-numbered names [] d = d
apart-numbered names (text ∷ texts) d = apart-numbered (with_name names text) texts (apart-with names text (is_among text names.texts) refl d)

apart-first : AreApart first_names.texts
unfolding reserved
apart-first = (refl, (refl, (refl, (refl, (refl, (refl, (refl, (refl, (refl, (refl, (refl, (refl, (refl, (refl, (refl, (refl, (refl, (refl, tt))))))))))))))))))

pub apart-in : (texts : List Text) → AreApart (numbered first_names texts).texts
apart-in texts = apart-numbered first_names texts apart-first

-- ---- what a table had it keeps

behind-at : (texts more : List Text) (i : ℕ) (text : Text) → slice_get texts i ≡ Some text → slice_get (texts ++ more) i ≡ Some text
behind-at [] more i text e = cc
behind-at (t ∷ texts) more zero text e = e
behind-at (t ∷ texts) more (suc i) text e = behind-at texts more i text e

with-at : (names : NameTable) (new : Text) (among : Bool) → is_among new names.texts ≡ among → (i : ℕ) (text : Text) → slice_get names.texts i ≡ Some text → slice_get (with_name names new).texts i ≡ Some text
with-at names new true e i text h = rw e h
with-at names new false e i text h = rw e (behind-at names.texts (new ∷ []) i text h)

numbered-at : (names : NameTable) (texts : List Text) (i : ℕ) (text : Text) → slice_get names.texts i ≡ Some text → slice_get (numbered names texts).texts i ≡ Some text
numbered-at names [] i text h = h
numbered-at names (new ∷ texts) i text h = numbered-at (with_name names new) texts i text (with-at names new (is_among new names.texts) refl i text h)

pub int-first : (texts : List Text) → slice_get (numbered first_names texts).texts 0 ≡ Some (codes "int")
unfolding reserved
int-first texts = numbered-at first_names texts 0 (codes "int") refl

pub self-fourth : (texts : List Text) → slice_get (numbered first_names texts).texts 3 ≡ Some (codes "self")
unfolding reserved
self-fourth texts = numbered-at first_names texts 3 (codes "self") refl

-- ---- two tables of the same names

pub the-same : (na nb : NameTable) → na.texts ≡ nb.texts → AreApart na.texts → SameNames na nb
the-same na nb same d = record {
  texts = same;
  syms = λ s t e some. one-number na.texts d s t (e ∙ ap (λ texts. unwrap_or (slice_get texts t) []) (sym same)) some;
}
