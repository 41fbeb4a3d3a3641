-- How the table of names grows.
use Rattle.std.proofs.Common.{◌≡◌, ℕ, Bool, true, false, List, [], ◌∷◌, ◌++◌, length, map, refl, ap, sym, ◌∙◌, ◌≤◌, ◌<◌, ◌+◌, drop, get_or, drop-cons, add-one, arith, ◌⊎◌, inl, inr, Bor}
use Rattle.std.proofs.lemmas.List.{length-append, append_assoc, append-nil, replicate-append-replicate}
use Rattle.std.specs.Prelude.{replicate}
use Rattle.std.proofs.Math.ListN.{drop_of_length-le}
use Rattle.dl_term.specs.Syntax.{opened}
use Rattle.dl_term.specs.declared.syntax.Formula.{Formula, And, Or, Implies}
use Rattle.dl_model.specs.Spoken.{bound_names}
use Rattle.dl_forms.specs.Context.{Text, is_among}
use Rattle.dl_forms.specs.declared.scope.Marks.{Marks}
use Rattle.dl_forms.specs.Table.{NameTable, Extends, unmarked, with_name, with_mark, all_marked, numbered}
use Rattle.dl_forms.proofs.NameLemmas.{split}

pub extends-same : (names : NameTable) → Extends names names
extends-same names = record { more = []; texts = sym (append-nil names.texts); sorts = refl; marks = sym (append-nil names.marks) }

pub extends-step : (a b c : NameTable) → Extends a b → Extends b c → Extends a c
extends-step a b c h k = record {
  more = h.more ++ k.more;
  texts = rw (k.texts, h.texts) (append_assoc a.texts h.more k.more);
  sorts = k.sorts ∙ h.sorts;
  marks = rw (k.marks, h.marks, length-append h.more k.more) (append_assoc a.marks (replicate (length h.more) unmarked) (replicate (length k.more) unmarked) ∙ ap (λ (ms : List Marks). a.marks ++ ms) (replicate-append-replicate (length h.more) (length k.more) unmarked));
}

pub extends-with_name : (names : NameTable) (name : Text) → Extends names (with_name names name)
extends-with_name names name = elim (split (is_among name names.texts)) [
  | inl e ↦ rw e (extends-same names)
  | inr e ↦ rw e (record { more = name ∷ []; texts = refl; sorts = refl; marks = refl })
]

abbrev pub texts_of : List (Bor Text) → List Text
texts_of words = map (λ (word : Bor Text). word.now) words

-- the words from the one at i on
pub number_step : (names : NameTable) (words : List (Bor Text)) (i : ℕ) (d : Bor Text) → i < length words →
    numbered (with_name names (get_or words i d).now) (texts_of (drop (i + 1) words)) ≡ numbered names (texts_of (drop i words))
number_step names words i d few =
    let e : drop i words ≡ get_or words i d ∷ drop (i + 1) words = rw (add-one, drop-cons words i d few) refl in
    sym (ap (λ (ws : List (Bor Text)). numbered names (texts_of ws)) e)

pub number_end : (names : NameTable) (words : List (Bor Text)) (i : ℕ) → length words ≤ i → numbered names (texts_of (drop i words)) ≡ names
number_end names words i h = ap (λ (ws : List (Bor Text)). numbered names (texts_of ws)) (drop_of_length-le words h)

pub extends-numbered : (names : NameTable) (texts : List Text) → Extends names (numbered names texts)
extends-numbered names [] = extends-same names
extends-numbered names (text ∷ texts) = extends-step names (with_name names text) (numbered (with_name names text) texts) (extends-with_name names text) (extends-numbered (with_name names text) texts)

pub ruleset growing = (extends-same, extends-with_name)

pub all_marked-append : (names : NameTable) (xs ys : List ℕ) → all_marked (all_marked names xs) ys ≡ all_marked names (xs ++ ys)
all_marked-append names [] ys = refl
all_marked-append names (x ∷ xs) ys = all_marked-append (with_mark names x true) xs ys

pub ruleset marks = (all_marked-append)

-- ---- the names that quantifiers bind

pub names-And : (f g : Formula) → bound_names (And f g) ≡ bound_names f ++ bound_names g
unfolding opened
names-And f g = refl

pub names-Or : (f g : Formula) → bound_names (Or f g) ≡ bound_names f ++ bound_names g
unfolding opened
names-Or f g = refl

pub names-Implies : (f g : Formula) → bound_names (Implies f g) ≡ bound_names f ++ bound_names g
unfolding opened
names-Implies f g = refl
