-- The file with one node is formed, and its names are known.
use Rattle.std.proofs.Common.{◌≡◌, ℕ, zero, suc, ◌+◌, ◌<◌, true, List, [], ◌∷◌, ◌++◌, replicate, codes, refl, sym, ap, ◌∙◌, arith, ◌⊎◌, inl, inr}
use Rattle.dl_tree.specs.Word.{is_name}
use Rattle.dl_model.specs.Formed.{IsFormed}
use Rattle.dl_report.specs.Layout.{Text, name_at, node_word}
use Rattle.dl_report.specs.Fitting.{NamesAreKnown}
use Rattle.dl_trials_report.specs.Bare.{bare, bare_names}

pub bare_is_formed : IsFormed bare
bare_is_formed = record {
  small = record {
    some_node = omega arith;
    nodes = omega arith;
    labels = omega arith;
    protocols = omega arith;
    hooks = omega arith;
    worlds = omega arith;
    invariants = omega arith;
    procs = omega arith;
    points = omega arith;
  };
  inst = record { protocols = λ p protocol e. cc; labels = tt };
  label_names = refl;
  hooks = tt;
  worlds = tt;
  invariants = λ i invariant e. cc;
  procs = λ number proc e. cc;
  deploy = tt;
  names = record { distinct = tt; allowed = tt };
  apart = tt;
}

-- all names but the last are empty
last_or_empty : (k n : ℕ) (w : Text) → (n ≡ k) ⊎ (name_at (replicate k [] ++ (w ∷ [])) n ≡ [])
last_or_empty zero zero w = inl refl
last_or_empty zero (suc n) w = inr refl
last_or_empty (suc k) zero w = inr refl
last_or_empty (suc k) (suc n) w = elim (last_or_empty k n w) [ inl e ↦ inl (ap suc e) | inr e ↦ inr e ]

no_name : (w : Text) → w ≡ [] → is_name w ≡ true → ⊥
no_name [] e is = cc
no_name (b ∷ bs) e is = cc

only_node : (node : ℕ) → node < 1 → is_name (node_word bare_names node) ≡ true
only_node zero lt = refl
only_node (suc node) lt = absurd (omega arith)

one_name : (a b : ℕ) → is_name (name_at bare_names a) ≡ true → name_at bare_names a ≡ name_at bare_names b → a ≡ b
one_name a b is same = elim (last_or_empty 18 a (codes "a")) [
  | inr e ↦ absurd (no_name (name_at bare_names a) e is)
  | inl first ↦ elim (last_or_empty 18 b (codes "a")) [ inr e ↦ absurd (no_name (name_at bare_names a) (same ∙ e) is) | inl second ↦ first ∙ sym second ]
]

pub names_are_known : NamesAreKnown bare_names bare
names_are_known = record {
  nodes = only_node;
  labels = tt;
  tags = λ label. tt;
  fields = λ label. tt;
  distinct = one_name;
}

-- ---- the names, one after the other

abbrev pub blanks : ℕ → List Text
blanks n = replicate n []

blank_behind : (n : ℕ) → blanks n ++ ([] ∷ []) ≡ blanks (suc n)
blank_behind zero = refl
blank_behind (suc n) = ap (λ names. [] ∷ names) (blank_behind n)

pub one_blank : (names : List Text) (name : Text) (n : ℕ) → names ≡ blanks n → name ≡ [] → names ++ (name ∷ []) ≡ blanks (n + 1)
one_blank names name n e f =
    let next : suc n ≡ n + 1 = omega arith in
    ap (λ front. front ++ (name ∷ [])) e ∙ (ap (λ last. blanks n ++ (last ∷ [])) f ∙ (blank_behind n ∙ ap blanks next))

pub last_name : (names : List Text) (name : Text) (n : ℕ) → names ≡ blanks n → n ≡ 18 → name ≡ codes "a" → names ++ (name ∷ []) ≡ bare_names
last_name names name n e is f = ap (λ front. front ++ (name ∷ [])) e ∙ (ap (λ k. blanks k ++ (name ∷ [])) is ∙ ap (λ last. blanks 18 ++ (last ∷ [])) f)
