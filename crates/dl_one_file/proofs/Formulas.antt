-- Formulas that are written alike are equal.
use Rattle.std.proofs.Common.{◌≡◌, ℕ, ℤ, true, ◌==◌, if◌then◌else◌, List, [], ◌∷◌, refl, ap, sym, ◌∙◌, eq-eqb}
use Rattle.std.specs.Prelude.{◌&&◌, codes}
use Rattle.std.specs.Str.{bytes_eq}
use Rattle.std.specs.List.{AllByRecursion as Each}
use Rattle.dl_term.specs.declared.syntax.Lab.{Lab}
use Rattle.dl_term.specs.declared.syntax.Term.{Term}
use Rattle.dl_term.specs.declared.syntax.Formula.{Formula, True, False, Eq, Lt, Le, Not', And', Or', Implies', All', Exists', Each', Any', more_of-Formula as one, end_of-Formula as end}
use Rattle.dl_tree.specs.declared.tree.Tree.{Tree}
use Rattle.dl_model.specs.declared.protocol.Instances.{Instances}
use Rattle.dl_forms.specs.declared.scope.Scope.{Scope}
use Rattle.dl_forms.specs.Context.{Text}
use Rattle.dl_forms.specs.Judge.{text_of}
use Rattle.dl_forms.specs.Table.{NameTable}
use Rattle.dl_forms.specs.Show.{no_place, symbol, form, name, label, tag, shown_term, shown_formula}
use Rattle.dl_notation.specs.Trees.{parts_of}
use Rattle.dl_notation.proofs.TreeLemmas.{parts_of-Sym, parts_of-List}
use Rattle.dl_means.specs.Says.{says_term, says}
use Rattle.dl_one_file.proofs.Trees.{apart, first, second, IsPlain, parts-plain, same-parts}
use Rattle.dl_one_file.proofs.Alike.{Alike, same-name}
use Rattle.dl_one_file.proofs.Terms.{same-term}

-- ---- kinds

abbrev kind : Formula → ℕ
kind True = 0
kind False = 1
kind (Eq a b) = 2
kind (Lt a b) = 3
kind (Le a b) = 4
kind (Not' _ _) = 5
kind (And' _ _ _ _) = 6
kind (Or' _ _ _ _) = 7
kind (Implies' _ _ _ _) = 8
kind (All' sym _ _) = 9
kind (Exists' sym _ _) = 10
kind (Each' msg lab t _ _) = 11
kind (Any' msg lab t _ _) = 12

abbrev kind_of_word : Text → ℕ
kind_of_word word =
    if bytes_eq word (codes "=") then 2 else
    if bytes_eq word (codes "<") then 3 else
    if bytes_eq word (codes "<=") then 4 else
    if bytes_eq word (codes "not") then 5 else
    if bytes_eq word (codes "and") then 6 else
    if bytes_eq word (codes "or") then 7 else
    if bytes_eq word (codes "implies") then 8 else
    if bytes_eq word (codes "all") then 9 else
    if bytes_eq word (codes "some") then 10 else
    if bytes_eq word (codes "each") then 11 else 12

abbrev kind_by : Tree → List Tree → ℕ
kind_by tree [] = if bytes_eq (text_of tree) (codes "true") then 0 else 1
kind_by tree (word ∷ parts) = kind_of_word (text_of word)

abbrev kind_of_tree : Tree → ℕ
kind_of_tree tree = kind_by tree (parts_of tree)

kind-of-form : (word : Text) (parts : List Tree) → kind_of_tree (form word parts) ≡ kind_of_word word
kind-of-form word parts = ap (kind_by (form word parts)) (parts_of-List (symbol word ∷ parts) no_place)

module _ (names : NameTable) (scope : Scope) (inst : Instances) where
  abbrev T : Term → Tree
  T = shown_term names scope inst

  abbrev F : Formula → Tree
  F = shown_formula names scope inst

  kind-shown : (formula : Formula) → kind_of_tree (F formula) ≡ kind formula
  kind-shown True = ap (kind_by (symbol (codes "true"))) (parts_of-Sym (codes "true") no_place)
  kind-shown False = ap (kind_by (symbol (codes "false"))) (parts_of-Sym (codes "false") no_place)
  kind-shown (Eq a b) = kind-of-form (codes "=") (T a ∷ T b ∷ [])
  kind-shown (Lt a b) = kind-of-form (codes "<") (T a ∷ T b ∷ [])
  kind-shown (Le a b) = kind-of-form (codes "<=") (T a ∷ T b ∷ [])
  kind-shown (Not' _ (one f end)) = kind-of-form (codes "not") (F f ∷ [])
  kind-shown (And' _ (one f end) _ (one g end)) = kind-of-form (codes "and") (F f ∷ F g ∷ [])
  kind-shown (Or' _ (one f end) _ (one g end)) = kind-of-form (codes "or") (F f ∷ F g ∷ [])
  kind-shown (Implies' _ (one f end) _ (one g end)) = kind-of-form (codes "implies") (F f ∷ F g ∷ [])
  kind-shown (All' sym _ (one f end)) = kind-of-form (codes "all") (name names scope inst sym ∷ F f ∷ [])
  kind-shown (Exists' sym _ (one f end)) = kind-of-form (codes "some") (name names scope inst sym ∷ F f ∷ [])
  kind-shown (Each' msg lab t _ (one f end)) = kind-of-form (codes "each") (name names scope inst msg ∷ label names scope inst lab ∷ tag names scope inst lab t ∷ F f ∷ [])
  kind-shown (Any' msg lab t _ (one f end)) = kind-of-form (codes "any") (name names scope inst msg ∷ label names scope inst lab ∷ tag names scope inst lab t ∷ F f ∷ [])

-- ---- formulas

module _ (na nb : NameTable) (sa sb : Scope) (ia ib : Instances) (alike : Alike na nb sa sb ia ib) (words : List (Text × ℤ)) where
  abbrev Ta : Term → Tree
  Ta = shown_term na sa ia

  abbrev Tb : Term → Tree
  Tb = shown_term nb sb ib

  abbrev Fa : Formula → Tree
  Fa = shown_formula na sa ia

  abbrev Fb : Formula → Tree
  Fb = shown_formula nb sb ib

  -- what two terms behind a word are
  two-terms : (word other : Text) (a b c d : Term) → form word (Ta a ∷ Ta b ∷ []) ≡ form other (Tb c ∷ Tb d ∷ []) →
      (says_term na words a && says_term na words b) ≡ true → (says_term nb words c && says_term nb words d) ≡ true → IsPlain (form word (Ta a ∷ Ta b ∷ [])) →
      (a ≡ c) × (b ≡ d)
  two-terms word other a b c d e sx sy plain =
      let h : Ta a ∷ Ta b ∷ [] ≡ Tb c ∷ Tb d ∷ [] = same-parts word other (Ta a ∷ Ta b ∷ []) (Tb c ∷ Tb d ∷ []) e in
      let ps : Each IsPlain (Ta a ∷ Ta b ∷ []) = parts-plain word (Ta a ∷ Ta b ∷ []) plain in
      let ae : Ta a ≡ Tb c = cc in
      let be : Ta b ≡ Tb d = cc in (
        same-term na nb sa sb ia ib alike words a c ae (first _ _ sx) (first _ _ sy) ps.0,
        same-term na nb sa sb ia ib alike words b d be (second _ _ sx) (second _ _ sy) ps.1.0,
      )

  same-kind : (x y : Formula) → Fa x ≡ Fb y → (kind x == kind y) ≡ true
  same-kind x y e = eq-eqb (kind x) (kind y) (sym (kind-shown na sa ia x) ∙ (ap kind_of_tree e ∙ kind-shown nb sb ib y))

  -- what is quantified over
  same-range : (l m : Lab) (t u : ℕ) → label na sa ia l ≡ label nb sb ib m → tag na sa ia l t ≡ tag nb sb ib m u → IsPlain (tag na sa ia l t) → (l ≡ m) × (t ≡ u)
  same-range l m t u le te plain =
      let ll : l ≡ m = alike.labels l m le (alike.of_tag l t plain) in
      (ll, alike.tags l t u (te ∙ ap (λ o. tag nb sb ib o u) (sym ll)) plain)

  by-kind : (x y : Formula) → (kind x == kind y) ≡ true → Fa x ≡ Fb y → says na words x ≡ true → says nb words y ≡ true → IsPlain (Fa x) → x ≡ y
  by-kind True True k e sx sy plain = refl
  by-kind False False k e sx sy plain = refl
  by-kind (Eq a b) (Eq c d) k e sx sy plain = let both = two-terms _ _ a b c d e sx sy plain in λ i. Eq (both.0 i) (both.1 i)
  by-kind (Lt a b) (Lt c d) k e sx sy plain = let both = two-terms _ _ a b c d e sx sy plain in λ i. Lt (both.0 i) (both.1 i)
  by-kind (Le a b) (Le c d) k e sx sy plain = let both = two-terms _ _ a b c d e sx sy plain in λ i. Le (both.0 i) (both.1 i)
  by-kind (Not' s (one f end)) (Not' s' (one g end)) k e sx sy plain =
      let h : Fa f ∷ [] ≡ Fb g ∷ [] = same-parts _ _ _ _ e in
      let fe : Fa f ≡ Fb g = cc in
      let ff : f ≡ g = by-kind f g (same-kind f g fe) fe sx sy (parts-plain _ _ plain).0 in
      λ i. Not' tt (one (ff i) end)
  by-kind (And' s (one f end) u (one g end)) (And' s' (one f' end) u' (one g' end)) k e sx sy plain =
      let h : Fa f ∷ Fa g ∷ [] ≡ Fb f' ∷ Fb g' ∷ [] = same-parts _ _ _ _ e in
      let ps : Each IsPlain (Fa f ∷ Fa g ∷ []) = parts-plain _ _ plain in
      let fe : Fa f ≡ Fb f' = cc in
      let ge : Fa g ≡ Fb g' = cc in
      let ff : f ≡ f' = by-kind f f' (same-kind f f' fe) fe (first _ _ sx) (first _ _ sy) ps.0 in
      let gg : g ≡ g' = by-kind g g' (same-kind g g' ge) ge (second _ _ sx) (second _ _ sy) ps.1.0 in
      λ i. And' tt (one (ff i) end) tt (one (gg i) end)
  by-kind (Or' s (one f end) u (one g end)) (Or' s' (one f' end) u' (one g' end)) k e sx sy plain =
      let h : Fa f ∷ Fa g ∷ [] ≡ Fb f' ∷ Fb g' ∷ [] = same-parts _ _ _ _ e in
      let ps : Each IsPlain (Fa f ∷ Fa g ∷ []) = parts-plain _ _ plain in
      let fe : Fa f ≡ Fb f' = cc in
      let ge : Fa g ≡ Fb g' = cc in
      let ff : f ≡ f' = by-kind f f' (same-kind f f' fe) fe (first _ _ sx) (first _ _ sy) ps.0 in
      let gg : g ≡ g' = by-kind g g' (same-kind g g' ge) ge (second _ _ sx) (second _ _ sy) ps.1.0 in
      λ i. Or' tt (one (ff i) end) tt (one (gg i) end)
  by-kind (Implies' s (one f end) u (one g end)) (Implies' s' (one f' end) u' (one g' end)) k e sx sy plain =
      let h : Fa f ∷ Fa g ∷ [] ≡ Fb f' ∷ Fb g' ∷ [] = same-parts _ _ _ _ e in
      let ps : Each IsPlain (Fa f ∷ Fa g ∷ []) = parts-plain _ _ plain in
      let fe : Fa f ≡ Fb f' = cc in
      let ge : Fa g ≡ Fb g' = cc in
      let ff : f ≡ f' = by-kind f f' (same-kind f f' fe) fe (first _ _ sx) (first _ _ sy) ps.0 in
      let gg : g ≡ g' = by-kind g g' (same-kind g g' ge) ge (second _ _ sx) (second _ _ sy) ps.1.0 in
      λ i. Implies' tt (one (ff i) end) tt (one (gg i) end)
  by-kind (All' x s (one f end)) (All' y s' (one g end)) k e sx sy plain =
      let h : name na sa ia x ∷ Fa f ∷ [] ≡ name nb sb ib y ∷ Fb g ∷ [] = same-parts _ _ _ _ e in
      let ps : Each IsPlain (name na sa ia x ∷ Fa f ∷ []) = parts-plain _ _ plain in
      let xe : name na sa ia x ≡ name nb sb ib y = cc in
      let fe : Fa f ≡ Fb g = cc in
      let xx : x ≡ y = same-name na nb alike.names x y xe ps.0 in
      let ff : f ≡ g = by-kind f g (same-kind f g fe) fe sx sy ps.1.0 in
      λ i. All' (xx i) tt (one (ff i) end)
  by-kind (Exists' x s (one f end)) (Exists' y s' (one g end)) k e sx sy plain =
      let h : name na sa ia x ∷ Fa f ∷ [] ≡ name nb sb ib y ∷ Fb g ∷ [] = same-parts _ _ _ _ e in
      let ps : Each IsPlain (name na sa ia x ∷ Fa f ∷ []) = parts-plain _ _ plain in
      let xe : name na sa ia x ≡ name nb sb ib y = cc in
      let fe : Fa f ≡ Fb g = cc in
      let xx : x ≡ y = same-name na nb alike.names x y xe ps.0 in
      let ff : f ≡ g = by-kind f g (same-kind f g fe) fe sx sy ps.1.0 in
      λ i. Exists' (xx i) tt (one (ff i) end)
  by-kind (Each' x l t s (one f end)) (Each' y m u s' (one g end)) k e sx sy plain =
      let h : name na sa ia x ∷ label na sa ia l ∷ tag na sa ia l t ∷ Fa f ∷ [] ≡ name nb sb ib y ∷ label nb sb ib m ∷ tag nb sb ib m u ∷ Fb g ∷ [] = same-parts _ _ _ _ e in
      let ps : Each IsPlain (name na sa ia x ∷ label na sa ia l ∷ tag na sa ia l t ∷ Fa f ∷ []) = parts-plain _ _ plain in
      let xe : name na sa ia x ≡ name nb sb ib y = cc in
      let le : label na sa ia l ≡ label nb sb ib m = cc in
      let te : tag na sa ia l t ≡ tag nb sb ib m u = cc in
      let fe : Fa f ≡ Fb g = cc in
      let xx : x ≡ y = same-name na nb alike.names x y xe ps.0 in
      let lt = same-range l m t u le te ps.1.1.0 in
      let ff : f ≡ g = by-kind f g (same-kind f g fe) fe sx sy ps.1.1.1.0 in
      λ i. Each' (xx i) (lt.0 i) (lt.1 i) tt (one (ff i) end)
  by-kind (Any' x l t s (one f end)) (Any' y m u s' (one g end)) k e sx sy plain =
      let h : name na sa ia x ∷ label na sa ia l ∷ tag na sa ia l t ∷ Fa f ∷ [] ≡ name nb sb ib y ∷ label nb sb ib m ∷ tag nb sb ib m u ∷ Fb g ∷ [] = same-parts _ _ _ _ e in
      let ps : Each IsPlain (name na sa ia x ∷ label na sa ia l ∷ tag na sa ia l t ∷ Fa f ∷ []) = parts-plain _ _ plain in
      let xe : name na sa ia x ≡ name nb sb ib y = cc in
      let le : label na sa ia l ≡ label nb sb ib m = cc in
      let te : tag na sa ia l t ≡ tag nb sb ib m u = cc in
      let fe : Fa f ≡ Fb g = cc in
      let xx : x ≡ y = same-name na nb alike.names x y xe ps.0 in
      let lt = same-range l m t u le te ps.1.1.0 in
      let ff : f ≡ g = by-kind f g (same-kind f g fe) fe sx sy ps.1.1.1.0 in
      λ i. Any' (xx i) (lt.0 i) (lt.1 i) tt (one (ff i) end)
  by-kind _ _ k e sx sy plain = absurd (apart k)

  pub same-formula : (x y : Formula) → Fa x ≡ Fb y → says na words x ≡ true → says nb words y ≡ true → IsPlain (Fa x) → x ≡ y
  same-formula x y e sx sy plain = by-kind x y (same-kind x y e) e sx sy plain
