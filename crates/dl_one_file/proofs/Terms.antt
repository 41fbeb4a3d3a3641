-- Terms that are written alike are equal.
use Rattle.std.proofs.Common.{◌≡◌, ℕ, ℤ, pos, true, ◌==◌, if◌then◌else◌, List, [], ◌∷◌, length, refl, ap, sym, subst, ◌∙◌, eq-eqb}
use Rattle.std.specs.Prelude.{codes}
use Rattle.std.specs.Str.{bytes_eq}
use Rattle.std.specs.List.{AllByRecursion as Each}
use Rattle.dl_term.specs.declared.syntax.Part.{Part}
use Rattle.dl_term.specs.declared.syntax.Part.TheVariants.{Id, From, To, Live, Arg}
use Rattle.dl_term.specs.declared.syntax.Term.{Term, Num, Word, Var, Field', Row', Len, Msg, Add', Sub', Mul', If', more_of-Term as one, end_of-Term as end}
use Rattle.dl_tree.specs.declared.tree.Tree.{Tree}
use Rattle.dl_tree.specs.declared.tree.Tree as node
use Rattle.dl_model.specs.declared.protocol.Instances.{Instances}
use Rattle.dl_forms.specs.declared.scope.Scope.{Scope}
use Rattle.dl_forms.specs.Context.{Text}
use Rattle.dl_forms.specs.Judge.{text_of}
use Rattle.dl_forms.specs.Table.{NameTable}
use Rattle.dl_forms.specs.Scope.{text_at}
use Rattle.dl_forms.specs.Show.{no_place, symbol, number, form, label, field, message_part, shown_term}
use Rattle.dl_notation.specs.Trees.{parts_of}
use Rattle.dl_notation.proofs.TreeLemmas.{parts_of-Num, parts_of-Sym, parts_of-List}
use Rattle.dl_means.specs.Says.{is_value, value_named, says_term}
use Rattle.dl_one_file.proofs.Trees.{apart, first, second, IsPlain, parts-plain, known-length, same-parts, same-number}
use Rattle.dl_one_file.proofs.Alike.{Alike, value-is, no-value, same-name, same-value}

-- ---- kinds

abbrev pub kind : Term → ℕ
kind (Num v) = 0
kind (Word sym v) = 1
kind (Var sym) = 1
kind (Field' lab f _ _) = 2
kind (Row' lab f _ _ _ _) = 3
kind (Len lab) = 4
kind (Msg m part) = 5
kind (Add' _ _ _ _) = 6
kind (Sub' _ _ _ _) = 7
kind (Mul' _ _ _ _) = 8
kind (If' _ _ _ _ _ _ _ _) = 9

abbrev kind_of_word : Text → ℕ → ℕ
kind_of_word word count =
    if bytes_eq word (codes "get") then (if count == 3 then 2 else 3) else
    if bytes_eq word (codes "len") then 4 else
    if bytes_eq word (codes "+") then 6 else
    if bytes_eq word (codes "-") then 7 else
    if bytes_eq word (codes "*") then 8 else
    if bytes_eq word (codes "if") then 9 else 5

abbrev kind_of_atom : Tree → ℕ
kind_of_atom (node.Num v p) = 0
kind_of_atom _ = 1

abbrev pub kind_by : Tree → List Tree → ℕ
kind_by tree [] = kind_of_atom tree
kind_by tree (word ∷ parts) = kind_of_word (text_of word) (length parts)

abbrev pub kind_of_tree : Tree → ℕ
kind_of_tree tree = kind_by tree (parts_of tree)

kind-of-form : (word : Text) (parts : List Tree) → kind_of_tree (form word parts) ≡ kind_of_word word (length parts)
kind-of-form word parts = ap (kind_by (form word parts)) (parts_of-List (symbol word ∷ parts) no_place)

module _ (names : NameTable) (scope : Scope) (inst : Instances) where
  kind-of-part : (part : Part) (m : Tree) → kind_of_tree (message_part names scope inst part m) ≡ 5
  kind-of-part Id m = kind-of-form (codes "id") (m ∷ [])
  kind-of-part From m = kind-of-form (codes "from") (m ∷ [])
  kind-of-part To m = kind-of-form (codes "to") (m ∷ [])
  kind-of-part Live m = kind-of-form (codes "live") (m ∷ [])
  kind-of-part (Arg k) m = kind-of-form (codes "arg") (m ∷ number (pos k) ∷ [])

  pub kind-shown : (term : Term) → kind_of_tree (shown_term names scope inst term) ≡ kind term
  kind-shown (Num v) = ap (kind_by (number v)) (parts_of-Num v no_place)
  kind-shown (Word sym v) = ap (kind_by (symbol (text_at names sym))) (parts_of-Sym (text_at names sym) no_place)
  kind-shown (Var sym) = ap (kind_by (symbol (text_at names sym))) (parts_of-Sym (text_at names sym) no_place)
  kind-shown (Field' lab f _ (one node end)) = kind-of-form (codes "get") (label names scope inst lab ∷ field names scope inst lab f ∷ shown_term names scope inst node ∷ [])
  kind-shown (Row' lab f _ (one node end) _ (one index end)) =
      kind-of-form (codes "get") (label names scope inst lab ∷ field names scope inst lab f ∷ shown_term names scope inst node ∷ shown_term names scope inst index ∷ [])
  kind-shown (Len lab) = kind-of-form (codes "len") (label names scope inst lab ∷ [])
  kind-shown (Msg m part) = kind-of-part part (symbol (text_at names m))
  kind-shown (Add' _ (one a end) _ (one b end)) = kind-of-form (codes "+") (shown_term names scope inst a ∷ shown_term names scope inst b ∷ [])
  kind-shown (Sub' _ (one a end) _ (one b end)) = kind-of-form (codes "-") (shown_term names scope inst a ∷ shown_term names scope inst b ∷ [])
  kind-shown (Mul' _ (one a end) _ (one b end)) = kind-of-form (codes "*") (shown_term names scope inst a ∷ shown_term names scope inst b ∷ [])
  kind-shown (If' _ (one a end) _ (one b end) _ (one x end) _ (one y end)) =
      kind-of-form (codes "if") (shown_term names scope inst a ∷ shown_term names scope inst b ∷ shown_term names scope inst x ∷ shown_term names scope inst y ∷ [])

-- ---- parts of messages

abbrev part_number : Part → ℕ
part_number Id = 0
part_number From = 1
part_number To = 2
part_number Live = 3
part_number (Arg k) = 4

abbrev part_by : List Tree → ℕ
part_by [] = 5
part_by (word ∷ parts) =
    if bytes_eq (text_of word) (codes "id") then 0 else
    if bytes_eq (text_of word) (codes "from") then 1 else
    if bytes_eq (text_of word) (codes "to") then 2 else
    if bytes_eq (text_of word) (codes "live") then 3 else 4

module _ (names : NameTable) (scope : Scope) (inst : Instances) where
  part-shown : (part : Part) (m : Tree) → part_by (parts_of (message_part names scope inst part m)) ≡ part_number part
  part-shown Id m = ap part_by (parts_of-List (symbol (codes "id") ∷ m ∷ []) no_place)
  part-shown From m = ap part_by (parts_of-List (symbol (codes "from") ∷ m ∷ []) no_place)
  part-shown To m = ap part_by (parts_of-List (symbol (codes "to") ∷ m ∷ []) no_place)
  part-shown Live m = ap part_by (parts_of-List (symbol (codes "live") ∷ m ∷ []) no_place)
  part-shown (Arg k) m = ap part_by (parts_of-List (symbol (codes "arg") ∷ m ∷ number (pos k) ∷ []) no_place)

  part-plain : (p : Part) (m : Tree) → IsPlain (message_part names scope inst p m) → IsPlain m
  part-plain Id m h = (parts-plain (codes "id") (m ∷ []) h).0
  part-plain From m h = (parts-plain (codes "from") (m ∷ []) h).0
  part-plain To m h = (parts-plain (codes "to") (m ∷ []) h).0
  part-plain Live m h = (parts-plain (codes "live") (m ∷ []) h).0
  part-plain (Arg k) m h = (parts-plain (codes "arg") (m ∷ number (pos k) ∷ []) h).0

module _ (na nb : NameTable) (sa sb : Scope) (ia ib : Instances) where
  part-of : (p q : Part) (m n : Tree) → message_part na sa ia p m ≡ message_part nb sb ib q n → (part_number p == part_number q) ≡ true → (m ≡ n) × (p ≡ q)
  part-of Id Id m n e k = (let h : m ∷ [] ≡ n ∷ [] = same-parts _ _ _ _ e in cc, refl)
  part-of From From m n e k = (let h : m ∷ [] ≡ n ∷ [] = same-parts _ _ _ _ e in cc, refl)
  part-of To To m n e k = (let h : m ∷ [] ≡ n ∷ [] = same-parts _ _ _ _ e in cc, refl)
  part-of Live Live m n e k = (let h : m ∷ [] ≡ n ∷ [] = same-parts _ _ _ _ e in cc, refl)
  part-of (Arg j) (Arg k) m n e _ =
      let h : m ∷ number (pos j) ∷ [] ≡ n ∷ number (pos k) ∷ [] = same-parts _ _ _ _ e in
      let numbers : number (pos j) ≡ number (pos k) = cc in
      let same : pos j ≡ pos k = same-number (pos j) (pos k) numbers in
      let args : j ≡ k = cc in (cc, λ i. Arg (args i))
  part-of _ _ m n e k = absurd (apart k)

  same-part : (p q : Part) (m n : Tree) → message_part na sa ia p m ≡ message_part nb sb ib q n → (m ≡ n) × (p ≡ q)
  same-part p q m n e =
      part-of p q m n e (eq-eqb (part_number p) (part_number q) (sym (part-shown na sa ia p m) ∙ (ap (λ tree. part_by (parts_of tree)) e ∙ part-shown nb sb ib q n)))

-- ---- terms

-- what the constants are that are known
module _ (na nb : NameTable) (sa sb : Scope) (ia ib : Instances) (alike : Alike na nb sa sb ia ib) (words : List (Text × ℤ)) where
  abbrev Sa : Term → Tree
  Sa = shown_term na sa ia

  abbrev Sb : Term → Tree
  Sb = shown_term nb sb ib

  same-kind : (x y : Term) → Sa x ≡ Sb y → (kind x == kind y) ≡ true
  same-kind x y e = eq-eqb (kind x) (kind y) (sym (kind-shown na sa ia x) ∙ (ap kind_of_tree e ∙ kind-shown nb sb ib y))

  by-kind : (x y : Term) → (kind x == kind y) ≡ true → Sa x ≡ Sb y → says_term na words x ≡ true → says_term nb words y ≡ true → IsPlain (Sa x) → x ≡ y
  by-kind (Num v) (Num w) k e sx sy plain = ap Num (same-number v w e)
  by-kind (Word s v) (Word t w) k e sx sy plain =
      let syms : s ≡ t = same-name na nb alike.names s t e plain in
      let values : v ≡ w = value-is (value_named nb words t) v w (subst (λ o. is_value v o ≡ true) (same-value na nb alike.names words s t syms) sx) sy in
      λ i. Word (syms i) (values i)
  by-kind (Word s v) (Var t) k e sx sy plain =
      let syms : s ≡ t = same-name na nb alike.names s t e plain in
      absurd (no-value (value_named nb words t) v (subst (λ o. is_value v o ≡ true) (same-value na nb alike.names words s t syms) sx) sy)
  by-kind (Var s) (Word t w) k e sx sy plain =
      let syms : s ≡ t = same-name na nb alike.names s t e plain in
      absurd (no-value (value_named na words s) w (subst (λ o. is_value w o ≡ true) (sym (same-value na nb alike.names words s t syms)) sy) sx)
  by-kind (Var s) (Var t) k e sx sy plain = ap Var (same-name na nb alike.names s t e plain)
  by-kind (Field' l f u (one a end)) (Field' m g u' (one b end)) k e sx sy plain =
      let h : label na sa ia l ∷ field na sa ia l f ∷ Sa a ∷ [] ≡ label nb sb ib m ∷ field nb sb ib m g ∷ Sb b ∷ [] = same-parts _ _ _ _ e in
      let ps : Each IsPlain (label na sa ia l ∷ field na sa ia l f ∷ Sa a ∷ []) = parts-plain _ _ plain in
      let pf : IsPlain (field na sa ia l f) = ps.1.0 in
      let le : label na sa ia l ≡ label nb sb ib m = cc in
      let ll : l ≡ m = alike.labels l m le (alike.of_field l f pf) in
      let fe : field na sa ia l f ≡ field nb sb ib m g = cc in
      let ff : f ≡ g = alike.fields l f g (fe ∙ ap (λ o. field nb sb ib o g) (sym ll)) pf in
      let ae : Sa a ≡ Sb b = cc in
      let aa : a ≡ b = by-kind a b (same-kind a b ae) ae sx sy ps.1.1.0 in
      λ i. Field' (ll i) (ff i) tt (one (aa i) end)
  by-kind (Row' l f u (one a end) v (one c end)) (Row' m g u' (one b end) v' (one d end)) k e sx sy plain =
      let h : label na sa ia l ∷ field na sa ia l f ∷ Sa a ∷ Sa c ∷ [] ≡ label nb sb ib m ∷ field nb sb ib m g ∷ Sb b ∷ Sb d ∷ [] = same-parts _ _ _ _ e in
      let ps : Each IsPlain (label na sa ia l ∷ field na sa ia l f ∷ Sa a ∷ Sa c ∷ []) = parts-plain _ _ plain in
      let pf : IsPlain (field na sa ia l f) = ps.1.0 in
      let le : label na sa ia l ≡ label nb sb ib m = cc in
      let ll : l ≡ m = alike.labels l m le (alike.of_field l f pf) in
      let fe : field na sa ia l f ≡ field nb sb ib m g = cc in
      let ff : f ≡ g = alike.fields l f g (fe ∙ ap (λ o. field nb sb ib o g) (sym ll)) pf in
      let ae : Sa a ≡ Sb b = cc in
      let ce : Sa c ≡ Sb d = cc in
      let aa : a ≡ b = by-kind a b (same-kind a b ae) ae (first _ _ sx) (first _ _ sy) ps.1.1.0 in
      let bb : c ≡ d = by-kind c d (same-kind c d ce) ce (second _ _ sx) (second _ _ sy) ps.1.1.1.0 in
      λ i. Row' (ll i) (ff i) tt (one (aa i) end) tt (one (bb i) end)
  by-kind (Len l) (Len m) k e sx sy plain =
      let h : label na sa ia l ∷ [] ≡ label nb sb ib m ∷ [] = same-parts _ _ _ _ e in
      let le : label na sa ia l ≡ label nb sb ib m = cc in
      ap Len (alike.labels l m le (known-length (label na sa ia l) plain))
  by-kind (Msg m p) (Msg n q) k e sx sy plain =
      let both = same-part na nb sa sb ia ib p q (symbol (text_at na m)) (symbol (text_at nb n)) e in
      let syms : m ≡ n = same-name na nb alike.names m n both.0 (part-plain na sa ia p (symbol (text_at na m)) plain) in
      λ i. Msg (syms i) (both.1 i)
  by-kind (Add' u (one a end) v (one b end)) (Add' u' (one c end) v' (one d end)) k e sx sy plain =
      let h : Sa a ∷ Sa b ∷ [] ≡ Sb c ∷ Sb d ∷ [] = same-parts _ _ _ _ e in
      let ps : Each IsPlain (Sa a ∷ Sa b ∷ []) = parts-plain _ _ plain in
      let ae : Sa a ≡ Sb c = cc in
      let be : Sa b ≡ Sb d = cc in
      let aa : a ≡ c = by-kind a c (same-kind a c ae) ae (first _ _ sx) (first _ _ sy) ps.0 in
      let bb : b ≡ d = by-kind b d (same-kind b d be) be (second _ _ sx) (second _ _ sy) ps.1.0 in
      λ i. Add' tt (one (aa i) end) tt (one (bb i) end)
  by-kind (Sub' u (one a end) v (one b end)) (Sub' u' (one c end) v' (one d end)) k e sx sy plain =
      let h : Sa a ∷ Sa b ∷ [] ≡ Sb c ∷ Sb d ∷ [] = same-parts _ _ _ _ e in
      let ps : Each IsPlain (Sa a ∷ Sa b ∷ []) = parts-plain _ _ plain in
      let ae : Sa a ≡ Sb c = cc in
      let be : Sa b ≡ Sb d = cc in
      let aa : a ≡ c = by-kind a c (same-kind a c ae) ae (first _ _ sx) (first _ _ sy) ps.0 in
      let bb : b ≡ d = by-kind b d (same-kind b d be) be (second _ _ sx) (second _ _ sy) ps.1.0 in
      λ i. Sub' tt (one (aa i) end) tt (one (bb i) end)
  by-kind (Mul' u (one a end) v (one b end)) (Mul' u' (one c end) v' (one d end)) k e sx sy plain =
      let h : Sa a ∷ Sa b ∷ [] ≡ Sb c ∷ Sb d ∷ [] = same-parts _ _ _ _ e in
      let ps : Each IsPlain (Sa a ∷ Sa b ∷ []) = parts-plain _ _ plain in
      let ae : Sa a ≡ Sb c = cc in
      let be : Sa b ≡ Sb d = cc in
      let aa : a ≡ c = by-kind a c (same-kind a c ae) ae (first _ _ sx) (first _ _ sy) ps.0 in
      let bb : b ≡ d = by-kind b d (same-kind b d be) be (second _ _ sx) (second _ _ sy) ps.1.0 in
      λ i. Mul' tt (one (aa i) end) tt (one (bb i) end)
  by-kind (If' s (one a end) u (one b end) v (one x end) w (one y end)) (If' s' (one c end) u' (one d end) v' (one z end) w' (one o end)) k e sx sy plain =
      let h : Sa a ∷ Sa b ∷ Sa x ∷ Sa y ∷ [] ≡ Sb c ∷ Sb d ∷ Sb z ∷ Sb o ∷ [] = same-parts _ _ _ _ e in
      let ps : Each IsPlain (Sa a ∷ Sa b ∷ Sa x ∷ Sa y ∷ []) = parts-plain _ _ plain in
      let ae : Sa a ≡ Sb c = cc in
      let be : Sa b ≡ Sb d = cc in
      let xe : Sa x ≡ Sb z = cc in
      let ye : Sa y ≡ Sb o = cc in
      let aa : a ≡ c = by-kind a c (same-kind a c ae) ae (first _ _ (first _ _ sx)) (first _ _ (first _ _ sy)) ps.0 in
      let bb : b ≡ d = by-kind b d (same-kind b d be) be (second _ _ (first _ _ sx)) (second _ _ (first _ _ sy)) ps.1.0 in
      let xx : x ≡ z = by-kind x z (same-kind x z xe) xe (first _ _ (second _ _ sx)) (first _ _ (second _ _ sy)) ps.1.1.0 in
      let yy : y ≡ o = by-kind y o (same-kind y o ye) ye (second _ _ (second _ _ sx)) (second _ _ (second _ _ sy)) ps.1.1.1.0 in
      λ i. If' tt (one (aa i) end) tt (one (bb i) end) tt (one (xx i) end) tt (one (yy i) end)
  by-kind _ _ k e sx sy plain = absurd (apart k)

  pub same-term : (x y : Term) → Sa x ≡ Sb y → says_term na words x ≡ true → says_term nb words y ≡ true → IsPlain (Sa x) → x ≡ y
  same-term x y e sx sy plain = by-kind x y (same-kind x y e) e sx sy plain
