-- Certificates that are written alike are equal.
use Rattle.std.proofs.Common.{◌≡◌, ℕ, Bool, true, false, ◌==◌, if◌then◌else◌, List, [], ◌∷◌, Option, Some, None, refl, ap, sym, ◌∙◌, eq-eqb, eqb-true}
use Rattle.std.specs.Prelude.{codes}
use Rattle.std.specs.Str.{bytes_eq}
use Rattle.std.specs.List.{AllByRecursion as Each}
use mathlib.Core.Former.{Count}
use Rattle.dl_tree.specs.declared.tree.Tree.{Tree}
use Rattle.dl_linear.specs.declared.certificate.Certificate.{Certificate}
use Rattle.dl_linear.specs.declared.certificate.Certificate.TheVariants.{Sum, rolls-Sum}
use Rattle.dl_linear.specs.declared.certificate.Certificate.TheViews.{out-Certificate, roll-Certificate, roll-out-Certificate}
use Rattle.dl_linear.specs.declared.certificate.Certificate.TheBlock.{shown-the_row-Multiple-0, items-the_row-Multiple as items, items_shown-the_row-Multiple-0, Use, Sum', Div', more_of-Certificate as one, end_of-Certificate as end, Row_of-Multiple as Multiples, more_of-Multiple as more, end_of-Multiple as none}
use Rattle.dl_forms.specs.Context.{Text}
use Rattle.dl_forms.specs.Judge.{text_of}
use Rattle.dl_forms.specs.Table.{NameTable}
use Rattle.dl_forms.specs.Show.{no_place, symbol, number, form}
use Rattle.dl_notation.specs.Trees.{parts_of}
use Rattle.dl_notation.proofs.TreeLemmas.{parts_of-List}
use Rattle.dl_shown.specs.Shown.{name_of}
use Rattle.dl_shown.specs.Scripts.{goal_word, certificate_of, multiples_of, second_of}
use Rattle.dl_one_file.proofs.Trees.{apart, IsPlain, list-plain, parts-plain, same-list, same-parts, same-number, same-head, same-tail}
use Rattle.dl_one_file.proofs.Alike.{SameNames, same-name}

-- ---- kinds

abbrev kind : Certificate → ℕ
kind (Use row) = 0
kind (Sum' _ _) = 1
kind (Div' divisor _ _) = 2

abbrev kind_of_word : Text → ℕ
kind_of_word word =
    if bytes_eq word (codes "goal") then 0 else
    if bytes_eq word (codes "use") then 0 else
    if bytes_eq word (codes "add") then 1 else 2

abbrev kind_by : List Tree → ℕ
kind_by [] = 3
kind_by (word ∷ parts) = kind_of_word (text_of word)

kind-of-form : (word : Text) (parts : List Tree) → kind_by (parts_of (form word parts)) ≡ kind_of_word word
kind-of-form word parts = ap kind_by (parts_of-List (symbol word ∷ parts) no_place)

kind-of-use : (names : NameTable) (row : ℕ) (goal : Bool) → kind_by (parts_of (if goal then form (codes "goal") [] else form (codes "use") (name_of names row ∷ []))) ≡ 0
kind-of-use names row true = kind-of-form (codes "goal") []
kind-of-use names row false = kind-of-form (codes "use") (name_of names row ∷ [])

kind-shown : (names : NameTable) (certificate : Certificate) → kind_by (parts_of (certificate_of names certificate)) ≡ kind certificate
kind-shown names (Use row) = kind-of-use names row (row == goal_word)
kind-shown names (Sum' _ parts) = kind-of-form (codes "add") (multiples_of names parts)
kind-shown names (Div' divisor _ (one certificate end)) = kind-of-form (codes "div") (number divisor ∷ certificate_of names certificate ∷ [])

-- ---- rows of multiples

-- a sum is one of the list of its parts
whole-sum : (shape : _) (row : _) → Sum' shape row ≡ Sum (items _ row)
unfolding out-Certificate roll-Certificate denote.Hole.Carrier.out
whole-sum shape row =
    let parts = shown-the_row-Multiple-0 shape row in
    sym (roll-out-Certificate (Sum' shape row)) ∙ rolls-Sum parts ∙ ap Sum (items_shown-the_row-Multiple-0 shape row)

module _ (na nb : NameTable) (same : SameNames na nb) where
  use-by : (x y : Bool) (r s : ℕ) → (r == goal_word) ≡ x → (s == goal_word) ≡ y →
      (if x then form (codes "goal") [] else form (codes "use") (name_of na r ∷ [])) ≡ (if y then form (codes "goal") [] else form (codes "use") (name_of nb s ∷ [])) →
      IsPlain (if x then form (codes "goal") [] else form (codes "use") (name_of na r ∷ [])) → r ≡ s
  use-by true true r s is also e plain = eqb-true r goal_word is ∙ sym (eqb-true s goal_word also)
  use-by true false r s is also e plain = let h : [] ≡ name_of nb s ∷ [] = same-parts _ _ _ _ e in cc
  use-by false true r s is also e plain = let h : name_of na r ∷ [] ≡ [] = same-parts _ _ _ _ e in cc
  use-by false false r s is also e plain =
      let h : name_of na r ∷ [] ≡ name_of nb s ∷ [] = same-parts _ _ _ _ e in
      same-name na nb same r s (same-head _ _ _ _ h) (parts-plain (codes "use") (name_of na r ∷ []) plain).0

  same-kind : (x y : Certificate) → certificate_of na x ≡ certificate_of nb y → (kind x == kind y) ≡ true
  same-kind x y e = eq-eqb (kind x) (kind y) (sym (kind-shown na x) ∙ (ap (λ tree. kind_by (parts_of tree)) e ∙ kind-shown nb y))

  mutual
    by-kind : (x y : Certificate) → (kind x == kind y) ≡ true → certificate_of na x ≡ certificate_of nb y → IsPlain (certificate_of na x) → x ≡ y
    by-kind (Use r) (Use s) k e plain = ap Use (use-by (r == goal_word) (s == goal_word) r s refl refl e plain)
    by-kind (Sum' s ps) (Sum' s' qs) k e plain =
        let parts : items _ ps ≡ items _ qs = same-items _ _ ps qs (same-parts _ _ _ _ e) (parts-plain (codes "add") (multiples_of na ps) plain) in
        whole-sum s ps ∙ (ap Sum parts ∙ sym (whole-sum s' qs))
    by-kind (Div' v s (one x end)) (Div' w s' (one y end)) k e plain =
        let h : number v ∷ certificate_of na x ∷ [] ≡ number w ∷ certificate_of nb y ∷ [] = same-parts _ _ _ _ e in
        let ps : Each IsPlain (number v ∷ certificate_of na x ∷ []) = parts-plain _ _ plain in
        let xe : certificate_of na x ≡ certificate_of nb y = same-head _ _ _ _ (same-tail _ _ _ _ h) in
        let vv : v ≡ w = same-number v w (same-head _ _ _ _ h) in
        let xx : x ≡ y = by-kind x y (same-kind x y xe) xe ps.1.0 in
        λ i. Div' (vv i) tt (one (xx i) end)
    by-kind _ _ k e plain = absurd (apart k)

    same-items : (n m : Count) (ps : Multiples n) (qs : Multiples m) → multiples_of na ps ≡ multiples_of nb qs → Each IsPlain (multiples_of na ps) → items n ps ≡ items m qs
    same-items n m none none e plain = refl
    same-items n m none (more w y qs) e plain = cc
    same-items n m (more v x ps) none e plain = cc
    same-items n m (more v x ps) (more w y qs) e plain =
        let h : number v ∷ certificate_of na x ∷ [] ≡ number w ∷ certificate_of nb y ∷ [] = same-list _ _ (same-head _ _ _ _ e) in
        let hp : Each IsPlain (number v ∷ certificate_of na x ∷ []) = list-plain (number v) (certificate_of na x ∷ []) refl plain.0.0 in
        let xe : certificate_of na x ≡ certificate_of nb y = same-head _ _ _ _ (same-tail _ _ _ _ h) in
        let vv : v ≡ w = same-number v w (same-head _ _ _ _ h) in
        let xx : x ≡ y = by-kind x y (same-kind x y xe) xe hp.1.0 in
        let rest : items _ ps ≡ items _ qs = same-items _ _ ps qs (same-tail _ _ _ _ e) plain.1 in
        λ i. record { factor = vv i; certificate = xx i } ∷ rest i

  pub same-certificate : (x y : Certificate) → certificate_of na x ≡ certificate_of nb y → IsPlain (certificate_of na x) → x ≡ y
  same-certificate x y e plain = by-kind x y (same-kind x y e) e plain

  pub same-second : (x y : Option Certificate) → second_of na x ≡ second_of nb y → Each IsPlain (second_of na x) → x ≡ y
  same-second None None e plain = refl
  same-second None (Some y) e plain = cc
  same-second (Some x) None e plain = cc
  same-second (Some x) (Some y) e plain = ap Some (same-certificate x y (same-head _ _ _ _ e) plain.0)
