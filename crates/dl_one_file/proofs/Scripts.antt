-- Scripts that are written alike, and stand at the same places, are equal.
use Rattle.std.proofs.Common.{◌≡◌, ℕ, ℤ, pos, true, ◌==◌, if◌then◌else◌, List, [], ◌∷◌, Option, refl, ap, sym, subst, ◌∙◌, eq-eqb, eqb-true}
use Rattle.std.specs.Prelude.{is_none, codes}
use Rattle.std.specs.Str.{bytes_eq}
use Rattle.std.specs.List.{AllByRecursion as Each}
use Rattle.dl_term.specs.declared.syntax.Term.{Term, Word, Var}
use Rattle.dl_term.specs.declared.syntax.Formula.{Formula}
use Rattle.dl_tree.specs.declared.tree.Place.{Place}
use Rattle.dl_tree.specs.declared.tree.Tree.{Tree}
use Rattle.dl_tree.specs.TreePlace.{place_of}
use Rattle.dl_linear.specs.declared.certificate.Certificate.{Certificate}
use Rattle.dl_model.specs.declared.file.Decls.{Decls}
use Rattle.dl_sequent.specs.declared.script.Given.{Given}
use Rattle.dl_sequent.specs.declared.script.Given.TheVariants.{Node, Message}
use Rattle.dl_sequent.specs.declared.script.Rule.{Rule}
use Rattle.dl_sequent.specs.declared.script.Rule.TheBlock as r
use Rattle.dl_sequent.specs.declared.script.Rule.TheBlock.{more_of-Script as script, end_of-Script as last}
use Rattle.dl_forms.specs.Context.{Text}
use Rattle.dl_forms.specs.Judge.{text_of}
use Rattle.dl_forms.specs.Table.{NameTable}
use Rattle.dl_forms.specs.Scope.{text_at}
use Rattle.dl_forms.specs.Show.{no_place, symbol, number, form, of_labels}
use Rattle.dl_notation.specs.Trees.{parts_of}
use Rattle.dl_notation.proofs.TreeLemmas.{parts_of-Sym, parts_of-List}
use Rattle.dl_shown.specs.Shown.{name_of, term_of, formula_of}
use Rattle.dl_shown.specs.Scripts.{certificate_of, second_of, given_of, rule_of}
use Rattle.dl_means.specs.Says.{is_value, value_named, says_given, says_rule}
use Rattle.dl_means.specs.Stands.{same_place, part_at, stands}
use Rattle.dl_one_file.proofs.Trees.{apart, first, second, IsPlain, parts-plain, same-parts, same-number, same-head, same-tail}
use Rattle.dl_one_file.proofs.Alike.{Alike, no-value, same-name, same-value}
use Rattle.dl_one_file.proofs.Terms.{same-term, kind as term_kind, kind_by as term_kind_by, kind_of_tree as term_kind_of, kind-shown as term_kind-shown}
use Rattle.dl_one_file.proofs.Formulas.{same-formula}
use Rattle.dl_one_file.proofs.Certificates.{same-certificate, same-second}

-- ---- kinds

abbrev kind : Rule → ℕ
kind (r.By _) = 0
kind r.Close = 1
kind (r.Split' _ _ _ _) = 2
kind (r.Pick' _ _ _) = 3
kind (r.Intro' _ _ _) = 4
kind (r.Open' _ _ _) = 5
kind (r.Give' _ _ _) = 6
kind (r.Parts' _ _ _ _ _) = 7
kind (r.Cases' _ _ _ _ _ _) = 8
kind (r.Apply' _ _ _ _ _ _) = 9
kind (r.Inst' _ _ _ _ _) = 10
kind (r.Unpack' _ _ _ _ _) = 11
kind (r.Have' _ _ _ _ _ _) = 12
kind (r.Decide' _ _ _ _ _ _) = 13
kind (r.Rewrite' _ _ _ _) = 14
kind (r.Reduce' _ _ _ _) = 15
kind (r.Range' _ _ _ _) = 16
kind (r.Linear _ _) = 17

abbrev kind_of_word : Text → ℕ
kind_of_word word =
    if bytes_eq word (codes "by") then 0 else
    if bytes_eq word (codes "close") then 1 else
    if bytes_eq word (codes "split") then 2 else
    if bytes_eq word (codes "pick") then 3 else
    if bytes_eq word (codes "intro") then 4 else
    if bytes_eq word (codes "open") then 5 else
    if bytes_eq word (codes "give") then 6 else
    if bytes_eq word (codes "parts") then 7 else
    if bytes_eq word (codes "cases") then 8 else
    if bytes_eq word (codes "apply") then 9 else
    if bytes_eq word (codes "inst") then 10 else
    if bytes_eq word (codes "unpack") then 11 else
    if bytes_eq word (codes "have") then 12 else
    if bytes_eq word (codes "decide") then 13 else
    if bytes_eq word (codes "rewrite") then 14 else
    if bytes_eq word (codes "reduce") then 15 else
    if bytes_eq word (codes "range") then 16 else
    if bytes_eq word (codes "linear") then 17 else 18

abbrev kind_by : List Tree → ℕ
kind_by [] = 19
kind_by (word ∷ parts) = kind_of_word (text_of word)

kind-of-form : (word : Text) (parts : List Tree) → kind_by (parts_of (form word parts)) ≡ kind_of_word word
kind-of-form word parts = ap kind_by (parts_of-List (symbol word ∷ parts) no_place)

module _ (names : NameTable) (decls : Decls) (own : Option ℕ) where
  abbrev Na : ℕ → Tree
  Na = name_of names

  abbrev Ta : Term → Tree
  Ta = term_of names decls own

  abbrev Fa : Formula → Tree
  Fa = formula_of names decls own

  abbrev Ga : Given → Tree
  Ga = given_of names decls own

  abbrev Ca : Certificate → Tree
  Ca = certificate_of names

  abbrev Oa : Option Certificate → List Tree
  Oa = second_of names

  abbrev Ra : Rule → Tree
  Ra = rule_of names decls own

  kind-shown : (rule : Rule) → kind_by (parts_of (Ra rule)) ≡ kind rule
  kind-shown (r.By n0a) = kind-of-form (codes "by") (Na n0a ∷ [])
  kind-shown r.Close = kind-of-form (codes "close") []
  kind-shown (r.Split' _ (script s0a s0ap last) _ (script s1a s1ap last)) = kind-of-form (codes "split") (Ra s0a ∷ Ra s1a ∷ [])
  kind-shown (r.Pick' k0a _ (script s1a s1ap last)) = kind-of-form (codes "pick") (number (pos k0a) ∷ Ra s1a ∷ [])
  kind-shown (r.Intro' n0a _ (script s1a s1ap last)) = kind-of-form (codes "intro") (Na n0a ∷ Ra s1a ∷ [])
  kind-shown (r.Open' n0a _ (script s1a s1ap last)) = kind-of-form (codes "open") (Na n0a ∷ Ra s1a ∷ [])
  kind-shown (r.Give' g0a _ (script s1a s1ap last)) = kind-of-form (codes "give") (Ga g0a ∷ Ra s1a ∷ [])
  kind-shown (r.Parts' n0a n1a n2a _ (script s3a s3ap last)) = kind-of-form (codes "parts") (Na n0a ∷ Na n1a ∷ Na n2a ∷ Ra s3a ∷ [])
  kind-shown (r.Cases' n0a n1a _ (script s2a s2ap last) _ (script s3a s3ap last)) = kind-of-form (codes "cases") (Na n0a ∷ Na n1a ∷ Ra s2a ∷ Ra s3a ∷ [])
  kind-shown (r.Apply' n0a n1a _ (script s2a s2ap last) _ (script s3a s3ap last)) = kind-of-form (codes "apply") (Na n0a ∷ Na n1a ∷ Ra s2a ∷ Ra s3a ∷ [])
  kind-shown (r.Inst' n0a g1a n2a _ (script s3a s3ap last)) = kind-of-form (codes "inst") (Na n0a ∷ Ga g1a ∷ Na n2a ∷ Ra s3a ∷ [])
  kind-shown (r.Unpack' n0a n1a n2a _ (script s3a s3ap last)) = kind-of-form (codes "unpack") (Na n0a ∷ Na n1a ∷ Na n2a ∷ Ra s3a ∷ [])
  kind-shown (r.Have' f0a n1a _ (script s2a s2ap last) _ (script s3a s3ap last)) = kind-of-form (codes "have") (Fa f0a ∷ Na n1a ∷ Ra s2a ∷ Ra s3a ∷ [])
  kind-shown (r.Decide' f0a n1a _ (script s2a s2ap last) _ (script s3a s3ap last)) = kind-of-form (codes "decide") (Fa f0a ∷ Na n1a ∷ Ra s2a ∷ Ra s3a ∷ [])
  kind-shown (r.Rewrite' n0a n1a _ (script s2a s2ap last)) = kind-of-form (codes "rewrite") (Na n0a ∷ Na n1a ∷ Ra s2a ∷ [])
  kind-shown (r.Reduce' n0a n1a _ (script s2a s2ap last)) = kind-of-form (codes "reduce") (Na n0a ∷ Na n1a ∷ Ra s2a ∷ [])
  kind-shown (r.Range' t0a n1a _ (script s2a s2ap last)) = kind-of-form (codes "range") (Ta t0a ∷ Na n1a ∷ Ra s2a ∷ [])
  kind-shown (r.Linear c0a o1a) = kind-of-form (codes "linear") (Ca c0a ∷ Oa o1a)

-- ---- places

pub same-place : (p q : Place) (tree : Tree) → same_place p (place_of tree) ≡ true → same_place q (place_of tree) ≡ true → p ≡ q
same-place p q tree hp hq =
    let lines : p.line ≡ q.line = eqb-true _ _ (first _ _ hp) ∙ sym (eqb-true _ _ (first _ _ hq)) in
    let cols : p.col ≡ q.col = eqb-true _ _ (second _ _ hp) ∙ sym (eqb-true _ _ (second _ _ hq)) in
    λ i. record { line = lines i; col = cols i }

same-part : (m n : ℕ) → number (pos m) ≡ number (pos n) → m ≡ n
same-part m n e = let same : pos m ≡ pos n = same-number (pos m) (pos n) e in cc

-- ---- scripts

module _ (na nb : NameTable) (da db : Decls) (own : Option ℕ) (alike : Alike na nb (of_labels own da.labels) (of_labels own db.labels) da.inst db.inst) (words : List (Text × ℤ)) where
  -- a name alone is no given term, but where it is a constant
  node-message : (x : Term) (n : ℕ) → (term_kind x == 1) ≡ true → term_of na da own x ≡ name_of nb n → says_given na words (Node x) ≡ true → is_none (value_named nb words n) ≡ true → IsPlain (term_of na da own x) → ⊥
  node-message (Word s v) n k e sx none plain =
      let syms : s ≡ n = same-name na nb alike.names s n e plain in
      no-value (value_named nb words n) v (subst (λ o. is_value v o ≡ true) (same-value na nb alike.names words s n syms) sx) none
  node-message (Var s) n k e sx none plain = apart sx
  node-message _ n k e sx none plain = apart k

  message-node : (m : ℕ) (y : Term) → (term_kind y == 1) ≡ true → name_of na m ≡ term_of nb db own y → says_given nb words (Node y) ≡ true → is_none (value_named na words m) ≡ true → IsPlain (name_of na m) → ⊥
  message-node m (Word s v) k e sy none plain =
      let syms : m ≡ s = same-name na nb alike.names m s e plain in
      no-value (value_named na words m) v (subst (λ o. is_value v o ≡ true) (sym (same-value na nb alike.names words m s syms)) sy) none
  message-node m (Var s) k e sy none plain = apart sy
  message-node m _ k e sy none plain = apart k

  same-given : (x y : Given) → given_of na da own x ≡ given_of nb db own y → says_given na words x ≡ true → says_given nb words y ≡ true → IsPlain (given_of na da own x) → x ≡ y
  same-given (Node x) (Node y) e sx sy plain =
      ap Node (same-term na nb (of_labels own da.labels) (of_labels own db.labels) da.inst db.inst alike words x y e (second _ _ sx) (second _ _ sy) plain)
  same-given (Node x) (Message n) e sx sy plain =
      let k : term_kind x ≡ 1 = sym (term_kind-shown na (of_labels own da.labels) da.inst x) ∙ (ap term_kind_of e ∙ ap (term_kind_by (symbol (text_at nb n))) (parts_of-Sym (text_at nb n) no_place)) in
      absurd (node-message x n (eq-eqb (term_kind x) 1 k) e sx sy plain)
  same-given (Message m) (Node y) e sx sy plain =
      let k : term_kind y ≡ 1 = sym (term_kind-shown nb (of_labels own db.labels) db.inst y) ∙ (ap term_kind_of (sym e) ∙ ap (term_kind_by (symbol (text_at na m))) (parts_of-Sym (text_at na m) no_place)) in
      absurd (message-node m y (eq-eqb (term_kind y) 1 k) e sy sx plain)
  same-given (Message m) (Message n) e sx sy plain = ap Message (same-name na nb alike.names m n e plain)

  abbrev Nb : ℕ → Tree
  Nb = name_of nb

  abbrev Tb : Term → Tree
  Tb = term_of nb db own

  abbrev Fb : Formula → Tree
  Fb = formula_of nb db own

  abbrev Gb : Given → Tree
  Gb = given_of nb db own

  abbrev Cb : Certificate → Tree
  Cb = certificate_of nb

  abbrev Ob : Option Certificate → List Tree
  Ob = second_of nb

  abbrev Rb : Rule → Tree
  Rb = rule_of nb db own

  same-kind : (x y : Rule) → rule_of na da own x ≡ Rb y → (kind x == kind y) ≡ true
  same-kind x y e = eq-eqb (kind x) (kind y) (sym (kind-shown na da own x) ∙ (ap (λ tree. kind_by (parts_of tree)) e ∙ kind-shown nb db own y))

  by-kind : (x y : Rule) (t : Tree) (p q : Place) → (kind x == kind y) ≡ true → rule_of na da own x ≡ Rb y → says_rule na words x ≡ true → says_rule nb words y ≡ true → IsPlain (rule_of na da own x) →
      stands t x p ≡ true → stands t y q ≡ true → (x ≡ y) × (p ≡ q)
  by-kind (r.By n0a) (r.By n0b) t p q k e sx sy plain hx hy =
      let h : name_of na n0a ∷ [] ≡ Nb n0b ∷ [] = same-parts _ _ _ _ e in
      let ps : Each IsPlain (name_of na n0a ∷ []) = parts-plain _ _ plain in
      let r0 : n0a ≡ n0b = same-name na nb alike.names n0a n0b (same-head _ _ _ _ h) ps.0 in
      (λ i. r.By (r0 i), same-place p q t hx hy)
  by-kind r.Close r.Close t p q k e sx sy plain hx hy =
      (refl, same-place p q t hx hy)
  by-kind (r.Split' _ (script s0a s0ap last) _ (script s1a s1ap last)) (r.Split' _ (script s0b s0bp last) _ (script s1b s1bp last)) t p q k e sx sy plain hx hy =
      let h : rule_of na da own s0a ∷ rule_of na da own s1a ∷ [] ≡ Rb s0b ∷ Rb s1b ∷ [] = same-parts _ _ _ _ e in
      let ps : Each IsPlain (rule_of na da own s0a ∷ rule_of na da own s1a ∷ []) = parts-plain _ _ plain in
      let e0 : rule_of na da own s0a ≡ Rb s0b = same-head _ _ _ _ h in
      let r0 = by-kind s0a s0b (part_at t 1) s0ap s0bp (same-kind s0a s0b e0) e0 (first _ _ sx) (first _ _ sy) ps.0 (first _ _ (second _ _ hx)) (first _ _ (second _ _ hy)) in
      let e1 : rule_of na da own s1a ≡ Rb s1b = same-head _ _ _ _ (same-tail _ _ _ _ h) in
      let r1 = by-kind s1a s1b (part_at t 2) s1ap s1bp (same-kind s1a s1b e1) e1 (second _ _ sx) (second _ _ sy) ps.1.0 (second _ _ (second _ _ hx)) (second _ _ (second _ _ hy)) in
      (λ i. r.Split' tt (script (r0.0 i) (r0.1 i) last) tt (script (r1.0 i) (r1.1 i) last), same-place p q t (first _ _ hx) (first _ _ hy))
  by-kind (r.Pick' k0a _ (script s1a s1ap last)) (r.Pick' k0b _ (script s1b s1bp last)) t p q k e sx sy plain hx hy =
      let h : number (pos k0a) ∷ rule_of na da own s1a ∷ [] ≡ number (pos k0b) ∷ Rb s1b ∷ [] = same-parts _ _ _ _ e in
      let ps : Each IsPlain (number (pos k0a) ∷ rule_of na da own s1a ∷ []) = parts-plain _ _ plain in
      let r0 : k0a ≡ k0b = same-part k0a k0b (same-head _ _ _ _ h) in
      let e1 : rule_of na da own s1a ≡ Rb s1b = same-head _ _ _ _ (same-tail _ _ _ _ h) in
      let r1 = by-kind s1a s1b (part_at t 2) s1ap s1bp (same-kind s1a s1b e1) e1 sx sy ps.1.0 (second _ _ hx) (second _ _ hy) in
      (λ i. r.Pick' (r0 i) tt (script (r1.0 i) (r1.1 i) last), same-place p q t (first _ _ hx) (first _ _ hy))
  by-kind (r.Intro' n0a _ (script s1a s1ap last)) (r.Intro' n0b _ (script s1b s1bp last)) t p q k e sx sy plain hx hy =
      let h : name_of na n0a ∷ rule_of na da own s1a ∷ [] ≡ Nb n0b ∷ Rb s1b ∷ [] = same-parts _ _ _ _ e in
      let ps : Each IsPlain (name_of na n0a ∷ rule_of na da own s1a ∷ []) = parts-plain _ _ plain in
      let r0 : n0a ≡ n0b = same-name na nb alike.names n0a n0b (same-head _ _ _ _ h) ps.0 in
      let e1 : rule_of na da own s1a ≡ Rb s1b = same-head _ _ _ _ (same-tail _ _ _ _ h) in
      let r1 = by-kind s1a s1b (part_at t 2) s1ap s1bp (same-kind s1a s1b e1) e1 sx sy ps.1.0 (second _ _ hx) (second _ _ hy) in
      (λ i. r.Intro' (r0 i) tt (script (r1.0 i) (r1.1 i) last), same-place p q t (first _ _ hx) (first _ _ hy))
  by-kind (r.Open' n0a _ (script s1a s1ap last)) (r.Open' n0b _ (script s1b s1bp last)) t p q k e sx sy plain hx hy =
      let h : name_of na n0a ∷ rule_of na da own s1a ∷ [] ≡ Nb n0b ∷ Rb s1b ∷ [] = same-parts _ _ _ _ e in
      let ps : Each IsPlain (name_of na n0a ∷ rule_of na da own s1a ∷ []) = parts-plain _ _ plain in
      let r0 : n0a ≡ n0b = same-name na nb alike.names n0a n0b (same-head _ _ _ _ h) ps.0 in
      let e1 : rule_of na da own s1a ≡ Rb s1b = same-head _ _ _ _ (same-tail _ _ _ _ h) in
      let r1 = by-kind s1a s1b (part_at t 2) s1ap s1bp (same-kind s1a s1b e1) e1 sx sy ps.1.0 (second _ _ hx) (second _ _ hy) in
      (λ i. r.Open' (r0 i) tt (script (r1.0 i) (r1.1 i) last), same-place p q t (first _ _ hx) (first _ _ hy))
  by-kind (r.Give' g0a _ (script s1a s1ap last)) (r.Give' g0b _ (script s1b s1bp last)) t p q k e sx sy plain hx hy =
      let h : given_of na da own g0a ∷ rule_of na da own s1a ∷ [] ≡ Gb g0b ∷ Rb s1b ∷ [] = same-parts _ _ _ _ e in
      let ps : Each IsPlain (given_of na da own g0a ∷ rule_of na da own s1a ∷ []) = parts-plain _ _ plain in
      let r0 : g0a ≡ g0b = same-given g0a g0b (same-head _ _ _ _ h) (first _ _ sx) (first _ _ sy) ps.0 in
      let e1 : rule_of na da own s1a ≡ Rb s1b = same-head _ _ _ _ (same-tail _ _ _ _ h) in
      let r1 = by-kind s1a s1b (part_at t 2) s1ap s1bp (same-kind s1a s1b e1) e1 (second _ _ sx) (second _ _ sy) ps.1.0 (second _ _ hx) (second _ _ hy) in
      (λ i. r.Give' (r0 i) tt (script (r1.0 i) (r1.1 i) last), same-place p q t (first _ _ hx) (first _ _ hy))
  by-kind (r.Parts' n0a n1a n2a _ (script s3a s3ap last)) (r.Parts' n0b n1b n2b _ (script s3b s3bp last)) t p q k e sx sy plain hx hy =
      let h : name_of na n0a ∷ name_of na n1a ∷ name_of na n2a ∷ rule_of na da own s3a ∷ [] ≡ Nb n0b ∷ Nb n1b ∷ Nb n2b ∷ Rb s3b ∷ [] = same-parts _ _ _ _ e in
      let ps : Each IsPlain (name_of na n0a ∷ name_of na n1a ∷ name_of na n2a ∷ rule_of na da own s3a ∷ []) = parts-plain _ _ plain in
      let r0 : n0a ≡ n0b = same-name na nb alike.names n0a n0b (same-head _ _ _ _ h) ps.0 in
      let r1 : n1a ≡ n1b = same-name na nb alike.names n1a n1b (same-head _ _ _ _ (same-tail _ _ _ _ h)) ps.1.0 in
      let r2 : n2a ≡ n2b = same-name na nb alike.names n2a n2b (same-head _ _ _ _ (same-tail _ _ _ _ (same-tail _ _ _ _ h))) ps.1.1.0 in
      let e3 : rule_of na da own s3a ≡ Rb s3b = same-head _ _ _ _ (same-tail _ _ _ _ (same-tail _ _ _ _ (same-tail _ _ _ _ h))) in
      let r3 = by-kind s3a s3b (part_at t 4) s3ap s3bp (same-kind s3a s3b e3) e3 sx sy ps.1.1.1.0 (second _ _ hx) (second _ _ hy) in
      (λ i. r.Parts' (r0 i) (r1 i) (r2 i) tt (script (r3.0 i) (r3.1 i) last), same-place p q t (first _ _ hx) (first _ _ hy))
  by-kind (r.Cases' n0a n1a _ (script s2a s2ap last) _ (script s3a s3ap last)) (r.Cases' n0b n1b _ (script s2b s2bp last) _ (script s3b s3bp last)) t p q k e sx sy plain hx hy =
      let h : name_of na n0a ∷ name_of na n1a ∷ rule_of na da own s2a ∷ rule_of na da own s3a ∷ [] ≡ Nb n0b ∷ Nb n1b ∷ Rb s2b ∷ Rb s3b ∷ [] = same-parts _ _ _ _ e in
      let ps : Each IsPlain (name_of na n0a ∷ name_of na n1a ∷ rule_of na da own s2a ∷ rule_of na da own s3a ∷ []) = parts-plain _ _ plain in
      let r0 : n0a ≡ n0b = same-name na nb alike.names n0a n0b (same-head _ _ _ _ h) ps.0 in
      let r1 : n1a ≡ n1b = same-name na nb alike.names n1a n1b (same-head _ _ _ _ (same-tail _ _ _ _ h)) ps.1.0 in
      let e2 : rule_of na da own s2a ≡ Rb s2b = same-head _ _ _ _ (same-tail _ _ _ _ (same-tail _ _ _ _ h)) in
      let r2 = by-kind s2a s2b (part_at t 3) s2ap s2bp (same-kind s2a s2b e2) e2 (first _ _ sx) (first _ _ sy) ps.1.1.0 (first _ _ (second _ _ hx)) (first _ _ (second _ _ hy)) in
      let e3 : rule_of na da own s3a ≡ Rb s3b = same-head _ _ _ _ (same-tail _ _ _ _ (same-tail _ _ _ _ (same-tail _ _ _ _ h))) in
      let r3 = by-kind s3a s3b (part_at t 4) s3ap s3bp (same-kind s3a s3b e3) e3 (second _ _ sx) (second _ _ sy) ps.1.1.1.0 (second _ _ (second _ _ hx)) (second _ _ (second _ _ hy)) in
      (λ i. r.Cases' (r0 i) (r1 i) tt (script (r2.0 i) (r2.1 i) last) tt (script (r3.0 i) (r3.1 i) last), same-place p q t (first _ _ hx) (first _ _ hy))
  by-kind (r.Apply' n0a n1a _ (script s2a s2ap last) _ (script s3a s3ap last)) (r.Apply' n0b n1b _ (script s2b s2bp last) _ (script s3b s3bp last)) t p q k e sx sy plain hx hy =
      let h : name_of na n0a ∷ name_of na n1a ∷ rule_of na da own s2a ∷ rule_of na da own s3a ∷ [] ≡ Nb n0b ∷ Nb n1b ∷ Rb s2b ∷ Rb s3b ∷ [] = same-parts _ _ _ _ e in
      let ps : Each IsPlain (name_of na n0a ∷ name_of na n1a ∷ rule_of na da own s2a ∷ rule_of na da own s3a ∷ []) = parts-plain _ _ plain in
      let r0 : n0a ≡ n0b = same-name na nb alike.names n0a n0b (same-head _ _ _ _ h) ps.0 in
      let r1 : n1a ≡ n1b = same-name na nb alike.names n1a n1b (same-head _ _ _ _ (same-tail _ _ _ _ h)) ps.1.0 in
      let e2 : rule_of na da own s2a ≡ Rb s2b = same-head _ _ _ _ (same-tail _ _ _ _ (same-tail _ _ _ _ h)) in
      let r2 = by-kind s2a s2b (part_at t 3) s2ap s2bp (same-kind s2a s2b e2) e2 (first _ _ sx) (first _ _ sy) ps.1.1.0 (first _ _ (second _ _ hx)) (first _ _ (second _ _ hy)) in
      let e3 : rule_of na da own s3a ≡ Rb s3b = same-head _ _ _ _ (same-tail _ _ _ _ (same-tail _ _ _ _ (same-tail _ _ _ _ h))) in
      let r3 = by-kind s3a s3b (part_at t 4) s3ap s3bp (same-kind s3a s3b e3) e3 (second _ _ sx) (second _ _ sy) ps.1.1.1.0 (second _ _ (second _ _ hx)) (second _ _ (second _ _ hy)) in
      (λ i. r.Apply' (r0 i) (r1 i) tt (script (r2.0 i) (r2.1 i) last) tt (script (r3.0 i) (r3.1 i) last), same-place p q t (first _ _ hx) (first _ _ hy))
  by-kind (r.Inst' n0a g1a n2a _ (script s3a s3ap last)) (r.Inst' n0b g1b n2b _ (script s3b s3bp last)) t p q k e sx sy plain hx hy =
      let h : name_of na n0a ∷ given_of na da own g1a ∷ name_of na n2a ∷ rule_of na da own s3a ∷ [] ≡ Nb n0b ∷ Gb g1b ∷ Nb n2b ∷ Rb s3b ∷ [] = same-parts _ _ _ _ e in
      let ps : Each IsPlain (name_of na n0a ∷ given_of na da own g1a ∷ name_of na n2a ∷ rule_of na da own s3a ∷ []) = parts-plain _ _ plain in
      let r0 : n0a ≡ n0b = same-name na nb alike.names n0a n0b (same-head _ _ _ _ h) ps.0 in
      let r1 : g1a ≡ g1b = same-given g1a g1b (same-head _ _ _ _ (same-tail _ _ _ _ h)) (first _ _ sx) (first _ _ sy) ps.1.0 in
      let r2 : n2a ≡ n2b = same-name na nb alike.names n2a n2b (same-head _ _ _ _ (same-tail _ _ _ _ (same-tail _ _ _ _ h))) ps.1.1.0 in
      let e3 : rule_of na da own s3a ≡ Rb s3b = same-head _ _ _ _ (same-tail _ _ _ _ (same-tail _ _ _ _ (same-tail _ _ _ _ h))) in
      let r3 = by-kind s3a s3b (part_at t 4) s3ap s3bp (same-kind s3a s3b e3) e3 (second _ _ sx) (second _ _ sy) ps.1.1.1.0 (second _ _ hx) (second _ _ hy) in
      (λ i. r.Inst' (r0 i) (r1 i) (r2 i) tt (script (r3.0 i) (r3.1 i) last), same-place p q t (first _ _ hx) (first _ _ hy))
  by-kind (r.Unpack' n0a n1a n2a _ (script s3a s3ap last)) (r.Unpack' n0b n1b n2b _ (script s3b s3bp last)) t p q k e sx sy plain hx hy =
      let h : name_of na n0a ∷ name_of na n1a ∷ name_of na n2a ∷ rule_of na da own s3a ∷ [] ≡ Nb n0b ∷ Nb n1b ∷ Nb n2b ∷ Rb s3b ∷ [] = same-parts _ _ _ _ e in
      let ps : Each IsPlain (name_of na n0a ∷ name_of na n1a ∷ name_of na n2a ∷ rule_of na da own s3a ∷ []) = parts-plain _ _ plain in
      let r0 : n0a ≡ n0b = same-name na nb alike.names n0a n0b (same-head _ _ _ _ h) ps.0 in
      let r1 : n1a ≡ n1b = same-name na nb alike.names n1a n1b (same-head _ _ _ _ (same-tail _ _ _ _ h)) ps.1.0 in
      let r2 : n2a ≡ n2b = same-name na nb alike.names n2a n2b (same-head _ _ _ _ (same-tail _ _ _ _ (same-tail _ _ _ _ h))) ps.1.1.0 in
      let e3 : rule_of na da own s3a ≡ Rb s3b = same-head _ _ _ _ (same-tail _ _ _ _ (same-tail _ _ _ _ (same-tail _ _ _ _ h))) in
      let r3 = by-kind s3a s3b (part_at t 4) s3ap s3bp (same-kind s3a s3b e3) e3 sx sy ps.1.1.1.0 (second _ _ hx) (second _ _ hy) in
      (λ i. r.Unpack' (r0 i) (r1 i) (r2 i) tt (script (r3.0 i) (r3.1 i) last), same-place p q t (first _ _ hx) (first _ _ hy))
  by-kind (r.Have' f0a n1a _ (script s2a s2ap last) _ (script s3a s3ap last)) (r.Have' f0b n1b _ (script s2b s2bp last) _ (script s3b s3bp last)) t p q k e sx sy plain hx hy =
      let h : formula_of na da own f0a ∷ name_of na n1a ∷ rule_of na da own s2a ∷ rule_of na da own s3a ∷ [] ≡ Fb f0b ∷ Nb n1b ∷ Rb s2b ∷ Rb s3b ∷ [] = same-parts _ _ _ _ e in
      let ps : Each IsPlain (formula_of na da own f0a ∷ name_of na n1a ∷ rule_of na da own s2a ∷ rule_of na da own s3a ∷ []) = parts-plain _ _ plain in
      let r0 : f0a ≡ f0b = same-formula na nb (of_labels own da.labels) (of_labels own db.labels) da.inst db.inst alike words f0a f0b (same-head _ _ _ _ h) (first _ _ sx) (first _ _ sy) ps.0 in
      let r1 : n1a ≡ n1b = same-name na nb alike.names n1a n1b (same-head _ _ _ _ (same-tail _ _ _ _ h)) ps.1.0 in
      let e2 : rule_of na da own s2a ≡ Rb s2b = same-head _ _ _ _ (same-tail _ _ _ _ (same-tail _ _ _ _ h)) in
      let r2 = by-kind s2a s2b (part_at t 3) s2ap s2bp (same-kind s2a s2b e2) e2 (first _ _ (second _ _ sx)) (first _ _ (second _ _ sy)) ps.1.1.0 (first _ _ (second _ _ hx)) (first _ _ (second _ _ hy)) in
      let e3 : rule_of na da own s3a ≡ Rb s3b = same-head _ _ _ _ (same-tail _ _ _ _ (same-tail _ _ _ _ (same-tail _ _ _ _ h))) in
      let r3 = by-kind s3a s3b (part_at t 4) s3ap s3bp (same-kind s3a s3b e3) e3 (second _ _ (second _ _ sx)) (second _ _ (second _ _ sy)) ps.1.1.1.0 (second _ _ (second _ _ hx)) (second _ _ (second _ _ hy)) in
      (λ i. r.Have' (r0 i) (r1 i) tt (script (r2.0 i) (r2.1 i) last) tt (script (r3.0 i) (r3.1 i) last), same-place p q t (first _ _ hx) (first _ _ hy))
  by-kind (r.Decide' f0a n1a _ (script s2a s2ap last) _ (script s3a s3ap last)) (r.Decide' f0b n1b _ (script s2b s2bp last) _ (script s3b s3bp last)) t p q k e sx sy plain hx hy =
      let h : formula_of na da own f0a ∷ name_of na n1a ∷ rule_of na da own s2a ∷ rule_of na da own s3a ∷ [] ≡ Fb f0b ∷ Nb n1b ∷ Rb s2b ∷ Rb s3b ∷ [] = same-parts _ _ _ _ e in
      let ps : Each IsPlain (formula_of na da own f0a ∷ name_of na n1a ∷ rule_of na da own s2a ∷ rule_of na da own s3a ∷ []) = parts-plain _ _ plain in
      let r0 : f0a ≡ f0b = same-formula na nb (of_labels own da.labels) (of_labels own db.labels) da.inst db.inst alike words f0a f0b (same-head _ _ _ _ h) (first _ _ sx) (first _ _ sy) ps.0 in
      let r1 : n1a ≡ n1b = same-name na nb alike.names n1a n1b (same-head _ _ _ _ (same-tail _ _ _ _ h)) ps.1.0 in
      let e2 : rule_of na da own s2a ≡ Rb s2b = same-head _ _ _ _ (same-tail _ _ _ _ (same-tail _ _ _ _ h)) in
      let r2 = by-kind s2a s2b (part_at t 3) s2ap s2bp (same-kind s2a s2b e2) e2 (first _ _ (second _ _ sx)) (first _ _ (second _ _ sy)) ps.1.1.0 (first _ _ (second _ _ hx)) (first _ _ (second _ _ hy)) in
      let e3 : rule_of na da own s3a ≡ Rb s3b = same-head _ _ _ _ (same-tail _ _ _ _ (same-tail _ _ _ _ (same-tail _ _ _ _ h))) in
      let r3 = by-kind s3a s3b (part_at t 4) s3ap s3bp (same-kind s3a s3b e3) e3 (second _ _ (second _ _ sx)) (second _ _ (second _ _ sy)) ps.1.1.1.0 (second _ _ (second _ _ hx)) (second _ _ (second _ _ hy)) in
      (λ i. r.Decide' (r0 i) (r1 i) tt (script (r2.0 i) (r2.1 i) last) tt (script (r3.0 i) (r3.1 i) last), same-place p q t (first _ _ hx) (first _ _ hy))
  by-kind (r.Rewrite' n0a n1a _ (script s2a s2ap last)) (r.Rewrite' n0b n1b _ (script s2b s2bp last)) t p q k e sx sy plain hx hy =
      let h : name_of na n0a ∷ name_of na n1a ∷ rule_of na da own s2a ∷ [] ≡ Nb n0b ∷ Nb n1b ∷ Rb s2b ∷ [] = same-parts _ _ _ _ e in
      let ps : Each IsPlain (name_of na n0a ∷ name_of na n1a ∷ rule_of na da own s2a ∷ []) = parts-plain _ _ plain in
      let r0 : n0a ≡ n0b = same-name na nb alike.names n0a n0b (same-head _ _ _ _ h) ps.0 in
      let r1 : n1a ≡ n1b = same-name na nb alike.names n1a n1b (same-head _ _ _ _ (same-tail _ _ _ _ h)) ps.1.0 in
      let e2 : rule_of na da own s2a ≡ Rb s2b = same-head _ _ _ _ (same-tail _ _ _ _ (same-tail _ _ _ _ h)) in
      let r2 = by-kind s2a s2b (part_at t 3) s2ap s2bp (same-kind s2a s2b e2) e2 sx sy ps.1.1.0 (second _ _ hx) (second _ _ hy) in
      (λ i. r.Rewrite' (r0 i) (r1 i) tt (script (r2.0 i) (r2.1 i) last), same-place p q t (first _ _ hx) (first _ _ hy))
  by-kind (r.Reduce' n0a n1a _ (script s2a s2ap last)) (r.Reduce' n0b n1b _ (script s2b s2bp last)) t p q k e sx sy plain hx hy =
      let h : name_of na n0a ∷ name_of na n1a ∷ rule_of na da own s2a ∷ [] ≡ Nb n0b ∷ Nb n1b ∷ Rb s2b ∷ [] = same-parts _ _ _ _ e in
      let ps : Each IsPlain (name_of na n0a ∷ name_of na n1a ∷ rule_of na da own s2a ∷ []) = parts-plain _ _ plain in
      let r0 : n0a ≡ n0b = same-name na nb alike.names n0a n0b (same-head _ _ _ _ h) ps.0 in
      let r1 : n1a ≡ n1b = same-name na nb alike.names n1a n1b (same-head _ _ _ _ (same-tail _ _ _ _ h)) ps.1.0 in
      let e2 : rule_of na da own s2a ≡ Rb s2b = same-head _ _ _ _ (same-tail _ _ _ _ (same-tail _ _ _ _ h)) in
      let r2 = by-kind s2a s2b (part_at t 3) s2ap s2bp (same-kind s2a s2b e2) e2 sx sy ps.1.1.0 (second _ _ hx) (second _ _ hy) in
      (λ i. r.Reduce' (r0 i) (r1 i) tt (script (r2.0 i) (r2.1 i) last), same-place p q t (first _ _ hx) (first _ _ hy))
  by-kind (r.Range' t0a n1a _ (script s2a s2ap last)) (r.Range' t0b n1b _ (script s2b s2bp last)) t p q k e sx sy plain hx hy =
      let h : term_of na da own t0a ∷ name_of na n1a ∷ rule_of na da own s2a ∷ [] ≡ Tb t0b ∷ Nb n1b ∷ Rb s2b ∷ [] = same-parts _ _ _ _ e in
      let ps : Each IsPlain (term_of na da own t0a ∷ name_of na n1a ∷ rule_of na da own s2a ∷ []) = parts-plain _ _ plain in
      let r0 : t0a ≡ t0b = same-term na nb (of_labels own da.labels) (of_labels own db.labels) da.inst db.inst alike words t0a t0b (same-head _ _ _ _ h) (first _ _ sx) (first _ _ sy) ps.0 in
      let r1 : n1a ≡ n1b = same-name na nb alike.names n1a n1b (same-head _ _ _ _ (same-tail _ _ _ _ h)) ps.1.0 in
      let e2 : rule_of na da own s2a ≡ Rb s2b = same-head _ _ _ _ (same-tail _ _ _ _ (same-tail _ _ _ _ h)) in
      let r2 = by-kind s2a s2b (part_at t 3) s2ap s2bp (same-kind s2a s2b e2) e2 (second _ _ sx) (second _ _ sy) ps.1.1.0 (second _ _ hx) (second _ _ hy) in
      (λ i. r.Range' (r0 i) (r1 i) tt (script (r2.0 i) (r2.1 i) last), same-place p q t (first _ _ hx) (first _ _ hy))
  by-kind (r.Linear c0a o1a) (r.Linear c0b o1b) t p q k e sx sy plain hx hy =
      let h : certificate_of na c0a ∷ second_of na o1a ≡ Cb c0b ∷ Ob o1b = same-parts _ _ _ _ e in
      let ps : Each IsPlain (certificate_of na c0a ∷ second_of na o1a) = parts-plain _ _ plain in
      let r0 : c0a ≡ c0b = same-certificate na nb alike.names c0a c0b (same-head _ _ _ _ h) ps.0 in
      let r1 : o1a ≡ o1b = same-second na nb alike.names o1a o1b (same-tail _ _ _ _ h) ps.1 in
      (λ i. r.Linear (r0 i) (r1 i), same-place p q t hx hy)
  by-kind _ _ t p q k e sx sy plain hx hy = absurd (apart k)

  pub same-rule : (x y : Rule) (t : Tree) (p q : Place) → rule_of na da own x ≡ rule_of nb db own y → says_rule na words x ≡ true → says_rule nb words y ≡ true → IsPlain (rule_of na da own x) →
      stands t x p ≡ true → stands t y q ≡ true → (x ≡ y) × (p ≡ q)
  same-rule x y t p q e sx sy plain hx hy = by-kind x y t p q (same-kind x y e) e sx sy plain hx hy
