-- The uses and the names of a sum, part by part.
use Rattle.std.proofs.Common.{◌≡◌, ℕ, zero, suc, ◌+◌, Bool, true, false, ◌&&◌, ◌||◌, if◌then◌else◌, take, slice_get, add-one, List, [], ◌∷◌, map, length, Option, Some, None, is_none, Result, Ok, Err, is_ok, IfOk, refl, ◌∙◌, ap}
use Rattle.std.specs.List.{list_any}
use mathlib.Core.Former.{Count}
use Rattle.dl_linear.specs.declared.certificate.Multiple.{Multiple}
use Rattle.dl_linear.specs.declared.certificate.Certificate.{Certificate, Sum}
use Rattle.dl_linear.specs.declared.certificate.Certificate.TheBlock.{Sum', Row_of-Multiple as Parts, more_of-Multiple as more, end_of-Multiple as none, items-the_row-Multiple as items, items_hidden-the_row-Multiple-0 as items_hidden}
use Rattle.dl_term.specs.declared.syntax.Term.{Term}
use Rattle.dl_term.specs.declared.syntax.Formula.{Formula, Eq}
use Rattle.dl_model.specs.declared.sequent.Hypothesis.{Hypothesis}
use Rattle.dl_linear.specs.declared.certificate.CertFault.{CertFault}
use Rattle.dl_linear.specs.declared.line.Lines.{Lines}
use Rattle.dl_linear.specs.Rows.{verdict, answer}
use Rattle.dl_linear.specs.Forms.{Sides, lines_from, are_narrow}
use Rattle.dl_kernel.specs.Lines.{uses, uses_in, numbered, numbered_in, renumbered, refutes, lines_if_narrow, denied_sides, linear_closes}

abbrev parts_of : Certificate → (n : Count) × Parts n
parts_of (Sum' _ parts) = (_, parts)
parts_of _ = (_, none)

uses_in-items : (name : ℕ) (n : Count) (parts : Parts n) → uses_in name parts ≡ list_any (λ (m : Multiple). uses name m.certificate) (items n parts)
uses_in-items name n none = refl
uses_in-items name n (more k c rest) = ap (λ b. uses name c || b) (uses_in-items name _ rest)

pub uses-sum : (name : ℕ) (ms : List Multiple) → uses name (Sum ms) ≡ list_any (λ (m : Multiple). uses name m.certificate) ms
uses-sum name ms =
    let row = parts_of (Sum ms) in
    uses_in-items name row.0 row.1 ∙ ap (list_any (λ (m : Multiple). uses name m.certificate)) (items_hidden ms)

numbered_in-items : (facts : List Hypothesis) (n : Count) (parts : Parts n) → numbered_in facts parts ≡ map (renumbered facts) (items n parts)
numbered_in-items facts n none = refl
numbered_in-items facts n (more k c rest) = ap (λ ms. record { factor = k; certificate = numbered facts c } ∷ ms) (numbered_in-items facts _ rest)

pub numbered-sum : (facts : List Hypothesis) (ms : List Multiple) → numbered facts (Sum ms) ≡ Sum (map (renumbered facts) ms)
numbered-sum facts ms =
    let row = parts_of (Sum ms) in
    ap Sum (numbered_in-items facts row.0 row.1 ∙ ap (map (renumbered facts)) (items_hidden ms))

-- a goal that is no equation takes one certificate
pub one-closes : (facts : List Hypothesis) (goal : Formula) (first : Certificate) → ((a b : Term) → goal ≡ Eq a b → ⊥) → refutes facts (denied_sides goal) first ≡ linear_closes facts goal first None
one-closes facts (Eq a b) first unequal = absurd (unequal a b refl)
one-closes facts _ first unequal = refl

pub two-close-none : (facts : List Hypothesis) (goal : Formula) (first second : Certificate) → ((a b : Term) → goal ≡ Eq a b → ⊥) → false ≡ linear_closes facts goal first (Some second)
two-close-none facts (Eq a b) first second unequal = absurd (unequal a b refl)
two-close-none facts _ first second unequal = refl

-- what the check of a certificate says of the lines that are made
pub refutes-lines : (rows : List (Option Sides)) (lines : Lines) (cert : Certificate) (checked : Result (Unit {0}) CertFault) → Some lines ≡ lines_if_narrow rows → checked ≡ answer (verdict (length lines.atoms) lines.rows cert) → is_ok checked ≡ (are_narrow rows && is_none (verdict (length (lines_from rows).atoms) (lines_from rows).rows cert))
refutes-lines rows lines cert checked made is = by_test (are_narrow rows) made
  where
    fine : (v : Option CertFault) → is_ok (answer v) ≡ is_none v
    fine None = refl
    fine (Some f) = refl

    by_test : (b : Bool) → Some lines ≡ (if b then Some (lines_from rows) else None) → is_ok checked ≡ (b && is_none (verdict (length (lines_from rows).atoms) (lines_from rows).rows cert))
    by_test true e =
        let same : lines ≡ lines_from rows = cc in
        ap is_ok is ∙ fine (verdict (length lines.atoms) lines.rows cert) ∙ ap (λ (ls : Lines). is_none (verdict (length ls.atoms) ls.rows cert)) same
    by_test false e = absurd (cc)

-- two tests, one after the other
pub first-fails : (a b : Bool) → a ≡ false → false ≡ (a && b)
first-fails true b h = absurd (cc)
first-fails false b h = refl

pub first-passes : {E : Type 0} (r : Result Bool E) (a b : Bool) → a ≡ true → IfOk r (λ fine. fine ≡ b) → IfOk r (λ fine. fine ≡ (a && b))
first-passes (Ok fine) true b t h = h
first-passes (Ok fine) false b t h = absurd (cc)
first-passes (Err e) a b t h = tt

-- a loop that looks for an element that passes
pub any-found : {X : Type 0} (p : X → Bool) (xs : List X) (k : ℕ) (x : X) → slice_get xs k ≡ Some x → p x ≡ true → list_any p xs ≡ true
any-found p [] k x e test = cc
any-found p (y ∷ ys) zero x e test = let is : y ≡ x = cc in ap (λ z. p z || list_any p ys) is ∙ ap (λ b. b || list_any p ys) test
any-found p (y ∷ ys) (suc k) x e test = by_test (p y) (any-found p ys k x e test)
  where
    by_test : (b : Bool) → list_any p ys ≡ true → (b || list_any p ys) ≡ true
    by_test true h = refl
    by_test false h = h

pub any-next : {X : Type 0} (p : X → Bool) (xs : List X) (k : ℕ) (x : X) → list_any p (take k xs) ≡ false → slice_get xs k ≡ Some x → p x ≡ false → list_any p (take (k + 1) xs) ≡ false
any-next p xs k x h e test = rw add-one (go xs k h e)
  where
    go : (xs : List _) (k : ℕ) → list_any p (take k xs) ≡ false → slice_get xs k ≡ Some x → list_any p (take (suc k) xs) ≡ false
    go [] k h e = cc
    go (y ∷ ys) zero h e = let is : y ≡ x = cc in ap (λ z. p z || false) is ∙ ap (λ b. b || false) test
    go (y ∷ ys) (suc k) h e = by_test (p y) h (λ rest. go ys k rest e)
      where
        by_test : (b : Bool) → (b || list_any p (take k ys)) ≡ false → (list_any p (take k ys) ≡ false → list_any p (take (suc k) ys) ≡ false) → (b || list_any p (take (suc k) ys)) ≡ false
        by_test true h ih = cc
        by_test false h ih = ih h
