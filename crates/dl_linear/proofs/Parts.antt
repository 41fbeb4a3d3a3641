-- The parts of a sum, as a list.
use Rattle.std.proofs.Common.{◌≡◌, ℕ, zero, suc, ◌+◌, ◌<◌, ℤ, pos, false, ◌&&◌, List, [], ◌∷◌, length, take, get_or, Option, Some, None, slice_get, refl, sym, ◌∙◌, ap, subst, add-one, arith, w64, of_z, Ok, Err}
use Rattle.std.specs.Ordering.{int_eq}
use Rattle.std.proofs.lemmas.Bool.Decides.{Decides-int_eq}
use mathlib.Core.Former.{Count}
use Rattle.dl_linear.specs.declared.line.Line.{Line}
use Rattle.dl_linear.specs.declared.certificate.CertFault.{CertFault}
use Rattle.dl_linear.specs.declared.certificate.Multiple.{Multiple}
use Rattle.dl_linear.specs.declared.certificate.Certificate.{Certificate, Sum}
use Rattle.dl_linear.specs.declared.certificate.Certificate.TheBlock.{Sum', Row_of-Multiple as Parts, more_of-Multiple as more, end_of-Multiple as none, items-the_row-Multiple as items, items_hidden-the_row-Multiple-0 as items_hidden}
use Rattle.dl_linear.specs.Rows.{Row, no_sum, plus, sum_onto, made, made_of, first_of, sum_fault, fault, fault_in, answer}
use Rattle.dl_linear.specs.Columns.{all_made, fault_of}
use Rattle.dl_linear.proofs.Truth.{and-false, bool-false}

abbrev parts_of : Certificate → (n : Count) × Parts n
parts_of (Sum' _ parts) = (_, parts)
parts_of _ = (_, none)

made_of-items : (rows : List (Option Line)) (n : Count) (parts : Parts n) → made_of rows parts ≡ all_made rows (items n parts)
made_of-items rows n none = refl
made_of-items rows n (more k c rest) = ap (λ xs. (k, made rows c) ∷ xs) (made_of-items rows _ rest)

fault_in-items : (w : ℕ) (rows : List (Option Line)) (n : Count) (parts : Parts n) → fault_in w rows parts ≡ fault_of w rows (items n parts)
fault_in-items w rows n none = refl
fault_in-items w rows n (more k c rest) = ap (λ f. first_of (fault w rows c) f) (fault_in-items w rows _ rest)

pub made-sum : (rows : List (Option Line)) (ms : List Multiple) → made rows (Sum ms) ≡ sum_onto no_sum (all_made rows ms)
made-sum rows ms =
    let row = parts_of (Sum ms) in
    ap (sum_onto no_sum) (made_of-items rows row.0 row.1 ∙ ap (all_made rows) (items_hidden ms))

pub fault-sum : (w : ℕ) (rows : List (Option Line)) (ms : List Multiple) → fault w rows (Sum ms) ≡ first_of (fault_of w rows ms) (sum_fault w no_sum (all_made rows ms))
fault-sum w rows ms =
    let row = parts_of (Sum ms) in
    let one = made_of-items rows row.0 row.1 ∙ ap (all_made rows) (items_hidden ms) in
    let two = fault_in-items w rows row.0 row.1 ∙ ap (fault_of w rows) (items_hidden ms) in
    λ i. first_of (two i) (sum_fault w no_sum (one i))

pub at-place : {X : Type 0} (xs : List X) (i : ℕ) (x : X) → i < length xs → x ≡ get_or xs i x → slice_get xs i ≡ Some x
at-place [] i x h e = absurd (omega arith)
at-place (y ∷ ys) zero x h e = ap Some (sym e)
at-place (y ∷ ys) (suc i) x h e = at-place ys i x (omega arith) e

pub first-none : (a b : Option CertFault) → first_of a b ≡ None → (a ≡ None) × (b ≡ None)
first-none None b h = (refl, h)
first-none (Some f) b h = cc

pub fault_of-at : (w : ℕ) (rows : List (Option Line)) (ms : List Multiple) (k : ℕ) (m : Multiple) → fault_of w rows ms ≡ None → slice_get ms k ≡ Some m → fault w rows m.certificate ≡ None
fault_of-at w rows [] k m h e = cc
fault_of-at w rows (x ∷ xs) zero m h e = let is : x ≡ m = cc in subst (λ (y : Multiple). fault w rows y.certificate ≡ None) is (first-none _ _ h).0
fault_of-at w rows (x ∷ xs) (suc k) m h e = fault_of-at w rows xs k m (first-none _ _ h).1 e

pub fault_of-take : (w : ℕ) (rows : List (Option Line)) (ms : List Multiple) (k : ℕ) → fault_of w rows ms ≡ None → fault_of w rows (take k ms) ≡ None
fault_of-take w rows [] zero h = refl
fault_of-take w rows [] (suc k) h = refl
fault_of-take w rows (x ∷ xs) zero h = refl
fault_of-take w rows (x ∷ xs) (suc k) h =
    let each = first-none _ _ h in
    λ i. first_of (each.0 i) (fault_of-take w rows xs k each.1 i)

pub fault_of-first : (w : ℕ) (rows : List (Option Line)) (ms : List Multiple) (k : ℕ) (m : Multiple) (f : CertFault) → fault_of w rows (take k ms) ≡ None → slice_get ms k ≡ Some m → fault w rows m.certificate ≡ Some f → fault_of w rows ms ≡ Some f
fault_of-first w rows [] k m f h e g = cc
fault_of-first w rows (x ∷ xs) zero m f h e g =
    let is : x ≡ m = cc in
    ap (λ (y : Multiple). first_of (fault w rows y.certificate) (fault_of w rows xs)) is ∙ ap (λ o. first_of o (fault_of w rows xs)) g
fault_of-first w rows (x ∷ xs) (suc k) m f h e g =
    let each = first-none _ _ h in
    ap (λ o. first_of o (fault_of w rows xs)) each.0 ∙ fault_of-first w rows xs k m f each.1 e g

pub fault_of-more : (w : ℕ) (rows : List (Option Line)) (ms : List Multiple) (k : ℕ) (m : Multiple) → fault_of w rows (take k ms) ≡ None → slice_get ms k ≡ Some m → fault w rows m.certificate ≡ None → fault_of w rows (take (k + 1) ms) ≡ None
fault_of-more w rows ms k m h e g = rw add-one (go ms k h e)
  where
    go : (ms : List Multiple) (k : ℕ) → fault_of w rows (take k ms) ≡ None → slice_get ms k ≡ Some m → fault_of w rows (take (suc k) ms) ≡ None
    go [] k h e = cc
    go (x ∷ xs) zero h e =
        let is : x ≡ m = cc in
        ap (λ (y : Multiple). first_of (fault w rows y.certificate) (fault_of w rows (take zero xs))) is ∙ ap (λ o. first_of o (fault_of w rows (take zero xs))) g
    go (x ∷ xs) (suc k) h e =
        let each = first-none _ _ h in
        λ i. first_of (each.0 i) (go xs k each.1 e i)

pub sum-more : (rows : List (Option Line)) (a : Row) (ms : List Multiple) (k : ℕ) (m : Multiple) → slice_get ms k ≡ Some m → sum_onto a (all_made rows (take (k + 1) ms)) ≡ plus (sum_onto a (all_made rows (take k ms))) (m.factor, made rows m.certificate)
sum-more rows a ms k m e = rw add-one (go a ms k e)
  where
    go : (a : Row) (ms : List Multiple) (k : ℕ) → slice_get ms k ≡ Some m → sum_onto a (all_made rows (take (suc k) ms)) ≡ plus (sum_onto a (all_made rows (take k ms))) (m.factor, made rows m.certificate)
    go a [] k e = cc
    go a (x ∷ xs) zero e = let is : x ≡ m = cc in ap (λ (y : Multiple). plus a (y.factor, made rows y.certificate)) is
    go a (x ∷ xs) (suc k) e = go (plus a (x.factor, made rows x.certificate)) xs k e

stays-unequal : (rows : List (Option Line)) (a : Row) (ms : List Multiple) → a.equal ≡ false → (sum_onto a (all_made rows ms)).equal ≡ false
stays-unequal rows a [] h = h
stays-unequal rows a (x ∷ xs) h = stays-unequal rows (plus a (x.factor, made rows x.certificate)) xs (ap (λ b. b && (made rows x.certificate).equal) h)

pub sum-unequal : (rows : List (Option Line)) (a : Row) (ms : List Multiple) (k : ℕ) (m : Multiple) → slice_get ms k ≡ Some m → (made rows m.certificate).equal ≡ false → (sum_onto a (all_made rows ms)).equal ≡ false
sum-unequal rows a [] k m e h = cc
sum-unequal rows a (x ∷ xs) zero m e h =
    let is : x ≡ m = cc in
    stays-unequal rows (plus a (x.factor, made rows x.certificate)) xs (and-false a.equal _ (subst (λ (y : Multiple). (made rows y.certificate).equal ≡ false) (sym is) h))
sum-unequal rows a (x ∷ xs) (suc k) m e h = sum-unequal rows (plus a (x.factor, made rows x.certificate)) xs k m e h

pub fault-parts : (w : ℕ) (rows : List (Option Line)) (ms : List Multiple) → fault w rows (Sum ms) ≡ None → (fault_of w rows ms ≡ None) × (sum_fault w no_sum (all_made rows ms) ≡ None)
fault-parts w rows ms h = first-none _ _ (sym (fault-sum w rows ms) ∙ h)

pub not-zero : (z x : ℤ) → z ≡ x → (of_z w64 z ≡ 0 → ⊥) → int_eq x (pos 0) ≡ false
not-zero z x e h = bool-false _ (λ t. h (ap (of_z w64) (e ∙ (Decides-int_eq x (pos 0)).0 t)))

-- what an answer says
pub answered-ok : (f : Option CertFault) → answer f ≡ Ok tt → f ≡ None
answered-ok None h = refl
answered-ok (Some f) h = cc

pub answered-err : (f : Option CertFault) (e : CertFault) → answer f ≡ Err e → f ≡ Some e
answered-err None e h = cc
answered-err (Some f) e h = let is : f ≡ e = cc in ap Some is
