-- Numbers that meet rows meet what a certificate makes of them, so no numbers meet rows that lead to a contradiction.
use Rattle.std.proofs.Common.{◌≡◌, ℕ, zero, suc, ◌<◌, ℤ, pos, negsuc, ◌+ℤ◌, ◌*ℤ◌, ◌≤ℤ◌, int_lt, Bool, true, false, not, ◌&&◌, if◌then◌else◌, List, [], ◌∷◌, Option, Some, None, IfSome, is_some, refl, sym, ◌∙◌, ap, subst, arith}
use Rattle.std.specs.Int.{int_div_euclid, int_rem_euclid}
use Rattle.std.specs.Ordering.{int_eq}
use Rattle.std.specs.List.{All}
use Rattle.std.proofs.lemmas.List.Elements.{All-head, All-tail, All-nil, All-cons}
use Rattle.std.proofs.lemmas.Int.{ints}
use Rattle.std.proofs.lemmas.Bool.Decides.{Decides-int_eq}
use borrow.Author.Tests.{ltb-true}
use borrow.Author.Differences.{product_is}
use Rattle.dl_term.specs.Meaning.{every_below}
use Rattle.dl_linear.specs.declared.line.Line.{Line}
use Rattle.dl_linear.specs.declared.certificate.CertFault.{CertFault}
use Rattle.dl_linear.specs.declared.certificate.CertFault.TheVariants.{NoLine, NegativeMultiplier, NotDivisible, TooWide, NotContradiction}
use Rattle.dl_linear.specs.declared.certificate.Certificate.{Certificate}
use Rattle.dl_linear.specs.declared.certificate.Certificate.TheBlock.{Use, Sum', Div', more_of-Certificate as one, end_of-Certificate as end, Row_of-Multiple as Parts, more_of-Multiple as more, end_of-Multiple as none}
use Rattle.dl_linear.specs.Rows.{Row, dot, Meets, row_of, MeetsRows, unless, row_fits, no_sum, plus, sum_onto, quotient, row_at, found_row, made, made_of, sum_fault, divides, fault, fault_in, is_contradiction, verdict}
use Rattle.dl_linear.proofs.Whole.{add-multiple, times-le, quotient-is, quotient-above, sum-times, assoc}
use Rattle.dl_linear.proofs.Parts.{first-none}
use Rattle.dl_linear.proofs.Truth.{and-left, and-right}

pub dot-plus : (n : ℕ) (a : Row) (k : ℤ) (c : Row) (x : ℕ → ℤ) → dot n (plus a (k, c)).coef x ≡ dot n a.coef x +ℤ k *ℤ dot n c.coef x
dot-plus zero a k c x = omega (arith, ints, product_is k (pos 0))
dot-plus (suc n) a k c x =
    ap (λ s. s +ℤ (a.coef n +ℤ k *ℤ c.coef n) *ℤ x n) (dot-plus n a k c x)
    ∙ add-multiple (dot n a.coef x) (dot n c.coef x) k (a.coef n) (c.coef n) (x n)

pub dot-none : (n : ℕ) (x : ℕ → ℤ) → dot n (λ j. pos 0) x ≡ pos 0
dot-none zero x = refl
dot-none (suc n) x = omega (arith, ints, dot-none n x, product_is (pos 0) (x n))

-- the bound of a sum, by the sign of the multiplier
bound-plus : (k A B a b : ℤ) (equal : Bool) → (int_lt k (pos 0) && not equal) ≡ false → A ≤ℤ a → B ≤ℤ b → (equal ≡ true → B ≡ b) → (A +ℤ k *ℤ B) ≤ℤ (a +ℤ k *ℤ b)
bound-plus (pos k) A B a b equal h p q e = let le = times-le k B b q in omega (arith, ints)
bound-plus (negsuc k) A B a b true h p q e = let same = ap (λ z. negsuc k *ℤ z) (e refl) in omega (arith, ints, same)
bound-plus (negsuc k) A B a b false h p q e = cc

pub plus-met : (n : ℕ) (x : ℕ → ℤ) (a : Row) (k : ℤ) (c : Row) → (int_lt k (pos 0) && not c.equal) ≡ false → Meets n x a → Meets n x c → Meets n x (plus a (k, c))
plus-met n x a k c sign p q = record {
  at_most = rw (dot-plus n a k c x) (bound-plus k _ _ a.bound c.bound c.equal sign p.at_most q.at_most q.equals);
  equals = λ both.
      dot-plus n a k c x
      ∙ (λ i. p.equals (and-left _ _ both) i +ℤ k *ℤ q.equals (and-right _ _ both) i);
}

pub dot-quotient : (n : ℕ) (d : ℕ) (row : Row) (x : ℕ → ℤ) → 0 < d → every_below n (λ j. int_eq (int_rem_euclid (row.coef j) (pos d)) (pos 0)) ≡ true → dot n row.coef x ≡ pos d *ℤ dot n (quotient (pos d) row).coef x
dot-quotient zero d row x h whole = omega (arith, ints, product_is (pos d) (pos 0))
dot-quotient (suc n) d row x h whole =
    let before = dot-quotient n d row x h (and-left _ _ whole) in
    let none : int_rem_euclid (row.coef n) (pos d) ≡ pos 0 = (Decides-int_eq (int_rem_euclid (row.coef n) (pos d)) (pos 0)).0 (and-right _ _ whole) in
    let parts = quotient-is (row.coef n) d h in
    let this : row.coef n ≡ pos d *ℤ int_div_euclid (row.coef n) (pos d) = omega (arith, ints, parts, none) in
    (λ i. before i +ℤ this i *ℤ x n)
    ∙ ap (λ z. pos d *ℤ dot n (quotient (pos d) row).coef x +ℤ z) (assoc (pos d) (int_div_euclid (row.coef n) (pos d)) (x n))
    ∙ sym (sum-times (pos d) (dot n (quotient (pos d) row).coef x) (int_div_euclid (row.coef n) (pos d) *ℤ x n))

quotient-met : (n : ℕ) (x : ℕ → ℤ) (d : ℤ) (row : Row) → divides n d row ≡ true → Meets n x row → Meets n x (quotient d row)
quotient-met n x (negsuc d) row h p = cc
quotient-met n x (pos zero) row h p = cc
quotient-met n x (pos (suc d)) row h p = record {
  at_most = quotient-above _ row.bound (suc d) (omega arith) (subst (λ z. z ≤ℤ row.bound) (dot-quotient n (suc d) row x (omega arith) (and-right _ _ h)) p.at_most);
  equals = λ never. cc;
}

pub sum-met : (n : ℕ) (x : ℕ → ℤ) (a : Row) (parts : List (ℤ × Row)) → sum_fault n a parts ≡ None → Meets n x a → All (λ p. Meets n x p.1) parts → Meets n x (sum_onto a parts)
sum-met n x a [] h p all = p
sum-met n x a (part ∷ parts) h p all =
    step (int_lt part.0 (pos 0) && not part.1.equal) (row_fits n (plus a part)) (sum-met n x (plus a part) parts) refl h
  where
    step : (sign wide : Bool) → (sum_fault n (plus a part) parts ≡ None → Meets n x (plus a part) → All (λ p. Meets n x p.1) parts → Meets n x (sum_onto (plus a part) parts)) → (int_lt part.0 (pos 0) && not part.1.equal) ≡ sign → (if sign then Some NegativeMultiplier else if wide then sum_fault n (plus a part) parts else Some TooWide) ≡ None → Meets n x (sum_onto (plus a part) parts)
    step true wide rest e f = cc
    step false false rest e f = cc
    step false true rest e f = rest f (plus-met n x a part.0 part.1 e p (All-head (λ q. Meets n x q.1) part parts all)) (All-tail (λ q. Meets n x q.1) part parts all)

no_sum-met : (n : ℕ) (x : ℕ → ℤ) → Meets n x no_sum
no_sum-met n x = record {
  at_most = omega (arith, ints, dot-none n x);
  equals = λ h. dot-none n x;
}

found-met : (n : ℕ) (x : ℕ → ℤ) (rows : List (Option Line)) (k : ℕ) → MeetsRows n x rows → (if is_some (row_at rows k) then None else Some NoLine) ≡ None → Meets n x (found_row (row_at rows k))
found-met n x [] k all h = cc
found-met n x (None ∷ rows) zero all h = cc
found-met n x (Some line ∷ rows) zero all h = All-head (λ line. IfSome line (λ l. Meets n x (row_of l))) (Some line) rows all
found-met n x (line ∷ rows) (suc k) all h = found-met n x rows k (All-tail (λ line. IfSome line (λ l. Meets n x (row_of l))) line rows all) h

pub passes : (test : Bool) (fault : CertFault) → unless test fault ≡ None → test ≡ true
passes true fault h = refl
passes false fault h = cc

mutual
  pub made-met : (n : ℕ) (x : ℕ → ℤ) (rows : List (Option Line)) (cert : Certificate) → MeetsRows n x rows → fault n rows cert ≡ None → Meets n x (made rows cert)
  made-met n x rows (Use k) all h = found-met n x rows k all h
  made-met n x rows (Sum' _ parts) all h =
      let each = first-none _ _ h in
      sum-met n x no_sum (made_of rows parts) each.1 (no_sum-met n x) (parts-met n x rows parts all each.0)
  made-met n x rows (Div' d _ (one c end)) all h =
      let each = first-none _ _ h in
      quotient-met n x d (made rows c) (passes (divides n d (made rows c)) NotDivisible each.1) (made-met n x rows c all each.0)

  parts-met : {k : _} (n : ℕ) (x : ℕ → ℤ) (rows : List (Option Line)) (parts : Parts k) → MeetsRows n x rows → fault_in n rows parts ≡ None → All (λ p. Meets n x p.1) (made_of rows parts)
  parts-met n x rows none all h = All-nil (λ p. Meets n x p.1)
  parts-met n x rows (more k c rest) all h =
      let each = first-none _ _ h in
      All-cons (λ p. Meets n x p.1) _ _ (made-met n x rows c all each.0) (parts-met n x rows rest all each.1)

dot-zero : (n : ℕ) (coef x : ℕ → ℤ) → every_below n (λ j. int_eq (coef j) (pos 0)) ≡ true → dot n coef x ≡ pos 0
dot-zero zero coef x h = refl
dot-zero (suc n) coef x h =
    let none : coef n ≡ pos 0 = (Decides-int_eq (coef n) (pos 0)).0 (and-right _ _ h) in
    (λ i. dot-zero n coef x (and-left _ _ h) i +ℤ none i *ℤ x n) ∙ omega (arith, ints, product_is (pos 0) (x n))

below-zero : (b : ℤ) → int_lt b (pos 0) ≡ true → pos 0 ≤ℤ b → ⊥
below-zero (pos b) h le = omega (arith, ltb-true)
below-zero (negsuc b) h le = omega (arith, ints)

-- where nothing is wrong no numbers meet all rows
pub no-solution : (n : ℕ) (rows : List (Option Line)) (cert : Certificate) → verdict n rows cert ≡ None → (x : ℕ → ℤ) → MeetsRows n x rows → ⊥
no-solution n rows cert h x all =
    let each = first-none _ _ h in
    let ends = passes (is_contradiction n (made rows cert)) NotContradiction each.1 in
    let met = made-met n x rows cert all each.0 in
    below-zero (made rows cert).bound (and-right _ _ ends) (subst (λ z. z ≤ℤ (made rows cert).bound) (dot-zero n (made rows cert).coef x (and-left _ _ ends)) met.at_most)
