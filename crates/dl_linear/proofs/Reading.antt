-- How the code reads a linear form, part by part.
use Rattle.std.proofs.Common.{◌≡◌, ◌+◌, ℕ, zero, suc, ℤ, ◌+ℤ◌, ◌-ℤ◌, ◌*ℤ◌, Bool, true, false, ◌&&◌, ◌||◌, if◌then◌else◌, List, [], ◌∷◌, take, slice_get, Option, Some, None, refl, sym, ◌∙◌, ap, add-one}
use Rattle.dl_term.specs.Syntax.{opened}
use Rattle.dl_term.specs.declared.syntax.Term.{Term, Num, Word, Var, Field', Row', Len, Msg, Add', Sub', Mul', If', Add, Sub, Mul, more_of-Term as one, end_of-Term as end}
use Rattle.dl_term.specs.Same.{same_term}
use Rattle.dl_linear.specs.Rows.{fits}
use Rattle.dl_linear.specs.Forms.{constant, product, atom_in, form, form_fits, is_among, with_atom, with_atoms}
use Rattle.dl_linear.specs.Columns.{narrow, both_narrow, narrow_form}
use Rattle.dl_linear.proofs.Truth.{or-false}

-- the operation on two numbers, each with its test
pub both-if : (op : ℤ → ℤ → ℤ) (p q : Bool) (a b : ℤ) → both_narrow op (if p then Some a else None) (if q then Some b else None) ≡ (if (p && q) && fits (op a b) then Some (op a b) else None)
both-if op true true a b = refl
both-if op true false a b = refl
both-if op false q a b = refl

pub form-add : (column : Option Term) (a b : Term) → both_narrow (λ x y. x +ℤ y) (narrow_form column a) (narrow_form column b) ≡ narrow_form column (Add a b)
unfolding opened
form-add column a b = both-if (λ x y. x +ℤ y) (form_fits column a) (form_fits column b) (form column a) (form column b)

pub form-sub : (column : Option Term) (a b : Term) → both_narrow (λ x y. x -ℤ y) (narrow_form column a) (narrow_form column b) ≡ narrow_form column (Sub a b)
unfolding opened
form-sub column a b = both-if (λ x y. x -ℤ y) (form_fits column a) (form_fits column b) (form column a) (form column b)

times-if : (k : ℤ) (q : Bool) (b : ℤ) → both_narrow (λ x y. x *ℤ y) (Some k) (if q then Some b else None) ≡ (if q && fits (k *ℤ b) then Some (k *ℤ b) else None)
times-if k true b = refl
times-if k false b = refl

product-left : (o p : Option ℤ) (k : ℤ) (fa fb : Bool) (a b atom : ℤ) → o ≡ Some k
    → both_narrow (λ x y. x *ℤ y) (Some k) (if fb then Some b else None)
    ≡ (if product (λ c part. part && fits (product (λ x y. x *ℤ y) o p a b atom)) o p fa fb true then Some (product (λ x y. x *ℤ y) o p a b atom) else None)
product-left (Some c) p k fa fb a b atom e = let is : c ≡ k = cc in times-if k fb b ∙ (λ i. if fb && fits (sym is i *ℤ b) then Some (sym is i *ℤ b) else None)
product-left None p k fa fb a b atom e = cc

product-right : (o p : Option ℤ) (k : ℤ) (fa fb : Bool) (a b atom : ℤ) → o ≡ None → p ≡ Some k
    → both_narrow (λ x y. x *ℤ y) (Some k) (if fa then Some a else None)
    ≡ (if product (λ c part. part && fits (product (λ x y. x *ℤ y) o p a b atom)) o p fa fb true then Some (product (λ x y. x *ℤ y) o p a b atom) else None)
product-right None (Some c) k fa fb a b atom h e = let is : c ≡ k = cc in times-if k fa a ∙ (λ i. if fa && fits (sym is i *ℤ a) then Some (sym is i *ℤ a) else None)
product-right None None k fa fb a b atom h e = cc
product-right (Some c) p k fa fb a b atom h e = cc

pub form-times : (column : Option Term) (a b : Term) (k : ℤ) → constant a ≡ Some k → both_narrow (λ x y. x *ℤ y) (Some k) (narrow_form column b) ≡ narrow_form column (Mul a b)
unfolding opened
form-times column a b k h = product-left (constant a) (constant b) k (form_fits column a) (form_fits column b) (form column a) (form column b) (atom_in column (Mul a b)) h

pub form-times-right : (column : Option Term) (a b : Term) (k : ℤ) → constant a ≡ None → constant b ≡ Some k → both_narrow (λ x y. x *ℤ y) (Some k) (narrow_form column a) ≡ narrow_form column (Mul a b)
unfolding opened
form-times-right column a b k h e = product-right (constant a) (constant b) k (form_fits column a) (form_fits column b) (form column a) (form column b) (atom_in column (Mul a b)) h e

-- a term that is no number, name, sum, difference or product is an atom
pub record IsAtom (t : Term) : Type 0 where
  pub number : (v : ℤ) → t ≡ Num v → ⊥
  pub word : (sym : ℕ) (v : ℤ) → t ≡ Word sym v → ⊥
  pub add : (a b : Term) → t ≡ Add a b → ⊥
  pub sub : (a b : Term) → t ≡ Sub a b → ⊥
  pub mul : (a b : Term) → t ≡ Mul a b → ⊥

pub form-atom : (column : Option Term) (t : Term) → IsAtom t → Some (atom_in column t) ≡ narrow_form column t
unfolding opened
form-atom column (Num v) h = absurd (h.number v refl)
form-atom column (Word sym v) h = absurd (h.word sym v refl)
form-atom column (Add' s (one a end) u (one b end)) h = absurd (h.add a b refl)
form-atom column (Sub' s (one a end) u (one b end)) h = absurd (h.sub a b refl)
form-atom column (Mul' s (one a end) u (one b end)) h = absurd (h.mul a b refl)
form-atom column (Var sym) h = refl
form-atom column (Field' label field s (one node end)) h = refl
form-atom column (Row' label field s (one node end) u (one index end)) h = refl
form-atom column (Len label) h = refl
form-atom column (Msg msg part) h = refl
form-atom column (If' s (one a end) u (one b end) v (one x end) w (one y end)) h = refl

pub atoms-atom : (t : Term) (atoms : List Term) → IsAtom t → with_atom t atoms ≡ with_atoms t atoms
unfolding opened
atoms-atom (Num v) atoms h = absurd (h.number v refl)
atoms-atom (Word sym v) atoms h = absurd (h.word sym v refl)
atoms-atom (Add' s (one a end) u (one b end)) atoms h = absurd (h.add a b refl)
atoms-atom (Sub' s (one a end) u (one b end)) atoms h = absurd (h.sub a b refl)
atoms-atom (Mul' s (one a end) u (one b end)) atoms h = absurd (h.mul a b refl)
atoms-atom (Var sym) atoms h = refl
atoms-atom (Field' label field s (one node end)) atoms h = refl
atoms-atom (Row' label field s (one node end) u (one index end)) atoms h = refl
atoms-atom (Len label) atoms h = refl
atoms-atom (Msg msg part) atoms h = refl
atoms-atom (If' s (one a end) u (one b end) v (one x end) w (one y end)) atoms h = refl

pub among-found : (t : Term) (xs : List Term) (k : ℕ) (x : Term) → slice_get xs k ≡ Some x → same_term t x ≡ true → is_among t xs ≡ true
among-found t [] k x e h = cc
among-found t (y ∷ ys) zero x e h = let is : y ≡ x = cc in (λ i. same_term t (is i) || is_among t ys) ∙ ap (λ b. b || is_among t ys) h
among-found t (y ∷ ys) (suc k) x e h = by_test (same_term t y) (among-found t ys k x e h)
  where
    by_test : (b : Bool) → is_among t ys ≡ true → (b || is_among t ys) ≡ true
    by_test true h = refl
    by_test false h = h

pub among-more : (t : Term) (xs : List Term) (k : ℕ) (x : Term) → is_among t (take k xs) ≡ false → slice_get xs k ≡ Some x → same_term t x ≡ false → is_among t (take (k + 1) xs) ≡ false
among-more t xs k x h e other = rw add-one (go xs k h e)
  where
    go : (xs : List Term) (k : ℕ) → is_among t (take k xs) ≡ false → slice_get xs k ≡ Some x → is_among t (take (suc k) xs) ≡ false
    go [] k h e = cc
    go (y ∷ ys) zero h e = let is : y ≡ x = cc in (λ i. same_term t (is i) || false) ∙ ap (λ b. b || false) other
    go (y ∷ ys) (suc k) h e =
        let each = or-false _ _ h in
        ap (λ b. b || is_among t (take (suc k) ys)) each.0 ∙ go ys k each.1 e

-- the bound of a line, where both sides have a constant
pub bound-if : (p q : Bool) (a b gap left right : ℤ) → (if p then Some a else None) ≡ Some left → (if q then Some b else None) ≡ Some right
    → narrow (right -ℤ left -ℤ gap) ≡ (if (p && q) && fits (b -ℤ a -ℤ gap) then Some (b -ℤ a -ℤ gap) else None)
bound-if true true a b gap left right f g = let l : a ≡ left = cc in let r : b ≡ right = cc in λ i. narrow (sym r i -ℤ sym l i -ℤ gap)
bound-if true false a b gap left right f g = cc
bound-if false q a b gap left right f g = cc
