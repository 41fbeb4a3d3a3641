-- The atoms of terms and of sides: each once, and each there.
use Rattle.std.proofs.Common.{◌≡◌, ℤ, Bool, true, false, ◌||◌, if◌then◌else◌, List, [], ◌∷◌, ◌++◌, Option, Some, None, IfSome, refl, sym, ◌∙◌, subst}
use Rattle.std.specs.List.{All}
use Rattle.std.proofs.lemmas.List.Elements.{All-nil, All-cons}
use Rattle.dl_term.specs.declared.syntax.Term.{Term, Num, Word, Var, Field', Row', Len, Msg, Add', Sub', Mul', If', more_of-Term as one, end_of-Term as end}
use Rattle.dl_term.specs.Same.{same_term}
use Rattle.dl_term.proofs.SameLemmas.{term-is}
use Rattle.dl_linear.specs.Forms.{constant, product, is_among, with_atom, with_atoms, Sides, atoms_with, atoms_from}
use Rattle.dl_linear.proofs.Linear.{distinct, covers, term-same}
use Rattle.dl_linear.proofs.Truth.{or-either, or-left, or-right, and-both, and-left, and-right, bool-false, not-of, of-not}

same-back : (s t : Term) → same_term s t ≡ true → same_term t s ≡ true
same-back s t h = let is = term-is s t h in subst (λ x. same_term x s ≡ true) is (term-same s)

in-append-left : (s : Term) (xs ys : List Term) → is_among s xs ≡ true → is_among s (xs ++ ys) ≡ true
in-append-left s [] ys h = cc
in-append-left s (x ∷ xs) ys h = or-either _ _ h _ (λ e. or-left _ _ e) (λ e. or-right (same_term s x) _ (in-append-left s xs ys e))

in-append-right : (s : Term) (xs ys : List Term) → is_among s ys ≡ true → is_among s (xs ++ ys) ≡ true
in-append-right s [] ys h = h
in-append-right s (x ∷ xs) ys h = or-right (same_term s x) _ (in-append-right s xs ys h)

in-append : (s : Term) (xs ys : List Term) (P : Type 0) → is_among s (xs ++ ys) ≡ true → (is_among s xs ≡ true → P) → (is_among s ys ≡ true → P) → P
in-append s [] ys P h f g = g h
in-append s (x ∷ xs) ys P h f g = or-either _ _ h P (λ e. f (or-left _ _ e)) (λ e. in-append s xs ys P e (λ k. f (or-right (same_term s x) _ k)) g)

distinct-push : (xs : List Term) (t : Term) → distinct xs ≡ true → is_among t xs ≡ false → distinct (xs ++ t ∷ []) ≡ true
distinct-push [] t d h = refl
distinct-push (x ∷ xs) t d h =
    and-both _ _
    (not-of _ (bool-false _ (λ e. in-append x xs (t ∷ []) ⊥ e
    (λ k. let no = of-not _ (and-left _ _ d) in let clash = sym no ∙ k in cc)
    (λ k. or-either _ _ k ⊥ (λ same. let back = or-left _ (is_among t xs) (same-back x t same) in let clash = sym h ∙ back in cc) (λ none. cc)))))
    (distinct-push xs t (and-right _ _ d) (rest (same_term t x) (is_among t xs) h))
  where
    rest : (a b : Bool) → (a || b) ≡ false → b ≡ false
    rest true b h = cc
    rest false b h = h

with_atom-distinct : (t : Term) (xs : List Term) → distinct xs ≡ true → distinct (with_atom t xs) ≡ true
with_atom-distinct t xs d = by_test (is_among t xs) refl
  where
    by_test : (test : Bool) → is_among t xs ≡ test → distinct (if test then xs else xs ++ t ∷ []) ≡ true
    by_test true e = d
    by_test false e = distinct-push xs t d e

with_atom-keeps : (s t : Term) (xs : List Term) → is_among s xs ≡ true → is_among s (with_atom t xs) ≡ true
with_atom-keeps s t xs h = by_test (is_among t xs)
  where
    by_test : (test : Bool) → is_among s (if test then xs else xs ++ t ∷ []) ≡ true
    by_test true = h
    by_test false = in-append-left s xs (t ∷ []) h

with_atom-in : (t : Term) (xs : List Term) → is_among t (with_atom t xs) ≡ true
with_atom-in t xs = by_test (is_among t xs) refl
  where
    by_test : (test : Bool) → is_among t xs ≡ test → is_among t (if test then xs else xs ++ t ∷ []) ≡ true
    by_test true e = e
    by_test false e = in-append-right t xs (t ∷ []) (or-left _ false (term-same t))

product-all : {X : Type 0} (P : X → Type 0) (o p : Option ℤ) (a b s : X) → P a → P b → P s → P (product (λ c k. k) o p a b s)
product-all P (Some c) p a b s x y z = y
product-all P None (Some c) a b s x y z = x
product-all P None None a b s x y z = z

pub with_atoms-keeps : (s t : Term) (xs : List Term) → is_among s xs ≡ true → is_among s (with_atoms t xs) ≡ true
with_atoms-keeps s (Num v) xs h = h
with_atoms-keeps s (Word sym v) xs h = h
with_atoms-keeps s (Add' _ (one a end) _ (one b end)) xs h = with_atoms-keeps s b _ (with_atoms-keeps s a xs h)
with_atoms-keeps s (Sub' _ (one a end) _ (one b end)) xs h = with_atoms-keeps s b _ (with_atoms-keeps s a xs h)
with_atoms-keeps s (Mul' p (one a end) q (one b end)) xs h =
    product-all (λ ys. is_among s ys ≡ true) (constant a) (constant b) _ _ _ (with_atoms-keeps s a xs h) (with_atoms-keeps s b xs h) (with_atom-keeps s (Mul' p (one a end) q (one b end)) xs h)
with_atoms-keeps s (Var x) xs h = with_atom-keeps s (Var x) xs h
with_atoms-keeps s (Field' label field u (one node end)) xs h = with_atom-keeps s (Field' label field u (one node end)) xs h
with_atoms-keeps s (Row' label field u (one node end) v (one index end)) xs h = with_atom-keeps s (Row' label field u (one node end) v (one index end)) xs h
with_atoms-keeps s (Len label) xs h = with_atom-keeps s (Len label) xs h
with_atoms-keeps s (Msg msg part) xs h = with_atom-keeps s (Msg msg part) xs h
with_atoms-keeps s (If' p (one a end) q (one b end) u (one y end) v (one z end)) xs h = with_atom-keeps s (If' p (one a end) q (one b end) u (one y end) v (one z end)) xs h

pub with_atoms-distinct : (t : Term) (xs : List Term) → distinct xs ≡ true → distinct (with_atoms t xs) ≡ true
with_atoms-distinct (Num v) xs h = h
with_atoms-distinct (Word sym v) xs h = h
with_atoms-distinct (Add' _ (one a end) _ (one b end)) xs h = with_atoms-distinct b _ (with_atoms-distinct a xs h)
with_atoms-distinct (Sub' _ (one a end) _ (one b end)) xs h = with_atoms-distinct b _ (with_atoms-distinct a xs h)
with_atoms-distinct (Mul' p (one a end) q (one b end)) xs h =
    product-all (λ ys. distinct ys ≡ true) (constant a) (constant b) _ _ _ (with_atoms-distinct a xs h) (with_atoms-distinct b xs h) (with_atom-distinct (Mul' p (one a end) q (one b end)) xs h)
with_atoms-distinct (Var x) xs h = with_atom-distinct (Var x) xs h
with_atoms-distinct (Field' label field u (one node end)) xs h = with_atom-distinct (Field' label field u (one node end)) xs h
with_atoms-distinct (Row' label field u (one node end) v (one index end)) xs h = with_atom-distinct (Row' label field u (one node end) v (one index end)) xs h
with_atoms-distinct (Len label) xs h = with_atom-distinct (Len label) xs h
with_atoms-distinct (Msg msg part) xs h = with_atom-distinct (Msg msg part) xs h
with_atoms-distinct (If' p (one a end) q (one b end) u (one y end) v (one z end)) xs h = with_atom-distinct (If' p (one a end) q (one b end) u (one y end) v (one z end)) xs h

product-grow : (o p : Option ℤ) (ca cb cs da db ds : Bool) → (ca ≡ true → da ≡ true) → (cb ≡ true → db ≡ true) → (cs ≡ true → ds ≡ true) → product (λ c k. k) o p ca cb cs ≡ true → product (λ c k. k) o p da db ds ≡ true
product-grow (Some c) p ca cb cs da db ds f g h k = g k
product-grow None (Some c) ca cb cs da db ds f g h k = f k
product-grow None None ca cb cs da db ds f g h k = h k

pub covers-grow : (t : Term) (xs ys : List Term) → ((s : Term) → is_among s xs ≡ true → is_among s ys ≡ true) → covers xs t ≡ true → covers ys t ≡ true
covers-grow (Num v) xs ys f h = refl
covers-grow (Word sym v) xs ys f h = refl
covers-grow (Add' _ (one a end) _ (one b end)) xs ys f h = and-both _ _ (covers-grow a xs ys f (and-left _ _ h)) (covers-grow b xs ys f (and-right _ _ h))
covers-grow (Sub' _ (one a end) _ (one b end)) xs ys f h = and-both _ _ (covers-grow a xs ys f (and-left _ _ h)) (covers-grow b xs ys f (and-right _ _ h))
covers-grow (Mul' p (one a end) q (one b end)) xs ys f h =
    product-grow (constant a) (constant b) _ _ _ _ _ _ (λ k. covers-grow a xs ys f k) (λ k. covers-grow b xs ys f k) (λ k. f (Mul' p (one a end) q (one b end)) k) h
covers-grow (Var x) xs ys f h = f (Var x) h
covers-grow (Field' label field u (one node end)) xs ys f h = f (Field' label field u (one node end)) h
covers-grow (Row' label field u (one node end) v (one index end)) xs ys f h = f (Row' label field u (one node end) v (one index end)) h
covers-grow (Len label) xs ys f h = f (Len label) h
covers-grow (Msg msg part) xs ys f h = f (Msg msg part) h
covers-grow (If' p (one a end) q (one b end) u (one y end) v (one z end)) xs ys f h = f (If' p (one a end) q (one b end) u (one y end) v (one z end)) h

product-covers : (o p : Option ℤ) (la lb ls : List Term) (ca cb cs : List Term → Bool) → ca la ≡ true → cb lb ≡ true → cs ls ≡ true → product (λ c k. k) o p (ca (product (λ c k. k) o p la lb ls)) (cb (product (λ c k. k) o p la lb ls)) (cs (product (λ c k. k) o p la lb ls)) ≡ true
product-covers (Some c) p la lb ls ca cb cs f g h = g
product-covers None (Some c) la lb ls ca cb cs f g h = f
product-covers None None la lb ls ca cb cs f g h = h

pub with_atoms-covers : (t : Term) (xs : List Term) → covers (with_atoms t xs) t ≡ true
with_atoms-covers (Num v) xs = refl
with_atoms-covers (Word sym v) xs = refl
with_atoms-covers (Add' _ (one a end) _ (one b end)) xs =
    and-both _ _ (covers-grow a (with_atoms a xs) (with_atoms b (with_atoms a xs)) (λ s h. with_atoms-keeps s b (with_atoms a xs) h) (with_atoms-covers a xs)) (with_atoms-covers b (with_atoms a xs))
with_atoms-covers (Sub' _ (one a end) _ (one b end)) xs =
    and-both _ _ (covers-grow a (with_atoms a xs) (with_atoms b (with_atoms a xs)) (λ s h. with_atoms-keeps s b (with_atoms a xs) h) (with_atoms-covers a xs)) (with_atoms-covers b (with_atoms a xs))
with_atoms-covers (Mul' p (one a end) q (one b end)) xs =
    product-covers (constant a) (constant b) (with_atoms a xs) (with_atoms b xs) (with_atom (Mul' p (one a end) q (one b end)) xs)
    (λ l. covers l a) (λ l. covers l b) (λ l. is_among (Mul' p (one a end) q (one b end)) l)
    (with_atoms-covers a xs) (with_atoms-covers b xs) (with_atom-in (Mul' p (one a end) q (one b end)) xs)
with_atoms-covers (Var x) xs = with_atom-in (Var x) xs
with_atoms-covers (Field' label field u (one node end)) xs = with_atom-in (Field' label field u (one node end)) xs
with_atoms-covers (Row' label field u (one node end) v (one index end)) xs = with_atom-in (Row' label field u (one node end) v (one index end)) xs
with_atoms-covers (Len label) xs = with_atom-in (Len label) xs
with_atoms-covers (Msg msg part) xs = with_atom-in (Msg msg part) xs
with_atoms-covers (If' p (one a end) q (one b end) u (one y end) v (one z end)) xs = with_atom-in (If' p (one a end) q (one b end) u (one y end) v (one z end)) xs

atoms_with-keeps : (s : Term) (o : Option Sides) (xs : List Term) → is_among s xs ≡ true → is_among s (atoms_with o xs) ≡ true
atoms_with-keeps s None xs h = h
atoms_with-keeps s (Some sides) xs h = with_atoms-keeps s sides.right _ (with_atoms-keeps s sides.left xs h)

atoms_with-distinct : (o : Option Sides) (xs : List Term) → distinct xs ≡ true → distinct (atoms_with o xs) ≡ true
atoms_with-distinct None xs h = h
atoms_with-distinct (Some sides) xs h = with_atoms-distinct sides.right _ (with_atoms-distinct sides.left xs h)

pub atoms_from-keeps : (s : Term) (os : List (Option Sides)) (xs : List Term) → is_among s xs ≡ true → is_among s (atoms_from xs os) ≡ true
atoms_from-keeps s [] xs h = h
atoms_from-keeps s (o ∷ os) xs h = atoms_from-keeps s os _ (atoms_with-keeps s o xs h)

pub atoms_from-distinct : (os : List (Option Sides)) (xs : List Term) → distinct xs ≡ true → distinct (atoms_from xs os) ≡ true
atoms_from-distinct [] xs h = h
atoms_from-distinct (o ∷ os) xs h = atoms_from-distinct os _ (atoms_with-distinct o xs h)

abbrev pub CoversSides : List Term → Option Sides → Type 0
CoversSides atoms o = IfSome o (λ s. (covers atoms s.left ≡ true) × (covers atoms s.right ≡ true))

covers-sides : (o : Option Sides) (xs : List Term) → CoversSides (atoms_with o xs) o
covers-sides None xs = tt
covers-sides (Some s) xs =
    (covers-grow s.left (with_atoms s.left xs) (with_atoms s.right (with_atoms s.left xs)) (λ t h. with_atoms-keeps t s.right (with_atoms s.left xs) h) (with_atoms-covers s.left xs), with_atoms-covers s.right (with_atoms s.left xs))

sides-grow : (o : Option Sides) (xs ys : List Term) → ((s : Term) → is_among s xs ≡ true → is_among s ys ≡ true) → CoversSides xs o → CoversSides ys o
sides-grow None xs ys f h = tt
sides-grow (Some s) xs ys f h = (covers-grow s.left xs ys f h.0, covers-grow s.right xs ys f h.1)

pub atoms_from-cover : (os : List (Option Sides)) (xs : List Term) → All (CoversSides (atoms_from xs os)) os
atoms_from-cover [] xs = All-nil (CoversSides xs)
atoms_from-cover (o ∷ os) xs =
    All-cons (CoversSides (atoms_from xs (o ∷ os))) o os
    (sides-grow o (atoms_with o xs) (atoms_from xs (o ∷ os)) (λ s h. atoms_from-keeps s os _ h) (covers-sides o xs))
    (atoms_from-cover os (atoms_with o xs))
