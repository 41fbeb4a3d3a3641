-- The labels of terms and formulas, one after another.
use Rattle.std.proofs.Common.{◌≡◌, ℕ, Result, Ok, Err, OnOk, List, [], ◌∷◌, ◌++◌, append_assoc, refl, sym, ap, ◌∙◌}
use Rattle.dl_term.specs.Syntax.{opened}
use Rattle.dl_term.specs.declared.syntax.Lab.{Lab}
use Rattle.dl_term.specs.declared.syntax.Term.{Term, Add, Sub, Mul, If}
use Rattle.dl_term.specs.declared.syntax.Formula.{Formula, And, Or, Implies, Each, Any}
use Rattle.dl_model.specs.Spoken.{term_labels, labels_of}

-- one label, and then others
pub one-then : (old middle new xs : List Lab) (x : Lab) → middle ≡ old ++ x ∷ [] → new ≡ middle ++ xs → new ≡ old ++ x ∷ xs
one-then old middle new xs x e f = f ∙ (ap (λ ls. ls ++ xs) e ∙ append_assoc old (x ∷ []) xs)

-- two parts
pub two-parts : (old middle new xs ys : List Lab) → middle ≡ old ++ xs → new ≡ middle ++ ys → new ≡ old ++ (xs ++ ys)
two-parts old middle new xs ys e f = f ∙ (ap (λ ls. ls ++ ys) e ∙ append_assoc old xs ys)

-- ---- calls that add labels, the last of which may fail

done : {X E : Type 0} (r : Result X E) (P Q : Type 0) → (P → Q) → OnOk r P → OnOk r Q
done (Ok x) P Q f h = f h
done (Err e) P Q f h = tt

module _ {X E : Type 0} (r : Result X E) (old middle new : List Lab) where
  pub one-done : (xs whole : List Lab) (x : Lab) → whole ≡ x ∷ xs → middle ≡ old ++ x ∷ [] → OnOk r (new ≡ middle ++ xs) → OnOk r (new ≡ old ++ whole)
  one-done xs whole x e f = done r (new ≡ middle ++ xs) (new ≡ old ++ whole) (λ g. one-then old middle new xs x f g ∙ ap (λ ls. old ++ ls) (sym e))

  pub two-done : (xs ys whole : List Lab) → whole ≡ xs ++ ys → middle ≡ old ++ xs → OnOk r (new ≡ middle ++ ys) → OnOk r (new ≡ old ++ whole)
  two-done xs ys whole e f = done r (new ≡ middle ++ ys) (new ≡ old ++ whole) (λ g. two-parts old middle new xs ys f g ∙ ap (λ ls. old ++ ls) (sym e))

-- ---- terms

pub labels-Add : (a b : Term) → term_labels (Add a b) ≡ term_labels a ++ term_labels b
unfolding opened
labels-Add a b = refl

pub labels-Sub : (a b : Term) → term_labels (Sub a b) ≡ term_labels a ++ term_labels b
unfolding opened
labels-Sub a b = refl

pub labels-Mul : (a b : Term) → term_labels (Mul a b) ≡ term_labels a ++ term_labels b
unfolding opened
labels-Mul a b = refl

pub labels-If : (a b x y : Term) → term_labels (If a b x y) ≡ (term_labels a ++ term_labels b) ++ (term_labels x ++ term_labels y)
unfolding opened
labels-If a b x y = refl

-- ---- formulas

pub labels-And : (f g : Formula) → labels_of (And f g) ≡ labels_of f ++ labels_of g
unfolding opened
labels-And f g = refl

pub labels-Or : (f g : Formula) → labels_of (Or f g) ≡ labels_of f ++ labels_of g
unfolding opened
labels-Or f g = refl

pub labels-Implies : (f g : Formula) → labels_of (Implies f g) ≡ labels_of f ++ labels_of g
unfolding opened
labels-Implies f g = refl

pub labels-Each : (msg : ℕ) (label : Lab) (tag : ℕ) (f : Formula) → labels_of (Each msg label tag f) ≡ label ∷ labels_of f
unfolding opened
labels-Each msg label tag f = refl

pub labels-Any : (msg : ℕ) (label : Lab) (tag : ℕ) (f : Formula) → labels_of (Any msg label tag f) ≡ label ∷ labels_of f
unfolding opened
labels-Any msg label tag f = refl
