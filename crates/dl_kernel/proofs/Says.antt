-- What a formula says by its parts.
use Rattle.std.proofs.Common.{◌≡◌, ℕ, pos, Bool, true, false, not, ◌&&◌, ◌||◌, ◌==◌, Some, refl, sym, ◌∙◌, ap}
use Rattle.std.specs.Ordering.{int_eq}
use Rattle.dl_term.specs.declared.syntax.Formula.{Formula, True, False, Eq, Not', And', Or', Implies', All', Exists', Each', Any', more_of-Formula as one, end_of-Formula as end}
use Rattle.dl_term.specs.State.{State}
use Rattle.dl_term.specs.Names.{Names, Stored, with_number, with_message, label_of}
use Rattle.dl_term.specs.Meaning.{value, holds, every_below, some_below, every_message, some_message}
use Rattle.dl_term.specs.Measures.{is_free_variable, is_free_message}
use Rattle.dl_kernel.specs.declared.parts.Two.{Two}
use Rattle.dl_kernel.specs.declared.parts.Equation.{Equation}
use Rattle.dl_kernel.specs.declared.parts.Quantified.{Quantified}
use Rattle.dl_kernel.specs.declared.parts.Quantified.TheVariants.{Nodes, Messages}
use Rattle.dl_kernel.specs.Parts.{is_true, is_false, as_equation, as_denied, as_and, as_or, as_implication, as_universal, as_existential}

two-is : (p q : Two) → Some p ≡ Some q → p ≡ q
two-is p q h = cc

or-false : (b : Bool) → b ≡ (b || false)
or-false true = refl
or-false false = refl

pub true-says : (f : Formula) (n : Names) (state : State) → is_true f ≡ true → holds f n state ≡ true
true-says True n state h = refl
true-says _ n state h = cc

pub false-says : (f : Formula) (n : Names) (state : State) → is_false f ≡ true → holds f n state ≡ false
false-says False n state h = refl
false-says _ n state h = cc

pub equation-says : (f : Formula) (e : Equation) (n : Names) (state : State) → as_equation f ≡ Some e → holds f n state ≡ int_eq (value e.left n state) (value e.right n state)
equation-says (Eq a b) e n state h = let is : record { left = a; right = b } ≡ e = cc in ap (λ (p : Equation). int_eq (value p.left n state) (value p.right n state)) is
equation-says _ e n state h = cc

pub denied-says : (f : Formula) (e : Equation) (n : Names) (state : State) → as_denied f ≡ Some e → holds f n state ≡ not (int_eq (value e.left n state) (value e.right n state))
denied-says (Not' _ (one f end)) e n state h = ap not (equation-says f e n state h)
denied-says _ e n state h = cc

pub and-says : (f : Formula) (p : Two) (n : Names) (state : State) → as_and f ≡ Some p → holds f n state ≡ (holds p.left n state && holds p.right n state)
and-says (And' _ (one f end) _ (one g end)) p n state h = ap (λ (q : Two). holds q.left n state && holds q.right n state) (two-is _ p h)
and-says _ p n state h = cc

pub or-says : (f : Formula) (p : Two) (n : Names) (state : State) → as_or f ≡ Some p → holds f n state ≡ (holds p.left n state || holds p.right n state)
or-says (Or' _ (one f end) _ (one g end)) p n state h = ap (λ (q : Two). holds q.left n state || holds q.right n state) (two-is _ p h)
or-says _ p n state h = cc

pub implication-says : (f : Formula) (p : Two) (n : Names) (state : State) → as_implication f ≡ Some p → holds f n state ≡ (not (holds p.left n state) || holds p.right n state)
implication-says (Implies' _ (one f end) _ (one g end)) p n state h = ap (λ (q : Two). not (holds q.left n state) || holds q.right n state) (two-is _ p h)
implication-says (Not' _ (one f end)) p n state h = or-false (not (holds f n state)) ∙ ap (λ (q : Two). not (holds q.left n state) || holds q.right n state) (two-is _ p h)
implication-says _ p n state h = cc

quantified-is : (p q : Quantified) → Some p ≡ Some q → p ≡ q
quantified-is p q h = cc

-- the body holds for each thing that the quantifier may bind, or for some
abbrev pub every_of : Names → State → Quantified → Bool
every_of n state (Nodes x body) = every_below state.nodes (λ node. holds body (with_number n x (pos node)) state)
every_of n state (Messages m label tag body) =
    every_message state (label_of n.own label) tag (λ id. holds body (with_message n m (Stored (label_of n.own label) id)) state)

abbrev pub some_of : Names → State → Quantified → Bool
some_of n state (Nodes x body) = some_below state.nodes (λ node. holds body (with_number n x (pos node)) state)
some_of n state (Messages m label tag body) =
    some_message state (label_of n.own label) tag (λ id. holds body (with_message n m (Stored (label_of n.own label) id)) state)

pub universal-says : (f : Formula) (q : Quantified) (n : Names) (state : State) → as_universal f ≡ Some q → holds f n state ≡ every_of n state q
universal-says (All' x _ (one f end)) q n state h = ap (every_of n state) (quantified-is _ q h)
universal-says (Each' m label tag _ (one f end)) q n state h = ap (every_of n state) (quantified-is _ q h)
universal-says _ q n state h = cc

pub existential-says : (f : Formula) (q : Quantified) (n : Names) (state : State) → as_existential f ≡ Some q → holds f n state ≡ some_of n state q
existential-says (Exists' x _ (one f end)) q n state h = ap (some_of n state) (quantified-is _ q h)
existential-says (Any' m label tag _ (one f end)) q n state h = ap (some_of n state) (quantified-is _ q h)
existential-says _ q n state h = cc

-- the quantified formula leaves the name free, as a variable where it binds one, or as a message
abbrev pub leaves_free : Quantified → ℕ → Bool
leaves_free (Nodes y body) x = not (y == x) && is_free_variable body x
leaves_free (Messages m label tag body) x = not (m == x) && is_free_message body x

pub universal-free : (f : Formula) (q : Quantified) (x : ℕ) → as_universal f ≡ Some q → is_free_variable f x ≡ false → is_free_message f x ≡ false → leaves_free q x ≡ false
universal-free (All' y _ (one f end)) q x h v m = ap (λ p. leaves_free p x) (sym (quantified-is _ q h)) ∙ v
universal-free (Each' k label tag _ (one f end)) q x h v m = ap (λ p. leaves_free p x) (sym (quantified-is _ q h)) ∙ m
universal-free _ q x h v m = cc

pub existential-free : (f : Formula) (q : Quantified) (x : ℕ) → as_existential f ≡ Some q → is_free_variable f x ≡ false → is_free_message f x ≡ false → leaves_free q x ≡ false
existential-free (Exists' y _ (one f end)) q x h v m = ap (λ p. leaves_free p x) (sym (quantified-is _ q h)) ∙ v
existential-free (Any' k label tag _ (one f end)) q x h v m = ap (λ p. leaves_free p x) (sym (quantified-is _ q h)) ∙ m
existential-free _ q x h v m = cc
