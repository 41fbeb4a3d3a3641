-- A label in place of `self` captures no name.
use Rattle.std.proofs.Common.{◌≡◌, ℕ, Bool, true, false, ◌||◌, refl}
use Rattle.dl_term.specs.declared.syntax.Term.{Term, Num, Word, Var, Field', Row', Len, Msg, Add', Sub', Mul', If', more_of-Term as one, end_of-Term as end}
use Rattle.dl_term.specs.declared.syntax.Formula.{Formula, True, False, Eq, Lt, Le, Not', And', Or', Implies', All', Exists', Each', Any', more_of-Formula as one_formula, end_of-Formula as end_formula}
use Rattle.dl_subst.specs.Change.{captures_inside, and_name, captures_under}
use Rattle.dl_subst.specs.Substitution.{for_own}

neither : (a b : Bool) → a ≡ false → b ≡ false → (a || b) ≡ false
neither true b p q = p
neither false b p q = q

pub term-quiet : (l : ℕ) (v m : ℕ → Bool) (t : Term) → captures_inside (for_own l) v m t ≡ false
term-quiet l v m (Num n) = refl
term-quiet l v m (Word x n) = refl
term-quiet l v m (Var x) = refl
term-quiet l v m (Field' label field _ (one node end)) = term-quiet l v m node
term-quiet l v m (Row' label field _ (one node end) _ (one index end)) = neither _ _ (term-quiet l v m node) (term-quiet l v m index)
term-quiet l v m (Len label) = refl
term-quiet l v m (Msg k part) = refl
term-quiet l v m (Add' _ (one a end) _ (one b end)) = neither _ _ (term-quiet l v m a) (term-quiet l v m b)
term-quiet l v m (Sub' _ (one a end) _ (one b end)) = neither _ _ (term-quiet l v m a) (term-quiet l v m b)
term-quiet l v m (Mul' _ (one a end) _ (one b end)) = neither _ _ (term-quiet l v m a) (term-quiet l v m b)
term-quiet l v m (If' _ (one a end) _ (one b end) _ (one x end) _ (one y end)) =
    neither _ _ (neither _ _ (term-quiet l v m a) (term-quiet l v m b)) (neither _ _ (term-quiet l v m x) (term-quiet l v m y))

pub formula-quiet : (l : ℕ) (v m : ℕ → Bool) (f : Formula) → captures_under (for_own l) v m f ≡ false
formula-quiet l v m True = refl
formula-quiet l v m False = refl
formula-quiet l v m (Eq a b) = neither _ _ (term-quiet l v m a) (term-quiet l v m b)
formula-quiet l v m (Lt a b) = neither _ _ (term-quiet l v m a) (term-quiet l v m b)
formula-quiet l v m (Le a b) = neither _ _ (term-quiet l v m a) (term-quiet l v m b)
formula-quiet l v m (Not' _ (one_formula f end_formula)) = formula-quiet l v m f
formula-quiet l v m (And' _ (one_formula f end_formula) _ (one_formula g end_formula)) = neither _ _ (formula-quiet l v m f) (formula-quiet l v m g)
formula-quiet l v m (Or' _ (one_formula f end_formula) _ (one_formula g end_formula)) = neither _ _ (formula-quiet l v m f) (formula-quiet l v m g)
formula-quiet l v m (Implies' _ (one_formula f end_formula) _ (one_formula g end_formula)) = neither _ _ (formula-quiet l v m f) (formula-quiet l v m g)
formula-quiet l v m (All' x _ (one_formula f end_formula)) = formula-quiet l (and_name x v) m f
formula-quiet l v m (Exists' x _ (one_formula f end_formula)) = formula-quiet l (and_name x v) m f
formula-quiet l v m (Each' k label tag _ (one_formula f end_formula)) = formula-quiet l v (and_name k m) f
formula-quiet l v m (Any' k label tag _ (one_formula f end_formula)) = formula-quiet l v (and_name k m) f
