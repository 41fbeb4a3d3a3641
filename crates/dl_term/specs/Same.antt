-- Whether two terms or formulas are the same, part by part.
-- The node of index 0 and the number 0 have one value and are not the same.
use Rattle.std.specs.Prelude.{Bool, true, false, ◌&&◌, ◌==◌}
use Rattle.std.specs.Ordering.{int_eq}
use Rattle.dl_term.specs.declared.syntax.Lab.{Lab}
use Rattle.dl_term.specs.declared.syntax.Lab.TheVariants.{Own, At}
use Rattle.dl_term.specs.declared.syntax.Part.{Part}
use Rattle.dl_term.specs.declared.syntax.Part.TheVariants.{Id, From, To, Live, Arg}
use Rattle.dl_term.specs.declared.syntax.Formula.{Formula, True, False, Eq, Lt, Le, Not', And', Or', Implies', All', Exists', Each', Any', more_of-Formula as one_formula, end_of-Formula as end_formula}
use Rattle.dl_term.specs.declared.syntax.Term.{Term, Num, Word, Var, Field', Row', Len, Msg, Add', Sub', Mul', If', more_of-Term as one, end_of-Term as end}

abbrev pub same_label : Lab → Lab → Bool
same_label Own Own = true
same_label (At n) (At m) = n == m
same_label _ _ = false

abbrev pub same_part : Part → Part → Bool
same_part Id Id = true
same_part From From = true
same_part To To = true
same_part Live Live = true
same_part (Arg j) (Arg k) = j == k
same_part _ _ = false

abbrev pub same_term : Term → Term → Bool
same_term (Num v) (Num w) = int_eq v w
same_term (Word x v) (Word y w) = (x == y) && int_eq v w
same_term (Var x) (Var y) = x == y
same_term (Field' l f _ (one a end)) (Field' m g _ (one b end)) = (same_label l m && (f == g)) && same_term a b
same_term (Row' l f _ (one a end) _ (one i end)) (Row' m g _ (one b end) _ (one j end)) = (same_label l m && (f == g)) && (same_term a b && same_term i j)
same_term (Len l) (Len m) = same_label l m
same_term (Msg x p) (Msg y q) = (x == y) && same_part p q
same_term (Add' _ (one a end) _ (one b end)) (Add' _ (one c end) _ (one d end)) = same_term a c && same_term b d
same_term (Sub' _ (one a end) _ (one b end)) (Sub' _ (one c end) _ (one d end)) = same_term a c && same_term b d
same_term (Mul' _ (one a end) _ (one b end)) (Mul' _ (one c end) _ (one d end)) = same_term a c && same_term b d
same_term (If' _ (one a end) _ (one b end) _ (one x end) _ (one y end)) (If' _ (one c end) _ (one d end) _ (one z end) _ (one w end)) =
    (same_term a c && same_term b d) && (same_term x z && same_term y w)
same_term _ _ = false

abbrev pub same_formula : Formula → Formula → Bool
same_formula True True = true
same_formula False False = true
same_formula (Eq a b) (Eq c d) = same_term a c && same_term b d
same_formula (Lt a b) (Lt c d) = same_term a c && same_term b d
same_formula (Le a b) (Le c d) = same_term a c && same_term b d
same_formula (Not' _ (one_formula f end_formula)) (Not' _ (one_formula g end_formula)) = same_formula f g
same_formula (And' _ (one_formula f end_formula) _ (one_formula g end_formula)) (And' _ (one_formula h end_formula) _ (one_formula k end_formula)) =
    same_formula f h && same_formula g k
same_formula (Or' _ (one_formula f end_formula) _ (one_formula g end_formula)) (Or' _ (one_formula h end_formula) _ (one_formula k end_formula)) =
    same_formula f h && same_formula g k
same_formula (Implies' _ (one_formula f end_formula) _ (one_formula g end_formula)) (Implies' _ (one_formula h end_formula) _ (one_formula k end_formula)) =
    same_formula f h && same_formula g k
same_formula (All' x _ (one_formula f end_formula)) (All' y _ (one_formula g end_formula)) = (x == y) && same_formula f g
same_formula (Exists' x _ (one_formula f end_formula)) (Exists' y _ (one_formula g end_formula)) = (x == y) && same_formula f g
same_formula (Each' m l t _ (one_formula f end_formula)) (Each' n k u _ (one_formula g end_formula)) =
    ((m == n) && (same_label l k && (t == u))) && same_formula f g
same_formula (Any' m l t _ (one_formula f end_formula)) (Any' n k u _ (one_formula g end_formula)) =
    ((m == n) && (same_label l k && (t == u))) && same_formula f g
same_formula _ _ = false
