-- What is the same, part by part, is equal, and the other way round.
use Rattle.std.proofs.Common.{◌≡◌, ℤ, Bool, true, false, ◌&&◌, refl, eqb-true, eq-eqb, subst}
use Rattle.std.specs.Ordering.{int_eq}
use Rattle.std.proofs.lemmas.Bool.Decides.{Decides-int_eq}
use Rattle.dl_term.specs.declared.syntax.Lab.{Lab}
use Rattle.dl_term.specs.declared.syntax.Lab.TheVariants.{Own, At}
use Rattle.dl_term.specs.declared.syntax.Part.{Part}
use Rattle.dl_term.specs.declared.syntax.Part.TheVariants.{Id, From, To, Live, Arg}
use Rattle.dl_term.specs.declared.syntax.Term.{Term, Num, Word, Var, Field', Row', Len, Msg, Add', Sub', Mul', If', more_of-Term as one, end_of-Term as end}
use Rattle.dl_term.specs.declared.syntax.Formula.{Formula, True, False, Eq, Lt, Le, Not', And', Or', Implies', All', Exists', Each', Any', more_of-Formula as one_formula, end_of-Formula as end_formula}
use Rattle.dl_term.specs.Same.{same_label, same_part, same_term, same_formula}

first : (a b : Bool) → (a && b) ≡ true → a ≡ true
first true b h = refl
first false b h = cc

second : (a b : Bool) → (a && b) ≡ true → b ≡ true
second true b h = h
second false b h = cc

both : (a b : Bool) → a ≡ true → b ≡ true → (a && b) ≡ true
both true true p q = refl
both true false p q = q
both false b p q = p

pub label-is : (a b : Lab) → same_label a b ≡ true → a ≡ b
label-is Own Own h = refl
label-is (At n) (At m) h = λ i. At (eqb-true n m h i)
label-is _ _ h = cc

pub part-is : (a b : Part) → same_part a b ≡ true → a ≡ b
part-is Id Id h = refl
part-is From From h = refl
part-is To To h = refl
part-is Live Live h = refl
part-is (Arg n) (Arg m) h = λ i. Arg (eqb-true n m h i)
part-is _ _ h = cc

pub term-is : (s t : Term) → same_term s t ≡ true → s ≡ t
term-is (Num v) (Num w) h = λ i. Num ((Decides-int_eq v w).0 h i)
term-is (Word x v) (Word y w) h = λ i. Word (eqb-true x y (first _ _ h) i) ((Decides-int_eq v w).0 (second _ _ h) i)
term-is (Var x) (Var y) h = λ i. Var (eqb-true x y h i)
term-is (Field' p f s (one a end)) (Field' q g s' (one b end)) h =
    λ i. Field' (label-is p q (first _ _ (first _ _ h)) i) (eqb-true f g (second _ _ (first _ _ h)) i) tt (one (term-is a b (second _ _ h) i) end)
term-is (Row' p f s (one a end) u (one c end)) (Row' q g s' (one b end) u' (one d end)) h =
    λ i. Row' (label-is p q (first _ _ (first _ _ h)) i) (eqb-true f g (second _ _ (first _ _ h)) i) tt (one (term-is a b (first _ _ (second _ _ h)) i) end) tt (one (term-is c d (second _ _ (second _ _ h)) i) end)
term-is (Len p) (Len q) h = λ i. Len (label-is p q h i)
term-is (Msg x p) (Msg y q) h = λ i. Msg (eqb-true x y (first _ _ h) i) (part-is p q (second _ _ h) i)
term-is (Add' s (one a end) u (one b end)) (Add' s' (one c end) u' (one d end)) h =
    λ i. Add' tt (one (term-is a c (first _ _ h) i) end) tt (one (term-is b d (second _ _ h) i) end)
term-is (Sub' s (one a end) u (one b end)) (Sub' s' (one c end) u' (one d end)) h =
    λ i. Sub' tt (one (term-is a c (first _ _ h) i) end) tt (one (term-is b d (second _ _ h) i) end)
term-is (Mul' s (one a end) u (one b end)) (Mul' s' (one c end) u' (one d end)) h =
    λ i. Mul' tt (one (term-is a c (first _ _ h) i) end) tt (one (term-is b d (second _ _ h) i) end)
term-is (If' s (one a end) u (one b end) v (one x end) w (one y end)) (If' s' (one c end) u' (one d end) v' (one z end) w' (one k end)) h =
    λ i. If' tt (one (term-is a c (first _ _ (first _ _ h)) i) end) tt (one (term-is b d (second _ _ (first _ _ h)) i) end) tt (one (term-is x z (first _ _ (second _ _ h)) i) end) tt (one (term-is y k (second _ _ (second _ _ h)) i) end)
term-is _ _ h = cc

pub formula-is : (f g : Formula) → same_formula f g ≡ true → f ≡ g
formula-is True True e = refl
formula-is False False e = refl
formula-is (Eq a b) (Eq c d) e = λ i. Eq (term-is a c (first _ _ e) i) (term-is b d (second _ _ e) i)
formula-is (Lt a b) (Lt c d) e = λ i. Lt (term-is a c (first _ _ e) i) (term-is b d (second _ _ e) i)
formula-is (Le a b) (Le c d) e = λ i. Le (term-is a c (first _ _ e) i) (term-is b d (second _ _ e) i)
formula-is (Not' s (one_formula f end_formula)) (Not' s' (one_formula g end_formula)) e = λ i. Not' tt (one_formula (formula-is f g e i) end_formula)
formula-is (And' s (one_formula f end_formula) u (one_formula g end_formula)) (And' s' (one_formula h end_formula) u' (one_formula k end_formula)) e =
    λ i. And' tt (one_formula (formula-is f h (first _ _ e) i) end_formula) tt (one_formula (formula-is g k (second _ _ e) i) end_formula)
formula-is (Or' s (one_formula f end_formula) u (one_formula g end_formula)) (Or' s' (one_formula h end_formula) u' (one_formula k end_formula)) e =
    λ i. Or' tt (one_formula (formula-is f h (first _ _ e) i) end_formula) tt (one_formula (formula-is g k (second _ _ e) i) end_formula)
formula-is (Implies' s (one_formula f end_formula) u (one_formula g end_formula)) (Implies' s' (one_formula h end_formula) u' (one_formula k end_formula)) e =
    λ i. Implies' tt (one_formula (formula-is f h (first _ _ e) i) end_formula) tt (one_formula (formula-is g k (second _ _ e) i) end_formula)
formula-is (All' x s (one_formula f end_formula)) (All' y s' (one_formula g end_formula)) e =
    λ i. All' (eqb-true x y (first _ _ e) i) tt (one_formula (formula-is f g (second _ _ e) i) end_formula)
formula-is (Exists' x s (one_formula f end_formula)) (Exists' y s' (one_formula g end_formula)) e =
    λ i. Exists' (eqb-true x y (first _ _ e) i) tt (one_formula (formula-is f g (second _ _ e) i) end_formula)
formula-is (Each' m l t s (one_formula f end_formula)) (Each' n k u s' (one_formula g end_formula)) e =
    λ i. Each' (eqb-true m n (first _ _ (first _ _ e)) i) (label-is l k (first _ _ (second _ _ (first _ _ e))) i) (eqb-true t u (second _ _ (second _ _ (first _ _ e))) i) tt (one_formula (formula-is f g (second _ _ e) i) end_formula)
formula-is (Any' m l t s (one_formula f end_formula)) (Any' n k u s' (one_formula g end_formula)) e =
    λ i. Any' (eqb-true m n (first _ _ (first _ _ e)) i) (label-is l k (first _ _ (second _ _ (first _ _ e))) i) (eqb-true t u (second _ _ (second _ _ (first _ _ e))) i) tt (one_formula (formula-is f g (second _ _ e) i) end_formula)
formula-is _ _ e = cc

int-itself : (v : ℤ) → int_eq v v ≡ true
int-itself v = (Decides-int_eq v v).1 refl

label-itself : (a : Lab) → same_label a a ≡ true
label-itself Own = refl
label-itself (At n) = eq-eqb n n refl

part-itself : (a : Part) → same_part a a ≡ true
part-itself Id = refl
part-itself From = refl
part-itself To = refl
part-itself Live = refl
part-itself (Arg n) = eq-eqb n n refl

term-itself : (t : Term) → same_term t t ≡ true
term-itself (Num v) = int-itself v
term-itself (Word x v) = both _ _ (eq-eqb x x refl) (int-itself v)
term-itself (Var x) = eq-eqb x x refl
term-itself (Field' p f s (one a end)) = both _ _ (both _ _ (label-itself p) (eq-eqb f f refl)) (term-itself a)
term-itself (Row' p f s (one a end) u (one c end)) = both _ _ (both _ _ (label-itself p) (eq-eqb f f refl)) (both _ _ (term-itself a) (term-itself c))
term-itself (Len p) = label-itself p
term-itself (Msg x p) = both _ _ (eq-eqb x x refl) (part-itself p)
term-itself (Add' s (one a end) u (one b end)) = both _ _ (term-itself a) (term-itself b)
term-itself (Sub' s (one a end) u (one b end)) = both _ _ (term-itself a) (term-itself b)
term-itself (Mul' s (one a end) u (one b end)) = both _ _ (term-itself a) (term-itself b)
term-itself (If' s (one a end) u (one b end) v (one x end) w (one y end)) =
    both _ _ (both _ _ (term-itself a) (term-itself b)) (both _ _ (term-itself x) (term-itself y))

formula-itself : (f : Formula) → same_formula f f ≡ true
formula-itself True = refl
formula-itself False = refl
formula-itself (Eq a b) = both _ _ (term-itself a) (term-itself b)
formula-itself (Lt a b) = both _ _ (term-itself a) (term-itself b)
formula-itself (Le a b) = both _ _ (term-itself a) (term-itself b)
formula-itself (Not' s (one_formula f end_formula)) = formula-itself f
formula-itself (And' s (one_formula f end_formula) u (one_formula g end_formula)) = both _ _ (formula-itself f) (formula-itself g)
formula-itself (Or' s (one_formula f end_formula) u (one_formula g end_formula)) = both _ _ (formula-itself f) (formula-itself g)
formula-itself (Implies' s (one_formula f end_formula) u (one_formula g end_formula)) = both _ _ (formula-itself f) (formula-itself g)
formula-itself (All' x s (one_formula f end_formula)) = both _ _ (eq-eqb x x refl) (formula-itself f)
formula-itself (Exists' x s (one_formula f end_formula)) = both _ _ (eq-eqb x x refl) (formula-itself f)
formula-itself (Each' m l t s (one_formula f end_formula)) =
    both _ _ (both _ _ (eq-eqb m m refl) (both _ _ (label-itself l) (eq-eqb t t refl))) (formula-itself f)
formula-itself (Any' m l t s (one_formula f end_formula)) =
    both _ _ (both _ _ (eq-eqb m m refl) (both _ _ (label-itself l) (eq-eqb t t refl))) (formula-itself f)

-- equal terms, and equal formulas, are the same
pub is-same_term : (s t : Term) → s ≡ t → same_term s t ≡ true
is-same_term s t e = subst (λ (u : Term). same_term s u ≡ true) e (term-itself s)

pub is-same_formula : (f g : Formula) → f ≡ g → same_formula f g ≡ true
is-same_formula f g e = subst (λ (h : Formula). same_formula f h ≡ true) e (formula-itself f)
