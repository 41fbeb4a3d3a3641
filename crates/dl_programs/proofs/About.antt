-- Where terms of the file are put for variables, a formula stays about the file.
use Rattle.std.proofs.Common.{◌≡◌, ℕ, pos, Bool, true, false, ◌==◌, if◌then◌else◌, Some, None, unwrap_or, List, [], ◌∷◌}
use Rattle.std.specs.Prelude.{is_some}
use Rattle.std.specs.List.{AllByRecursion as Each}
use Rattle.dl_term.specs.declared.syntax.Lab.{Lab}
use Rattle.dl_term.specs.declared.syntax.Lab.TheVariants.{Own, At}
use Rattle.dl_term.specs.declared.syntax.Term.{Term, Num, Word, Var, Field', Row', Len, Msg, Add', Sub', Mul', If', more_of-Term as one, end_of-Term as end}
use Rattle.dl_term.specs.declared.syntax.Formula.{Formula, True, False, Eq, Lt, Le, Not', And', Or', Implies', All', Exists', Each', Any', more_of-Formula as one_formula, end_of-Formula as end_formula}
use Rattle.dl_term.specs.Syntax.{opened}
use Rattle.dl_model.specs.declared.protocol.Instances.{Instances}
use Rattle.dl_model.specs.Sorts.{has}
use Rattle.dl_model.specs.Scopes.{file_label, is_field}
use Rattle.dl_subst.specs.Change.{changed_term, and_name}
use Rattle.dl_subst.specs.Substitution.{term_for, for_variables, label_put, terms_put}
use Rattle.dl_wp.specs.Conditions.{TermFits, FormulaFits, IsAbout}

module _ (inst : Instances) (xs : List ℕ) (terms : List Term) (fits : (bound : ℕ → Bool) → Each (TermFits (file_label inst) bound) terms) where
  choose : (bound : ℕ → Bool) (b : Bool) (s t : Term) → TermFits (file_label inst) bound s → TermFits (file_label inst) bound t → TermFits (file_label inst) bound (if b then s else t)
  choose bound true s t h k = h
  choose bound false s t h k = k

  found : (bound : ℕ → Bool) (old : Term) (ys : List ℕ) (ts : List Term) (z : ℕ) → TermFits (file_label inst) bound old → Each (TermFits (file_label inst) bound) ts → TermFits (file_label inst) bound (term_for old ys ts z)
  found bound old [] ts z h k = h
  found bound old (y ∷ ys) [] z h k = h
  found bound old (y ∷ ys) (t ∷ ts) z h k = found bound (if z == y then t else old) ys ts z (choose bound (z == y) t old k.0 h) k.1

  put-fits : (bound : ℕ → Bool) (b : Bool) (z : ℕ) → TermFits (file_label inst) bound (unwrap_or (if b then Some (term_for (Num (pos 0)) xs terms z) else None) (Var z))
  put-fits bound true z = found bound (Num (pos 0)) xs terms z tt (fits bound)
  put-fits bound false z = tt

  label-fits : (l : Lab) (P : Lab → Type 0) → P l → P (label_put Own l)
  label-fits Own P h = h
  label-fits (At l) P h = h

  term-put : (t : Term) (bound : ℕ → Bool) → TermFits (file_label inst) bound t → TermFits (file_label inst) bound (changed_term (for_variables xs terms Own) t)
  unfolding opened
  term-put (Num v) bound h = tt
  term-put (Word x v) bound h = tt
  term-put (Var z) bound h = put-fits bound (has xs z) z
  term-put (Field' l f _ (one node end)) bound h = (label-fits l (λ m. is_field (file_label inst m) f false ≡ true) h.0, term-put node bound h.1)
  term-put (Row' l f _ (one node end) _ (one index end)) bound h = (label-fits l (λ m. is_field (file_label inst m) f true ≡ true) h.0, term-put node bound h.1, term-put index bound h.2)
  term-put (Len l) bound h = label-fits l (λ m. is_some (file_label inst m) ≡ true) h
  term-put (Msg m part) bound h = h
  term-put (Add' _ (one a end) _ (one b end)) bound h = (term-put a bound h.0, term-put b bound h.1)
  term-put (Sub' _ (one a end) _ (one b end)) bound h = (term-put a bound h.0, term-put b bound h.1)
  term-put (Mul' _ (one a end) _ (one b end)) bound h = (term-put a bound h.0, term-put b bound h.1)
  term-put (If' _ (one a end) _ (one b end) _ (one x end) _ (one y end)) bound h = (term-put a bound h.0, term-put b bound h.1, term-put x bound h.2, term-put y bound h.3)

  formula-put : (f : Formula) (bound : ℕ → Bool) → FormulaFits (file_label inst) bound f → FormulaFits (file_label inst) bound (terms_put f xs terms Own)
  unfolding opened
  formula-put True bound h = tt
  formula-put False bound h = tt
  formula-put (Eq a b) bound h = (term-put a bound h.0, term-put b bound h.1)
  formula-put (Lt a b) bound h = (term-put a bound h.0, term-put b bound h.1)
  formula-put (Le a b) bound h = (term-put a bound h.0, term-put b bound h.1)
  formula-put (Not' _ (one_formula f end_formula)) bound h = formula-put f bound h
  formula-put (And' _ (one_formula f end_formula) _ (one_formula g end_formula)) bound h = (formula-put f bound h.0, formula-put g bound h.1)
  formula-put (Or' _ (one_formula f end_formula) _ (one_formula g end_formula)) bound h = (formula-put f bound h.0, formula-put g bound h.1)
  formula-put (Implies' _ (one_formula f end_formula) _ (one_formula g end_formula)) bound h = (formula-put f bound h.0, formula-put g bound h.1)
  formula-put (All' x _ (one_formula f end_formula)) bound h = formula-put f bound h
  formula-put (Exists' x _ (one_formula f end_formula)) bound h = formula-put f bound h
  formula-put (Each' m label tag _ (one_formula f end_formula)) bound h = (label-fits label (λ l. is_some (file_label inst l) ≡ true) h.0, formula-put f (and_name m bound) h.1)
  formula-put (Any' m label tag _ (one_formula f end_formula)) bound h = (label-fits label (λ l. is_some (file_label inst l) ≡ true) h.0, formula-put f (and_name m bound) h.1)

  pub about-put : (f : Formula) → IsAbout inst None f → IsAbout inst None (terms_put f xs terms Own)
  about-put f h = formula-put f (λ m. false) h
