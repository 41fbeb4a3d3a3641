-- What terms and formulas name, and how large their values may be, as tests.
use Rattle.std.specs.Prelude.{ℕ, ◌+◌, ◌*◌, ◌^◌, nat_lt, max, unsigned_abs, Bool, true, false, not, ◌&&◌, if◌then◌else◌, Option, Some, None, is_some, List}
use Rattle.dl_term.specs.declared.syntax.Term.{Term, Num, Word, Var, Field', Row', Len, Msg, Add', Sub', Mul', If', more_of-Term as one, end_of-Term as end}
use Rattle.dl_term.specs.declared.syntax.Formula.{Formula, True, False, Eq, Lt, Le, Not', And', Or', Implies', All', Exists', Each', Any', more_of-Formula as one_formula, end_of-Formula as end_formula}
use Rattle.dl_model.specs.Scopes.{Scope, is_field, is_tag, is_part, is_fresh, with_variable, with_message, is_local_term, is_local}
use Rattle.dl_model.specs.Sorts.{is_i64, has}

-- ---- known

-- each label, field, variable and message in the term is known
abbrev pub term_is_known : Scope → Term → Bool
term_is_known scope (Num v) = is_i64 v
term_is_known scope (Word sym v) = is_i64 v
term_is_known scope (Var sym) = has scope.variables sym
term_is_known scope (Field' label field _ (one node end)) = is_field (scope.protocol label) field false && term_is_known scope node
term_is_known scope (Row' label field _ (one node end) _ (one index end)) =
    is_field (scope.protocol label) field true && (term_is_known scope node && term_is_known scope index)
term_is_known scope (Len label) = is_some (scope.protocol label)
term_is_known scope (Msg msg part) = has scope.messages msg && is_part part
term_is_known scope (Add' _ (one a end) _ (one b end)) = term_is_known scope a && term_is_known scope b
term_is_known scope (Sub' _ (one a end) _ (one b end)) = term_is_known scope a && term_is_known scope b
term_is_known scope (Mul' _ (one a end) _ (one b end)) = term_is_known scope a && term_is_known scope b
term_is_known scope (If' _ (one a end) _ (one b end) _ (one x end) _ (one y end)) =
    term_is_known scope a && (term_is_known scope b && (term_is_known scope x && term_is_known scope y))

abbrev pub formula_is_known : Scope → Formula → Bool
formula_is_known scope True = true
formula_is_known scope False = true
formula_is_known scope (Eq a b) = term_is_known scope a && term_is_known scope b
formula_is_known scope (Lt a b) = term_is_known scope a && term_is_known scope b
formula_is_known scope (Le a b) = term_is_known scope a && term_is_known scope b
formula_is_known scope (Not' _ (one_formula f end_formula)) = formula_is_known scope f
formula_is_known scope (And' _ (one_formula f end_formula) _ (one_formula g end_formula)) = formula_is_known scope f && formula_is_known scope g
formula_is_known scope (Or' _ (one_formula f end_formula) _ (one_formula g end_formula)) = formula_is_known scope f && formula_is_known scope g
formula_is_known scope (Implies' _ (one_formula f end_formula) _ (one_formula g end_formula)) = formula_is_known scope f && formula_is_known scope g
formula_is_known scope (All' sym _ (one_formula body end_formula)) = is_fresh scope sym && formula_is_known (with_variable scope sym) body
formula_is_known scope (Exists' sym _ (one_formula body end_formula)) = is_fresh scope sym && formula_is_known (with_variable scope sym) body
formula_is_known scope (Each' msg label tag _ (one_formula body end_formula)) =
    is_fresh scope msg && (is_tag (scope.protocol label) tag && formula_is_known (with_message scope msg) body)
formula_is_known scope (Any' msg label tag _ (one_formula body end_formula)) =
    is_fresh scope msg && (is_tag (scope.protocol label) tag && formula_is_known (with_message scope msg) body)

-- ---- narrow

-- the bound, where it is below 2 ^ 127
abbrev pub within : ℕ → Option ℕ
within n = if nat_lt n (2 ^ 127) then Some n else None

-- the second one, where there is a first
abbrev pub after : Option ℕ → Option ℕ → Option ℕ
after (Some a) b = b
after None b = None

abbrev pub larger : Option ℕ → Option ℕ → Option ℕ
larger (Some a) (Some b) = Some (max a b)
larger (Some a) None = None
larger None b = None

abbrev pub sum_within : Option ℕ → Option ℕ → Option ℕ
sum_within (Some a) (Some b) = within (a + b)
sum_within (Some a) None = None
sum_within None b = None

abbrev pub product_within : Option ℕ → Option ℕ → Option ℕ
product_within (Some a) (Some b) = within (a * b)
product_within (Some a) None = None
product_within None b = None

-- the bound of a term that is narrow
abbrev pub narrow_bound : Term → Option ℕ
narrow_bound (Num v) = within (unsigned_abs v)
narrow_bound (Word sym v) = within (unsigned_abs v)
narrow_bound (Var sym) = Some (2 ^ 63)
narrow_bound (Field' label field _ (one node end)) = after (narrow_bound node) (Some (2 ^ 63))
narrow_bound (Row' label field _ (one node end) _ (one index end)) = after (larger (narrow_bound node) (narrow_bound index)) (Some (2 ^ 63))
narrow_bound (Len label) = Some (2 ^ 63)
narrow_bound (Msg msg part) = Some (2 ^ 63)
narrow_bound (Add' _ (one a end) _ (one b end)) = sum_within (narrow_bound a) (narrow_bound b)
narrow_bound (Sub' _ (one a end) _ (one b end)) = sum_within (narrow_bound a) (narrow_bound b)
narrow_bound (Mul' _ (one a end) _ (one b end)) = product_within (narrow_bound a) (narrow_bound b)
narrow_bound (If' _ (one a end) _ (one b end) _ (one x end) _ (one y end)) =
    after (larger (narrow_bound a) (narrow_bound b)) (larger (narrow_bound x) (narrow_bound y))

abbrev pub is_narrow : Term → Bool
is_narrow term = is_some (narrow_bound term)

abbrev pub each_is_narrow : Formula → Bool
each_is_narrow True = true
each_is_narrow False = true
each_is_narrow (Eq a b) = is_narrow a && is_narrow b
each_is_narrow (Lt a b) = is_narrow a && is_narrow b
each_is_narrow (Le a b) = is_narrow a && is_narrow b
each_is_narrow (Not' _ (one_formula f end_formula)) = each_is_narrow f
each_is_narrow (And' _ (one_formula f end_formula) _ (one_formula g end_formula)) = each_is_narrow f && each_is_narrow g
each_is_narrow (Or' _ (one_formula f end_formula) _ (one_formula g end_formula)) = each_is_narrow f && each_is_narrow g
each_is_narrow (Implies' _ (one_formula f end_formula) _ (one_formula g end_formula)) = each_is_narrow f && each_is_narrow g
each_is_narrow (All' sym _ (one_formula f end_formula)) = each_is_narrow f
each_is_narrow (Exists' sym _ (one_formula f end_formula)) = each_is_narrow f
each_is_narrow (Each' msg label tag _ (one_formula f end_formula)) = each_is_narrow f
each_is_narrow (Any' msg label tag _ (one_formula f end_formula)) = each_is_narrow f

-- ---- apart

-- no quantifier binds one of these names
abbrev pub formula_is_apart : List ℕ → Formula → Bool
formula_is_apart names True = true
formula_is_apart names False = true
formula_is_apart names (Eq a b) = true
formula_is_apart names (Lt a b) = true
formula_is_apart names (Le a b) = true
formula_is_apart names (Not' _ (one_formula f end_formula)) = formula_is_apart names f
formula_is_apart names (And' _ (one_formula f end_formula) _ (one_formula g end_formula)) = formula_is_apart names f && formula_is_apart names g
formula_is_apart names (Or' _ (one_formula f end_formula) _ (one_formula g end_formula)) = formula_is_apart names f && formula_is_apart names g
formula_is_apart names (Implies' _ (one_formula f end_formula) _ (one_formula g end_formula)) = formula_is_apart names f && formula_is_apart names g
formula_is_apart names (All' sym _ (one_formula body end_formula)) = not (has names sym) && formula_is_apart names body
formula_is_apart names (Exists' sym _ (one_formula body end_formula)) = not (has names sym) && formula_is_apart names body
formula_is_apart names (Each' msg label tag _ (one_formula body end_formula)) = not (has names msg) && formula_is_apart names body
formula_is_apart names (Any' msg label tag _ (one_formula body end_formula)) = not (has names msg) && formula_is_apart names body

-- ---- terms and formulas as a scope asks for them

abbrev pub is_term : Scope → Term → Bool
is_term scope term = term_is_known scope term && is_narrow term

abbrev pub is_formula : Scope → Formula → Bool
is_formula scope f = formula_is_known scope f && each_is_narrow f

abbrev pub is_term_of_step : Scope → Term → Bool
is_term_of_step scope term = is_term scope term && is_local_term term

abbrev pub is_formula_of_step : Scope → Formula → Bool
is_formula_of_step scope f = is_formula scope f && is_local f
