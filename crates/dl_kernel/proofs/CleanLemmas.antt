-- When a changed sequent is clean.
use Rattle.std.proofs.Common.{◌≡◌, ℕ, Bool, true, false, not, ◌&&◌, ◌||◌, ◌==◌, if◌then◌else◌, List, [], ◌∷◌, ◌++◌, map, Option, Some, None, is_some, refl, sym, ◌∙◌, ap, arith}
use denote.Ref.{Bor}
use Rattle.std.specs.Option.{option_map, option_copied}
use Rattle.std.specs.List.{list_all, list_any, find}
use Rattle.std.proofs.lemmas.List.Folds.{list_any-append, list_all-append}
use Rattle.dl_term.specs.declared.syntax.Formula.{Formula, True, False}
use Rattle.dl_model.specs.declared.sequent.Hypothesis.{Hypothesis}
use Rattle.dl_model.specs.declared.sequent.Sequent.{Sequent}
use Rattle.dl_model.specs.Sorts.{has}
use Rattle.dl_model.specs.Lookup.{Parameter}
use Rattle.dl_sequent.specs.Bounds.{Declared, sort_of, message_of}
use Rattle.dl_sequent.specs.Clean.{are_distinct, is_told_apart, var_names, message_names, fact_names, is_clean}
use Rattle.dl_kernel.specs.declared.parts.Two.{Two}
use Rattle.dl_kernel.specs.Steps.{fact_in, with_fact, with_goal, split_goal, pick_goal, intro_goal, parts_of_fact, cases_of_fact, apply_fact, only_clean}
use Rattle.dl_kernel.specs.Seen.{if_clean, one_if, two_if}

pub is_some-mapped : {A B : Type 0} (f : A → B) (o : Option A) → is_some (option_map f o) ≡ is_some o
is_some-mapped f None = refl
is_some-mapped f (Some x) = refl

pub is_some-copied : {T : Type 0} (o : Option (Bor T)) → is_some o ≡ is_some (option_copied o)
is_some-copied None = refl
is_some-copied (Some x) = refl

-- the names of things in a list, by what is found there
pub found-known : {X : Type 0} (name_of : X → ℕ) (xs : List X) (name : ℕ) → is_some (find (λ x. name_of x == name) xs) ≡ has (map name_of xs) name
found-known name_of [] name = refl
found-known name_of (x ∷ xs) name = by_test (name_of x == name) (name == name_of x) (turned (name_of x) name) (found-known name_of xs name)
  where
    turned : (m n : ℕ) → (m == n) ≡ (n == m)
    turned m n = grind arith

    by_test : (a b : Bool) → a ≡ b → is_some (find (λ x. name_of x == name) xs) ≡ has (map name_of xs) name → is_some (if a then Some x else find (λ x. name_of x == name) xs) ≡ (b || has (map name_of xs) name)
    by_test true true e ih = refl
    by_test false false e ih = ih
    by_test true false e ih = absurd (cc)
    by_test false true e ih = absurd (cc)

pub sort-known : (vars : List Parameter) (name : ℕ) → is_some (sort_of vars name) ≡ has (map (λ (v : Parameter). v.0) vars) name
sort-known vars name = is_some-mapped (λ (v : Parameter). v.1) (find (λ (v : Parameter). v.0 == name) vars) ∙ found-known (λ (v : Parameter). v.0) vars name

pub message-known : (messages : List Declared) (name : ℕ) → is_some (message_of messages name) ≡ has (map (λ (m : Declared). m.0) messages) name
message-known messages name = found-known (λ (m : Declared). m.0) messages name

pub fact-known : (facts : List Hypothesis) (name : ℕ) → is_some (fact_in facts name) ≡ has (map (λ (h : Hypothesis). h.name) facts) name
fact-known facts name = is_some-mapped (λ (h : Hypothesis). h.formula) (find (λ (h : Hypothesis). h.name == name) facts) ∙ found-known (λ (h : Hypothesis). h.name) facts name

pub has-both : (xs ys : List ℕ) (name : ℕ) → (has xs name || has ys name) ≡ has (xs ++ ys) name
has-both xs ys name = sym (list_any-append (λ m. name == m) xs ys)

-- the formula tells its names apart among those of the sequent
abbrev pub fits : Sequent → Formula → Bool
fits s f = is_told_apart (var_names s) (message_names s) f

goal-clean : (p q r t g : Bool) → ((p && q) && (r && t)) ≡ true → g ≡ ((p && q) && (r && g))
goal-clean true true true true g h = refl
goal-clean true true true false g h = cc
goal-clean true true false t g h = cc
goal-clean true false r t g h = cc
goal-clean false q r t g h = cc

-- a clean sequent with another goal
pub clean-goal : (s : Sequent) (g : Formula) → is_clean s ≡ true → fits s g ≡ is_clean (with_goal s g)
clean-goal s g h =
    goal-clean (are_distinct (var_names s ++ message_names s)) (are_distinct (fact_names s)) (list_all (λ (h : Hypothesis). fits s h.formula) s.facts) (fits s s.goal) (fits s g) h

pub clean-true : (s : Sequent) → is_clean s ≡ true → is_clean (with_goal s True) ≡ true
clean-true s h = sym (clean-goal s True h)

and-both : (p q r s : Bool) → ((p && q) && (r && s)) ≡ ((p && r) && (q && s))
and-both true true r s = refl
and-both true false true s = refl
and-both true false false s = refl
and-both false q r s = refl

-- one more name at the end
distinct-more : (names : List ℕ) (name : ℕ) → are_distinct (names ++ name ∷ []) ≡ (not (has names name) && are_distinct names)
distinct-more [] name = refl
distinct-more (x ∷ xs) name =
    (λ i. not (list_any-append (λ m. x == m) xs (name ∷ []) i) && distinct-more xs name i)
    ∙ apart (has xs x) (x == name) (name == x) (has xs name) (are_distinct xs) (sym-eqb x name)
  where
    sym-eqb : (x y : ℕ) → (x == y) ≡ (y == x)
    sym-eqb x y = grind arith

    apart : (p q q' r d : Bool) → q ≡ q' → (not (p || (q || false)) && (not r && d)) ≡ (not (q' || r) && (not p && d))
    apart true q q' r d e = by_two q' r
      where
        by_two : (a b : Bool) → false ≡ (not (a || b) && false)
        by_two true b = refl
        by_two false true = refl
        by_two false false = refl
    apart false true true r d e = refl
    apart false false false r d e = refl
    apart false true false r d e = cc
    apart false false true r d e = cc

names-more : (facts : List Hypothesis) (h : Hypothesis) → map (λ (h : Hypothesis). h.name) (facts ++ h ∷ []) ≡ map (λ (h : Hypothesis). h.name) facts ++ h.name ∷ []
names-more [] h = refl
names-more (f ∷ fs) h = ap (λ names. f.name ∷ names) (names-more fs h)

fact-more : (p d a g n f : Bool) → ((p && (n && d)) && ((a && (f && true)) && g)) ≡ (((p && d) && (a && g)) && (n && f))
fact-more true true true true true true = refl
fact-more true true true true true false = refl
fact-more true true true true false f = refl
fact-more true true true false true true = refl
fact-more true true true false true false = refl
fact-more true true true false false f = refl
fact-more true true false g true f = refl
fact-more true true false g false f = refl
fact-more true false a g true f = refl
fact-more true false a g false f = refl
fact-more false d a g n f = refl

-- a sequent with a further hypothesis
pub clean-fact : (s : Sequent) (name : ℕ) (f : Formula) → is_clean (with_fact s name f) ≡ (is_clean s && (not (has (fact_names s) name) && fits s f))
clean-fact s name f =
    (λ i. (are_distinct (var_names s ++ message_names s) && are_distinct (names-more s.facts (record { name = name; formula = f }) i))
    && (list_all-append (λ (h : Hypothesis). fits s h.formula) s.facts (record { name = name; formula = f } ∷ []) i && fits s s.goal))
    ∙ (λ i. (are_distinct (var_names s ++ message_names s) && distinct-more (fact_names s) name i) && ((list_all (λ (h : Hypothesis). fits s h.formula) s.facts && (fits s f && true)) && fits s s.goal))
    ∙ fact-more (are_distinct (var_names s ++ message_names s)) (are_distinct (fact_names s)) (list_all (λ (h : Hypothesis). fits s h.formula) s.facts) (fits s s.goal) (not (has (fact_names s) name)) (fits s f)

pub clean-added : (s : Sequent) (name : ℕ) (f : Formula) → is_clean s ≡ true → (not (has (fact_names s) name) && fits s f) ≡ is_clean (with_fact s name f)
clean-added s name f h = ap (λ b. b && (not (has (fact_names s) name) && fits s f)) (sym h) ∙ sym (clean-fact s name f)

pub unclean-added : (s : Sequent) (name : ℕ) (f : Formula) → is_clean s ≡ false → is_clean (with_fact s name f) ≡ false
unclean-added s name f h = clean-fact s name f ∙ ap (λ b. b && (not (has (fact_names s) name) && fits s f)) h

-- ---- what is left, if it is clean

pub one-clean : (s : Sequent) (fine : Bool) → fine ≡ is_clean s → one_if fine s ≡ only_clean (Some (s ∷ []))
one-clean s fine e = ap (λ b. one_if b s) e ∙ by_test (is_clean s)
  where
    by_test : (b : Bool) → one_if b s ≡ (if b && true then Some (s ∷ []) else None)
    by_test true = refl
    by_test false = refl

pub one-unclean : (s t : Sequent) → is_clean s ≡ false → one_if false t ≡ only_clean (Some (s ∷ []))
one-unclean s t e = ap (λ b. if b && true then Some (s ∷ []) else None) (sym e)

pub two-clean : (s t : Sequent) (one : Option Sequent) → one ≡ if_clean s → is_clean t ≡ true → two_if one t ≡ only_clean (Some (s ∷ t ∷ []))
two-clean s t one e clean = ap (λ o. two_if o t) e ∙ by_test (is_clean s) ∙ ap (λ b. if is_clean s && (b && true) then Some (s ∷ t ∷ []) else None) (sym clean)
  where
    by_test : (b : Bool) → two_if (if b then Some s else None) t ≡ (if b && true then Some (s ∷ t ∷ []) else None)
    by_test true = refl
    by_test false = refl

pub two-unclean : (s t u : Sequent) → is_clean t ≡ false → two_if None u ≡ only_clean (Some (s ∷ t ∷ []))
two-unclean s t u e = by_test (is_clean s) ∙ ap (λ b. if is_clean s && (b && true) then Some (s ∷ t ∷ []) else None) (sym e)
  where
    by_test : (b : Bool) → None ≡ (if b && false then Some (s ∷ t ∷ []) else None)
    by_test true = refl
    by_test false = refl

-- the second one is looked at last, and hands on the first one
pub two-either : (s t : Sequent) (one : Option Sequent) → one ≡ if_clean s → two_if (if is_clean t then one else None) t ≡ only_clean (Some (s ∷ t ∷ []))
two-either s t one e = ap (λ o. two_if (if is_clean t then o else None) t) e ∙ by_tests (is_clean s) (is_clean t)
  where
    by_tests : (p q : Bool) → two_if (if q then (if p then Some s else None) else None) t ≡ (if p && (q && true) then Some (s ∷ t ∷ []) else None)
    by_tests true true = refl
    by_tests true false = refl
    by_tests false true = refl
    by_tests false false = refl
