-- A formula that is changed in its place: when the sequent is clean, and when it is too large.
use Rattle.std.proofs.Common.{◌≡◌, ℕ, zero, suc, Bool, true, false, not, ◌&&◌, ◌||◌, ◌==◌, if◌then◌else◌, List, [], ◌∷◌, ◌++◌, map, Option, Some, None, is_some, refl, sym, ◌∙◌, ap, subst, eqb-true, nat_lt, ◌+◌, ◌<◌, ◌≤◌, length, slice_set, lt-ltb, arith}
use Rattle.std.specs.Option.{option_map, option_and_then}
use Rattle.std.specs.List.{list_all, list_any, find, sum_by, position, position_or_len}
use Rattle.std.proofs.lemmas.List.Sums.{sum_by-append}
use borrow.Author.Tests.{ltb-true}
use Rattle.dl_term.specs.declared.syntax.Part.{Part}
use Rattle.dl_term.specs.declared.syntax.Part.TheVariants.{Id, From, To, Live, Arg}
use Rattle.dl_term.specs.declared.syntax.Term.{Term, Num, Word, Var, Field', Row', Len, Msg, Add', Sub', Mul', If', more_of-Term as one_term, end_of-Term as end_term}
use Rattle.dl_term.specs.declared.syntax.Formula.{Formula, Eq, more_of-Formula as one, end_of-Formula as end}
use Rattle.dl_term.specs.Measures.{formula_parts, formula_nesting, is_oversized}
use Rattle.dl_model.specs.declared.sequent.Hypothesis.{Hypothesis}
use Rattle.dl_model.specs.declared.sequent.Sequent.{Sequent}
use Rattle.dl_model.specs.Sorts.{has}
use Rattle.dl_sequent.specs.Clean.{knows, is_told_apart, var_names, message_names, fact_names, are_distinct, is_clean}
use Rattle.dl_sequent.specs.Sizes.{sequent_parts, is_too_large}
use Rattle.dl_sequent.specs.Bounds.{Declared, message_of}
use Rattle.dl_kernel.specs.declared.parts.Equation.{Equation}
use Rattle.dl_kernel.specs.Parts.{as_equation}
use Rattle.dl_kernel.specs.Lines.{goal_word}
use Rattle.dl_kernel.specs.Steps.{with_goal, fact_in, fact_of, part_of, one_left, put_message, target, put_fact, put_target, id_of, are_alike, are_one, put_term, put_id, rewritten, rewrite_by, only_clean}
use Rattle.dl_kernel.specs.Seen.{one_if, IsOversized, IsPastLimit}
use Rattle.dl_kernel.proofs.CleanLemmas.{is_some-mapped, fits, clean-goal}
use Rattle.dl_kernel.proofs.ApartLemmas.{left, right, both}
use Rattle.dl_kernel.proofs.LeftLemmas.{clean-goal-fits, clean-fact-fits, other-fits, term-fits, large-goal}
use Rattle.dl_kernel.proofs.StepLemmas.{past-one, oversized, listed}

put-names : (hs : List Hypothesis) (at : ℕ) (f : Formula) → map (λ (h : Hypothesis). h.name) (put_fact hs at f) ≡ map (λ (h : Hypothesis). h.name) hs
put-names [] at f = refl
put-names (h ∷ hs) at f = by_test (h.name == at) (put-names hs at f)
  where
    by_test : (b : Bool) → map (λ (h : Hypothesis). h.name) (put_fact hs at f) ≡ map (λ (h : Hypothesis). h.name) hs → map (λ (h : Hypothesis). h.name) (if b then record { name = h.name; formula = f } ∷ hs else h ∷ put_fact hs at f) ≡ h.name ∷ map (λ (h : Hypothesis). h.name) hs
    by_test true rest = refl
    by_test false rest = ap (λ names. h.name ∷ names) rest

put-all : (test : Formula → Bool) (hs : List Hypothesis) (at : ℕ) (f : Formula) → list_all (λ (h : Hypothesis). test h.formula) hs ≡ true → list_all (λ (h : Hypothesis). test h.formula) (put_fact hs at f) ≡ (if is_some (fact_in hs at) then test f else true)
put-all test [] at f h = refl
put-all test (g ∷ gs) at f h = by_test (g.name == at) (put-all test gs at f (right (test g.formula) (list_all (λ (h : Hypothesis). test h.formula) gs) h))
  where
    and-true : (b : Bool) → (b && true) ≡ b
    and-true true = refl
    and-true false = refl

    by_test : (b : Bool) → list_all (λ (h : Hypothesis). test h.formula) (put_fact gs at f) ≡ (if is_some (fact_in gs at) then test f else true)
        → list_all (λ (h : Hypothesis). test h.formula) (if b then record { name = g.name; formula = f } ∷ gs else g ∷ put_fact gs at f)
        ≡ (if is_some (option_map (λ (h : Hypothesis). h.formula) (if b then Some g else find (λ (h : Hypothesis). h.name == at) gs)) then test f else true)
    by_test true rest = ap (λ b. test f && b) (right (test g.formula) (list_all (λ (h : Hypothesis). test h.formula) gs) h) ∙ and-true (test f)
    by_test false rest = ap (λ b. b && list_all (λ (h : Hypothesis). test h.formula) (put_fact gs at f)) (left (test g.formula) (list_all (λ (h : Hypothesis). test h.formula) gs) h) ∙ rest

parts-true : (p q r t : Bool) → ((p && q) && (r && t)) ≡ true → (u : Bool) → u ≡ ((p && q) && (u && t))
parts-true true true true true h true = refl
parts-true true true true true h false = refl
parts-true true true true false h u = cc
parts-true true true false t h u = cc
parts-true true false r t h u = cc
parts-true false q r t h u = cc

-- a clean sequent with another formula for a hypothesis
pub clean-put : (s : Sequent) (at : ℕ) (f : Formula) → is_clean s ≡ true → (if is_some (fact_of s at) then fits s f else true) ≡ is_clean (record s { facts = put_fact s.facts at f })
clean-put s at f h =
    let facts = left (list_all (λ (h : Hypothesis). fits s h.formula) s.facts) (fits s s.goal) (right (are_distinct (var_names s ++ message_names s) && are_distinct (fact_names s)) (list_all (λ (h : Hypothesis). fits s h.formula) s.facts && fits s s.goal) h) in
    parts-true (are_distinct (var_names s ++ message_names s)) (are_distinct (fact_names s)) (list_all (λ (h : Hypothesis). fits s h.formula) s.facts) (fits s s.goal) h (if is_some (fact_of s at) then fits s f else true)
    ∙ (λ i. (are_distinct (var_names s ++ message_names s) && are_distinct (sym (put-names s.facts at f) i)) && (sym (put-all (fits s) s.facts at f facts) i && fits s s.goal))

put-parts : (hs : List Hypothesis) (at : ℕ) (f g : Formula) → fact_in hs at ≡ Some g → formula_parts f ≤ sum_by (λ (h : Hypothesis). formula_parts h.formula) (put_fact hs at f)
put-parts [] at f g e = cc
put-parts (h ∷ hs) at f g e = by_test (h.name == at) e (λ k. put-parts hs at f g k)
  where
    by_test : (b : Bool) → option_map (λ (h : Hypothesis). h.formula) (if b then Some h else find (λ (h : Hypothesis). h.name == at) hs) ≡ Some g
        → (fact_in hs at ≡ Some g → formula_parts f ≤ sum_by (λ (h : Hypothesis). formula_parts h.formula) (put_fact hs at f))
        → formula_parts f ≤ sum_by (λ (h : Hypothesis). formula_parts h.formula) (if b then record { name = h.name; formula = f } ∷ hs else h ∷ put_fact hs at f)
    by_test true e rest =
        let it : Hypothesis = record { name = h.name; formula = f } in
        let sum : sum_by (λ (h : Hypothesis). formula_parts h.formula) (it ∷ hs) ≡ formula_parts f + sum_by (λ (h : Hypothesis). formula_parts h.formula) hs = sum_by-append (λ (h : Hypothesis). formula_parts h.formula) (it ∷ []) hs ∙ ap (λ n. n + sum_by (λ (h : Hypothesis). formula_parts h.formula) hs) (omega arith) in
        subst (λ n. formula_parts f ≤ n) (sym sum) (omega arith)
    by_test false e rest = let more : formula_parts f ≤ sum_by (λ (h : Hypothesis). formula_parts h.formula) (put_fact hs at f) = rest e in
        let sum : sum_by (λ (h : Hypothesis). formula_parts h.formula) (h ∷ put_fact hs at f) ≡ formula_parts h.formula + sum_by (λ (h : Hypothesis). formula_parts h.formula) (put_fact hs at f) = sum_by-append (λ (h : Hypothesis). formula_parts h.formula) (h ∷ []) (put_fact hs at f) ∙ ap (λ n. n + sum_by (λ (h : Hypothesis). formula_parts h.formula) (put_fact hs at f)) (omega arith) in
        subst (λ n. formula_parts f ≤ n) (sym sum) (omega arith)

put-any : (test : Formula → Bool) (hs : List Hypothesis) (at : ℕ) (f g : Formula) → fact_in hs at ≡ Some g → test f ≡ true → list_any (λ (h : Hypothesis). test h.formula) (put_fact hs at f) ≡ true
put-any test [] at f g e t = cc
put-any test (h ∷ hs) at f g e t = by_test (h.name == at) e (λ k. put-any test hs at f g k t)
  where
    or-true : (a b : Bool) → b ≡ true → (a || b) ≡ true
    or-true true b h = refl
    or-true false b h = h

    by_test : (b : Bool) → option_map (λ (h : Hypothesis). h.formula) (if b then Some h else find (λ (h : Hypothesis). h.name == at) hs) ≡ Some g
        → (fact_in hs at ≡ Some g → list_any (λ (h : Hypothesis). test h.formula) (put_fact hs at f) ≡ true)
        → list_any (λ (h : Hypothesis). test h.formula) (if b then record { name = h.name; formula = f } ∷ hs else h ∷ put_fact hs at f) ≡ true
    by_test true e rest = ap (λ b. b || list_any (λ (h : Hypothesis). test h.formula) hs) t
    by_test false e rest = or-true (test h.formula) _ (rest e)

or-either : (a b : Bool) (P : Type 0) → (a || b) ≡ true → (a ≡ true → P) → (b ≡ true → P) → P
or-either true b P h f g = f refl
or-either false b P h f g = g h

or-first : (a b : Bool) → a ≡ true → (a || b) ≡ true
or-first true b h = refl
or-first false b h = cc

or-last : (a b : Bool) → b ≡ true → (a || b) ≡ true
or-last true b h = refl
or-last false b h = h

large-parts : (n m : ℕ) → nat_lt 1000000 n ≡ true → n ≤ m → nat_lt 1000000 m ≡ true
large-parts n m h le = let lt : 1000000 < n = ltb-true 1000000 n h in lt-ltb 1000000 m (omega arith)

large-put : (s : Sequent) (at : ℕ) (f g : Formula) → fact_of s at ≡ Some g → is_oversized f ≡ true → is_too_large (record s { facts = put_fact s.facts at f }) ≡ true
large-put s at f g e h =
    or-either (nat_lt 1000000 (formula_parts f)) (nat_lt 4000 (formula_nesting f)) _ h
    (λ big. let more = put-parts s.facts at f g e in or-first _ _ (large-parts (formula_parts f) (sequent_parts (record s { facts = put_fact s.facts at f })) big (omega arith)))
    (λ deep. or-last (nat_lt 1000000 (sequent_parts (record s { facts = put_fact s.facts at f }))) _ (or-first _ (nat_lt 4000 (formula_nesting s.goal)) (put-any (λ f. nat_lt 4000 (formula_nesting f)) s.facts at f g e deep)))

-- the target is fit, and a fit formula in its place leaves a clean sequent
pub target-fits : (s : Sequent) (hyp at : ℕ) (f : Formula) → is_clean s ≡ true → target s hyp at ≡ Some f → fits s f ≡ true
target-fits s hyp at f clean e = by_tests (at == goal_word) (at == hyp) e
  where
    by_tests : (a b : Bool) → (if a then Some s.goal else if b then None else fact_of s at) ≡ Some f → fits s f ≡ true
    by_tests true b e = let is : s.goal ≡ f = cc in subst (λ g. fits s g ≡ true) is (clean-goal-fits s clean)
    by_tests false true e = cc
    by_tests false false e = clean-fact-fits s at f clean e

pub put-past : (s : Sequent) (hyp at : ℕ) (f g : Formula) → is_clean s ≡ true → target s hyp at ≡ Some f → fits s g ≡ true → is_oversized g ≡ true → IsPastLimit (only_clean (Some (put_target s at g ∷ [])))
put-past s hyp at f g clean e fit big = by_tests (at == goal_word) (at == hyp) e
  where
    by_tests : (a b : Bool) → (if a then Some s.goal else if b then None else fact_of s at) ≡ Some f → IsPastLimit (only_clean (Some ((if a then with_goal s g else record s { facts = put_fact s.facts at g }) ∷ [])))
    by_tests true b e = past-one (with_goal s g) (sym (clean-goal s g clean) ∙ fit) (large-goal s g big)
    by_tests false true e = cc
    by_tests false false e =
        past-one (record s { facts = put_fact s.facts at g })
        (sym (clean-put s at g clean) ∙ ap (λ o. if is_some o then fits s g else true) e ∙ fit) (large-put s at g f e big)

equation-known : (s : Sequent) (f : Formula) (e : Equation) → as_equation f ≡ Some e → fits s f ≡ true → (knows (var_names s) (message_names s) e.left ≡ true) × (knows (var_names s) (message_names s) e.right ≡ true)
equation-known s (Eq a b) e h fit =
    let is : record { left = a; right = b } ≡ e = cc in
    subst (λ (e : Equation). (knows (var_names s) (message_names s) e.left ≡ true) × (knows (var_names s) (message_names s) e.right ≡ true)) is (left _ _ fit, right _ _ fit)
equation-known s _ e h fit = cc

alike-listed : (s : Sequent) (m k : ℕ) → are_alike (message_of s.messages m) (message_of s.messages k) ≡ true → (has (message_names s) m ≡ true) × (has (message_names s) k ≡ true)
alike-listed s m k h = by_found (message_of s.messages m) (message_of s.messages k) refl refl h
  where
    by_found : (o p : Option Declared) → message_of s.messages m ≡ o → message_of s.messages k ≡ p → are_alike o p ≡ true → (has (message_names s) m ≡ true) × (has (message_names s) k ≡ true)
    by_found (Some a) (Some b) e e' h = (listed s.messages m a e, listed s.messages k b e')
    by_found (Some a) None e e' h = cc
    by_found None p e e' h = cc

rewritten-fits : (s : Sequent) (e : Equation) (f g : Formula) → knows (var_names s) (message_names s) e.left ≡ true → knows (var_names s) (message_names s) e.right ≡ true → fits s f ≡ true → rewritten s e f ≡ Some g → fits s g ≡ true
rewritten-fits s e f g ka kb fit made = by_test (are_one s (id_of e.left) (id_of e.right)) refl made
  where
    by_ids : (o p : Option ℕ) → are_one s o p ≡ true → put_id o p f ≡ Some g → fits s g ≡ true
    by_ids (Some m) (Some k) h made = let both_are = alike-listed s m k h in other-fits s m k f g fit both_are.1 both_are.0 made
    by_ids (Some m) None h made = cc
    by_ids None p h made = cc

    by_test : (b : Bool) → are_one s (id_of e.left) (id_of e.right) ≡ b → (if b then put_id (id_of e.left) (id_of e.right) f else put_term e f) ≡ Some g → fits s g ≡ true
    by_test true h made = by_ids (id_of e.left) (id_of e.right) h made
    by_test false h made = term-fits s e.left e.right f g fit ka kb made

pub rewrite-limit : (s : Sequent) (hyp at : ℕ) → is_clean s ≡ true → IsOversized (rewrite_by s (part_of as_equation s hyp) (target s hyp at)) → IsPastLimit (only_clean (one_left (option_map (put_target s at) (rewrite_by s (part_of as_equation s hyp) (target s hyp at)))))
rewrite-limit s hyp at clean big = by_parts (part_of as_equation s hyp) (target s hyp at) refl refl big
  where
    found : {X Y : Type 0} (o : Option X) (f : X → Option Y) (y : Y) → option_and_then f o ≡ Some y → (x : X) × (o ≡ Some x) × (f x ≡ Some y)
    found (Some x) f y h = (x, refl, h)
    found None f y h = cc

    by_parts : (o : Option Equation) (t : Option Formula) → part_of as_equation s hyp ≡ o → target s hyp at ≡ t → IsOversized (rewrite_by s o t) → IsPastLimit (only_clean (one_left (option_map (put_target s at) (rewrite_by s o t))))
    by_parts None t p q big = absurd big
    by_parts (Some e) None p q big = absurd big
    by_parts (Some e) (Some f) p q big =
        let g = oversized (rewritten s e f) big in
        let h = found (fact_of s hyp) as_equation e p in
        let known = equation-known s h.0 e h.2 (clean-fact-fits s hyp h.0 clean h.1) in
        let fit = rewritten-fits s e f g.0 known.0 known.1 (target-fits s hyp at f clean q) g.1 in
        subst (λ o. IsPastLimit (only_clean (one_left (option_map (put_target s at) o)))) (sym g.1) (put-past s hyp at f g.0 clean q fit g.2)

-- the equation says that two messages are one, or it doesn't
pub rewritten-one : (s : Sequent) (e : Equation) (f : Formula) (l r : Option ℕ) (b : Bool) → l ≡ id_of e.left → r ≡ id_of e.right → b ≡ are_one s l r → b ≡ true → put_id l r f ≡ rewritten s e f
rewritten-one s e f l r b p q h t =
    (λ i. put_id (p i) (q i) f)
    ∙ ap (λ c. if c then put_id (id_of e.left) (id_of e.right) f else put_term e f) (sym t ∙ h ∙ (λ i. are_one s (p i) (q i)))

pub rewritten-apart : (s : Sequent) (e : Equation) (f : Formula) (l r : Option ℕ) (b : Bool) → l ≡ id_of e.left → r ≡ id_of e.right → b ≡ are_one s l r → b ≡ false → put_term e f ≡ rewritten s e f
rewritten-apart s e f l r b p q h t =
    ap (λ c. if c then put_id (id_of e.left) (id_of e.right) f else put_term e f) (sym t ∙ h ∙ (λ i. are_one s (p i) (q i)))

-- ---- the place of a hypothesis

found-placed : {X : Type 0} (p : X → Bool) (xs : List X) → is_some (find p xs) ≡ nat_lt (position_or_len p xs) (length xs)
found-placed p [] = refl
found-placed p (x ∷ xs) = by_test (p x) (found-placed p xs)
  where
    shift : (n m : ℕ) → nat_lt n m ≡ nat_lt (1 + n) (suc m)
    shift n m = grind arith

    by_test : (b : Bool) → is_some (find p xs) ≡ nat_lt (position_or_len p xs) (length xs) → is_some (if b then Some x else find p xs) ≡ nat_lt (if not b then 1 + position_or_len p xs else 0) (suc (length xs))
    by_test true ih = sym (lt-ltb 0 (suc (length xs)) (omega arith))
    by_test false ih = ih ∙ shift (position_or_len p xs) (length xs)

-- the hypothesis at its place becomes the new one
put-placed : (hs : List Hypothesis) (at : ℕ) (f : Formula) → put_fact hs at f ≡ slice_set hs (position_or_len (λ (h : Hypothesis). h.name == at) hs) (record { name = at; formula = f })
put-placed [] at f = refl
put-placed (h ∷ hs) at f = by_test (h.name == at) (λ e. eqb-true h.name at e) (put-placed hs at f)
  where
    by_test : (b : Bool) → (b ≡ true → h.name ≡ at) → put_fact hs at f ≡ slice_set hs (position_or_len (λ (h : Hypothesis). h.name == at) hs) (record { name = at; formula = f })
        → (if b then record { name = h.name; formula = f } ∷ hs else h ∷ put_fact hs at f)
        ≡ slice_set (h ∷ hs) (if not b then 1 + position_or_len (λ (h : Hypothesis). h.name == at) hs else 0) (record { name = at; formula = f })
    by_test true same ih = ap (λ name. record { name = name; formula = f } ∷ hs) (same refl)
    by_test false same ih =
        let next : 1 + position_or_len (λ (h : Hypothesis). h.name == at) hs ≡ suc (position_or_len (λ (h : Hypothesis). h.name == at) hs) = omega arith in
        ap (λ gs. h ∷ gs) ih ∙ ap (λ n. slice_set (h ∷ hs) n (record { name = at; formula = f })) (sym next)

pub put-at : (hs : List Hypothesis) (at place : ℕ) (f : Formula) → position (λ (h : Hypothesis). h.name == at) hs ≡ Some place
    → (place < length hs) × (slice_set hs place (record { name = at; formula = f }) ≡ put_fact hs at f) × (is_some (fact_in hs at) ≡ true)
put-at hs at place f e = by_test (nat_lt n (length hs)) refl e
  where
    n : ℕ
    n = position_or_len (λ (h : Hypothesis). h.name == at) hs

    by_test : (b : Bool) → nat_lt n (length hs) ≡ b → (if b then Some n else None) ≡ Some place
        → (place < length hs) × (slice_set hs place (record { name = at; formula = f }) ≡ put_fact hs at f) × (is_some (fact_in hs at) ≡ true)
    by_test true t e =
        let is : n ≡ place = cc in
        let lt : n < length hs = ltb-true n (length hs) t in (
          subst (λ k. k < length hs) is lt,
          ap (λ k. slice_set hs k (record { name = at; formula = f })) (sym is) ∙ sym (put-placed hs at f),
          is_some-mapped (λ (h : Hypothesis). h.formula) (find (λ (h : Hypothesis). h.name == at) hs) ∙ found-placed (λ (h : Hypothesis). h.name == at) hs ∙ t,
        )
    by_test false t e = cc

no-put : (hs : List Hypothesis) (at : ℕ) (f : Formula) → is_some (find (λ (h : Hypothesis). h.name == at) hs) ≡ false → put_fact hs at f ≡ hs
no-put [] at f e = refl
no-put (h ∷ hs) at f e = by_test (h.name == at) e (λ k. no-put hs at f k)
  where
    by_test : (b : Bool) → is_some (if b then Some h else find (λ (h : Hypothesis). h.name == at) hs) ≡ false → (is_some (find (λ (h : Hypothesis). h.name == at) hs) ≡ false → put_fact hs at f ≡ hs)
        → (if b then record { name = h.name; formula = f } ∷ hs else h ∷ put_fact hs at f) ≡ h ∷ hs
    by_test true e rest = cc
    by_test false e rest = ap (λ gs. h ∷ gs) (rest e)

pub put-nowhere : (hs : List Hypothesis) (at : ℕ) (f : Formula) → position (λ (h : Hypothesis). h.name == at) hs ≡ None → (put_fact hs at f ≡ hs) × (is_some (fact_in hs at) ≡ false)
put-nowhere hs at f e = by_test (nat_lt n (length hs)) refl e
  where
    n : ℕ
    n = position_or_len (λ (h : Hypothesis). h.name == at) hs

    by_test : (b : Bool) → nat_lt n (length hs) ≡ b → (if b then Some n else None) ≡ None → (put_fact hs at f ≡ hs) × (is_some (fact_in hs at) ≡ false)
    by_test true t e = cc
    by_test false t e =
        let no : is_some (find (λ (h : Hypothesis). h.name == at) hs) ≡ false = found-placed (λ (h : Hypothesis). h.name == at) hs ∙ t in
        (no-put hs at f no, is_some-mapped (λ (h : Hypothesis). h.formula) (find (λ (h : Hypothesis). h.name == at) hs) ∙ no)
