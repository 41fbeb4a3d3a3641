-- What a rule leaves where the formula that it makes is too large: clean, and too large.
use Rattle.std.proofs.Common.{◌≡◌, ℕ, zero, suc, Bool, true, false, not, ◌&&◌, ◌||◌, ◌==◌, if◌then◌else◌, List, [], ◌∷◌, ◌++◌, map, Option, Some, None, refl, sym, ◌∙◌, ap, subst, eq-eqb, eqb-true, arith, nat_lt, ◌+◌, ◌<◌, ◌≤◌, lt-ltb}
use Rattle.std.specs.Option.{option_map, option_and_then}
use Rattle.std.specs.List.{list_all, list_any, find, sum_by}
use Rattle.std.proofs.lemmas.List.Folds.{list_any-append, list_all-append}
use Rattle.std.proofs.lemmas.List.Sums.{sum_by-append}
use borrow.Author.Tests.{ltb-true}
use Rattle.dl_term.specs.declared.syntax.Lab.{Lab}
use Rattle.dl_term.specs.declared.syntax.Part.{Part}
use Rattle.dl_term.specs.declared.syntax.Part.TheVariants.{Id, From, To, Live, Arg}
use Rattle.dl_term.specs.declared.syntax.Sort.{Sort}
use Rattle.dl_term.specs.declared.syntax.Term.{Term, Num, Word, Var, Field', Row', Len, Msg, Add', Sub', Mul', If', more_of-Term as one_term, end_of-Term as end_term}
use Rattle.dl_term.specs.declared.syntax.Formula.{Formula, True, False, Eq, Lt, Le, Not', And', Or', Implies', All', Exists', Each', Any', more_of-Formula as one, end_of-Formula as end}
use Rattle.dl_term.specs.Syntax.{opened}
use Rattle.dl_term.specs.Measures.{formula_parts, formula_nesting, is_oversized, has_variable, has_message, is_free_variable, is_free_message, is_free}
use Rattle.dl_term.specs.Same.{same_term}
use Rattle.dl_model.specs.declared.protocol.Instances.{Instances}
use Rattle.dl_model.specs.declared.sequent.Hypothesis.{Hypothesis}
use Rattle.dl_model.specs.declared.sequent.Sequent.{Sequent}
use Rattle.dl_model.specs.Sorts.{has}
use Rattle.dl_model.specs.Lookup.{Parameter}
use Rattle.dl_model.specs.Spoken.{bound_names}
use Rattle.dl_subst.specs.declared.message.NewMessage.{NewMessage}
use Rattle.dl_subst.specs.Change.{Change, changed, captures}
use Rattle.dl_subst.specs.Substitution.{put_for_variable, for_variable, new_part, put_for_message, for_message, for_term, substituted, message_substituted, replaced}
use Rattle.dl_sequent.specs.Clean.{knows, is_unknown, is_told_apart, var_names, message_names, fact_names, are_distinct, is_clean, mentions, is_new}
use Rattle.dl_sequent.specs.Sizes.{sequent_parts, nests_too_deep, is_too_large}
use Rattle.dl_sequent.specs.Bounds.{Declared, message_of, sort_of, is_node_term, node_sort}
use Rattle.dl_sequent.proofs.Scoped.{known-variable, known-message}
use Rattle.dl_kernel.specs.declared.parts.Quantified.{Quantified}
use Rattle.dl_kernel.specs.declared.parts.Quantified.TheVariants.{Nodes, Messages}
use Rattle.dl_kernel.specs.Parts.{as_universal, as_existential}
use Rattle.dl_kernel.specs.Steps.{with_fact, with_goal, with_variable, with_message, fact_in, fact_of, part_of, parts_of, put_node, put_message, put_term, label_number, with_new, at_new}
use Rattle.dl_kernel.proofs.CleanLemmas.{fits, has-both, clean-goal, clean-fact, clean-added}
use Rattle.dl_kernel.specs.declared.parts.Equation.{Equation}
use Rattle.dl_kernel.proofs.CaptureLemmas.{none-captured}
use Rattle.dl_kernel.proofs.ApartLemmas.{left, right, both, SameBut, IsAbsent, told-same, Carries, told-changed}

or-left : (a b : Bool) → a ≡ true → (a || b) ≡ true
or-left true b h = refl
or-left false b h = cc

or-right : (a b : Bool) → b ≡ true → (a || b) ≡ true
or-right true b h = refl
or-right false b h = h

or-either : (a b : Bool) (P : Type 0) → (a || b) ≡ true → (a ≡ true → P) → (b ≡ true → P) → P
or-either true b P h f g = f refl
or-either false b P h f g = g h

not-false : (a : Bool) → not a ≡ true → a ≡ false
not-false true h = cc
not-false false h = refl

false-not : (a : Bool) → a ≡ false → not a ≡ true
false-not true h = cc
false-not false h = refl

not-true : (a : Bool) → (a ≡ true → ⊥) → a ≡ false
not-true true h = absurd (h refl)
not-true false h = refl

-- ---- terms put in a formula

same-name : (V : List ℕ) (x y : ℕ) → (x == y) ≡ true → has V x ≡ true → has V y ≡ true
same-name V x y e h = subst (λ z. has V z ≡ true) (eqb-true x y e) h

sym-eqb : (x y : ℕ) → (x == y) ≡ (y == x)
sym-eqb x y = grind arith

-- a quantifier over nodes at a term
put-variable : (V M : List ℕ) (y : ℕ) (new t u : Term) → knows V M new ≡ true → put_for_variable y new t ≡ Some u → knows V M u ≡ true
put-variable V M y new (Var z) u k e = by_test (z == y) e
  where
    by_test : (b : Bool) → (if b then Some new else None) ≡ Some u → knows V M u ≡ true
    by_test true e = let is : new ≡ u = cc in subst (λ v. knows V M v ≡ true) is k
    by_test false e = cc
put-variable V M y new _ u k e = cc

kept-variable : (b : Bool) (new : Term) (P : Type 0) → (if b then Some new else None) ≡ None → (b ≡ false → P) → P
kept-variable true new P e f = cc
kept-variable false new P e f = f refl

carries-variable : (V M : List ℕ) (y : ℕ) (new : Term) → knows V M new ≡ true → Carries (for_variable y new) (y ∷ V) M V M
carries-variable V M y new k = record {
  new = λ t u e. put-variable V M y new t u k e;
  variable = λ x e h. kept-variable (x == y) new (has V x ≡ true) e (λ ne. subst (λ b. (b || has V x) ≡ true) ne h);
  message = λ m p e h. h;
  unknown = λ x h. unknown-inside (x == y) (has V x) (has M x) h;
  goes_on_variable = λ x h. unknown-other (x == y) (has V x) (has M x) h;
  goes_on_message = λ x h. refl;
}
  where
    unknown-inside : (a b c : Bool) → (not (a || b) && not c) ≡ true → (not b && not c) ≡ true
    unknown-inside true b c h = cc
    unknown-inside false b c h = h

    unknown-other : (a b c : Bool) → (not (a || b) && not c) ≡ true → a ≡ false
    unknown-other true b c h = cc
    unknown-other false b c h = refl

put-part : (V M : List ℕ) (k : ℕ) (p : Part) → has M k ≡ true → knows V M (new_part (parts_of k) p) ≡ true
put-part V M k Id h = h
put-part V M k From h = h
put-part V M k To h = h
put-part V M k Live h = h
put-part V M k (Arg zero) h = h
put-part V M k (Arg (suc zero)) h = h
put-part V M k (Arg (suc (suc zero))) h = h
put-part V M k (Arg (suc (suc (suc zero)))) h = h
put-part V M k (Arg (suc (suc (suc (suc zero))))) h = h
put-part V M k (Arg (suc (suc (suc (suc (suc zero)))))) h = h
put-part V M k (Arg (suc (suc (suc (suc (suc (suc zero))))))) h = h
put-part V M k (Arg (suc (suc (suc (suc (suc (suc (suc zero)))))))) h = h
put-part V M k (Arg (suc (suc (suc (suc (suc (suc (suc (suc j))))))))) h = refl

part-message : (V M : List ℕ) (m k : ℕ) (t u : Term) → has M k ≡ true → put_for_message m (parts_of k) t ≡ Some u → knows V M u ≡ true
part-message V M m k (Msg n p) u h e = by_test (n == m) e
  where
    by_test : (b : Bool) → (if b then Some (new_part (parts_of k) p) else None) ≡ Some u → knows V M u ≡ true
    by_test true e = let is : new_part (parts_of k) p ≡ u = cc in subst (λ v. knows V M v ≡ true) is (put-part V M k p h)
    by_test false e = cc
part-message V M m k _ u h e = cc

-- a quantifier over messages at a message
carries-message : (V M : List ℕ) (m k : ℕ) → has M k ≡ true → Carries (for_message m (parts_of k)) V (m ∷ M) V M
carries-message V M m k h = record {
  new = λ t u e. part-message V M m k t u h e;
  variable = λ x e h. h;
  message = λ n p e g. kept-variable (n == m) (new_part (parts_of k) p) (has M n ≡ true) e (λ ne. subst (λ b. (b || has M n) ≡ true) ne g);
  unknown = λ x h. unknown-inside (x == m) (has V x) (has M x) h;
  goes_on_variable = λ x h. refl;
  goes_on_message = λ x h. unknown-other (x == m) (has V x) (has M x) h;
}
  where
    unknown-inside : (a b c : Bool) → (not b && not (a || c)) ≡ true → (not b && not c) ≡ true
    unknown-inside true true c h = cc
    unknown-inside true false c h = cc
    unknown-inside false b c h = h

    unknown-other : (a b c : Bool) → (not b && not (a || c)) ≡ true → a ≡ false
    unknown-other true true c h = cc
    unknown-other true false c h = cc
    unknown-other false b c h = refl

-- a message for another one of the sequent
carries-other : (V M : List ℕ) (m k : ℕ) → has M k ≡ true → has M m ≡ true → Carries (for_message m (parts_of k)) V M V M
carries-other V M m k h g = record {
  new = λ t u e. part-message V M m k t u h e;
  variable = λ x e h. h;
  message = λ n p e g. g;
  unknown = λ x h. h;
  goes_on_variable = λ x h. refl;
  goes_on_message = λ x u. not-true (x == m) (λ e. clash (has M x) (right (not (has V x)) (not (has M x)) u) (same-name M m x (sym-eqb m x ∙ e) g));
}
  where
    clash : (b : Bool) → not b ≡ true → b ≡ true → ⊥
    clash true h k = cc
    clash false h k = cc

-- a term of the sequent for another one
carries-term : (V M : List ℕ) (a b : Term) → knows V M a ≡ true → knows V M b ≡ true → Carries (for_term a b) V M V M
carries-term V M a b ka kb = record {
  new = λ t u e. put (same_term t a) u e;
  variable = λ x e h. h;
  message = λ n p e g. g;
  unknown = λ x h. h;
  goes_on_variable = λ x u. not-true (has_variable a x) (λ e. clash (has V x) (left (not (has V x)) (not (has M x)) u) (known-variable V M a x ka e));
  goes_on_message = λ x u. not-true (has_message a x) (λ e. clash (has M x) (right (not (has V x)) (not (has M x)) u) (known-message V M a x ka e));
}
  where
    put : (test : Bool) (u : Term) → (if test then Some b else None) ≡ Some u → knows V M u ≡ true
    put true u e = let is : b ≡ u = cc in subst (λ v. knows V M v ≡ true) is kb
    put false u e = cc

    clash : (b : Bool) → not b ≡ true → b ≡ true → ⊥
    clash true h k = cc
    clash false h k = cc

-- ---- what is put where names are told apart

put-is : (caught : Bool) (g : Formula) → caught ≡ false → (if caught then None else Some g) ≡ Some g
put-is true g h = cc
put-is false g h = refl

pub node-put : (V M : List ℕ) (y : ℕ) (body : Formula) (t : Term) → is_told_apart (y ∷ V) M body ≡ true → knows V M t ≡ true → (put_node y body t ≡ Some (substituted body y t)) × (is_told_apart V M (substituted body y t) ≡ true)
node-put V M y body t h k =
    let c = carries-variable V M y t k in
    (put-is _ (substituted body y t) (none-captured body (for_variable y t) (y ∷ V) M V M c.new c.unknown h), told-changed body (for_variable y t) (y ∷ V) M V M c h)

pub message-put : (V M : List ℕ) (m k : ℕ) (body : Formula) → is_told_apart V (m ∷ M) body ≡ true → has M k ≡ true → (put_message m body k ≡ Some (message_substituted body m (parts_of k))) × (is_told_apart V M (message_substituted body m (parts_of k)) ≡ true)
message-put V M m k body h g =
    let c = carries-message V M m k g in
    (put-is _ (message_substituted body m (parts_of k)) (none-captured body (for_message m (parts_of k)) V (m ∷ M) V M c.new c.unknown h), told-changed body (for_message m (parts_of k)) V (m ∷ M) V M c h)

pub term-put : (V M : List ℕ) (e : Equation) (f : Formula) → is_told_apart V M f ≡ true → knows V M e.left ≡ true → knows V M e.right ≡ true → (put_term e f ≡ Some (replaced f e.left e.right)) × (is_told_apart V M (replaced f e.left e.right) ≡ true)
term-put V M e f h p q =
    let c = carries-term V M e.left e.right p q in
    (put-is _ (replaced f e.left e.right) (none-captured f (for_term e.left e.right) V M V M c.new c.unknown h), told-changed f (for_term e.left e.right) V M V M c h)

-- ---- what a clean sequent knows

pub clean-goal-fits : (s : Sequent) → is_clean s ≡ true → fits s s.goal ≡ true
clean-goal-fits s h =
    right (list_all (λ (h : Hypothesis). fits s h.formula) s.facts) (fits s s.goal)
    (right (are_distinct (var_names s ++ message_names s) && are_distinct (fact_names s)) (list_all (λ (h : Hypothesis). fits s h.formula) s.facts && fits s s.goal) h)

clean-facts-fit : (s : Sequent) → is_clean s ≡ true → list_all (λ (h : Hypothesis). fits s h.formula) s.facts ≡ true
clean-facts-fit s h =
    left (list_all (λ (h : Hypothesis). fits s h.formula) s.facts) (fits s s.goal)
    (right (are_distinct (var_names s ++ message_names s) && are_distinct (fact_names s)) (list_all (λ (h : Hypothesis). fits s h.formula) s.facts && fits s s.goal) h)

named : (facts : List Hypothesis) (name : ℕ) (f : Formula) (test : Formula → Bool) → fact_in facts name ≡ Some f → list_all (λ (h : Hypothesis). test h.formula) facts ≡ true → test f ≡ true
named [] name f test e h = cc
named (g ∷ gs) name f test e h = by_test (g.name == name) e (λ k. named gs name f test k (right (test g.formula) (list_all (λ (h : Hypothesis). test h.formula) gs) h))
  where
    by_test : (b : Bool) → option_map (λ (h : Hypothesis). h.formula) (if b then Some g else find (λ (h : Hypothesis). h.name == name) gs) ≡ Some f → (fact_in gs name ≡ Some f → test f ≡ true) → test f ≡ true
    by_test true e later = let is : g.formula ≡ f = cc in subst (λ x. test x ≡ true) is (left (test g.formula) (list_all (λ (h : Hypothesis). test h.formula) gs) h)
    by_test false e later = later e

pub clean-fact-fits : (s : Sequent) (name : ℕ) (f : Formula) → is_clean s ≡ true → fact_of s name ≡ Some f → fits s f ≡ true
clean-fact-fits s name f h e = named s.facts name f (fits s) e (clean-facts-fit s h)

-- a quantified formula of the sequent
abbrev pub quantified-fits : Sequent → Quantified → Bool
quantified-fits s (Nodes y body) = is_told_apart (y ∷ var_names s) (message_names s) body
quantified-fits s (Messages m label tag body) = is_told_apart (var_names s) (m ∷ message_names s) body

quantified-is : (p q : Quantified) → Some p ≡ Some q → p ≡ q
quantified-is p q h = cc

pub universal-fits : (s : Sequent) (f : Formula) (q : Quantified) → as_universal f ≡ Some q → fits s f ≡ true → quantified-fits s q ≡ true
universal-fits s (All' y _ (one f end)) q e h = ap (quantified-fits s) (sym (quantified-is _ q e)) ∙ right (is_unknown (var_names s) (message_names s) y) (is_told_apart (y ∷ var_names s) (message_names s) f) h
universal-fits s (Each' m label tag _ (one f end)) q e h = ap (quantified-fits s) (sym (quantified-is _ q e)) ∙ right (is_unknown (var_names s) (message_names s) m) (is_told_apart (var_names s) (m ∷ message_names s) f) h
universal-fits s _ q e h = cc

pub existential-fits : (s : Sequent) (f : Formula) (q : Quantified) → as_existential f ≡ Some q → fits s f ≡ true → quantified-fits s q ≡ true
existential-fits s (Exists' y _ (one f end)) q e h = ap (quantified-fits s) (sym (quantified-is _ q e)) ∙ right (is_unknown (var_names s) (message_names s) y) (is_told_apart (y ∷ var_names s) (message_names s) f) h
existential-fits s (Any' m label tag _ (one f end)) q e h = ap (quantified-fits s) (sym (quantified-is _ q e)) ∙ right (is_unknown (var_names s) (message_names s) m) (is_told_apart (var_names s) (m ∷ message_names s) f) h
existential-fits s _ q e h = cc

-- ---- formulas that are put

put-some : (caught : Bool) (g f : Formula) (P : Formula → Type 0) → (if caught then None else Some g) ≡ Some f → P g → P f
put-some true g f P e h = cc
put-some false g f P e h = let is : g ≡ f = cc in subst P is h

pub node-fits : (s : Sequent) (y : ℕ) (body f : Formula) (t : Term) → quantified-fits s (Nodes y body) ≡ true → knows (var_names s) (message_names s) t ≡ true → put_node y body t ≡ Some f → fits s f ≡ true
node-fits s y body f t h k e =
    put-some (captures (for_variable y t) body) (substituted body y t) f (λ g. fits s g ≡ true) e
    (told-changed body (for_variable y t) (y ∷ var_names s) (message_names s) (var_names s) (message_names s) (carries-variable (var_names s) (message_names s) y t k) h)

pub message-fits : (s : Sequent) (m k : ℕ) (body f : Formula) → is_told_apart (var_names s) (m ∷ message_names s) body ≡ true → has (message_names s) k ≡ true → put_message m body k ≡ Some f → fits s f ≡ true
message-fits s m k body f h g e =
    put-some (captures (for_message m (parts_of k)) body) (message_substituted body m (parts_of k)) f (λ g. fits s g ≡ true) e
    (told-changed body (for_message m (parts_of k)) (var_names s) (m ∷ message_names s) (var_names s) (message_names s) (carries-message (var_names s) (message_names s) m k g) h)

pub other-fits : (s : Sequent) (m k : ℕ) (f g : Formula) → fits s f ≡ true → has (message_names s) k ≡ true → has (message_names s) m ≡ true → put_message m f k ≡ Some g → fits s g ≡ true
other-fits s m k f g h hk hm e =
    put-some (captures (for_message m (parts_of k)) f) (message_substituted f m (parts_of k)) g (λ g. fits s g ≡ true) e
    (told-changed f (for_message m (parts_of k)) (var_names s) (message_names s) (var_names s) (message_names s) (carries-other (var_names s) (message_names s) m k hk hm) h)

pub term-fits : (s : Sequent) (a b : Term) (f g : Formula) → fits s f ≡ true → knows (var_names s) (message_names s) a ≡ true → knows (var_names s) (message_names s) b ≡ true → (if captures (for_term a b) f then None else Some (replaced f a b)) ≡ Some g → fits s g ≡ true
term-fits s a b f g h ka kb e =
    put-some (captures (for_term a b) f) (replaced f a b) g (λ g. fits s g ≡ true) e
    (told-changed f (for_term a b) (var_names s) (message_names s) (var_names s) (message_names s) (carries-term (var_names s) (message_names s) a b ka kb) h)

-- ---- a sequent with a new name

new-absent : (f : Formula) (x : ℕ) → mentions f x ≡ false → IsAbsent x f
new-absent f x h = record {
  variable = first (is_free_variable f x) (is_free_message f x) (first (is_free f x) (has (bound_names f) x) h);
  message = second (is_free_variable f x) (is_free_message f x) (first (is_free f x) (has (bound_names f) x) h);
  bound = second (is_free f x) (has (bound_names f) x) h;
}
  where
    first : (a b : Bool) → (a || b) ≡ false → a ≡ false
    first true b h = cc
    first false b h = refl

    second : (a b : Bool) → (a || b) ≡ false → b ≡ false
    second true b h = cc
    second false b h = h

record IsNew (s : Sequent) (x : ℕ) : Type 0 where
  vars : has (var_names s) x ≡ false
  messages : has (message_names s) x ≡ false
  facts : list_any (λ (h : Hypothesis). mentions h.formula x) s.facts ≡ false
  goal : mentions s.goal x ≡ false

or-parts : (a b : Bool) → (a || b) ≡ false → (a ≡ false) × (b ≡ false)
or-parts true b h = cc
or-parts false b h = (refl, h)

is-new : (s : Sequent) (x : ℕ) → is_new s x ≡ true → IsNew s x
is-new s x h =
    let unknown = left (is_unknown (var_names s) (message_names s) x) (not (list_any (λ (h : Hypothesis). mentions h.formula x) s.facts || mentions s.goal x)) h in
    let absent = or-parts (list_any (λ (h : Hypothesis). mentions h.formula x) s.facts) (mentions s.goal x) (not-false _ (right (is_unknown (var_names s) (message_names s) x) (not (list_any (λ (h : Hypothesis). mentions h.formula x) s.facts || mentions s.goal x)) h)) in
    record {
      vars = not-false _ (left (not (has (var_names s) x)) (not (has (message_names s) x)) unknown);
      messages = not-false _ (right (not (has (var_names s) x)) (not (has (message_names s) x)) unknown);
      facts = absent.0;
      goal = absent.1;
    }

facts-same : (hs : List Hypothesis) (x : ℕ) (V M W N : List ℕ) → SameBut x V M W N → list_any (λ (h : Hypothesis). mentions h.formula x) hs ≡ false → list_all (λ (h : Hypothesis). is_told_apart V M h.formula) hs ≡ list_all (λ (h : Hypothesis). is_told_apart W N h.formula) hs
facts-same [] x V M W N same h = refl
facts-same (f ∷ fs) x V M W N same h =
    let each = or-parts (mentions f.formula x) (list_any (λ (h : Hypothesis). mentions h.formula x) fs) h in
    let p = told-same f.formula x V M W N same (new-absent f.formula x each.0) in
    let q = facts-same fs x V M W N same each.1 in
    λ i. p i && q i

-- one more name at the end, or in the middle
distinct-middle : (xs ys : List ℕ) (x : ℕ) → has xs x ≡ false → has ys x ≡ false → are_distinct ((xs ++ x ∷ []) ++ ys) ≡ are_distinct (xs ++ ys)
distinct-middle [] ys x h g = ap (λ b. not b && are_distinct ys) g
distinct-middle (z ∷ zs) ys x h g =
    let each = or-parts (x == z) (has zs x) h in
    let same : has ((zs ++ x ∷ []) ++ ys) z ≡ has (zs ++ ys) z = sym (has-both (zs ++ x ∷ []) ys z) ∙ ap (λ b. b || has ys z) (sym (has-both zs (x ∷ []) z) ∙ dropped (has zs z) (z == x) (sym-eqb z x ∙ each.0)) ∙ has-both zs ys z in
    let rest = distinct-middle zs ys x each.1 g in
    λ i. not (same i) && rest i
  where
    dropped : (a b : Bool) → b ≡ false → (a || (b || false)) ≡ a
    dropped true b h = refl
    dropped false b h = ap (λ c. c || false) h

append-nil : (xs : List ℕ) → xs ++ [] ≡ xs
append-nil [] = refl
append-nil (x ∷ xs) = ap (λ ys. x ∷ ys) (append-nil xs)

append-more : (xs ys : List ℕ) (x : ℕ) → xs ++ (ys ++ x ∷ []) ≡ ((xs ++ ys) ++ x ∷ []) ++ []
append-more [] ys x = sym (append-nil (ys ++ x ∷ []))
append-more (z ∷ zs) ys x = ap (λ l. z ∷ l) (append-more zs ys x)

distinct-end : (xs ys : List ℕ) (x : ℕ) → has xs x ≡ false → has ys x ≡ false → are_distinct (xs ++ (ys ++ x ∷ [])) ≡ are_distinct (xs ++ ys)
distinct-end xs ys x h g =
    ap are_distinct (append-more xs ys x)
    ∙ distinct-middle (xs ++ ys) [] x (sym (has-both xs ys x) ∙ (λ i. h i || g i)) refl
    ∙ ap are_distinct (append-nil (xs ++ ys))

var-names-more : (vars : List Parameter) (x : ℕ) (sort : Sort) → map (λ (v : Parameter). v.0) (vars ++ (x, sort) ∷ []) ≡ map (λ (v : Parameter). v.0) vars ++ x ∷ []
var-names-more [] x sort = refl
var-names-more (v ∷ vs) x sort = ap (λ names. v.0 ∷ names) (var-names-more vs x sort)

message-names-more : (ms : List Declared) (x label tag : ℕ) → map (λ (m : Declared). m.0) (ms ++ (x, label, tag) ∷ []) ≡ map (λ (m : Declared). m.0) ms ++ x ∷ []
message-names-more [] x label tag = refl
message-names-more (m ∷ ms) x label tag = ap (λ names. m.0 ∷ names) (message-names-more ms x label tag)

not-other : (a b : Bool) → b ≡ false → a ≡ (a || (b || false))
not-other true b h = refl
not-other false b h = ap (λ c. c || false) (sym h)

more-vars : (V M : List ℕ) (x : ℕ) → SameBut x V M (V ++ x ∷ []) M
more-vars V M x = record { variables = λ z e. not-other (has V z) (z == x) e ∙ has-both V (x ∷ []) z; messages = λ z e. refl }

more-messages : (V M : List ℕ) (x : ℕ) → SameBut x V M V (M ++ x ∷ [])
more-messages V M x = record { variables = λ z e. refl; messages = λ z e. not-other (has M z) (z == x) e ∙ has-both M (x ∷ []) z }

pub clean-variable : (s : Sequent) (x : ℕ) (sort : Sort) → is_new s x ≡ true → is_clean (with_variable s x sort) ≡ is_clean s
clean-variable s x sort n =
    let new = is-new s x n in
    let names = var-names-more s.vars x sort in
    let same = more-vars (var_names s) (message_names s) x in
    (λ i. (are_distinct (names i ++ message_names s) && are_distinct (fact_names s))
    && (list_all (λ (h : Hypothesis). is_told_apart (names i) (message_names s) h.formula) s.facts && is_told_apart (names i) (message_names s) s.goal))
    ∙ (λ i. (distinct-middle (var_names s) (message_names s) x new.vars new.messages i && are_distinct (fact_names s))
    && (sym (facts-same s.facts x (var_names s) (message_names s) (var_names s ++ x ∷ []) (message_names s) same new.facts) i && sym (told-same s.goal x (var_names s) (message_names s) (var_names s ++ x ∷ []) (message_names s) same (new-absent s.goal x new.goal)) i))

pub clean-message : (s : Sequent) (x label tag : ℕ) → is_new s x ≡ true → is_clean (with_message s x label tag) ≡ is_clean s
clean-message s x label tag n =
    let new = is-new s x n in
    let names = message-names-more s.messages x label tag in
    let same = more-messages (var_names s) (message_names s) x in
    (λ i. (are_distinct (var_names s ++ names i) && are_distinct (fact_names s))
    && (list_all (λ (h : Hypothesis). is_told_apart (var_names s) (names i) h.formula) s.facts && is_told_apart (var_names s) (names i) s.goal))
    ∙ (λ i. (distinct-end (var_names s) (message_names s) x new.vars new.messages i && are_distinct (fact_names s))
    && (sym (facts-same s.facts x (var_names s) (message_names s) (var_names s) (message_names s ++ x ∷ []) same new.facts) i && sym (told-same s.goal x (var_names s) (message_names s) (var_names s) (message_names s ++ x ∷ []) same (new-absent s.goal x new.goal)) i))

pub variable-known : (s : Sequent) (x : ℕ) (sort : Sort) → has (var_names (with_variable s x sort)) x ≡ true
variable-known s x sort = ap (λ names. has names x) (var-names-more s.vars x sort) ∙ sym (has-both (var_names s) (x ∷ []) x) ∙ or-right (has (var_names s) x) _ (or-left (x == x) false (eq-eqb x x refl))

pub message-known : (s : Sequent) (x label tag : ℕ) → has (message_names (with_message s x label tag)) x ≡ true
message-known s x label tag = ap (λ names. has names x) (message-names-more s.messages x label tag) ∙ sym (has-both (message_names s) (x ∷ []) x) ∙ or-right (has (message_names s) x) _ (or-left (x == x) false (eq-eqb x x refl))

-- ---- sizes

large-parts : (n m : ℕ) → nat_lt 1000000 n ≡ true → n ≤ m → nat_lt 1000000 m ≡ true
large-parts n m h le = let lt : 1000000 < n = ltb-true 1000000 n h in lt-ltb 1000000 m (omega arith)

pub large-goal : (s : Sequent) (f : Formula) → is_oversized f ≡ true → is_too_large (with_goal s f) ≡ true
large-goal s f h =
    or-either (nat_lt 1000000 (formula_parts f)) (nat_lt 4000 (formula_nesting f)) _ h
    (λ e. or-left _ _ (large-parts (formula_parts f) (sum_by (λ (h : Hypothesis). formula_parts h.formula) s.facts + formula_parts f) e (omega arith)))
    (λ e. or-right (nat_lt 1000000 (sequent_parts (with_goal s f))) _ (or-right (list_any (λ (h : Hypothesis). nat_lt 4000 (formula_nesting h.formula)) s.facts) _ e))

sum-more : (hs : List Hypothesis) (h : Hypothesis) → sum_by (λ (h : Hypothesis). formula_parts h.formula) (hs ++ h ∷ []) ≡ sum_by (λ (h : Hypothesis). formula_parts h.formula) hs + formula_parts h.formula
sum-more hs h =
    let one_more : sum_by (λ (h : Hypothesis). formula_parts h.formula) (h ∷ []) ≡ formula_parts h.formula = omega arith in
    sum_by-append (λ (h : Hypothesis). formula_parts h.formula) hs (h ∷ []) ∙ ap (λ n. sum_by (λ (h : Hypothesis). formula_parts h.formula) hs + n) one_more

pub large-fact : (s : Sequent) (name : ℕ) (f : Formula) → is_oversized f ≡ true → is_too_large (with_fact s name f) ≡ true
large-fact s name f h =
    let it : Hypothesis = record { name = name; formula = f } in
    or-either (nat_lt 1000000 (formula_parts f)) (nat_lt 4000 (formula_nesting f)) _ h
    (λ e. let more = sum-more s.facts it in or-left _ _ (large-parts (formula_parts f) (sequent_parts (with_fact s name f)) e (omega arith)))
    (λ e. or-right (nat_lt 1000000 (sequent_parts (with_fact s name f))) _ (or-left _ (nat_lt 4000 (formula_nesting s.goal))
    (list_any-append (λ (h : Hypothesis). nat_lt 4000 (formula_nesting h.formula)) s.facts (it ∷ []) ∙ or-right (list_any (λ (h : Hypothesis). nat_lt 4000 (formula_nesting h.formula)) s.facts) _ (or-left _ false e))))
