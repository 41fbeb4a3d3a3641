-- A new name for what the goal, or a hypothesis, binds: from what is said of the name to what the rule leaves.
use Rattle.std.proofs.Common.{◌≡◌, ℕ, Bool, true, false, not, ◌&&◌, if◌then◌else◌, List, ◌∷◌, [], map, Option, Some, None, Result, Ok, Err, IfOk, ◌⊎◌, inl, inr, refl, sym, ◌∙◌, ap, subst}
use Rattle.std.specs.Option.{option_map, option_and_then}
use Rattle.dl_term.specs.declared.syntax.Formula.{Formula, True}
use Rattle.dl_model.specs.declared.protocol.Instances.{Instances}
use Rattle.dl_model.specs.declared.sequent.Sequent.{Sequent}
use Rattle.dl_model.specs.Sorts.{has}
use Rattle.dl_sequent.specs.Clean.{is_clean, is_new, fact_names}
use Rattle.dl_kernel.specs.declared.made.StepFault.{StepFault}
use Rattle.dl_kernel.specs.declared.made.StepFault.TheVariants.{Limit, Memory}
use Rattle.dl_model.specs.declared.sequent.Hypothesis.{Hypothesis}
use Rattle.dl_sequent.specs.Bounds.{node_sort}
use Rattle.dl_kernel.specs.declared.parts.Quantified.{Quantified}
use Rattle.dl_kernel.specs.declared.parts.Quantified.TheVariants.{Nodes, Messages}
use Rattle.dl_kernel.specs.Parts.{as_universal, as_existential}
use Rattle.dl_kernel.specs.Steps.{with_fact, with_goal, with_variable, with_message, label_number, fact_of, part_of, with_new, at_new, put_in, enter, instance, one_left, only_clean}
use Rattle.dl_sequent.specs.declared.script.Given.{Given}
use Rattle.dl_kernel.specs.Seen.{one_if, IsOversized, IsPastLimit, IsStep, IsEntered, IsNamed, IsNamedTooLarge}
use Rattle.dl_kernel.proofs.CleanLemmas.{fits, clean-fact, one-unclean}
use Rattle.dl_kernel.proofs.StepLemmas.{fact-within, none-named, none-made, open-clean, open-done, open-limit, open-unnamed, open-unmade, unpack-clean, unpack-done, unpack-limit, give-limit, inst-limit}

-- a step fails by its limit, or for want of memory
pub step-failed : (fault : StepFault) (u : Sequent) (left : Option (List Sequent)) → (fault ≡ Limit → IsPastLimit left) → IsStep (Err fault) u left
step-failed Limit u left h = h refl
step-failed Memory u left h = tt

-- a formula that a call makes, or why it makes none, is what another word says too
pub made-as : {E : Type 0} (r : Result (Option Formula) E) (o p : Option Formula) → o ≡ p → IfOk r (λ made. made ≡ o) → IfOk r (λ made. made ≡ p)
made-as (Ok made) o p e h = h ∙ e
made-as (Err x) o p e h = tt

pub oversized-as : {P : Type 0} (o p : Option Formula) → o ≡ p → (P → IsOversized o) → P → IsOversized p
oversized-as o p e h x = subst IsOversized e (h x)

-- the new name is there, and this is what is said of it
pub named-in : {E : Type 0} (inst : Instances) (s t : Sequent) (x : ℕ) (q : Quantified) (r : Result (Option Formula) E) → Some t ≡ with_new inst s x q → IfOk r (λ made. made ≡ at_new x q) → IfOk r (λ made. IsNamed inst s t x (Some q) made)
named-in inst s t x q (Ok (Some f)) n m = record { named = sym n; made = sym m }
named-in inst s t x q (Ok None) n m = inr (sym m)
named-in inst s t x q (Err e) n m = tt

pub named-as : {E : Type 0} (inst : Instances) (s u t : Sequent) (x : ℕ) (o p : Option Quantified) (r : Result (Option Formula) E) → s ≡ u → o ≡ p → IfOk r (λ made. IsNamed inst s t x o made) → IfOk r (λ made. IsNamed inst u t x p made)
named-as inst s u t x o p r e f h = subst (λ q. IfOk r (λ made. IsNamed inst u t x q made)) f (subst (λ v. IfOk r (λ made. IsNamed inst v t x o made)) e h)

pub too_large-as : (inst : Instances) (s u t : Sequent) (x : ℕ) (o p : Option Quantified) → s ≡ u → o ≡ p → IsNamedTooLarge inst s t x o → IsNamedTooLarge inst u t x p
too_large-as inst s u t x o p e f h = subst (λ q. IsNamedTooLarge inst u t x q) f (subst (λ v. IsNamedTooLarge inst v t x o) e h)

-- the goal: the sequent has `true` for a goal while the name is entered
module _ (inst : Instances) (s n : Sequent) (x : ℕ) (clean : is_clean s ≡ true) (new : is_new s x ≡ true) where
  pub goal-clean : (f : Formula) → IsEntered inst (with_goal s True) n x (as_universal s.goal) f → is_clean n ≡ true
  goal-clean f e = by_part (as_universal s.goal) refl e.named e.made
    where
      by_part : (o : Option Quantified) → as_universal s.goal ≡ o → option_and_then (with_new inst (with_goal s True) x) o ≡ Some n → option_and_then (at_new x) o ≡ Some f → is_clean n ≡ true
      by_part (Some q) p named made = open-clean inst s n x q clean new f p (sym named) made
      by_part None p named made = absurd (cc)

  pub goal-entered : (f : Formula) (u : Sequent) (fine : Bool) → IsEntered inst (with_goal s True) n x (as_universal s.goal) f → u ≡ with_goal n f → fine ≡ is_clean u → one_if fine u ≡ only_clean (enter with_goal inst s x (as_universal s.goal))
  goal-entered f u fine e is h = by_part (as_universal s.goal) refl e.named e.made
    where
      by_part : (o : Option Quantified) → as_universal s.goal ≡ o → option_and_then (with_new inst (with_goal s True) x) o ≡ Some n → option_and_then (at_new x) o ≡ Some f → one_if fine u ≡ only_clean (enter with_goal inst s x (as_universal s.goal))
      by_part (Some q) p named made = open-done inst s n x q clean new f u fine p (sym named) made is h
      by_part None p named made = absurd (cc)

  pub goal-not_entered : IsNamed inst (with_goal s True) n x (as_universal s.goal) None → (u : Sequent) → one_if false u ≡ only_clean (enter with_goal inst s x (as_universal s.goal))
  goal-not_entered e u = by_part (as_universal s.goal) refl e
    where
      by_part : (o : Option Quantified) → as_universal s.goal ≡ o → (option_and_then (with_new inst (with_goal s True) x) o ≡ None) ⊎ (option_and_then (at_new x) o ≡ None) → one_if false u ≡ only_clean (enter with_goal inst s x (as_universal s.goal))
      by_part None p e = ap (λ o. only_clean (enter with_goal inst s x o)) (sym p)
      by_part (Some q) p (inl named) = open-unnamed inst s n x q clean new u p (sym named)
      by_part (Some q) p (inr made) = open-unmade inst s n x q clean new u p (sym made)

  pub goal-past_limit : IsNamedTooLarge inst (with_goal s True) n x (as_universal s.goal) → IsPastLimit (only_clean (enter with_goal inst s x (as_universal s.goal)))
  goal-past_limit e = by_part (as_universal s.goal) refl e
    where
      by_part : (o : Option Quantified) → as_universal s.goal ≡ o → IsNamedTooLarge inst (with_goal s True) n x o → IsPastLimit (only_clean (enter with_goal inst s x (as_universal s.goal)))
      by_part (Some q) p e = open-limit inst s n x q clean new p (sym e.0) e.1
      by_part None p e = absurd (e.1)

-- a new name leaves the hypotheses as they are
same-facts : (inst : Instances) (s n : Sequent) (x : ℕ) (q : Quantified) → with_new inst s x q ≡ Some n → n.facts ≡ s.facts
same-facts inst s n x (Nodes y body) e = let is : with_variable s x (node_sort inst.nodes) ≡ n = cc in ap (λ (t : Sequent). t.facts) (sym is)
same-facts inst s n x (Messages k lab tag body) e = by_label (label_number lab) e
  where
    by_label : (l : Option ℕ) → option_map (λ number. with_message s x number tag) l ≡ Some n → n.facts ≡ s.facts
    by_label None e = absurd (cc)
    by_label (Some number) e = let is : with_message s x number tag ≡ n = cc in ap (λ (t : Sequent). t.facts) (sym is)

-- a hypothesis of a name that is taken
taken : (s : Sequent) (name : ℕ) (f : Formula) → has (fact_names s) name ≡ true → is_clean (with_fact s name f) ≡ false
taken s name f h = clean-fact s name f ∙ ap (λ b. is_clean s && (not b && fits s f)) h ∙ and-false (is_clean s)
  where
    and-false : (b : Bool) → (b && false) ≡ false
    and-false true = refl
    and-false false = refl

pub fact-taken : (s u : Sequent) (name : ℕ) (o : Option Formula) → has (fact_names s) name ≡ true → one_if false u ≡ only_clean (one_left (option_map (with_fact s name) o))
fact-taken s u name None h = refl
fact-taken s u name (Some f) h = one-unclean (with_fact s name f) u (taken s name f h)

pub name-taken : (inst : Instances) (s u : Sequent) (x name : ℕ) (o : Option Quantified) → has (fact_names s) name ≡ true → one_if false u ≡ only_clean (enter (λ t. with_fact t name) inst s x o)
name-taken inst s u x name None h = refl
name-taken inst s u x name (Some q) h = by_new (is_new s x)
  where
    by_parts : (n : Option Sequent) (f : Option Formula) → with_new inst s x q ≡ n → one_if false u ≡ only_clean (put_in (λ t. with_fact t name) n f)
    by_parts (Some n) (Some f) e = one-unclean (with_fact n name f) u (taken n name f (ap (λ (hs : List Hypothesis). has (map (λ (h : Hypothesis). h.name) hs) name) (same-facts inst s n x q e) ∙ h))
    by_parts (Some n) None e = refl
    by_parts None f e = refl

    by_new : (b : Bool) → one_if false u ≡ only_clean (if b then put_in (λ t. with_fact t name) (with_new inst s x q) (at_new x q) else None)
    by_new true = by_parts (with_new inst s x q) (at_new x q) refl
    by_new false = refl

-- the same for a hypothesis
module _ (inst : Instances) (s n : Sequent) (hyp x : ℕ) (clean : is_clean s ≡ true) (new : is_new s x ≡ true) where
  by_quantified : (P : Type 0) → ((g : Formula) (q : Quantified) → fact_of s hyp ≡ Some g → as_existential g ≡ Some q → P) → (part_of as_existential s hyp ≡ None → P) → P
  by_quantified P found none = by_fact (fact_of s hyp) refl
    where
      by_part : (g : Formula) → fact_of s hyp ≡ Some g → (o : Option Quantified) → as_existential g ≡ o → P
      by_part g p (Some q) e = found g q p e
      by_part g p None e = none (ap (option_and_then as_existential) p ∙ e)

      by_fact : (o : Option Formula) → fact_of s hyp ≡ o → P
      by_fact (Some g) p = by_part g p (as_existential g) refl
      by_fact None p = none (ap (option_and_then as_existential) p)

  quantified-is : (g : Formula) (q : Quantified) → fact_of s hyp ≡ Some g → as_existential g ≡ Some q → part_of as_existential s hyp ≡ Some q
  quantified-is g q p e = ap (option_and_then as_existential) p ∙ e

  pub fact-clean : (f : Formula) → IsEntered inst s n x (part_of as_existential s hyp) f → is_clean n ≡ true
  fact-clean f e = by_quantified (is_clean n ≡ true)
      (λ g q p r. unpack-clean inst s n x q clean new g f (fact-within s hyp g p) r
      (sym e.named ∙ ap (option_and_then (with_new inst s x)) (quantified-is g q p r)) (ap (option_and_then (at_new x)) (sym (quantified-is g q p r)) ∙ e.made))
      (λ none. let no : None ≡ Some n = ap (option_and_then (with_new inst s x)) (sym none) ∙ e.named in absurd (cc))

  pub fact-entered : (name : ℕ) (f : Formula) → IsEntered inst s n x (part_of as_existential s hyp) f → only_clean (Some (with_fact n name f ∷ [])) ≡ only_clean (enter (λ t. with_fact t name) inst s x (part_of as_existential s hyp))
  fact-entered name f e = by_quantified _
      (λ g q p r. unpack-done inst s n x q clean new name g f hyp (only_clean (Some (with_fact n name f ∷ []))) p r
      (sym e.named ∙ ap (option_and_then (with_new inst s x)) (quantified-is g q p r)) (ap (option_and_then (at_new x)) (sym (quantified-is g q p r)) ∙ e.made) refl)
      (λ none. let no : None ≡ Some n = ap (option_and_then (with_new inst s x)) (sym none) ∙ e.named in absurd (cc))

  pub fact-not_entered : (name : ℕ) → IsNamed inst s n x (part_of as_existential s hyp) None → (u : Sequent) → one_if false u ≡ only_clean (enter (λ t. with_fact t name) inst s x (part_of as_existential s hyp))
  fact-not_entered name e u = by_part (part_of as_existential s hyp) refl e
    where
      by_part : (o : Option Quantified) → part_of as_existential s hyp ≡ o → (option_and_then (with_new inst s x) o ≡ None) ⊎ (option_and_then (at_new x) o ≡ None) → one_if false u ≡ only_clean (enter (λ t. with_fact t name) inst s x (part_of as_existential s hyp))
      by_part None p e = ap (λ o. only_clean (enter (λ t. with_fact t name) inst s x o)) (sym p)
      by_part (Some q) p (inl named) = ap only_clean (none-named (λ t. with_fact t name) inst s x q new (sym named)) ∙ ap (λ o. only_clean (enter (λ t. with_fact t name) inst s x o)) (sym p)
      by_part (Some q) p (inr made) = ap only_clean (none-made (λ t. with_fact t name) inst s x q new (sym made)) ∙ ap (λ o. only_clean (enter (λ t. with_fact t name) inst s x o)) (sym p)

  pub fact-past_limit : (name : ℕ) → has (fact_names s) name ≡ false → IsNamedTooLarge inst s n x (part_of as_existential s hyp) → IsPastLimit (only_clean (enter (λ t. with_fact t name) inst s x (part_of as_existential s hyp)))
  fact-past_limit name fresh e = by_quantified _
      (λ g q p r. let big : IsNamedTooLarge inst s n x (Some q) = subst (IsNamedTooLarge inst s n x) (quantified-is g q p r) e in
      unpack-limit inst s n x q clean new name g hyp p r fresh (sym big.0) (same-facts inst s n x q big.0) big.1)
      (λ none. let big : IsNamedTooLarge inst s n x None = subst (IsNamedTooLarge inst s n x) none e in absurd (big.1))

-- ---- what is given

pub give-past_limit : (inst : Instances) (s : Sequent) (what : Given) → is_clean s ≡ true → IsOversized (option_and_then (instance inst s what) (as_existential s.goal))
    → IsPastLimit (only_clean (one_left (option_map (with_goal s) (option_and_then (instance inst s what) (as_existential s.goal)))))
give-past_limit inst s what clean big = by_part (as_existential s.goal) refl big
  where
    by_part : (o : Option Quantified) → as_existential s.goal ≡ o → IsOversized (option_and_then (instance inst s what) o) → IsPastLimit (only_clean (one_left (option_map (with_goal s) (option_and_then (instance inst s what) (as_existential s.goal)))))
    by_part (Some q) p big = give-limit inst s what q clean p big
    by_part None p big = absurd big

pub inst-past_limit : (inst : Instances) (s : Sequent) (what : Given) (hyp name : ℕ) → is_clean s ≡ true → has (fact_names s) name ≡ false → IsOversized (option_and_then (instance inst s what) (part_of as_universal s hyp))
    → IsPastLimit (only_clean (one_left (option_map (with_fact s name) (option_and_then (instance inst s what) (part_of as_universal s hyp)))))
inst-past_limit inst s what hyp name clean fresh big = by_part (part_of as_universal s hyp) refl big
  where
    by_part : (o : Option Quantified) → part_of as_universal s hyp ≡ o → IsOversized (option_and_then (instance inst s what) o) → IsPastLimit (only_clean (one_left (option_map (with_fact s name) (option_and_then (instance inst s what) (part_of as_universal s hyp)))))
    by_part (Some q) p big = inst-limit inst s what q hyp name clean p fresh big
    by_part None p big = absurd big
