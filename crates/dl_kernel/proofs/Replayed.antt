-- A sequent whose script is not refused is valid.
use Rattle.std.proofs.Common.{◌≡◌, ℕ, pos, Bool, true, false, if◌then◌else◌, ◌==◌, List, [], ◌∷◌, Option, Some, None, IfSome, refl, sym, ◌∙◌, subst}
use Rattle.std.specs.Option.{option_map, option_and_then}
use Rattle.std.specs.List.{AllByRecursion as Each, list_all, list_any}
use Rattle.dl_term.specs.declared.syntax.Formula.{Formula}
use Rattle.dl_tree.specs.declared.tree.Place.{Place}
use Rattle.dl_model.specs.declared.protocol.Instances.{Instances}
use Rattle.dl_model.specs.declared.sequent.Sequent.{Sequent}
use Rattle.dl_model.specs.declared.protocol.FieldDecl.{FieldDecl}
use Rattle.dl_model.specs.Sorts.{in_sort}
use Rattle.dl_model.specs.Formed.{FieldIsFormed, InstancesAreFormed}
use Rattle.dl_model.specs.Sequents.{IsValidAt, IsValidFor, IsValid}
use Rattle.dl_sequent.specs.declared.script.Rule.{Rule}
use Rattle.dl_sequent.specs.declared.script.Rule.TheBlock as r
use Rattle.dl_sequent.specs.declared.script.Rule.TheBlock.{more_of-Script as more, end_of-Script as end}
use Rattle.dl_sequent.specs.Clean.{is_clean, is_new}
use Rattle.dl_sequent.specs.Sizes.{is_too_large}
use Rattle.dl_sequent.specs.Grounds.{IsGrounded, IsOwn}
use Rattle.dl_kernel.specs.declared.fault.KernelFault.{KernelFault}
use Rattle.dl_kernel.specs.declared.fault.KernelFault.TheVariants.{Limit}
use Rattle.dl_kernel.specs.declared.parts.Two.{Two}
use Rattle.dl_kernel.specs.declared.parts.Quantified.{Quantified}
use Rattle.dl_kernel.specs.declared.parts.Quantified.TheVariants.{Nodes, Messages}
use Rattle.dl_kernel.specs.Parts.{as_equation, as_denied, as_and, as_or, as_implication, as_universal, as_existential}
use Rattle.dl_kernel.specs.Lines.{goal_word}
use Rattle.dl_kernel.specs.Steps.{with_fact, with_goal, with_message, part_of, one_left, closes, split_goal, pick_goal, intro_goal, parts_of_fact, cases_of_fact, apply_fact, label_number, with_new, at_new, put_in, enter, instance, target, put_fact, put_target, rewrite_by, reduce_by, range_of, left_by, only_clean, after}
use Rattle.dl_kernel.specs.Outcome.{Verdict, first_of, each_fault, fault_of, with_scripts, below, fault}
use Rattle.dl_kernel.proofs.SoundLemmas.{AllValid}
use Rattle.dl_kernel.proofs.Sound.{step-sound}

-- all that is left has this own protocol
abbrev KeepOwn : Option ℕ → Option (List Sequent) → Type 0
KeepOwn own None = Unit {0}
KeepOwn own (Some ss) = Each (λ (s : Sequent). s.own ≡ own) ss

closes-own : (own : Option ℕ) (test : Bool) → KeepOwn own (closes test)
closes-own own true = tt
closes-own own false = tt

split-own : (s : Sequent) (o : Option Two) → KeepOwn s.own (split_goal s o)
split-own s None = tt
split-own s (Some x) = (refl, (refl, tt))

pick-own : (s : Sequent) (part : ℕ) (o : Option Two) → KeepOwn s.own (pick_goal s part o)
pick-own s part None = tt
pick-own s part (Some x) = by_part (part == 1) (part == 2)
  where
    by_part : (first second : Bool) → KeepOwn s.own (if first then Some (with_goal s x.left ∷ []) else if second then Some (with_goal s x.right ∷ []) else None)
    by_part true second = (refl, tt)
    by_part false true = (refl, tt)
    by_part false false = tt

intro-own : (s : Sequent) (name : ℕ) (o : Option Two) → KeepOwn s.own (intro_goal s name o)
intro-own s name None = tt
intro-own s name (Some x) = (refl, tt)

parts-own : (s : Sequent) (left right : ℕ) (o : Option Two) → KeepOwn s.own (parts_of_fact s left right o)
parts-own s left right None = tt
parts-own s left right (Some x) = (refl, tt)

cases-own : (s : Sequent) (name : ℕ) (o : Option Two) → KeepOwn s.own (cases_of_fact s name o)
cases-own s name None = tt
cases-own s name (Some x) = (refl, (refl, tt))

apply-own : (s : Sequent) (name : ℕ) (o : Option Two) → KeepOwn s.own (apply_fact s name o)
apply-own s name None = tt
apply-own s name (Some x) = (refl, (refl, tt))

put_in-own : (own : Option ℕ) (put : Sequent → Formula → Sequent) (o : Option Sequent) (p : Option Formula) → IfSome o (λ (s : Sequent). s.own ≡ own) → ((s : Sequent) (f : Formula) → (put s f).own ≡ s.own) → KeepOwn own (put_in put o p)
put_in-own own put None p h k = tt
put_in-own own put (Some s) None h k = tt
put_in-own own put (Some s) (Some f) h k = (k s f ∙ h, tt)

new-own : (inst : Instances) (s : Sequent) (x : ℕ) (q : Quantified) → IfSome (with_new inst s x q) (λ (t : Sequent). t.own ≡ s.own)
new-own inst s x (Nodes y body) = refl
new-own inst s x (Messages m lab tag body) = by_label (label_number lab)
  where
    by_label : (l : Option ℕ) → IfSome (option_map (λ number. with_message s x number tag) l) (λ (t : Sequent). t.own ≡ s.own)
    by_label None = tt
    by_label (Some number) = refl

enter-own : (put : Sequent → Formula → Sequent) (inst : Instances) (s : Sequent) (x : ℕ) (o : Option Quantified) → ((s : Sequent) (f : Formula) → (put s f).own ≡ s.own) → KeepOwn s.own (enter put inst s x o)
enter-own put inst s x None h = tt
enter-own put inst s x (Some q) h = by_new (is_new s x)
  where
    by_new : (new : Bool) → KeepOwn s.own (if new then put_in put (with_new inst s x q) (at_new x q) else None)
    by_new true = put_in-own s.own put (with_new inst s x q) (at_new x q) (new-own inst s x q) h
    by_new false = tt

put-own : (s : Sequent) (put : Formula → Sequent) (o : Option Formula) → ((f : Formula) → (put f).own ≡ s.own) → KeepOwn s.own (one_left (option_map put o))
put-own s put None h = tt
put-own s put (Some f) h = (h f, tt)

target-own : (s : Sequent) (at : ℕ) (f : Formula) → (put_target s at f).own ≡ s.own
target-own s at f = by_test (at == goal_word)
  where
    by_test : (test : Bool) → (if test then with_goal s f else record s { facts = put_fact s.facts at f }).own ≡ s.own
    by_test true = refl
    by_test false = refl

left-own : (inst : Instances) (s : Sequent) (rule : Rule) → KeepOwn s.own (left_by inst s rule)
left-own inst s (r.By hyp) = closes-own s.own _
left-own inst s r.Close = closes-own s.own _
left-own inst s (r.Split' _ _ _ _) = split-own s (as_and s.goal)
left-own inst s (r.Pick' part _ _) = pick-own s part (as_or s.goal)
left-own inst s (r.Intro' name _ _) = intro-own s name (as_implication s.goal)
left-own inst s (r.Open' x _ _) = enter-own with_goal inst s x (as_universal s.goal) (λ s f. refl)
left-own inst s (r.Give' what _ _) = put-own s (with_goal s) (option_and_then (instance inst s what) (as_existential s.goal)) (λ f. refl)
left-own inst s (r.Parts' hyp left right _ _) = parts-own s left right (part_of as_and s hyp)
left-own inst s (r.Cases' hyp name _ _ _ _) = cases-own s name (part_of as_or s hyp)
left-own inst s (r.Apply' hyp name _ _ _ _) = apply-own s name (part_of as_implication s hyp)
left-own inst s (r.Inst' hyp what name _ _) = put-own s (with_fact s name) (option_and_then (instance inst s what) (part_of as_universal s hyp)) (λ f. refl)
left-own inst s (r.Unpack' hyp x name _ _) = enter-own (λ t. with_fact t name) inst s x (part_of as_existential s hyp) (λ s f. refl)
left-own inst s (r.Have' f name _ _ _ _) = (refl, (refl, tt))
left-own inst s (r.Decide' f name _ _ _ _) = (refl, (refl, tt))
left-own inst s (r.Rewrite' hyp at _ _) = put-own s (put_target s at) (rewrite_by s (part_of as_equation s hyp) (target s hyp at)) (target-own s at)
left-own inst s (r.Reduce' hyp at _ _) = put-own s (put_target s at) (reduce_by (part_of as_equation s hyp) (part_of as_denied s hyp) (target s hyp at)) (target-own s at)
left-own inst s (r.Range' t name _ _) = put-own s (with_fact s name) (range_of inst s t) (λ f. refl)
left-own inst s (r.Linear first second) = closes-own s.own _

clean-own : (own : Option ℕ) (o : Option (List Sequent)) → KeepOwn own o → KeepOwn own (only_clean o)
clean-own own None h = tt
clean-own own (Some ss) h = by_test (list_all is_clean ss)
  where
    by_test : (test : Bool) → KeepOwn own (if test then Some ss else None)
    by_test true = h
    by_test false = tt

zeros : (nodes : ℕ) (fields : List FieldDecl) → Each (FieldIsFormed nodes) fields → Each (λ (field : FieldDecl). in_sort field.sort (pos 0) ≡ true) fields
zeros nodes [] h = tt
zeros nodes (f ∷ fs) h = (h.0.sort.holds_zero, zeros nodes fs h.1)

grounded : (inst : Instances) → InstancesAreFormed inst → IsGrounded inst
grounded inst formed = record { zeros = λ p protocol e. zeros inst.nodes protocol.fields (formed.protocols p protocol e).fields }

module _ (inst : Instances) (own : ℕ) (formed : InstancesAreFormed inst) where
  -- a script that is not refused proves its sequent
  abbrev Proves : Verdict → Type 0
  Proves script = (s : Sequent) → IsOwn inst s.own own → script s ≡ None → IsValidAt inst s own

  first-none : (a b : Option KernelFault) → first_of a b ≡ None → (a ≡ None) × (b ≡ None)
  first-none None b h = (refl, h)
  first-none (Some f) b h = cc

  each-proved : (p : Place) (scripts : List Verdict) (ss : List Sequent) (proto : Option ℕ) → IsOwn inst proto own → Each Proves scripts → Each (λ (s : Sequent). s.own ≡ proto) ss → each_fault p scripts ss ≡ None → Each (λ s. IsValidAt inst s own) ss
  each-proved p [] [] proto is proves same h = tt
  each-proved p [] (s ∷ ss) proto is proves same h = cc
  each-proved p (k ∷ ks) [] proto is proves same h = cc
  each-proved p (k ∷ ks) (s ∷ ss) proto is proves same h =
      let each = first-none (k s) (each_fault p ks ss) h in
      (proves.0 s (subst (λ o. IsOwn inst o own) (sym same.0) is) each.0, each-proved p ks ss proto is proves.1 same.1 each.1)

  pub rule-proved : (p : Place) (scripts : List Verdict) (rule : Rule) → Each Proves scripts → Proves (with_scripts inst rule p scripts)
  rule-proved p scripts rule proves s is h =
      step-sound inst own s rule formed (grounded inst formed) is (by_left (after inst s rule) (clean-own s.own (left_by inst s rule) (left-own inst s rule)) h)
    where
      by_left : (o : Option (List Sequent)) → KeepOwn s.own o → fault_of p scripts o ≡ None → AllValid inst own o
      by_left None same h = cc
      by_left (Some ss) same h = by_size (list_any is_too_large ss) h
        where
          by_size : (large : Bool) → (if large then Some (Limit p) else each_fault p scripts ss) ≡ None → Each (λ s. IsValidAt inst s own) ss
          by_size false h = each-proved p scripts ss s.own is proves same h
          by_size true h = cc

  below-proved : (rule : Rule) → Each Proves (below inst rule)
  below-proved (r.By hyp) = tt
  below-proved r.Close = tt
  below-proved (r.Split' _ (more a aq end) _ (more b bp end)) = (rule-proved aq (below inst a) a (below-proved a), (rule-proved bp (below inst b) b (below-proved b), tt))
  below-proved (r.Pick' part _ (more a aq end)) = (rule-proved aq (below inst a) a (below-proved a), tt)
  below-proved (r.Intro' name _ (more a aq end)) = (rule-proved aq (below inst a) a (below-proved a), tt)
  below-proved (r.Open' x _ (more a aq end)) = (rule-proved aq (below inst a) a (below-proved a), tt)
  below-proved (r.Give' what _ (more a aq end)) = (rule-proved aq (below inst a) a (below-proved a), tt)
  below-proved (r.Parts' hyp left right _ (more a aq end)) = (rule-proved aq (below inst a) a (below-proved a), tt)
  below-proved (r.Cases' hyp name _ (more a aq end) _ (more b bp end)) = (rule-proved aq (below inst a) a (below-proved a), (rule-proved bp (below inst b) b (below-proved b), tt))
  below-proved (r.Apply' hyp name _ (more a aq end) _ (more b bp end)) = (rule-proved aq (below inst a) a (below-proved a), (rule-proved bp (below inst b) b (below-proved b), tt))
  below-proved (r.Inst' hyp what name _ (more a aq end)) = (rule-proved aq (below inst a) a (below-proved a), tt)
  below-proved (r.Unpack' hyp x name _ (more a aq end)) = (rule-proved aq (below inst a) a (below-proved a), tt)
  below-proved (r.Have' f name _ (more a aq end) _ (more b bp end)) = (rule-proved aq (below inst a) a (below-proved a), (rule-proved bp (below inst b) b (below-proved b), tt))
  below-proved (r.Decide' f name _ (more a aq end) _ (more b bp end)) = (rule-proved aq (below inst a) a (below-proved a), (rule-proved bp (below inst b) b (below-proved b), tt))
  below-proved (r.Rewrite' hyp at _ (more a aq end)) = (rule-proved aq (below inst a) a (below-proved a), tt)
  below-proved (r.Reduce' hyp at _ (more a aq end)) = (rule-proved aq (below inst a) a (below-proved a), tt)
  below-proved (r.Range' t name _ (more a aq end)) = (rule-proved aq (below inst a) a (below-proved a), tt)
  below-proved (r.Linear first second) = tt

-- a script that is not refused proves its sequent, whatever label `self` is
pub replay-sound : (inst : Instances) (rule : Rule) (p : Place) (s : Sequent) → InstancesAreFormed inst → fault inst rule p s ≡ None → IsValid inst s
replay-sound inst rule p s formed h = by_own s.own refl
  where
    at_label : (own : ℕ) → IsOwn inst s.own own → IsValidAt inst s own
    at_label own is = rule-proved inst own formed p (below inst rule) rule (below-proved inst own formed rule) s is h

    by_own : (o : Option ℕ) → s.own ≡ o → IsValidFor inst s o
    by_own None e = λ label. at_label label (subst (λ o. IsOwn inst o label) (sym e) tt)
    by_own (Some protocol) e = λ label is. at_label label (subst (λ o. IsOwn inst o label) (sym e) is)
