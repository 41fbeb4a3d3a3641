-- Want of memory is never a fault of a script.
use Rattle.std.proofs.Common.{◌≡◌, Bool, true, false, if◌then◌else◌, List, [], ◌∷◌, Option, Some, None}
use Rattle.std.specs.List.{AllByRecursion as Each, list_any}
use Rattle.dl_tree.specs.declared.tree.Place.{Place}
use Rattle.dl_model.specs.declared.protocol.Instances.{Instances}
use Rattle.dl_model.specs.declared.sequent.Sequent.{Sequent}
use Rattle.dl_sequent.specs.declared.script.Rule.{Rule}
use Rattle.dl_sequent.specs.declared.script.Rule.TheBlock as r
use Rattle.dl_sequent.specs.declared.script.Rule.TheBlock.{more_of-Script as more, end_of-Script as end}
use Rattle.dl_sequent.specs.Sizes.{is_too_large}
use Rattle.dl_kernel.specs.declared.fault.KernelFault.{KernelFault}
use Rattle.dl_kernel.specs.declared.fault.KernelFault.TheVariants.{Limit, Memory}
use Rattle.dl_kernel.specs.Outcome.{Verdict, first_of, each_fault, fault_of, with_scripts, below, fault}
use Rattle.dl_kernel.specs.Steps.{after}

abbrev IsNever : Verdict → Type 0
IsNever script = (s : Sequent) → script s ≡ Some Memory → ⊥

first-never : (first later : Option KernelFault) → (first ≡ Some Memory → ⊥) → (later ≡ Some Memory → ⊥) → first_of first later ≡ Some Memory → ⊥
first-never None later never further h = further h
first-never (Some fault) later never further h = never h

each-never : (p : Place) (scripts : List Verdict) (ss : List Sequent) → Each IsNever scripts → each_fault p scripts ss ≡ Some Memory → ⊥
each-never p [] [] never h = cc
each-never p [] (s ∷ ss) never h = cc
each-never p (script ∷ scripts) [] never h = cc
each-never p (script ∷ scripts) (s ∷ ss) never h = first-never (script s) (each_fault p scripts ss) (never.0 s) (each-never p scripts ss never.1) h

sized-never : (p : Place) (large : Bool) (later : Option KernelFault) → (later ≡ Some Memory → ⊥) → (if large then Some (Limit p) else later) ≡ Some Memory → ⊥
sized-never p true later never h = cc
sized-never p false later never h = never h

left-never : (p : Place) (scripts : List Verdict) (left : Option (List Sequent)) → Each IsNever scripts → fault_of p scripts left ≡ Some Memory → ⊥
left-never p scripts None never h = cc
left-never p scripts (Some ss) never h = sized-never p (list_any is_too_large ss) (each_fault p scripts ss) (each-never p scripts ss never) h

module _ (inst : Instances) where
  rule-never : (p : Place) (scripts : List Verdict) (rule : Rule) → Each IsNever scripts → IsNever (with_scripts inst rule p scripts)
  rule-never p scripts rule never s h = left-never p scripts (after inst s rule) never h

  below-never : (rule : Rule) → Each IsNever (below inst rule)
  below-never (r.By hyp) = tt
  below-never r.Close = tt
  below-never (r.Split' _ (more a aq end) _ (more b bp end)) = (rule-never aq (below inst a) a (below-never a), (rule-never bp (below inst b) b (below-never b), tt))
  below-never (r.Cases' hyp name _ (more a aq end) _ (more b bp end)) = (rule-never aq (below inst a) a (below-never a), (rule-never bp (below inst b) b (below-never b), tt))
  below-never (r.Apply' hyp name _ (more a aq end) _ (more b bp end)) = (rule-never aq (below inst a) a (below-never a), (rule-never bp (below inst b) b (below-never b), tt))
  below-never (r.Have' f name _ (more a aq end) _ (more b bp end)) = (rule-never aq (below inst a) a (below-never a), (rule-never bp (below inst b) b (below-never b), tt))
  below-never (r.Decide' f name _ (more a aq end) _ (more b bp end)) = (rule-never aq (below inst a) a (below-never a), (rule-never bp (below inst b) b (below-never b), tt))
  below-never (r.Pick' part _ (more a aq end)) = (rule-never aq (below inst a) a (below-never a), tt)
  below-never (r.Intro' name _ (more a aq end)) = (rule-never aq (below inst a) a (below-never a), tt)
  below-never (r.Open' x _ (more a aq end)) = (rule-never aq (below inst a) a (below-never a), tt)
  below-never (r.Give' what _ (more a aq end)) = (rule-never aq (below inst a) a (below-never a), tt)
  below-never (r.Parts' hyp left right _ (more a aq end)) = (rule-never aq (below inst a) a (below-never a), tt)
  below-never (r.Inst' hyp what name _ (more a aq end)) = (rule-never aq (below inst a) a (below-never a), tt)
  below-never (r.Unpack' hyp x name _ (more a aq end)) = (rule-never aq (below inst a) a (below-never a), tt)
  below-never (r.Rewrite' hyp place _ (more a aq end)) = (rule-never aq (below inst a) a (below-never a), tt)
  below-never (r.Reduce' hyp place _ (more a aq end)) = (rule-never aq (below inst a) a (below-never a), tt)
  below-never (r.Range' t name _ (more a aq end)) = (rule-never aq (below inst a) a (below-never a), tt)
  below-never (r.Linear first second) = tt

  pub never-memory : (rule : Rule) (p : Place) → IsNever (fault inst rule p)
  never-memory rule p = rule-never p (below inst rule) rule (below-never rule)
