-- The first rule of a script, in preorder, that is refused.
use Rattle.std.specs.Prelude.{◌≡◌, if◌then◌else◌, List, [], ◌∷◌, Option, Some, None, Result, Ok, Err}
use Rattle.std.specs.List.{list_any}
use Rattle.dl_tree.specs.declared.tree.Place.{Place}
use Rattle.dl_model.specs.declared.protocol.Instances.{Instances}
use Rattle.dl_model.specs.declared.sequent.Sequent.{Sequent}
use Rattle.dl_sequent.specs.declared.script.Rule.{Rule}
use Rattle.dl_sequent.specs.declared.script.Rule.TheBlock as r
use Rattle.dl_sequent.specs.declared.script.Rule.TheBlock.{more_of-Script as more, end_of-Script as end}
use Rattle.dl_sequent.specs.Sizes.{is_too_large}
use Rattle.dl_kernel.specs.declared.fault.KernelFault.{KernelFault}
use Rattle.dl_kernel.specs.declared.fault.KernelFault.TheVariants.{RuleFails, Limit, Memory}
use Rattle.dl_kernel.specs.Steps.{after}

-- what a script says of a sequent: None where it proves it
abbrev pub Verdict : Type 0
Verdict = Sequent → Option KernelFault

abbrev pub first_of : Option KernelFault → Option KernelFault → Option KernelFault
first_of (Some fault) later = Some fault
first_of None later = later

-- each sub-script is replayed on its sequent, from left to right
abbrev pub each_fault : Place → List Verdict → List Sequent → Option KernelFault
each_fault p [] [] = None
each_fault p (script ∷ scripts) (s ∷ ss) = first_of (script s) (each_fault p scripts ss)
each_fault p _ _ = Some (RuleFails p)

-- The rule's own fault comes first: its condition fails, or else a sequent that it leaves is too large.
abbrev pub fault_of : Place → List Verdict → Option (List Sequent) → Option KernelFault
fault_of p scripts None = Some (RuleFails p)
fault_of p scripts (Some ss) = if list_any is_too_large ss then Some (Limit p) else each_fault p scripts ss

abbrev pub with_scripts : Instances → Rule → Place → List Verdict → Verdict
with_scripts inst rule p scripts s = fault_of p scripts (after inst s rule)

-- what the sub-scripts of a rule say
abbrev pub below : Instances → Rule → List Verdict
below inst (r.By hyp) = []
below inst r.Close = []
below inst (r.Split' _ (more a ap end) _ (more b bp end)) = with_scripts inst a ap (below inst a) ∷ with_scripts inst b bp (below inst b) ∷ []
below inst (r.Pick' part _ (more a ap end)) = with_scripts inst a ap (below inst a) ∷ []
below inst (r.Intro' name _ (more a ap end)) = with_scripts inst a ap (below inst a) ∷ []
below inst (r.Open' x _ (more a ap end)) = with_scripts inst a ap (below inst a) ∷ []
below inst (r.Give' what _ (more a ap end)) = with_scripts inst a ap (below inst a) ∷ []
below inst (r.Parts' hyp left right _ (more a ap end)) = with_scripts inst a ap (below inst a) ∷ []
below inst (r.Cases' hyp name _ (more a ap end) _ (more b bp end)) = with_scripts inst a ap (below inst a) ∷ with_scripts inst b bp (below inst b) ∷ []
below inst (r.Apply' hyp name _ (more a ap end) _ (more b bp end)) = with_scripts inst a ap (below inst a) ∷ with_scripts inst b bp (below inst b) ∷ []
below inst (r.Inst' hyp what name _ (more a ap end)) = with_scripts inst a ap (below inst a) ∷ []
below inst (r.Unpack' hyp x name _ (more a ap end)) = with_scripts inst a ap (below inst a) ∷ []
below inst (r.Have' f name _ (more a ap end) _ (more b bp end)) = with_scripts inst a ap (below inst a) ∷ with_scripts inst b bp (below inst b) ∷ []
below inst (r.Decide' f name _ (more a ap end) _ (more b bp end)) = with_scripts inst a ap (below inst a) ∷ with_scripts inst b bp (below inst b) ∷ []
below inst (r.Rewrite' hyp at _ (more a ap end)) = with_scripts inst a ap (below inst a) ∷ []
below inst (r.Reduce' hyp at _ (more a ap end)) = with_scripts inst a ap (below inst a) ∷ []
below inst (r.Range' t name _ (more a ap end)) = with_scripts inst a ap (below inst a) ∷ []
below inst (r.Linear first second) = []

-- None where the script proves the sequent
abbrev pub fault : Instances → Rule → Place → Verdict
fault inst rule p = with_scripts inst rule p (below inst rule)

-- the answer of a replay; want of memory may come in the place of any other
abbrev pub IsAnswer : Result (Unit {0}) KernelFault → Option KernelFault → Type 0
IsAnswer (Ok u) fault = fault ≡ None
IsAnswer (Err (RuleFails p)) fault = fault ≡ Some (RuleFails p)
IsAnswer (Err (Limit p)) fault = fault ≡ Some (Limit p)
IsAnswer (Err Memory) fault = Unit {0}
