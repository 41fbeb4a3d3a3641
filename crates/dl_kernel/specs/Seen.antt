-- What the code's own types stand for, and what its steps come to.
use Rattle.std.specs.Prelude.{◌≡◌, ℕ, Bool, true, false, ◌||◌, if◌then◌else◌, List, [], ◌∷◌, map, Option, Some, None, Result, Ok, Err, ◌⊎◌}
use Rattle.std.specs.Option.{option_and_then}
use Rattle.std.specs.List.{list_any, list_all}
use Rattle.dl_tree.specs.declared.tree.Place.{Place}
use Rattle.dl_term.specs.declared.syntax.Formula.{Formula}
use Rattle.dl_term.specs.Measures.{is_oversized}
use Rattle.dl_model.specs.declared.sequent.Sequent.{Sequent}
use Rattle.dl_subst.specs.declared.message.NewMessage.{NewMessage}
use Rattle.dl_subst.specs.Change.{captures}
use Rattle.dl_subst.specs.Substitution.{for_message, message_substituted}
use Rattle.dl_sequent.specs.Clean.{is_clean}
use Rattle.dl_sequent.specs.Sizes.{is_too_large}
use Rattle.dl_kernel.specs.declared.scope.Known.{Known, Vars, Messages, One'}
use Rattle.dl_kernel.specs.declared.made.StepFault.{StepFault}
use Rattle.dl_kernel.specs.declared.made.StepFault.TheVariants.{Limit, Memory}
use Rattle.dl_kernel.specs.declared.fault.KernelFault.{KernelFault}
use Rattle.dl_kernel.specs.declared.fault.KernelFault.TheVariants.{RuleFails, Limit as PastLimit, Memory as NoMemory}
use Rattle.dl_model.specs.declared.protocol.Instances.{Instances}
use Rattle.dl_kernel.specs.declared.parts.Quantified.{Quantified}
use Rattle.dl_kernel.specs.Steps.{with_new, at_new}
use Rattle.dl_kernel.specs.Outcome.{Verdict, fault_of, IsAnswer}

-- the names that are known at a place
abbrev pub names_in : Known → List ℕ
names_in (Vars vars) = map (λ v. v.0) vars.now
names_in (Messages messages) = map (λ m. m.0) messages.now
names_in (One' p known name) = name ∷ names_in known

-- the sequent, where it is clean
abbrev pub if_clean : Sequent → Option Sequent
if_clean s = if is_clean s then Some s else None

-- the one sequent that is left, where the condition holds
abbrev pub one_if : Bool → Sequent → Option (List Sequent)
one_if fine s = if fine then Some (s ∷ []) else None

-- the two sequents that are left
abbrev pub two_if : Option Sequent → Sequent → Option (List Sequent)
two_if (Some s) t = Some (s ∷ t ∷ [])
two_if None t = None

-- a rule's condition holds, and what it leaves is too large
abbrev pub IsPastLimit : Option (List Sequent) → Type 0
IsPastLimit (Some ss) = list_any is_too_large ss ≡ true
IsPastLimit None = ⊥

-- the formula with these terms for the parts of the message m
abbrev pub put_parts : ℕ → Formula → NewMessage → Option Formula
put_parts m f new = if captures (for_message m new) f then None else Some (message_substituted f m new)

-- a formula is made, and it is too large
abbrev pub IsOversized : Option Formula → Type 0
IsOversized (Some f) = is_oversized f ≡ true
IsOversized None = ⊥

-- a new name is entered for what a quantifier binds, if there is one, and this is said of it
pub record IsEntered (inst : Instances) (s t : Sequent) (name : ℕ) (q : Option Quantified) (f : Formula) : Type 0 where
  pub named : option_and_then (with_new inst s name) q ≡ Some t
  pub made : option_and_then (at_new name) q ≡ Some f

-- where nothing is said of it, there is no quantifier, or no number for its label, or a name is captured
abbrev pub IsNamed : Instances → Sequent → Sequent → ℕ → Option Quantified → Option Formula → Type 0
IsNamed inst s t name q (Some f) = IsEntered inst s t name q f
IsNamed inst s t name q None = (option_and_then (with_new inst s name) q ≡ None) ⊎ (option_and_then (at_new name) q ≡ None)

abbrev pub IsNamedTooLarge : Instances → Sequent → Sequent → ℕ → Option Quantified → Type 0
IsNamedTooLarge inst s t name q = (option_and_then (with_new inst s name) q ≡ Some t) × IsOversized (option_and_then (at_new name) q)

-- the step of a rule with one sub-script, where this is the sequent in the end
abbrev pub IsStep : Result Bool StepFault → Sequent → Option (List Sequent) → Type 0
IsStep (Ok fine) s left = one_if fine s ≡ left
IsStep (Err Limit) s left = IsPastLimit left
IsStep (Err Memory) s left = Unit {0}

-- all that is left is clean
abbrev pub AllClean : Option (List Sequent) → Type 0
AllClean (Some ss) = list_all is_clean ss ≡ true
AllClean None = Unit {0}

-- a step that takes memory alone
abbrev pub SameStep : {E : Type 0} → Result Bool StepFault → Result Bool E → Type 0
SameStep step (Ok fine) = step ≡ Ok fine
SameStep step (Err e) = step ≡ Err Memory

-- a rule with one sub-script goes on: it is made, and what it leaves isn't too large
abbrev pub kept_one : Place → Result Bool StepFault → Sequent → Result (Unit {0}) KernelFault
kept_one p (Ok true) s = if is_too_large s then Err (PastLimit p) else Ok tt
kept_one p (Ok false) s = Err (RuleFails p)
kept_one p (Err Limit) s = Err (PastLimit p)
kept_one p (Err Memory) s = Err NoMemory

-- the first one of two sequents, where neither is too large
abbrev pub kept_small : Place → Sequent → Sequent → Result Sequent KernelFault
kept_small p one s = if is_too_large one || is_too_large s then Err (PastLimit p) else Ok one

abbrev pub kept_first : {E : Type 0} → Place → Result (Option Sequent) E → Sequent → Result Sequent KernelFault
kept_first p (Ok (Some one)) s = kept_small p one s
kept_first p (Ok None) s = Err (RuleFails p)
kept_first p (Err e) s = Err NoMemory

-- a script that proves any sequent
abbrev pub passes : Verdict
passes s = None

-- the answer of a script whose first rule has one sub-script, after its step
abbrev pub AfterOne : Result (Unit {0}) KernelFault → Place → Verdict → Result Bool StepFault → Sequent → Type 0
AfterOne answer p script (Ok fine) s = IsAnswer answer (fault_of p (script ∷ []) (one_if fine s))
AfterOne answer p script (Err Limit) s = answer ≡ Err (PastLimit p)
AfterOne answer p script (Err Memory) s = answer ≡ Err NoMemory

-- the answer of a script whose first rule has two sub-scripts, after its step, up to the second one of these
abbrev pub AfterFirst : {E : Type 0} → Result (Unit {0}) KernelFault → Place → Verdict → Result (Option Sequent) E → Sequent → Type 0
AfterFirst answer p script (Ok one) s = IsAnswer answer (fault_of p (script ∷ passes ∷ []) (two_if one s))
AfterFirst answer p script (Err e) s = answer ≡ Err NoMemory
