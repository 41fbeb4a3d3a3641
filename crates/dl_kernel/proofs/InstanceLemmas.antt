-- What a quantified formula says of a message that is given.
use Rattle.std.proofs.Common.{◌≡◌, ℕ, Bool, true, false, if◌then◌else◌, Option, Some, None, Result, Ok, Err, IfOk, sym, ◌∙◌, ap, subst}
use Rattle.dl_term.specs.declared.syntax.Lab.{Lab}
use Rattle.dl_term.specs.declared.syntax.Formula.{Formula, True}
use Rattle.std.specs.Option.{option_and_then}
use Rattle.dl_model.specs.declared.protocol.Instances.{Instances}
use Rattle.dl_sequent.specs.declared.script.Given.{Given}
use Rattle.dl_kernel.specs.declared.parts.Quantified.{Quantified}
use Rattle.dl_kernel.specs.declared.made.StepFault.{StepFault}
use Rattle.dl_kernel.specs.declared.made.StepFault.TheVariants.{Limit, Memory}
use Rattle.dl_kernel.specs.Seen.{IsOversized}
use Rattle.dl_kernel.proofs.StepLemmas.{same-instance}
use Rattle.dl_model.specs.declared.sequent.Sequent.{Sequent}
use Rattle.dl_sequent.specs.Bounds.{message_of}
use Rattle.dl_kernel.specs.Steps.{put_message, label_number, is_message_of, at_message, with_goal, instance}

pub message-stands : (s : Sequent) (k m : ℕ) (label : Lab) (tag : ℕ) (body : Formula) (b : Bool) → b ≡ is_message_of (message_of s.messages k) (label_number label) tag → b ≡ true → put_message m body k ≡ at_message s (Some k) m label tag body
message-stands s k m label tag body b h t = ap (λ c. if c then put_message m body k else None) (sym t ∙ h)

pub message-differs : (s : Sequent) (k m : ℕ) (label : Lab) (tag : ℕ) (body : Formula) (b : Bool) → b ≡ is_message_of (message_of s.messages k) (label_number label) tag → b ≡ false → None ≡ at_message s (Some k) m label tag body
message-differs s k m label tag body b h t = ap (λ c. if c then put_message m body k else None) (sym t ∙ h)

-- ---- a call whose result is handed on: what it says of one formula is said of another word for it

pub instance-made : {E X : Type 0} (r : Result (Option Formula) E) (g : X → Option Formula) (x : X) (o : Option X) → Some x ≡ o → IfOk r (λ made. made ≡ g x) → IfOk r (λ made. made ≡ option_and_then g o)
instance-made (Ok made) g x o e h = h ∙ ap (option_and_then g) e
instance-made (Err y) g x o e h = tt

pub instance-limit : {P X : Type 0} (g : X → Option Formula) (x : X) (o : Option X) → Some x ≡ o → (P → IsOversized (g x)) → P → IsOversized (option_and_then g o)
instance-limit g x o e h p = subst (λ q. IsOversized (option_and_then g q)) e (h p)

pub instance-none : {X : Type 0} (g : X → Option Formula) (o : Option X) → None ≡ o → None ≡ option_and_then g o
instance-none g o e = ap (option_and_then g) e

-- the goal was taken, and `true` stands in its place
pub goal-instance : (inst : Instances) (s t : Sequent) (what : Given) (q : Quantified) → t ≡ with_goal s True → instance inst t what q ≡ instance inst s what q
goal-instance inst s t what q e = ap (λ (t : Sequent). instance inst t what q) e ∙ same-instance inst s True what q

-- ---- other answers than that a limit is passed

pub made-no_limit : {A P : Type 0} (r : Result A StepFault) (a : A) → r ≡ Ok a → r ≡ Err Limit → P
made-no_limit r a p q = absurd (cc)

pub memory-no_limit : {A P : Type 0} (r : Result A StepFault) → r ≡ Err Memory → r ≡ Err Limit → P
memory-no_limit r p q = absurd (cc)
