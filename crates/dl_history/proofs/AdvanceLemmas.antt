-- What the answer of a machine says of its next step.
use Rattle.std.proofs.Common.{◌≡◌, Bool, true, false, ap, sym, ◌∙◌}
use Rattle.dl_model.specs.declared.history.Call.{Call}
use Rattle.dl_model.specs.Machine.{Machine, Next, Ticks, Asks, Ends, Stops}
use Rattle.dl_prog.specs.declared.answer.At.{At}
use Rattle.dl_prog.specs.declared.answer.At.TheVariants as at
use Rattle.dl_prog.specs.Moves.{answer_of, moved}
use Rattle.dl_history.specs.Same.{same_call}
use Rattle.dl_history.proofs.SameLemmas.{call-same}

pub tick-told : (old new : Machine) (n : Next) (a : At) → a ≡ answer_of n → new ≡ moved old n → a ≡ at.Tick → n ≡ Ticks new
tick-told old new (Ticks after) a e m t = ap Ticks (sym m)
tick-told old new (Asks call) a e m t = cc (sym t ∙ e)
tick-told old new (Ends result) a e m t = cc (sym t ∙ e)
tick-told old new Stops a e m t = cc (sym t ∙ e)

pub no-tick-told : (n : Next) (a : At) → a ≡ answer_of n → (a ≡ at.Tick → ⊥) → (after : Machine) → n ≡ Ticks after → ⊥
no-tick-told n a e never after q = never (e ∙ ap answer_of q)

call-told : (n : Next) (a : At) (call : Call) → a ≡ answer_of n → a ≡ at.Call call → n ≡ Asks call
call-told (Ticks after) a call e t = cc (sym t ∙ e)
call-told (Asks asked) a call e t = let same : asked ≡ call = cc (sym e ∙ t) in ap Asks same
call-told (Ends result) a call e t = cc (sym t ∙ e)
call-told Stops a call e t = cc (sym t ∙ e)

call-is : (a b : Call) → at.Call a ≡ at.Call b → a ≡ b
call-is a b e = cc

pub no-call-told : (n : Next) (a : At) (call : Call) → a ≡ answer_of n → (a ≡ at.Call call → ⊥) → n ≡ Asks call → ⊥
no-call-told n a call e never q = never (e ∙ ap answer_of q)

-- ---- where the machine is at a call

pub asks-told : (n : Next) (a : At) (asked call : Call) (r : Bool) → a ≡ answer_of n → a ≡ at.Call asked → r ≡ same_call asked call → r ≡ true → n ≡ Asks call
asks-told n a asked call r e is same t = call-told n a call e (is ∙ ap at.Call ((call-same asked call r same).0 t))

pub asks-stays : (old new : Machine) (n : Next) (a : At) (asked : Call) → a ≡ answer_of n → a ≡ at.Call asked → new ≡ moved old n → new ≡ old
asks-stays old new n a asked e is m = m ∙ ap (moved old) (call-told n a asked e is)

pub asks-another : (n : Next) (a : At) (asked call : Call) (r : Bool) → a ≡ answer_of n → a ≡ at.Call asked → r ≡ same_call asked call → r ≡ false → n ≡ Asks call → ⊥
asks-another n a asked call r e is same f = no-call-told n a call e (λ q. cc (sym f ∙ (call-same asked call r same).1 (call-is asked call (sym is ∙ q))))
