-- An await without a match, and every other call.
use Rattle.std.proofs.Common.{◌≡◌, ◌<◌, ◌%◌, ◌/◌, ◌^◌, ◌+◌, ◌-◌, ◌≤◌, ℕ, suc, Bool, true, false, not, Option, Some, None, List, [], ◌∷◌, length, get_or, mod-lt, refl, ap, sym, ◌∙◌, arith}
use Rattle.std.specs.List.{last_or}
use Rattle.std.proofs.lemmas.Option.{slice_get-get_or}
use Rattle.dl_term.specs.State.{State}
use Rattle.dl_model.specs.declared.history.Call.{Call}
use Rattle.dl_model.specs.declared.history.Call.TheVariants as call
use Rattle.dl_model.specs.declared.history.Reply.{Reply}
use Rattle.dl_model.specs.declared.history.Reply.TheVariants.{Sent, Got, Miss, Value}
use Rattle.dl_model.specs.declared.history.Order.{Order}
use Rattle.dl_model.specs.declared.history.Order.TheVariants.{Oldest, Newest, Seed}
use Rattle.dl_model.specs.declared.protocol.Instances.{Instances}
use Rattle.dl_model.specs.Delivery.{choice, drawn, matches}
use Rattle.dl_model.specs.Histories.{is_wait_of}
use Rattle.dl_model.specs.Runs.{step_of, state_after}
use Rattle.dl_soup.specs.Seen.{Seen}
use Rattle.dl_soup.specs.Replies.{can_call, got_or_miss, has_any, missed, receives_in, reply_of, spare_after, turn_after}

-- ---- where there is a match, one is taken

last-some : (o : Option ℕ) (x : ℕ) (xs : List ℕ) → (y : ℕ) × (last_or o (x ∷ xs) ≡ Some y)
last-some o x [] = (x, refl)
last-some o x (y ∷ xs) = last-some (Some x) y xs

choice-some : (order : Order) (receives id : ℕ) (ids : List ℕ) → (x : ℕ) × (choice order receives (id ∷ ids) ≡ Some x)
choice-some Oldest receives id ids = (id, refl)
choice-some Newest receives id ids = last-some None id ids
choice-some (Seed seed) receives id ids =
    let some : 0 < length (id ∷ ids) = omega arith in
    let within : (drawn seed (suc receives) / (2 ^ 33)) % length (id ∷ ids) < length (id ∷ ids) = mod-lt (drawn seed (suc receives) / (2 ^ 33)) some in
    (get_or (id ∷ ids) ((drawn seed (suc receives) / (2 ^ 33)) % length (id ∷ ids)) 0, slice_get-get_or (id ∷ ids) ((drawn seed (suc receives) / (2 ^ 33)) % length (id ∷ ids)) 0 within)

choice-none : (order : Order) (receives : ℕ) → choice order receives [] ≡ None
choice-none Oldest receives = refl
choice-none Newest receives = refl
choice-none (Seed seed) receives = refl

await-told : (state : State) (label tag receives : ℕ) (order : Order) (ids : List ℕ) → has_any ids ≡ not (is_wait_of (call.Await label tag) (got_or_miss state label (choice order receives ids)))
await-told state label tag receives order [] = ap (λ (o : Option ℕ). not (is_wait_of (call.Await label tag) (got_or_miss state label o))) (sym (choice-none order receives))
await-told state label tag receives order (id ∷ ids) =
    let taken = choice-some order receives id ids in
    ap (λ (o : Option ℕ). not (is_wait_of (call.Await label tag) (got_or_miss state label o))) (sym taken.1)

-- a call is made where its reply is no wait
pub can-told : (soup : Seen) (node : ℕ) (ask : Call) → can_call soup node ask ≡ not (is_wait_of ask (reply_of soup node ask))
can-told soup node (call.Send label tag to args) = refl
can-told soup node (call.Poll label tag) = refl
can-told soup node (call.Await label tag) = await-told soup.state label tag (receives_in soup.history) soup.order (matches soup.inst soup.state node label tag)
can-told soup node (call.Read label field index) = refl

not-told : (a : Bool) → not a ≡ true → a ≡ false
not-told true e = cc
not-told false e = refl

pub call-no-wait : (soup : Seen) (node : ℕ) (ask : Call) → can_call soup node ask ≡ true → is_wait_of ask (reply_of soup node ask) ≡ false
call-no-wait soup node ask h = not-told (is_wait_of ask (reply_of soup node ask)) (sym (can-told soup node ask) ∙ h)

pub can-where : (soup : Seen) (node : ℕ) (ask : Call) (reply : Reply) (b : Bool) → reply ≡ reply_of soup node ask → is_wait_of ask reply ≡ b → can_call soup node ask ≡ not b
can-where soup node ask reply b e h = can-told soup node ask ∙ ap (λ (r : Reply). not (is_wait_of ask r)) (sym e) ∙ ap not h

-- ---- a wait changes nothing

pub await-waits : (label tag : ℕ) (reply : Reply) → missed reply ≡ is_wait_of (call.Await label tag) reply
await-waits label tag (Sent id) = refl
await-waits label tag (Got id from args) = refl
await-waits label tag Miss = refl
await-waits label tag (Value v) = refl

wait-step : (ask : Call) (reply : Reply) → is_wait_of ask reply ≡ true → step_of ask reply ≡ None
wait-step (call.Send label tag to args) reply e = cc
wait-step (call.Poll label tag) reply e = cc
wait-step (call.Await label tag) (Sent id) e = refl
wait-step (call.Await label tag) (Got id from args) e = cc
wait-step (call.Await label tag) Miss e = refl
wait-step (call.Await label tag) (Value v) e = refl
wait-step (call.Read label field index) reply e = cc

wait-miss : (ask : Call) (reply : Reply) → is_wait_of ask reply ≡ true → reply ≡ Miss
wait-miss (call.Send label tag to args) reply e = cc
wait-miss (call.Poll label tag) reply e = cc
wait-miss (call.Await label tag) (Sent id) e = cc
wait-miss (call.Await label tag) (Got id from args) e = cc
wait-miss (call.Await label tag) Miss e = refl
wait-miss (call.Await label tag) (Value v) e = cc
wait-miss (call.Read label field index) reply e = cc

pub wait-state : (inst : Instances) (state : State) (node : ℕ) (ask : Call) (reply : Reply) → is_wait_of ask reply ≡ true → state_after inst state node (step_of ask reply) ≡ state
wait-state inst state node ask reply e = ap (state_after inst state node) (wait-step ask reply e)

pub wait-turn : (x : ℕ) (ask : Call) (reply : Reply) → is_wait_of ask reply ≡ true → turn_after x reply ≡ x
wait-turn x ask reply e = ap (turn_after x) (wait-miss ask reply e)

pub wait-spare : (spare : ℕ) (ask : Call) (reply : Reply) → is_wait_of ask reply ≡ true → spare_after spare reply ≡ spare
wait-spare spare ask reply e = ap (spare_after spare) (wait-miss ask reply e)

-- ---- room

pub got-spare : (spare : ℕ) (state : State) (label : ℕ) (o : Option ℕ) → spare_after spare (got_or_miss state label o) ≡ spare
got-spare spare state label (Some id) = refl
got-spare spare state label None = refl

pub one-less : (spare : ℕ) (reply : Reply) (after : ℕ) → spare_after spare reply ≤ after → spare ≤ after + 1
one-less spare (Sent id) after h = omega arith
one-less spare (Got id from args) after h = omega arith
one-less spare Miss after h = omega arith
one-less spare (Value v) after h = omega arith
