-- The reply is one that the state may give, by the order's choice.
use Rattle.std.proofs.Common.{◌≡◌, ◌<◌, ◌-◌, ℕ, ℤ, pos, true, Option, Some, None, List, [], ◌∷◌, ◌++◌, length, take, refl, ap, sym, ◌∙◌, subst, arith}
use Rattle.std.specs.Prelude.{replicate, slice_get, unwrap_or}
use Rattle.std.proofs.lemmas.Option.{slice_get_within}
use Rattle.dl_term.specs.State.{State, Statelet, soup_at}
use Rattle.dl_model.specs.declared.history.Args.{Args}
use Rattle.dl_model.specs.declared.history.Call.{Call}
use Rattle.dl_model.specs.declared.history.Call.TheVariants as call
use Rattle.dl_model.specs.declared.history.Reply.{Reply}
use Rattle.dl_model.specs.declared.history.Reply.TheVariants.{Sent}
use Rattle.dl_model.specs.declared.history.Order.{Order}
use Rattle.dl_model.specs.declared.protocol.Instances.{Instances}
use Rattle.dl_model.specs.Sorts.{has}
use Rattle.dl_model.specs.Steps.{after_send, message_in}
use Rattle.dl_model.specs.Machine.{packed, listed}
use Rattle.dl_model.specs.Runs.{IsMatch, HasNoMatch, Replies, step_of, state_after}
use Rattle.dl_model.specs.Delivery.{choice, drawn, matches, IsChosen}
use Rattle.dl_model.proofs.Matches.{matches-are}
use Rattle.dl_state.specs.Known.{Known}
use Rattle.dl_proto.specs.Shaped.{IsShaped}
use Rattle.dl_soup.specs.Given.{CallIsGiven}
use Rattle.dl_soup.specs.Replies.{got_or_miss, reply_by, reply_to, taken, turned, seed_of, taken_state, taken_turn, turn_after}
use Rattle.dl_soup.proofs.OrderLemmas.{choice-is, choice-there, choice-nothing, taken-there}

front : {X : Type 0} (xs ys : List X) → take (length xs) (xs ++ ys) ≡ xs
front [] ys = refl
front (x ∷ xs) ys = ap (λ zs. x ∷ zs) (front xs ys)

listed-packed : (values : List ℤ) → values ≡ listed (packed values)
listed-packed values = sym (front values (replicate (8 - length values) (pos 0)))

no-match : (inst : Instances) (state : State) (node label tag : ℕ) → matches inst state node label tag ≡ [] → HasNoMatch inst state node label tag
no-match inst state node label tag e id m =
    let told : has (matches inst state node label tag) id ≡ true = (matches-are inst state node label tag id).1 m in
    let none : has [] id ≡ true = subst (λ (ids : List ℕ). has ids id ≡ true) e told in
    cc

match-at : (order : Order) (receives : ℕ) (inst : Instances) (state : State) (node label tag id : ℕ) → choice order receives (matches inst state node label tag) ≡ Some id → IsMatch inst state node label tag id
match-at order receives inst state node label tag id e = (matches-are inst state node label tag id).0 (choice-there order receives (matches inst state node label tag) id e)

poll-replies : (order : Order) (receives : ℕ) (inst : Instances) (state : State) (node label tag : ℕ) (o : Option ℕ) → choice order receives (matches inst state node label tag) ≡ o
    → Replies inst state node (call.Poll label tag) (got_or_miss state label o)
poll-replies order receives inst state node label tag (Some id) e =
    record { match = match-at order receives inst state node label tag id e; sender = refl; values = listed-packed (message_in state label id).args }
poll-replies order receives inst state node label tag None e = no-match inst state node label tag (choice-nothing order receives (matches inst state node label tag) e)

await-replies : (order : Order) (receives : ℕ) (inst : Instances) (state : State) (node label tag : ℕ) (o : Option ℕ) → choice order receives (matches inst state node label tag) ≡ o
    → Replies inst state node (call.Await label tag) (got_or_miss state label o)
await-replies order receives inst state node label tag (Some id) e =
    record { match = match-at order receives inst state node label tag id e; sender = refl; values = listed-packed (message_in state label id).args }
await-replies order receives inst state node label tag None e = no-match inst state node label tag (choice-nothing order receives (matches inst state node label tag) e)

pub reply-replies : (order : Order) (receives : ℕ) (inst : Instances) (state : State) (node : ℕ) (ask : Call) → Replies inst state node ask (reply_to order receives inst state node ask)
reply-replies order receives inst state node (call.Send label tag to args) = refl
reply-replies order receives inst state node (call.Poll label tag) = poll-replies order receives inst state node label tag _ refl
reply-replies order receives inst state node (call.Await label tag) = await-replies order receives inst state node label tag _ refl
reply-replies order receives inst state node (call.Read label field index) = refl

poll-chosen : (order : Order) (receives : ℕ) (inst : Instances) (state : State) (node label tag : ℕ) (o : Option ℕ) → choice order receives (matches inst state node label tag) ≡ o
    → IsChosen order receives inst state node (call.Poll label tag) (got_or_miss state label o)
poll-chosen order receives inst state node label tag (Some id) e = e
poll-chosen order receives inst state node label tag None e = tt

await-chosen : (order : Order) (receives : ℕ) (inst : Instances) (state : State) (node label tag : ℕ) (o : Option ℕ) → choice order receives (matches inst state node label tag) ≡ o
    → IsChosen order receives inst state node (call.Await label tag) (got_or_miss state label o)
await-chosen order receives inst state node label tag (Some id) e = e
await-chosen order receives inst state node label tag None e = tt

pub reply-chosen : (order : Order) (receives : ℕ) (inst : Instances) (state : State) (node : ℕ) (ask : Call) → IsChosen order receives inst state node ask (reply_to order receives inst state node ask)
reply-chosen order receives inst state node (call.Send label tag to args) = tt
reply-chosen order receives inst state node (call.Poll label tag) = poll-chosen order receives inst state node label tag _ refl
reply-chosen order receives inst state node (call.Await label tag) = await-chosen order receives inst state node label tag _ refl
reply-chosen order receives inst state node (call.Read label field index) = tt

-- the code's reply is that of the order
drawn-reply : (order : Order) (receives : ℕ) (inst : Instances) (state : State) (node : ℕ) (ask : Call)
    → reply_by (taken order (turned (drawn (seed_of order) receives))) inst state node ask ≡ reply_to order receives inst state node ask
drawn-reply order receives inst state node (call.Send label tag to args) = refl
drawn-reply order receives inst state node (call.Poll label tag) = ap (got_or_miss state label) (choice-is order receives (matches inst state node label tag))
drawn-reply order receives inst state node (call.Await label tag) = ap (got_or_miss state label) (choice-is order receives (matches inst state node label tag))
drawn-reply order receives inst state node (call.Read label field index) = refl

pub reply-is : (order : Order) (receives turn : ℕ) (inst : Instances) (state : State) (node : ℕ) (ask : Call) → turn ≡ drawn (seed_of order) receives
    → reply_by (taken order (turned turn)) inst state node ask ≡ reply_to order receives inst state node ask
reply-is order receives turn inst state node ask e =
    ap (λ (x : ℕ). reply_by (taken order (turned x)) inst state node ask) e ∙ drawn-reply order receives inst state node ask

-- ---- what a receive leads to

pub poll-state : (inst : Instances) (state : State) (node label tag : ℕ) (o : Option ℕ) → taken_state inst state node label o ≡ state_after inst state node (step_of (call.Poll label tag) (got_or_miss state label o))
poll-state inst state node label tag (Some id) = refl
poll-state inst state node label tag None = refl

pub await-state : (inst : Instances) (state : State) (node label tag : ℕ) (o : Option ℕ) → taken_state inst state node label o ≡ state_after inst state node (step_of (call.Await label tag) (got_or_miss state label o))
await-state inst state node label tag (Some id) = refl
await-state inst state node label tag None = refl

pub got-turn : (state : State) (x label : ℕ) (o : Option ℕ) → taken_turn x o ≡ turn_after x (got_or_miss state label o)
got-turn state x label (Some id) = refl
got-turn state x label None = refl

-- ---- what a call leads to

pub send-leads : (inst : Instances) (s : State) (node label tag id spare : ℕ) (to : ℤ) (args : Args) (ask : Call) (numbers : List ℤ) (after : Known) → ask ≡ call.Send label tag to args → numbers ≡ listed args
    → after ≡ record { state = after_send inst s node label tag to numbers; spare = spare } → after.state ≡ state_after inst s node (step_of ask (Sent id))
send-leads inst s node label tag id spare to args ask numbers after e is made =
    ap (λ (k : Known). k.state) made
    ∙ ap (λ (vs : List ℤ). after_send inst s node label tag to vs) is
    ∙ ap (λ (c : Call). state_after inst s node (step_of c (Sent id))) (sym e)

pub poll-leads : (inst : Instances) (s : State) (node label tag spare : ℕ) (ask : Call) (o : Option ℕ) (reply : Reply) (after : Known) → ask ≡ call.Poll label tag → reply ≡ got_or_miss s label o
    → after ≡ record { state = taken_state inst s node label o; spare = spare } → after.state ≡ state_after inst s node (step_of ask reply)
poll-leads inst s node label tag spare ask o reply after e is made =
    ap (λ (k : Known). k.state) made ∙ poll-state inst s node label tag o ∙ (λ i. state_after inst s node (step_of (sym e i) (sym is i)))

pub await-leads : (inst : Instances) (s : State) (node label tag spare : ℕ) (ask : Call) (o : Option ℕ) (reply : Reply) (after : Known) → ask ≡ call.Await label tag → reply ≡ got_or_miss s label o
    → after ≡ record { state = taken_state inst s node label o; spare = spare } → after.state ≡ state_after inst s node (step_of ask reply)
await-leads inst s node label tag spare ask o reply after e is made =
    ap (λ (k : Known). k.state) made ∙ await-state inst s node label tag o ∙ (λ i. state_after inst s node (step_of (sym e i) (sym is i)))

-- ---- what is given

pub node-given : (inst : Instances) (node : ℕ) (ask : Call) → CallIsGiven inst node ask → node < inst.nodes
node-given inst node (call.Send label tag to args) h = h.node
node-given inst node (call.Poll label tag) h = h
node-given inst node (call.Await label tag) h = h
node-given inst node (call.Read label field index) h = h

label-within : (state : State) (label id : ℕ) (o : Option Statelet) → slice_get state.labels label ≡ o → id < length (unwrap_or o (record { fields = []; soup = [] })).soup → label < length state.labels
label-within state label id (Some at) e h = slice_get_within state.labels label at e
label-within state label id None e h = absurd (omega arith)

-- a label with a message exists
pub known-label : (inst : Instances) (state : State) (label id : ℕ) → IsShaped inst state → id < length (soup_at state label) → label < length inst.of
known-label inst state label id shaped h = subst (λ (n : ℕ). label < n) shaped.labels (label-within state label id (slice_get state.labels label) refl h)

-- what is taken is in the soup
pub taken-known : (order : Order) (turn : ℕ) (inst : Instances) (state : State) (node label tag id : ℕ) → taken order turn (matches inst state node label tag) ≡ Some id
    → id < length (soup_at state label)
taken-known order turn inst state node label tag id e =
    ((matches-are inst state node label tag id).0 (taken-there order turn (matches inst state node label tag) id e)).known
