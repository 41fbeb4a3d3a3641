-- A history with one more entry.
use Rattle.std.proofs.Common.{◌≡◌, ◌<◌, ℕ, Option, Some, None, List, [], ◌∷◌, ◌++◌, refl, ap, sym, ◌∙◌, subst}
use Rattle.dl_term.specs.State.{State}
use Rattle.dl_model.specs.declared.history.Entry.{Entry}
use Rattle.dl_model.specs.declared.history.Reply.{Reply}
use Rattle.dl_model.specs.declared.history.Reply.TheVariants.{Sent, Got, Miss, Value}
use Rattle.dl_model.specs.declared.history.Order.{Order}
use Rattle.dl_model.specs.declared.protocol.Instances.{Instances}
use Rattle.dl_model.specs.Steps.{names_of_send, names_of_receive, message_in, receive_at, statelet_sent, statelet_received}
use Rattle.dl_model.specs.Lookup.{tag_at}
use Rattle.dl_model.specs.Runs.{Replies, step_of, state_after}
use Rattle.dl_model.specs.Steps.{Step, Sending, Receiving}
use Rattle.dl_model.specs.Histories.{SoupLeads}
use Rattle.dl_model.specs.Delivery.{IsChosen, IsUnder, receives_after, drawn}
use Rattle.dl_state.specs.Shapes.{shape_state}
use Rattle.dl_proto.specs.Shaped.{IsShaped}
use Rattle.dl_proto.proofs.UpdateLemmas.{updates-shaped}
use Rattle.dl_soup.specs.Seen.{Seen}
use Rattle.dl_soup.specs.Kept.{IsKept}
use Rattle.dl_soup.specs.Replies.{receives_from, receives_in, entered, turn_after}

pub leads-more : (inst : Instances) (before mid : State) (entries : List Entry) (entry : Entry) → SoupLeads inst before entries mid → entry.node < inst.nodes → Replies inst mid entry.node entry.call entry.reply
    → SoupLeads inst before (entries ++ entry ∷ []) (state_after inst mid entry.node (step_of entry.call entry.reply))
leads-more inst before mid [] entry h node replies =
    (node, subst (λ (s : State). Replies inst s entry.node entry.call entry.reply) (sym h) replies, ap (λ (s : State). state_after inst s entry.node (step_of entry.call entry.reply)) h)
leads-more inst before mid (first ∷ entries) entry h node replies =
    (h.0, h.1, leads-more inst (state_after inst before first.node (step_of first.call first.reply)) mid entries entry h.2 node replies)

pub under-more : (order : Order) (receives : ℕ) (inst : Instances) (before mid : State) (entries : List Entry) (entry : Entry) → SoupLeads inst before entries mid → IsUnder order receives inst before entries
    → IsChosen order (receives_from receives entries) inst mid entry.node entry.call entry.reply → IsUnder order receives inst before (entries ++ entry ∷ [])
under-more order receives inst before mid [] entry h under chosen =
    (subst (λ (s : State). IsChosen order receives inst s entry.node entry.call entry.reply) (sym h) chosen, tt)
under-more order receives inst before mid (first ∷ entries) entry h under chosen =
    (under.0, under-more order (receives_after receives first.reply) inst (state_after inst before first.node (step_of first.call first.reply)) mid entries entry h.2 under.1 chosen)

pub receives-more : (receives : ℕ) (entries : List Entry) (entry : Entry) → receives_from receives (entries ++ entry ∷ []) ≡ receives_after (receives_from receives entries) entry.reply
receives-more receives [] entry = refl
receives-more receives (first ∷ entries) entry = receives-more (receives_after receives first.reply) entries entry

-- the generator after a reply
turn-after : (seed receives : ℕ) (reply : Reply) → turn_after (drawn seed receives) reply ≡ drawn seed (receives_after receives reply)
turn-after seed receives (Sent id) = refl
turn-after seed receives (Got id from args) = refl
turn-after seed receives Miss = refl
turn-after seed receives (Value v) = refl

pub turn-more : (seed turn next : ℕ) (entries : List Entry) (entry : Entry) → turn ≡ drawn seed (receives_in entries) → next ≡ turn_after turn entry.reply → next ≡ drawn seed (receives_in (entries ++ entry ∷ []))
turn-more seed turn next entries entry is e =
    e ∙ ap (λ (x : ℕ). turn_after x entry.reply) is ∙ turn-after seed (receives_in entries) entry.reply ∙ ap (drawn seed) (sym (receives-more 0 entries entry))

-- ---- shapes

step-shaped : (inst : Instances) (s : State) (node : ℕ) (step : Option Step) → IsShaped inst s → IsShaped inst (state_after inst s node step)
step-shaped inst s node None h = h
step-shaped inst s node (Some (Sending label tag to args)) h =
    updates-shaped inst s s label node (names_of_send inst label tag node to args) (tag_at inst label tag).send.updates (statelet_sent inst s node label tag to args).soup h
step-shaped inst s node (Some (Receiving label id)) h =
    updates-shaped inst s s label node (names_of_receive inst label (message_in s label id) node) (receive_at inst label (message_in s label id)).updates (statelet_received inst s node label id).soup h

-- ---- the soup

pub kept-more : (soup : Seen) (entry : Entry) → IsKept soup → entry.node < soup.inst.nodes → Replies soup.inst soup.state entry.node entry.call entry.reply
    → IsChosen soup.order (receives_in soup.history) soup.inst soup.state entry.node entry.call entry.reply → IsKept (entered soup entry)
kept-more soup entry h node replies chosen = record {
  formed = h.formed;
  shaped = step-shaped soup.inst soup.state entry.node (step_of entry.call entry.reply) h.shaped;
  leads = leads-more soup.inst (shape_state soup.shape) soup.state soup.history entry h.leads node replies;
  under = under-more soup.order 0 soup.inst (shape_state soup.shape) soup.state soup.history entry h.leads h.under chosen;
}
