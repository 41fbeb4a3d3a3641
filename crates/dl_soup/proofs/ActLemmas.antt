-- What a call does to a soup.
use Rattle.std.proofs.Common.{◌≡◌, ◌<◌, ◌≤◌, ◌+◌, ◌-◌, ℕ, Bool, true, false, cond, Some, None, List, [], ◌∷◌, ◌++◌, refl, ap, sym, ◌∙◌, subst, arith}
use Rattle.dl_model.specs.declared.history.Call.{Call}
use Rattle.dl_model.specs.declared.history.Reply.{Reply}
use Rattle.dl_model.specs.declared.history.Entry.{Entry}
use Rattle.dl_model.specs.Runs.{Replies, step_of, state_after}
use Rattle.dl_model.specs.declared.history.Order.{Order}
use Rattle.dl_model.specs.declared.protocol.Instances.{Instances}
use Rattle.dl_model.specs.Formed.{InstancesAreFormed}
use Rattle.dl_model.specs.Delivery.{IsChosen, drawn}
use Rattle.dl_model.specs.Histories.{is_wait_of}
use Rattle.dl_state.specs.Known.{Known}
use Rattle.dl_state.specs.declared.shape.Shape.{Shape}
use Rattle.dl_state.specs.Shapes.{shape_state}
use Rattle.dl_soup.specs.declared.soup.Soup.TheInside.{Inside}
use Rattle.dl_soup.specs.Seen.{Seen}
use Rattle.dl_soup.specs.EntryRows.{EntryRow}
use Rattle.dl_soup.specs.Given.{CallIsGiven, ShapeIsGiven}
use Rattle.dl_soup.specs.Kept.{IsKept}
use Rattle.dl_soup.specs.SoupKept.{SoupIsKept, seen_of}
use Rattle.dl_soup.specs.Replies.{acted, can_call, entered, entry_of, receives_in, reply_by, reply_of, seed_of, spare_after, taken, turned, turn_after}
use Rattle.dl_soup.proofs.ReplyLemmas.{node-given, reply-chosen, reply-is, reply-replies}
use Rattle.dl_soup.proofs.HistoryLemmas.{kept-more, turn-more}
use Rattle.dl_soup.proofs.WaitLemmas.{can-where, one-less, wait-spare, wait-state, wait-turn}

-- the reply, from how the soup is kept
own-reply : (soup : Inside) (node : ℕ) (ask : Call) (result : Reply) → SoupIsKept soup → result ≡ reply_by (taken soup.order (turned soup.turn)) soup.inst soup.pool.state node ask → result ≡ reply_of (seen_of soup) node ask
own-reply soup node ask result kept is =
    is ∙ reply-is soup.order (receives_in soup.history.entries) soup.turn soup.inst soup.pool.state node ask kept.turn

pub act-reply : (soup : Inside) (seen : Seen) (node : ℕ) (ask : Call) (result : Reply) → seen_of soup ≡ seen → SoupIsKept soup
    → result ≡ reply_by (taken soup.order (turned soup.turn)) soup.inst soup.pool.state node ask → result ≡ reply_of seen node ask
act-reply soup seen node ask result view kept is = own-reply soup node ask result kept is ∙ ap (λ (s : Seen). reply_of s node ask) view

pub act-replies : (seen : Seen) (node : ℕ) (ask : Call) (result : Reply) → result ≡ reply_of seen node ask → Replies seen.inst seen.state node ask result
act-replies seen node ask result e =
    subst (λ (r : Reply). Replies seen.inst seen.state node ask r) (sym e) (reply-replies seen.order (receives_in seen.history) seen.inst seen.state node ask)

pub act-chosen : (seen : Seen) (node : ℕ) (ask : Call) (result : Reply) → result ≡ reply_of seen node ask → IsChosen seen.order (receives_in seen.history) seen.inst seen.state node ask result
act-chosen seen node ask result e =
    subst (λ (r : Reply). IsChosen seen.order (receives_in seen.history) seen.inst seen.state node ask r) (sym e) (reply-chosen seen.order (receives_in seen.history) seen.inst seen.state node ask)

-- the soup with the entry, field by field
written : (soup : Inside) (node ticks : ℕ) (ask : Call) (result : Reply) (after : Known) (rows : EntryRow) → after.state ≡ state_after soup.inst soup.pool.state node (step_of ask result)
    → rows ≡ record { entries = soup.history.entries ++ entry_of node ticks ask result ∷ []; spare = soup.history.spare - 1 }
    → ◌≡◌ {A = Seen} (record { inst = soup.inst; shape = soup.shape; order = soup.order; state = after.state; history = rows.entries; spare = rows.spare }) (entered (seen_of soup) (entry_of node ticks ask result))
written soup node ticks ask result after rows state pushed =
    λ i. record { inst = soup.inst; shape = soup.shape; order = soup.order; state = state i; history = (pushed i).entries; spare = (pushed i).spare }

pub act-seen : (soup : Inside) (seen : Seen) (node ticks : ℕ) (ask : Call) (result : Reply) (after : Known) (rows : EntryRow) → seen_of soup ≡ seen → result ≡ reply_of seen node ask
    → after.state ≡ state_after soup.inst soup.pool.state node (step_of ask result)
    → rows ≡ record { entries = soup.history.entries ++ entry_of node ticks ask result ∷ []; spare = soup.history.spare - 1 }
    → ◌≡◌ {A = Seen} (record { inst = soup.inst; shape = soup.shape; order = soup.order; state = after.state; history = rows.entries; spare = rows.spare }) (acted seen node ticks ask)
act-seen soup seen node ticks ask result after rows view reply state pushed =
    written soup node ticks ask result after rows state pushed
    ∙ ap (λ (r : Reply). entered (seen_of soup) (entry_of node ticks ask r)) reply
    ∙ ap (λ (s : Seen). entered s (entry_of node ticks ask (reply_of seen node ask))) view

pub act-kept : (soup : Inside) (node ticks : ℕ) (ask : Call) (result : Reply) (turn : ℕ) (after : Known) (rows : EntryRow) → SoupIsKept soup → CallIsGiven soup.inst node ask
    → result ≡ reply_by (taken soup.order (turned soup.turn)) soup.inst soup.pool.state node ask
    → after.state ≡ state_after soup.inst soup.pool.state node (step_of ask result) → spare_after soup.pool.spare result ≤ after.spare → turn ≡ turn_after soup.turn result
    → rows ≡ record { entries = soup.history.entries ++ entry_of node ticks ask result ∷ []; spare = soup.history.spare - 1 } → 0 < soup.history.spare
    → SoupIsKept (record { inst = soup.inst; shape = soup.shape; order = soup.order; turn = turn; pool = after; history = rows })
act-kept soup node ticks ask result turn after rows kept given is state spare turns pushed some =
    let reply : result ≡ reply_of (seen_of soup) node ask = own-reply soup node ask result kept is in
    let entry = entry_of node ticks ask result in
    let more : IsKept (entered (seen_of soup) entry) =
    kept-more (seen_of soup) entry kept.kept (node-given soup.inst node ask given) (act-replies (seen_of soup) node ask result reply) (act-chosen (seen_of soup) node ask result reply) in
    let entries : rows.entries ≡ soup.history.entries ++ entry ∷ [] = ap (λ (r : EntryRow). r.entries) pushed in
    let less : rows.spare ≡ soup.history.spare - 1 = ap (λ (r : EntryRow). r.spare) pushed in
    let had : soup.history.spare ≤ soup.pool.spare = kept.room in
    let fewer : soup.pool.spare ≤ after.spare + 1 = one-less soup.pool.spare result after.spare spare in
    record {
      kept = subst IsKept (sym (written soup node ticks ask result after rows state pushed)) more;
      turn = turn-more (seed_of soup.order) soup.turn turn soup.history.entries entry kept.turn turns ∙ ap (λ (es : List Entry). drawn (seed_of soup.order) (receives_in es)) (sym entries);
      room = omega arith;
    }

-- ---- a call that isn't made where it would wait

pub made-reply : (seen : Seen) (node : ℕ) (ask : Call) (result : Reply) → result ≡ reply_of seen node ask → is_wait_of ask result ≡ false → Some result ≡ cond (can_call seen node ask) (Some (reply_of seen node ask)) None
made-reply seen node ask result e h =
    let goes : can_call seen node ask ≡ true = can-where seen node ask result false e h in
    ap Some e ∙ ap (λ (b : Bool). cond b (Some (reply_of seen node ask)) None) (sym goes)

pub made-seen : (seen after : Seen) (node ticks : ℕ) (ask : Call) (result : Reply) → result ≡ reply_of seen node ask → is_wait_of ask result ≡ false → after ≡ acted seen node ticks ask
    → after ≡ cond (can_call seen node ask) (acted seen node ticks ask) seen
made-seen seen after node ticks ask result e h made =
    let goes : can_call seen node ask ≡ true = can-where seen node ask result false e h in
    made ∙ ap (λ (b : Bool). cond b (acted seen node ticks ask) seen) (sym goes)

pub wait-reply : (seen : Seen) (node : ℕ) (ask : Call) (result : Reply) → result ≡ reply_of seen node ask → is_wait_of ask result ≡ true → None ≡ cond (can_call seen node ask) (Some (reply_of seen node ask)) None
wait-reply seen node ask result e h =
    let waits : can_call seen node ask ≡ false = can-where seen node ask result true e h in
    ap (λ (b : Bool). cond b (Some (reply_of seen node ask)) None) (sym waits)

-- the soup as it was
same-seen : (soup : Inside) (node : ℕ) (ask : Call) (result : Reply) (after : Known) → is_wait_of ask result ≡ true → after.state ≡ state_after soup.inst soup.pool.state node (step_of ask result)
    → ◌≡◌ {A = Seen} (record { inst = soup.inst; shape = soup.shape; order = soup.order; state = after.state; history = soup.history.entries; spare = soup.history.spare }) (seen_of soup)
same-seen soup node ask result after h state =
    let same : after.state ≡ soup.pool.state = state ∙ wait-state soup.inst soup.pool.state node ask result h in
    λ i. record { inst = soup.inst; shape = soup.shape; order = soup.order; state = same i; history = soup.history.entries; spare = soup.history.spare }

pub wait-seen : (soup : Inside) (seen : Seen) (node ticks : ℕ) (ask : Call) (result : Reply) (after : Known) → seen_of soup ≡ seen → result ≡ reply_of seen node ask → is_wait_of ask result ≡ true
    → after.state ≡ state_after soup.inst soup.pool.state node (step_of ask result)
    → ◌≡◌ {A = Seen} (record { inst = soup.inst; shape = soup.shape; order = soup.order; state = after.state; history = soup.history.entries; spare = soup.history.spare }) (cond (can_call seen node ask) (acted seen node ticks ask) seen)
wait-seen soup seen node ticks ask result after view e h state =
    let waits : can_call seen node ask ≡ false = can-where seen node ask result true e h in
    same-seen soup node ask result after h state ∙ view ∙ ap (λ (b : Bool). cond b (acted seen node ticks ask) seen) (sym waits)

pub wait-kept : (soup : Inside) (node : ℕ) (ask : Call) (result : Reply) (turn : ℕ) (after : Known) → SoupIsKept soup → is_wait_of ask result ≡ true
    → after.state ≡ state_after soup.inst soup.pool.state node (step_of ask result) → spare_after soup.pool.spare result ≤ after.spare → turn ≡ turn_after soup.turn result
    → SoupIsKept (record { inst = soup.inst; shape = soup.shape; order = soup.order; turn = turn; pool = after; history = soup.history })
wait-kept soup node ask result turn after kept h state spare turns =
    let same : spare_after soup.pool.spare result ≡ soup.pool.spare = wait-spare soup.pool.spare ask result h in
    let had : soup.history.spare ≤ soup.pool.spare = kept.room in
    record {
      kept = subst IsKept (sym (same-seen soup node ask result after h state)) kept.kept;
      turn = turns ∙ wait-turn soup.turn ask result h ∙ kept.turn;
      room = omega arith;
    }

-- ---- at first

pub begin-kept : (inst : Instances) (shape : Shape) (under : Order) (room turn : ℕ) → InstancesAreFormed inst → ShapeIsGiven inst shape → turn ≡ seed_of under
    → SoupIsKept (record { inst = inst; shape = shape; order = under; turn = turn; pool = record { state = shape_state shape; spare = room }; history = record { entries = []; spare = room } })
begin-kept inst shape under room turn formed given e = record {
  kept = record { formed = formed; shaped = given.shaped; leads = refl; under = tt };
  turn = e;
  room = omega arith;
}
