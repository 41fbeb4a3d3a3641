-- The matches stand among the live messages, and the code's tests are the model's.
use Rattle.std.proofs.Common.{◌≡◌, ◌↔◌, ℕ, ◌==◌, pos, Bool, true, false, ◌&&◌, Option, Some, None, length, List, [], ◌∷◌, refl, sym, ◌∙◌}
use Rattle.std.specs.Prelude.{IsTrue, is_some, slice_get, unwrap_or}
use Rattle.std.specs.Ordering.{int_eq}
use Rattle.std.specs.List.{filter, range_with_len}
use Rattle.std.proofs.lemmas.Bool.Decides.{Decides-int_eq}
use Rattle.dl_term.specs.State.{State, Message, soup_at, tag_of}
use Rattle.dl_term.specs.Meaning.{holds}
use Rattle.dl_model.specs.declared.protocol.Instances.{Instances}
use Rattle.dl_model.specs.Sorts.{all_in_sorts}
use Rattle.dl_model.specs.Lookup.{tag_at, arg_sorts}
use Rattle.dl_model.specs.Steps.{IsReceivable, message_in, names_of_receive, receive_at}
use Rattle.dl_model.specs.Delivery.{is_receivable, is_match, matches}
use Rattle.dl_model.proofs.Small.{and-left, and-right, and-both}
use Rattle.dl_state.specs.Known.{Known}
use Rattle.dl_soup.specs.Live.{is_live, live_in}
use Rattle.dl_soup.specs.Replies.{has_any}
use Rattle.dl_soup.proofs.Filtered.{filter-of}

receivable-read : (inst : Instances) (state : State) (node label id : ℕ) → is_receivable inst state node label (message_in state label id) ≡ true → IsReceivable inst state node label id
receivable-read inst state node label id h =
    let m = message_in state label id in
    let addressed = and-left (m.live && int_eq m.to (pos node)) _ h in
    let rest = and-right (m.live && int_eq m.to (pos node)) _ h in
    let more = and-right (all_in_sorts (arg_sorts (tag_at inst label m.tag).args) m.args) _ rest in
    record {
      live = and-left m.live _ addressed;
      mine = (Decides-int_eq m.to (pos node)).0 (and-right m.live _ addressed);
      arguments = and-left (all_in_sorts (arg_sorts (tag_at inst label m.tag).args) m.args) _ rest;
      guard = and-left (holds (receive_at inst label m).guard (names_of_receive inst label m node) state) _ more;
      updates = and-right (holds (receive_at inst label m).guard (names_of_receive inst label m node) state) _ more;
    }

receivable-told : (inst : Instances) (state : State) (node label id : ℕ) → IsReceivable inst state node label id → is_receivable inst state node label (message_in state label id) ≡ true
receivable-told inst state node label id h =
    let m = message_in state label id in
    and-both (m.live && int_eq m.to (pos node)) _ (and-both m.live _ h.live ((Decides-int_eq m.to (pos node)).1 h.mine))
    (and-both (all_in_sorts (arg_sorts (tag_at inst label m.tag).args) m.args) _ h.arguments
    (and-both (holds (receive_at inst label m).guard (names_of_receive inst label m node) state) _ h.guard h.updates))

bool-same : (a b : Bool) → (a ≡ true → b ≡ true) → (b ≡ true → a ≡ true) → a ≡ b
bool-same true b f g = sym (f refl)
bool-same false true f g = g refl
bool-same false false f g = refl

-- a test that decides whether the node can receive is the model's test
pub receivable-is : (r : Bool) (inst : Instances) (state : State) (node label id : ℕ) → (IsTrue r ↔ IsReceivable inst state node label id) → r ≡ is_receivable inst state node label (message_in state label id)
receivable-is r inst state node label id h =
    bool-same r (is_receivable inst state node label (message_in state label id))
    (λ e. receivable-told inst state node label id (h.0 e))
    (λ e. h.1 (receivable-read inst state node label id e))

live-at : (o : Option Message) → (unwrap_or o (record { tag = 0; from = 0; to = pos 0; live = false; args = [] })).live ≡ true → is_live o ≡ true
live-at (Some m) h = h
live-at None h = cc

pub tag-same : (o : Option Message) → tag_of o ≡ (unwrap_or o (record { tag = 0; from = 0; to = pos 0; live = false; args = [] })).tag
tag-same (Some m) = refl
tag-same None = refl

match-lives : (inst : Instances) (state : State) (node label tag id : ℕ) → is_match inst state node label tag id ≡ true → is_live (slice_get (soup_at state label) id) ≡ true
match-lives inst state node label tag id h =
    let m = message_in state label id in
    let can = and-right (m.tag == tag) _ h in
    let addressed = and-left (m.live && int_eq m.to (pos node)) _ can in
    live-at (slice_get (soup_at state label) id) (and-left m.live _ addressed)

pub matches-live : (inst : Instances) (state : State) (node label tag : ℕ) → filter (is_match inst state node label tag) (live_in (soup_at state label)) ≡ matches inst state node label tag
matches-live inst state node label tag =
    filter-of (is_match inst state node label tag) (λ id. is_live (slice_get (soup_at state label) id)) (range_with_len 0 (length (soup_at state label)))
    (λ id. match-lives inst state node label tag id)

-- the matches, as a walk over the live messages finds them
pub live-matches : (inst : Instances) (ids : List ℕ) (known pool : Known) (node label tag : ℕ) → known ≡ pool → ids ≡ live_in (soup_at pool.state label)
    → filter (is_match inst known.state node label tag) ids ≡ matches inst pool.state node label tag
live-matches inst ids known pool node label tag e is =
    (λ i. filter (is_match inst (e i).state node label tag) (is i)) ∙ matches-live inst pool.state node label tag

pub some-first : (ids : List ℕ) → is_some (slice_get ids 0) ≡ has_any ids
some-first [] = refl
some-first (id ∷ ids) = refl
