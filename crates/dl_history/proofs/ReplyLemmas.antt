-- Replies by the kind of their call.
use Rattle.std.proofs.Common.{◌≡◌, ◌↔◌, ℕ, ◌==◌, ◌&&◌, ℤ, pos, Bool, true, false, Some, None, List, [], refl, ap, sym, ◌∙◌, subst, eq-eqb}
use Rattle.std.specs.Ordering.{int_eq}
use Rattle.std.specs.Cmp.Lexicographic.{pointwise}
use Rattle.std.proofs.lemmas.Bool.{eqb-true}
use Rattle.std.specs.Prelude.{unwrap_or}
use Rattle.std.proofs.lemmas.Option.{slice_get_within, slice_get-get_or}
use Rattle.dl_term.specs.State.{State, Message, message_at, soup_at}
use Rattle.dl_model.specs.declared.history.Call.{Call}
use Rattle.dl_model.specs.declared.history.Call.TheVariants as call
use Rattle.dl_model.specs.declared.history.Reply.{Reply}
use Rattle.dl_model.specs.declared.history.Reply.TheVariants as reply
use Rattle.dl_model.specs.declared.protocol.Instances.{Instances}
use Rattle.dl_model.specs.declared.file.Decls.{Decls}
use Rattle.dl_model.specs.Steps.{IsReceivable, message_in}
use Rattle.dl_model.specs.Runs.{IsMatch, IsFreeCall, IsGot, Replies}
use Rattle.dl_model.proofs.Small.{and-left, and-right, and-both}
use Rattle.dl_history.specs.Taken.{IsReplyTo, IsFreeTo}
use Rattle.dl_history.proofs.SameLemmas.{numbers-equal, numbers-same}

replies-same : (inst : Instances) (s : State) (node : ℕ) (c : Call) (r : Reply) → IsReplyTo inst s node c r ≡ Replies inst s node c r
replies-same inst s node (call.Send label tag to args) (reply.Sent id) = refl
replies-same inst s node (call.Send label tag to args) (reply.Got id from values) = refl
replies-same inst s node (call.Send label tag to args) reply.Miss = refl
replies-same inst s node (call.Send label tag to args) (reply.Value v) = refl
replies-same inst s node (call.Poll label tag) (reply.Sent id) = refl
replies-same inst s node (call.Poll label tag) (reply.Got id from values) = refl
replies-same inst s node (call.Poll label tag) reply.Miss = refl
replies-same inst s node (call.Poll label tag) (reply.Value v) = refl
replies-same inst s node (call.Await label tag) (reply.Sent id) = refl
replies-same inst s node (call.Await label tag) (reply.Got id from values) = refl
replies-same inst s node (call.Await label tag) reply.Miss = refl
replies-same inst s node (call.Await label tag) (reply.Value v) = refl
replies-same inst s node (call.Read label field index) (reply.Sent id) = refl
replies-same inst s node (call.Read label field index) (reply.Got id from values) = refl
replies-same inst s node (call.Read label field index) reply.Miss = refl
replies-same inst s node (call.Read label field index) (reply.Value v) = refl

pub told-reply : (inst : Instances) (s : State) (node : ℕ) (c : Call) (r : Reply) (b : Bool) → ((b ≡ true) ↔ IsReplyTo inst s node c r) → (b ≡ true) ↔ Replies inst s node c r
told-reply inst s node c r b h = subst (λ T. (b ≡ true) ↔ T) (replies-same inst s node c r) h

-- the call of a free node, by its kind
pub told-free : (d : Decls) (s : State) (node : ℕ) (c : Call) (r : Reply) (b : Bool) → ((b ≡ true) ↔ IsFreeTo d s node c r) → (b ≡ true) ↔ IsFreeCall d s node c r
told-free d s node (call.Send label tag to args) (reply.Sent id) b h = h
told-free d s node (call.Send label tag to args) (reply.Got id from values) b h = record { 0 = λ t. (h.0 t).0; 1 = λ f. absurd f }
told-free d s node (call.Send label tag to args) reply.Miss b h = record { 0 = λ t. (h.0 t).0; 1 = λ f. absurd f }
told-free d s node (call.Send label tag to args) (reply.Value v) b h = record { 0 = λ t. (h.0 t).0; 1 = λ f. absurd f }
told-free d s node (call.Poll label tag) (reply.Sent id) b h = h
told-free d s node (call.Poll label tag) (reply.Got id from values) b h = h
told-free d s node (call.Poll label tag) reply.Miss b h = h
told-free d s node (call.Poll label tag) (reply.Value v) b h = h
told-free d s node (call.Await label tag) r b h = h
told-free d s node (call.Read label field index) r b h = h

-- ---- messages

-- the message with this id
message-is : (s : State) (label id : ℕ) (m : Message) → message_at s label id ≡ Some m → message_in s label id ≡ m
message-is s label id m e = ap (λ o. unwrap_or {T = Message} o (record { tag = 0; from = 0; to = pos 0; live = false; args = [] })) e

pub match-tag : (inst : Instances) (s : State) (node label tag id : ℕ) (m : Message) → message_at s label id ≡ Some m → IsMatch inst s node label tag id → m.tag ≡ tag
match-tag inst s node label tag id m e k = sym (ap (λ (n : Message). n.tag) (message-is s label id m e)) ∙ k.tagged

pub match-made : (inst : Instances) (s : State) (node label tag id : ℕ) (m : Message) → message_at s label id ≡ Some m → m.tag ≡ tag → IsReceivable inst s node label id → IsMatch inst s node label tag id
match-made inst s node label tag id m e tagged receivable = record {
  known = slice_get_within (soup_at s label) id m e;
  tagged = ap (λ (n : Message). n.tag) (message-is s label id m e) ∙ tagged;
  receivable = receivable;
}

pub no-match-without : (inst : Instances) (s : State) (node label tag id : ℕ) → message_at s label id ≡ None → IsMatch inst s node label tag id → ⊥
no-match-without inst s node label tag id e k =
    let some = slice_get-get_or (soup_at s label) id (message_in s label id) k.known in
    cc (sym e ∙ some)

pub parts-told : (from asked : ℕ) (values args : List ℤ) (b : Bool) → b ≡ ((from == asked) && pointwise int_eq values args) → (b ≡ true) ↔ ((from ≡ asked) × (values ≡ args))
parts-told from asked values args b e = record {
  0 = λ t.
      let both = sym e ∙ t in
      (eqb-true from asked (and-left (from == asked) _ both), numbers-equal values args (and-right (from == asked) _ both));
  1 = λ h. e ∙ and-both (from == asked) _ (eq-eqb from asked h.0) (numbers-same values args h.1);
}

pub got-parts : (inst : Instances) (s : State) (node label tag id from : ℕ) (args : List ℤ) (m : Message) → message_at s label id ≡ Some m → IsGot inst s node label tag id from args → (m.from ≡ from) × (m.args ≡ args)
got-parts inst s node label tag id from args m e k = (
  sym (ap (λ (n : Message). n.from) (message-is s label id m e)) ∙ k.sender,
  sym (ap (λ (n : Message). n.args) (message-is s label id m e)) ∙ k.values,
)

pub got-made : (inst : Instances) (s : State) (node label tag id from : ℕ) (args : List ℤ) (m : Message) → message_at s label id ≡ Some m → (m.from ≡ from) × (m.args ≡ args) → IsMatch inst s node label tag id →
    IsGot inst s node label tag id from args
got-made inst s node label tag id from args m e parts match = record {
  match = match;
  sender = ap (λ (n : Message). n.from) (message-is s label id m e) ∙ parts.0;
  values = ap (λ (n : Message). n.args) (message-is s label id m e) ∙ parts.1;
}
