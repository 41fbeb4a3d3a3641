-- A message in a record of fixed size: of its eight numbers the first `count` are the arguments, and the others are 0.
use Rattle.std.proofs.Common.{◌≡◌, ◌-◌, ◌≤◌, pos, ◌++◌, length, take, drop, ap, sym, subst, ◌∙◌}
use Rattle.std.specs.Prelude.{replicate}
use Rattle.std.proofs.lemmas.List.{take-append-drop, length-take-le}
use Rattle.dl_term.specs.State.{Message}
use Rattle.dl_state.specs.declared.message.Message.TheInside.{Inside}

abbrev pub message_of : Inside → Message
message_of m = record { tag = m.tag; from = m.from; to = m.to; live = m.live; args = take m.count m.args }

pub record IsPacked (m : Inside) : Type 0 where
  pub places : length m.args ≡ 8
  pub few : m.count ≤ 8
  pub others : drop m.count m.args ≡ replicate (8 - m.count) (pos 0)

abbrev pub packed_of : Message → Inside
packed_of m = record {
  tag = m.tag;
  from = m.from;
  to = m.to;
  live = m.live;
  count = length m.args;
  args = m.args ++ replicate (8 - length m.args) (pos 0);
}

-- the record can be told from the message
pub packed-again : (m : Inside) → IsPacked m → packed_of (message_of m) ≡ m
packed-again m h =
    let within : m.count ≤ length m.args = subst (λ n. m.count ≤ n) (sym h.places) h.few in
    let count : length (take m.count m.args) ≡ m.count = length-take-le m.count m.args within in
    let args : take m.count m.args ++ replicate (8 - length (take m.count m.args)) (pos 0) ≡ m.args =
    ap (λ n. take m.count m.args ++ replicate (8 - n) (pos 0)) count
    ∙ ap (λ xs. take m.count m.args ++ xs) (sym h.others)
    ∙ take-append-drop m.count m.args in
    λ i. record { tag = m.tag; from = m.from; to = m.to; live = m.live; count = count i; args = args i }
