use Rattle.std.proofs.Common.{◌≡◌, ◌↔◌, ◌==◌, ◌&&◌, true, Some, None, List, ℤ, sym, subst}
use Rattle.std.specs.Ordering.{int_eq}
use Rattle.std.specs.Cmp.Lexicographic.{pointwise}
use Rattle.dl_term.specs.State.{Message, message_at}
use Rattle.dl_model.specs.Runs.{IsGot}
use Rattle.dl_model.specs.Machine.{listed}
use Rattle.dl_history.proofs.Telling.{told-not, told-never}
use Rattle.dl_history.proofs.ReplyLemmas.{parts-told, got-parts, got-made, no-match-without}
use Rattle.dl_history.proofs.replies.is_got.Goals as goal

pub returns-then-not-is_from : goal.returns-then-not-is_from
returns-then-not-is_from c =
    let inst = c.args.inst.now in
    let s = c.args.state.now.state in
    let args = listed c.args.args.now in
    let m : Message = c.in-Some.message.now in
    let found : message_at s c.args.label c.args.id ≡ Some m = sym c.in-Some.ensures in
    let told : (c.is_from.result ≡ true) ↔ ((m.from ≡ c.args.from) × (m.args ≡ args)) =
    parts-told m.from c.args.from m.args args c.is_from.result (subst (λ (vs : List ℤ). c.is_from.result ≡ ((m.from == c.args.from) && pointwise int_eq m.args vs)) c.listed.ensures c.is_from.ensures) in
    told-never (IsGot inst s c.args.node c.args.label c.args.tag c.args.id c.args.from args)
    (λ got. told-not ((m.from ≡ c.args.from) × (m.args ≡ args)) c.is_from.result told c.if-not-is_from.true (got-parts inst s c.args.node c.args.label c.args.tag c.args.id c.args.from args m found got))

pub returns-else-not-is_from : goal.returns-else-not-is_from
returns-else-not-is_from c =
    let inst = c.args.inst.now in
    let s = c.args.state.now.state in
    let args = listed c.args.args.now in
    let m : Message = c.in-Some.message.now in
    let found : message_at s c.args.label c.args.id ≡ Some m = sym c.in-Some.ensures in
    let told : (c.is_from.result ≡ true) ↔ ((m.from ≡ c.args.from) × (m.args ≡ args)) =
    parts-told m.from c.args.from m.args args c.is_from.result (subst (λ (vs : List ℤ). c.is_from.result ≡ ((m.from == c.args.from) && pointwise int_eq m.args vs)) c.listed.ensures c.is_from.ensures) in
    record {
      0 = λ t. got-made inst s c.args.node c.args.label c.args.tag c.args.id c.args.from args m found (told.0 c.if-not-is_from.false) (c.is_match.ensures.0 t);
      1 = λ got. c.is_match.ensures.1 got.match;
    }

pub returns-in-None : goal.returns-in-None
returns-in-None c =
    let s = c.args.state.now.state in
    let none : message_at s c.args.label c.args.id ≡ None = sym c.in-None.ensures in
    told-never (IsGot c.args.inst.now s c.args.node c.args.label c.args.tag c.args.id c.args.from (listed c.args.args.now))
    (λ got. no-match-without c.args.inst.now s c.args.node c.args.label c.args.tag c.args.id none got.match)
