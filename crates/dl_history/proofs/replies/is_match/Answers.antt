use Rattle.std.proofs.Common.{◌≡◌, Some, None, sym}
use Rattle.dl_term.specs.State.{Message, message_at}
use Rattle.dl_model.specs.Runs.{IsMatch}
use Rattle.dl_history.proofs.Telling.{told-not, told-never}
use Rattle.dl_history.proofs.ReplyLemmas.{match-tag, match-made, no-match-without}
use Rattle.dl_history.proofs.replies.is_match.Goals as goal

pub returns-then-not-is_tagged : goal.returns-then-not-is_tagged
returns-then-not-is_tagged c =
    let inst = c.args.inst.now in
    let s = c.args.state.now.state in
    let m : Message = c.in-Some.message.now in
    let found : message_at s c.args.label c.args.id ≡ Some m = sym c.in-Some.ensures in
    told-never (IsMatch inst s c.args.node c.args.label c.args.tag c.args.id)
    (λ match. told-not (m.tag ≡ c.args.tag) c.is_tagged.result c.is_tagged.ensures c.if-not-is_tagged.true (match-tag inst s c.args.node c.args.label c.args.tag c.args.id m found match))

pub returns-else-not-is_tagged : goal.returns-else-not-is_tagged
returns-else-not-is_tagged c =
    let inst = c.args.inst.now in
    let s = c.args.state.now.state in
    let m : Message = c.in-Some.message.now in
    let found : message_at s c.args.label c.args.id ≡ Some m = sym c.in-Some.ensures in
    record {
      0 = λ t. match-made inst s c.args.node c.args.label c.args.tag c.args.id m found (c.is_tagged.ensures.0 c.if-not-is_tagged.false) (c.receivable.ensures.0 t);
      1 = λ match. c.receivable.ensures.1 match.receivable;
    }

pub returns-in-None : goal.returns-in-None
returns-in-None c =
    let s = c.args.state.now.state in
    let none : message_at s c.args.label c.args.id ≡ None = sym c.in-None.ensures in
    told-never (IsMatch c.args.inst.now s c.args.node c.args.label c.args.tag c.args.id) (no-match-without c.args.inst.now s c.args.node c.args.label c.args.tag c.args.id none)
