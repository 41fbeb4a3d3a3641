use Rattle.std.proofs.Common.{refl}
use Rattle.dl_shown.proofs.programs.send.Goals as goal

pub returns : goal.returns
returns c =
    rw (c.list.ensures, c.in_ok-add_expressions.ensures, c.in_ok-push-4.ensures.ok, c.in_ok-expression.ensures, c.in_ok-push-3.ensures.ok, c.in_ok-sent_tag.ensures, c.in_ok-push-2.ensures.ok, c.in_ok-label.ensures, c.in_ok-push.ensures.ok, c.in_ok-note.ensures, c.in_ok-parts.ensures) refl
