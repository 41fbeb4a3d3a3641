use Rattle.std.proofs.Common.{refl}
use Rattle.dl_shown.proofs.programs.poll.Goals as goal

pub returns : goal.returns
returns c =
    rw (c.list.ensures, c.in_ok-add_received.ensures, c.in_ok-push-2.ensures.ok, c.in_ok-name.ensures, c.in_ok-push.ensures.ok, c.in_ok-note.ensures, c.in_ok-parts.ensures) refl
