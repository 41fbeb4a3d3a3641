use Rattle.std.proofs.Common.{◌≡◌}
use Rattle.dl_turn.proofs.lock.Turn.wait.Given as goal

abbrev pub invariant-looks : goal.invariant-looks
invariant-looks g l =
    (goal.iterator-looks g).can_next l.iterator' × (goal.iterator-looks g).is_finite l.iterator' × (l.token.table_id ≡ l.initial.token.table_id) × (l.token.id ≡ l.initial.token.id) × (l.token.me ≡ l.initial.token.me)
