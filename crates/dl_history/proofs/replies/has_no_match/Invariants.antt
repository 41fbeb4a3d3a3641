use Rattle.std.proofs.Common.{ℕ, ◌<◌}
use Rattle.dl_model.specs.Runs.{IsMatch}
use Rattle.dl_history.proofs.replies.has_no_match.Given as goal

abbrev pub invariant-loop-id : goal.invariant-loop-id
invariant-loop-id l = (k : ℕ) → k < l.id → IsMatch l.inst l.state.state l.node l.label l.tag k → ⊥
