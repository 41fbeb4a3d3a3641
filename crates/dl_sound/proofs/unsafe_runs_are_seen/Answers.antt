use Rattle.dl_sound.proofs.Counted.{false_invariant-unmet}
use Rattle.dl_sound.proofs.Games.{false_post-unsafe, false_guard-unsafe, false_invariant-unsafe}
use Rattle.dl_sound.proofs.unsafe_runs_are_seen.Goals as goal

pub returns-clause-post : goal.returns-clause-post
returns-clause-post c = false_post-unsafe

pub returns-clause-guard : goal.returns-clause-guard
returns-clause-guard c = false_guard-unsafe

pub returns-clause-invariant : goal.returns-clause-invariant
returns-clause-invariant c = false_invariant-unsafe

pub returns-clause-unmet : goal.returns-clause-unmet
returns-clause-unmet c = false_invariant-unmet
