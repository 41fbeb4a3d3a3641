use Rattle.std.proofs.Common.{ap, ◌∙◌}
use Rattle.dl_means.specs.Flags.{flags_of_all}
use Rattle.dl_means.proofs.told.tells.Goals as goal

pub is_written-answer-requires : goal.is_written-answer-requires
is_written-answer-requires c = c.as_slice-2.ensures ∙ (c.in_ok-points.ensures ∙ ap flags_of_all c.as_slice.ensures)
