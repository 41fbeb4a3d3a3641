use Rattle.std.proofs.Common.{◌≡◌, ◌++◌, ◌-◌, ℕ, length}
use Rattle.std.specs.Prelude.{slice_get, unwrap_or}
use Rattle.std.specs.List.{flat_map, range_with_len}
use Rattle.dl_model.specs.Lookup.{no_tag}
use Rattle.dl_inv.specs.Duties.{steps_of_tag, steps_of_tags}
use Rattle.dl_inv.specs.Moves.{step_duty, subject_label}
use Rattle.dl_inv.proofs.listed.add_steps.Given as goal

abbrev pub invariant-loop-position : goal.invariant-loop-position
invariant-loop-position l =
    l.list ++ flat_map (λ (tag : ℕ). steps_of_tag (step_duty l.subject tag) (subject_label l.subject) tag l.formula (unwrap_or (slice_get l.protocol.tags tag) no_tag)) (range_with_len l.position (length l.protocol.tags - l.position))
    ≡ l.initial.list ++ steps_of_tags (step_duty l.subject) (subject_label l.subject) l.formula l.protocol
