use Rattle.std.proofs.Common.{◌≡◌, ◌++◌, ◌-◌, ℕ, length}
use Rattle.std.specs.Prelude.{slice_get, unwrap_or}
use Rattle.std.specs.List.{flat_map, range_with_len}
use Rattle.dl_term.specs.declared.syntax.Lab.TheVariants.{At}
use Rattle.dl_model.specs.Lookup.{no_tag}
use Rattle.dl_triples.specs.Duties.{steps_of_another, steps_of_others}
use Rattle.dl_duties.specs.Moves.{kept_duty}
use Rattle.dl_duties.proofs.listed.add_of_tags.Given as goal

abbrev pub invariant-loop-position : goal.invariant-loop-position
invariant-loop-position l =
    l.list ++ flat_map (λ (tag : ℕ). steps_of_another (kept_duty l.kept l.label tag) (At l.label) tag l.formula (unwrap_or (slice_get l.protocol.tags tag) no_tag)) (range_with_len l.position (length l.protocol.tags - l.position))
    ≡ l.initial.list ++ steps_of_others (kept_duty l.kept l.label) (At l.label) l.formula l.protocol
