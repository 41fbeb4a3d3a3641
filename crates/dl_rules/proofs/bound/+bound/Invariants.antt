use Rattle.std.proofs.Common.{◌≡◌, drop}
use Rattle.dl_notation.specs.Behind.{with_texts}
use Rattle.dl_rules.specs.Bounds.{bound_in_parts}
use Rattle.dl_rules.proofs.bound.+bound.Given as goal

abbrev pub invariant-add_bound_parts-loop-i : goal.invariant-add_bound_parts-loop-i
invariant-add_bound_parts-loop-i l =
    with_texts l.texts.keys (bound_in_parts (drop l.i l.form) (drop l.i l.parts)) ≡ with_texts l.initial.texts.keys (bound_in_parts l.form l.parts)
