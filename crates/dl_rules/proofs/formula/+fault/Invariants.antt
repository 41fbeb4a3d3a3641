use Rattle.std.proofs.Common.{◌≡◌, drop}
use Rattle.dl_forms.specs.Judge.{OfNames}
use Rattle.dl_forms.specs.Parts.{parts_fault}
use Rattle.dl_rules.specs.Sights.{bindings, bindings_at, context_of, seen}
use Rattle.dl_rules.proofs.formula.+fault.Given as goal

abbrev pub invariant-parts_fault-loop-i : goal.invariant-parts_fault-loop-i
invariant-parts_fault-loop-i l =
    parts_fault (OfNames (seen (context_of l.sight) (bindings l.bound) l.initial.label)) l.form l.parts
    ≡ parts_fault (OfNames (seen (context_of l.sight) (bindings_at l.i (bindings l.bound) (bindings l.inner)) l.label)) (drop l.i l.form) (drop l.i l.parts)
