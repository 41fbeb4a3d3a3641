use Rattle.std.proofs.Common.{◌≡◌, drop}
use Rattle.dl_forms.specs.Table.{numbered, Extends}
use Rattle.dl_notation.specs.Naming.{names_of_parts}
use Rattle.dl_notation.proofs.number.+number.Given as goal

abbrev pub invariant-number_parts-loop-i : goal.invariant-number_parts-loop-i
invariant-number_parts-loop-i l =
    (numbered l.names (names_of_parts (drop l.i l.fixed) l.rest (drop l.i l.parts)) ≡ numbered l.initial.names (names_of_parts l.fixed l.rest l.parts))
    × Extends l.initial.names l.names
