use Rattle.std.proofs.Common.{◌≡◌, ◌++◌, take}
use Rattle.dl_parts.proofs.sends.add_terms.Given as goal

abbrev pub invariant-loop-term : goal.invariant-loop-term
invariant-loop-term l = l.copies ≡ l.initial.copies ++ take l.term-index l.terms
