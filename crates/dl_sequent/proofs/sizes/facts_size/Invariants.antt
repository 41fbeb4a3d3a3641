use Rattle.std.proofs.Common.{◌≡◌, ◌^◌, ◌-◌, min, take}
use Rattle.std.specs.List.{sum_by}
use Rattle.dl_term.specs.Measures.{formula_parts}
use Rattle.dl_model.specs.declared.sequent.Hypothesis.{Hypothesis}
use Rattle.dl_sequent.proofs.sizes.facts_size.Given as goal

abbrev pub invariant-loop-fact : goal.invariant-loop-fact
invariant-loop-fact l = l.total ≡ min (sum_by (λ (fact : Hypothesis). formula_parts fact.formula) (take l.fact-index l.facts)) (2 ^ 64 - 1)
