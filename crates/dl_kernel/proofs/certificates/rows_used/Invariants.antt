use Rattle.std.proofs.Common.{◌≡◌, take, map}
use Rattle.dl_model.specs.declared.sequent.Hypothesis.{Hypothesis}
use Rattle.dl_linear.specs.Forms.{sides_of}
use Rattle.dl_linear.specs.Seen.{all_seen}
use Rattle.dl_kernel.specs.Lines.{if_used}
use Rattle.dl_kernel.proofs.certificates.rows_used.Given as goal

abbrev pub invariant-loop-fact : goal.invariant-loop-fact
invariant-loop-fact l = all_seen l.rows.items ≡ map (λ (h : Hypothesis). if_used l.certificate h.name (sides_of h.formula)) (take l.fact-index l.facts)
