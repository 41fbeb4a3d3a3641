-- The size of a sequent.
use Rattle.std.specs.Prelude.{ℕ, ◌+◌, nat_lt, Bool, ◌||◌}
use Rattle.std.specs.List.{sum_by, list_any}
use Rattle.dl_term.specs.Measures.{formula_parts, formula_nesting}
use Rattle.dl_model.specs.declared.sequent.Hypothesis.{Hypothesis}
use Rattle.dl_model.specs.declared.sequent.Sequent.{Sequent}

-- the parts of its hypotheses and its goal
abbrev pub sequent_parts : Sequent → ℕ
sequent_parts s = sum_by (λ (h : Hypothesis). formula_parts h.formula) s.facts + formula_parts s.goal

-- a formula nests more than 4,000 deep
abbrev pub nests_too_deep : Sequent → Bool
nests_too_deep s = list_any (λ (h : Hypothesis). nat_lt 4000 (formula_nesting h.formula)) s.facts || nat_lt 4000 (formula_nesting s.goal)

-- more than 1,000,000 parts; a sequent with a formula that nests more than 4,000 deep counts as one that has more
abbrev pub is_too_large : Sequent → Bool
is_too_large s = nat_lt 1000000 (sequent_parts s) || nests_too_deep s
