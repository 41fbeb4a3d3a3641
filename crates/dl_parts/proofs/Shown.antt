-- Sequents that are made part by part: what is known, and then hypotheses and a goal.
use Rattle.std.proofs.Common.{◌≡◌, List, [], ◌++◌, refl, sym, ◌∙◌, ap}
use Rattle.std.proofs.lemmas.List.{append-nil}
use Rattle.dl_term.specs.declared.syntax.Formula.{Formula}
use Rattle.dl_model.specs.declared.sequent.Hypothesis.{Hypothesis}
use Rattle.dl_model.specs.declared.sequent.Sequent.{Sequent}
use Rattle.dl_inv.specs.Obligations.{shows}

-- hypotheses, and then a goal
pub shown : (known one two three : Sequent) (facts : List Hypothesis) (goal : Formula) → one ≡ known → two ≡ record one { facts = facts } → three ≡ record two { goal = goal } → three ≡ shows known facts goal
shown known one two three facts goal e f g = g ∙ (ap (λ (s : Sequent). record s { goal = goal }) f ∙ ap (λ (s : Sequent). record s { facts = facts; goal = goal }) e)

-- the same with no other hypotheses than these
pub shown-alone : (known one two three : Sequent) (facts : List Hypothesis) (goal : Formula) → one ≡ known → two ≡ record one { facts = facts } → three ≡ record two { goal = goal } →
    three ≡ shows known (facts ++ []) goal
shown-alone known one two three facts goal e f g = shown known one two three facts goal e f g ∙ ap (λ hs. shows known hs goal) (sym (append-nil facts))

-- a goal, and then hypotheses
pub shown-after : (known one two three : Sequent) (facts : List Hypothesis) (goal : Formula) → one ≡ known → two ≡ record one { goal = goal } → three ≡ record two { facts = facts } →
    three ≡ shows known (facts ++ []) goal
shown-after known one two three facts goal e f g =
    g ∙ (ap (λ (s : Sequent). record s { facts = facts }) f ∙ (ap (λ (s : Sequent). record s { facts = facts; goal = goal }) e ∙ ap (λ hs. shows known hs goal) (sym (append-nil facts))))

-- hypotheses that depend on what is known, and then a goal
pub shown-with : (known one two three : Sequent) (facts : Sequent → List Hypothesis) (goal : Formula) → one ≡ known → two ≡ record one { facts = facts one } → three ≡ record two { goal = goal } →
    three ≡ shows known (facts known) goal
shown-with known one two three facts goal e f g = g ∙ (ap (λ (s : Sequent). record s { goal = goal }) f ∙ ap (λ (s : Sequent). record s { facts = facts s; goal = goal }) e)

-- a goal that depends on what is known, and then hypotheses
pub shown-after-with : (known one two three : Sequent) (facts : List Hypothesis) (goal : Sequent → Formula) → one ≡ known → two ≡ record one { goal = goal one } → three ≡ record two { facts = facts } →
    three ≡ shows known (facts ++ []) (goal known)
shown-after-with known one two three facts goal e f g =
    g ∙ (ap (λ (s : Sequent). record s { facts = facts }) f ∙ (ap (λ (s : Sequent). record s { facts = facts; goal = goal s }) e ∙ ap (λ hs. shows known hs (goal known)) (sym (append-nil facts))))
