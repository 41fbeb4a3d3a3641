-- Small sequents, written out.
use Rattle.std.specs.Prelude.{ℕ, suc, pos, None, List, [], ◌∷◌}
use Rattle.dl_term.specs.declared.syntax.Lab.TheVariants.{At}
use Rattle.dl_term.specs.declared.syntax.Part.TheVariants as part
use Rattle.dl_term.specs.declared.syntax.Term.{Num, Var, Field, Msg, Add, If}
use Rattle.dl_term.specs.declared.syntax.Formula.{Formula, Eq, Le, And, Implies, All, Each}
use Rattle.dl_model.specs.declared.protocol.Instances.{Instances}
use Rattle.dl_model.specs.declared.sequent.Hypothesis.{Hypothesis}
use Rattle.dl_model.specs.declared.sequent.Sequent.{Sequent}
use Rattle.dl_model.specs.Examples.{bool, mail, seen}

-- two nodes, and a label 0 whose protocol has a field from 0 to 1 and a tag with one argument
abbrev pub inst : Instances
inst = (mail (pos 0)).inst

-- numbered hypotheses, about the variable 40, which is a node, and the message 41 of the tag
abbrev pub numbered : ℕ → List Formula → List Hypothesis
numbered n [] = []
numbered n (f ∷ fs) = record { name = n; formula = f } ∷ numbered (suc n) fs

abbrev pub claim : List Formula → Formula → Sequent
claim facts goal = record { vars = (40, bool) ∷ []; messages = (41, 0, 0) ∷ []; facts = numbered 50 facts; goal = goal; own = None }

-- the field of each node is at least 0, and the same after the node 40 has added 1 to its own
abbrev pub counted : Formula
counted = All 42 (Le (Num (pos 0)) (Field (At 0) 0 (Var 42)))

abbrev pub counted_then : Formula
counted_then = All 42 (Le (Num (pos 0)) (If (Var 42) (Var 40) (Add (Field (At 0) 0 (Var 40)) (Num (pos 1))) (Field (At 0) 0 (Var 42))))

-- `seen` of the file `mail` before the node 40 sends to itself, and before it receives the message 41
abbrev pub seen_before_send : Formula
seen_before_send = And seen (Implies (Eq (Num (pos 1)) (Num (pos 0))) (Eq (Field (At 0) 0 (Var 40)) (Num (pos 1))))

abbrev pub seen_before_receive : Formula
seen_before_receive =
    Each 27 (At 0) 0 (Implies
    (Eq (If (Msg 27 part.Id) (Msg 41 part.Id) (Num (pos 0)) (Msg 27 part.Live)) (Num (pos 0)))
    (Eq (If (Msg 27 part.To) (Var 40) (Num (pos 1)) (Field (At 0) 0 (Msg 27 part.To))) (Num (pos 1))))

abbrev pub mine : Formula
mine = And (Eq (Msg 41 part.To) (Var 40)) (Eq (Msg 41 part.Live) (Num (pos 1)))

-- what nothing tells
abbrev pub open_claim : Formula
open_claim = Eq (Var 40) (Num (pos 1))
