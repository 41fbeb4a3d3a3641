use Rattle.std.proofs.Common.{◌≡◌, ℕ, List, [], ◌∷◌, ◌++◌, Result, Ok, Err, OnOk, ◌∙◌, ap}
use Rattle.dl_term.specs.declared.syntax.Formula.{Formula}
use Rattle.dl_model.specs.declared.sequent.Hypothesis.{Hypothesis}
use Rattle.dl_model.specs.declared.sequent.Sequent.{Sequent}
use Rattle.dl_kernel.specs.Steps.{with_fact}
use Rattle.dl_kernel.proofs.sequents.push_fact.Goals as goal

pushed : {A E : Type 0} (r : Result A E) (s : Sequent) (hs : List Hypothesis) (name : ℕ) (f g : Formula) → f ≡ g → OnOk r (hs ≡ s.facts ++ record { name = name; formula = f } ∷ []) → OnOk r (record s { facts = hs } ≡ with_fact s name g)
pushed (Ok u) s hs name f g is new = ap (λ (hs : List Hypothesis). record s { facts = hs }) new ∙ ap (with_fact s name) is
pushed (Err e) s hs name f g is new = tt

pub returns : goal.returns
returns c = pushed c.push.result c.args.sequent.now c.push.new.self c.args.name c.replace-formula.result c.args.formula.now c.replace-formula.ensures.value c.push.ensures.ok
