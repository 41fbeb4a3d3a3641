use Rattle.std.proofs.Common.{◌≡◌, ◌∷◌, take}
use Rattle.dl_model.specs.Words.{me_word}
use Rattle.dl_inv.proofs.step.step_names.Given as goal

abbrev pub invariant-loop-arg : goal.invariant-loop-arg
invariant-loop-arg l = l.names ≡ me_word ∷ l.word ∷ take l.arg-index l.args
