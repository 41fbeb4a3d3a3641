-- Whether a formula names no label of a world.
use Rattle.std.specs.Prelude.{ℕ, List, [], ◌∷◌, Result, Ok, Err, if◌then◌else◌}
use Rattle.std.specs.Result.{result_and}
use Rattle.dl_term.specs.declared.syntax.Lab.{Lab}
use Rattle.dl_term.specs.declared.syntax.Lab.TheVariants.{Own, At}
use Rattle.dl_term.specs.declared.syntax.Formula.{Formula}
use Rattle.dl_model.specs.declared.file.World.{World}
use Rattle.dl_model.specs.Sorts.{has}
use Rattle.dl_model.specs.Spoken.{labels_of}

-- the label isn't in the list; `self` is in none
abbrev pub label_apart : List ℕ → Lab → Result (Unit {0}) ℕ
label_apart labels Own = Ok tt
label_apart labels (At label) = if has labels label then Err label else Ok tt

-- none of the labels is in the list, or this is the first one that is
abbrev pub labels_apart : List ℕ → List Lab → Result (Unit {0}) ℕ
labels_apart labels [] = Ok tt
labels_apart labels (lab ∷ labs) = result_and (label_apart labels lab) (labels_apart labels labs)

-- no label in the formula is one of the world's, or this is the first one in preorder that is
abbrev pub formula_apart : World → Formula → Result (Unit {0}) ℕ
formula_apart world f = labels_apart world.labels (labels_of f)
