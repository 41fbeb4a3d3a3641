use Rattle.std.proofs.Common.{◌≡◌, ℕ, pos, true, List, [], ◌∷◌}
use Rattle.std.specs.List.{AllByRecursion as Each}
use Rattle.dl_model.specs.declared.protocol.FieldDecl.{FieldDecl}
use Rattle.dl_model.specs.Sorts.{in_sort}
use Rattle.dl_model.specs.Formed.{FieldIsFormed}
use Rattle.dl_sequent.proofs.laws.formed_is_grounded.Goals as goal

zeros : (nodes : ℕ) (fields : List FieldDecl) → Each (FieldIsFormed nodes) fields → Each (λ (field : FieldDecl). in_sort field.sort (pos 0) ≡ true) fields
zeros nodes [] h = tt
zeros nodes (f ∷ fs) h = (h.0.sort.holds_zero, zeros nodes fs h.1)

pub returns : goal.returns
returns c = λ inst formed. record { zeros = λ p protocol e. zeros inst.nodes protocol.fields (formed.protocols p protocol e).fields }
