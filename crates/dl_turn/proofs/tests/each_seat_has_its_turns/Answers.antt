use Rattle.std.proofs.Common.{refl, [], ◌∷◌}
use Rattle.std.proofs.lemmas.Cmp.{nat_eq_equiv}
use Rattle.std.proofs.lemmas.Map.Made.{IsDistinct-from_count}
use Rattle.dl_turn.proofs.tests.each_seat_has_its_turns.Goals as goal

pub check_turns-requires-clause-distinct : goal.check_turns-requires-clause-distinct
check_turns-requires-clause-distinct g c = λ _. IsDistinct-from_count nat_eq_equiv (5 ∷ []) refl

pub check_turns-requires-2-clause-distinct : goal.check_turns-requires-2-clause-distinct
check_turns-requires-2-clause-distinct g c = λ _. IsDistinct-from_count nat_eq_equiv (7 ∷ 9 ∷ []) refl

pub check_turns-requires-3-clause-distinct : goal.check_turns-requires-3-clause-distinct
check_turns-requires-3-clause-distinct g c = λ _. IsDistinct-from_count nat_eq_equiv (3 ∷ 1 ∷ 0 ∷ 4294967295 ∷ []) refl

pub check_turns-requires-4-clause-distinct : goal.check_turns-requires-4-clause-distinct
check_turns-requires-4-clause-distinct g c = λ _. IsDistinct-from_count nat_eq_equiv (0 ∷ 1 ∷ 2 ∷ 3 ∷ 4 ∷ 5 ∷ 6 ∷ 7 ∷ 8 ∷ 9 ∷ 10 ∷ 11 ∷ 12 ∷ 13 ∷ 14 ∷ 15 ∷ []) refl
