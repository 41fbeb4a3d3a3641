-- The numbers of the rules.
use Rattle.std.specs.Prelude.{ℕ, Bool, List, [], ◌∷◌}
use Rattle.dl_model.specs.Sorts.{has}

-- The rules of bytes and tokens, which a text breaks that spells no tree.
abbrev pub text_rules : List ℕ
text_rules = 1 ∷ 2 ∷ 3 ∷ 4 ∷ 5 ∷ 6 ∷ []

-- The rules that a tree breaks: of forms (10), of names and sorts (11 to 16), of worlds (20 to 24), of obligations and their proofs
-- (30 to 32), and of sizes (33).
abbrev pub tree_rules : List ℕ
tree_rules = 10 ∷ 11 ∷ 12 ∷ 13 ∷ 14 ∷ 15 ∷ 16 ∷ 20 ∷ 21 ∷ 22 ∷ 23 ∷ 24 ∷ 30 ∷ 31 ∷ 32 ∷ 33 ∷ []

abbrev pub is_text_rule : ℕ → Bool
is_text_rule rule = has text_rules rule

abbrev pub is_tree_rule : ℕ → Bool
is_tree_rule rule = has tree_rules rule
