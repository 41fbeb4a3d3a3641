-- Sorts of numbers.
use Rattle.std.specs.Prelude.{◌≡◌, ℕ, ℤ, pos, negsuc, int_le, nat_lt, Bool, true, false, ◌&&◌, ◌==◌, List, [], ◌∷◌}
use Rattle.std.specs.List.{list_any, list_all}
use Rattle.dl_term.specs.declared.syntax.Sort.{Sort}

-- the number is in the sort
abbrev pub in_sort : Sort → ℤ → Bool
in_sort sort v = int_le sort.low v && int_le v sort.high

-- one number for each sort, each in its sort
abbrev pub all_in_sorts : List Sort → List ℤ → Bool
all_in_sorts [] [] = true
all_in_sorts (sort ∷ sorts) (v ∷ vs) = in_sort sort v && all_in_sorts sorts vs
all_in_sorts [] (v ∷ vs) = false
all_in_sorts (sort ∷ sorts) [] = false

-- the number is in the range of i64
abbrev pub is_i64 : ℤ → Bool
is_i64 v = int_le (negsuc 0x7fff_ffff_ffff_ffff) v && int_le v (pos 0x7fff_ffff_ffff_ffff)

abbrev pub all_i64 : List ℤ → Bool
all_i64 vs = list_all is_i64 vs

-- the number is a node
abbrev pub is_node : ℕ → ℤ → Bool
is_node nodes (pos n) = nat_lt n nodes
is_node nodes (negsuc n) = false

-- the list has the number
abbrev pub has : List ℕ → ℕ → Bool
has ms n = list_any (λ m. n == m) ms

-- A sort is an interval of i64 that holds 0.
pub record IsSort (sort : Sort) : Type 0 where
  pub low : is_i64 sort.low ≡ true
  pub high : is_i64 sort.high ≡ true
  pub holds_zero : in_sort sort (pos 0) ≡ true
