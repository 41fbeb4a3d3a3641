-- Lists of entries, each with the number of the seat whose turn made it.
use Rattle.std.specs.Prelude.{◌≡◌, ℕ, ◌==◌, List, [], ◌∷◌, ◌++◌, length, take, filter}

-- the list begins with this prefix
abbrev pub StartsWith : {A : Type 0} → List A → List A → Type 0
StartsWith xs prefix = take (length prefix) xs ≡ prefix

-- the entries of one number, in their order
abbrev pub entries_of : {I : Type 0} → ℕ → List (ℕ × I) → List (ℕ × I)
entries_of number entries = filter (λ entry. entry.0 == number) entries

-- the list grew from `seen` to `log`, and none of the entries that came is of this number
pub record GrownByOthers {I : Type 0} (number : ℕ) (seen log : List (ℕ × I)) : Type 0 where
  pub added : List (ℕ × I)
  pub begins : log ≡ seen ++ added
  pub others : entries_of number added ≡ []

-- one entry of this number is added at the end, and the ground stays
abbrev pub AddsOne : {T I G : Type 0} → (T → List (ℕ × I)) → (T → G) → ℕ → T → T → Type 0
AddsOne {T} {I} {G} entries base_of number old new = (item : I) × (entries new ≡ entries old ++ (number, item) ∷ []) × (base_of new ≡ base_of old)
