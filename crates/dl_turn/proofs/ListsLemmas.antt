-- Lemmas for callers on lists of entries.
use Rattle.std.proofs.Common.{◌≡◌, ◌≢◌, ℕ, ◌==◌, cond, List, [], ◌∷◌, ◌++◌, length, take, drop, refl, sym, ap, ◌∙◌, eq-eqb, ne_eqb, append-nil}
use Rattle.std.proofs.Math.Seq.{take-append_seam}
use Rattle.std.proofs.lemmas.List.{take-append-drop}
use Rattle.std.proofs.lemmas.List.Elements.{filter-append}
use Rattle.dl_turn.specs.Lists.{StartsWith, entries_of, GrownByOthers}

module _ {A : Type 0} where
  pub StartsWith-append : (xs ys : List A) → StartsWith (xs ++ ys) xs
  StartsWith-append xs ys = take-append_seam xs ys

  -- what stands behind the prefix
  pub StartsWith-rest : (xs prefix : List A) → StartsWith xs prefix → xs ≡ prefix ++ drop (length prefix) xs
  StartsWith-rest xs prefix starts = sym (take-append-drop (length prefix) xs) ∙ ap (λ front. front ++ drop (length prefix) xs) starts

module _ {I : Type 0} where
  -- a turn adds its entry to the seat's own
  pub entries_of-own : (number : ℕ) (log : List (ℕ × I)) (item : I) → entries_of number (log ++ (number, item) ∷ []) ≡ entries_of number log ++ (number, item) ∷ []
  entries_of-own number log item = filter-append (λ entry. entry.0 == number) log ((number, item) ∷ []) ∙ ap (λ b. entries_of number log ++ cond b ((number, item) ∷ []) []) (eq-eqb number number refl)

  -- and none to another seat's
  pub entries_of-other : (number : ℕ) (log : List (ℕ × I)) (entry : ℕ × I) → entry.0 ≢ number → entries_of number (log ++ entry ∷ []) ≡ entries_of number log
  entries_of-other number log entry apart =
      filter-append (λ (e : ℕ × I). e.0 == number) log (entry ∷ []) ∙ (ap (λ b. entries_of number log ++ cond b (entry ∷ []) []) (ne_eqb entry.0 number apart) ∙ append-nil (entries_of number log))

  pub StartsWith-grown : (number : ℕ) (seen log : List (ℕ × I)) → GrownByOthers number seen log → StartsWith log seen
  StartsWith-grown number seen log grown = ap (take (length seen)) grown.begins ∙ take-append_seam seen grown.added

  pub entries_of-grown : (number : ℕ) (seen log : List (ℕ × I)) → GrownByOthers number seen log → entries_of number log ≡ entries_of number seen
  entries_of-grown number seen log grown =
      ap (entries_of number) grown.begins ∙ (filter-append (λ entry. entry.0 == number) seen grown.added ∙ (ap (λ more. entries_of number seen ++ more) grown.others ∙ append-nil (entries_of number seen)))
