use Rattle.std.proofs.Common.{◌≡◌, ℤ, pos, List, [], ◌∷◌, ◌++◌, length, drop, refl, arith, rules}
use Rattle.std.specs.Prelude.{replicate}
use Rattle.std.proofs.lemmas.List.{drop-replicate}
use Rattle.dl_model.specs.declared.history.Args.{Args}
use Rattle.dl_model.specs.Machine.{packed}
use Rattle.dl_soup.proofs.answer.packed.Goals as goal

same : (made xs : List ℤ) → made ≡ xs → ◌≡◌ {A = Args} (record { count = length xs; values = made ++ drop (length xs) (replicate 8 (pos 0)) }) (packed xs)
same made xs e = λ i. record { count = length xs; values = e i ++ drop-replicate (length xs) 8 (pos 0) i }

pub returns : goal.returns
returns c = same c.copy_from_slice.new.self c.args.numbers.now c.copy_from_slice.ensures.after

none : (xs : List ℤ) → length xs ≡ 0 → ◌≡◌ {A = Args} (record { count = 0; values = replicate 8 (pos 0) }) (packed xs)
none [] e = refl
none (x ∷ xs) e = absurd (omega arith)

pub returns-then-is_empty : goal.returns-then-is_empty
returns-then-is_empty c = none c.args.numbers.now (search rules)
