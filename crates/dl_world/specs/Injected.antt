-- Why a world can't be injected into another.
use Rattle.std.specs.Prelude.{ℕ, ◌<◌, Bool, not, if◌then◌else◌, Option, Some, None, Result, Ok, Err, length}
use Rattle.std.specs.List.{find, AllByRecursion as Each, range_with_len}
use Rattle.dl_model.specs.declared.file.World.{World}
use Rattle.dl_model.specs.declared.file.Decls.{Decls}
use Rattle.dl_model.specs.Sorts.{has}
use Rattle.dl_model.specs.Lookup.{hook_at}
use Rattle.dl_world.specs.declared.inject.InjectFault.{InjectFault}
use Rattle.dl_world.specs.declared.inject.InjectFault.TheVariants.{NoLabel, NotCovered}

abbrev pub HooksAreDeclared : Decls → World → Type 0
HooksAreDeclared decls world = Each (λ hook. hook < length decls.hooks) world.hooks

-- one of the two worlds has the hook and the other one hasn't
abbrev pub is_in_one : World → World → ℕ → Bool
is_in_one small large hook = if has small.hooks hook then not (has large.hooks hook) else has large.hooks hook

-- A hook at a client of the small world is in both worlds or in none of them, and any other hook isn't the small world's. This one breaks that.
abbrev pub is_uncovered : Decls → World → World → ℕ → Bool
is_uncovered decls small large hook =
    if has small.labels (hook_at decls hook).client then is_in_one small large hook else has small.hooks hook

-- the first label of the small world that the large one lacks
abbrev pub first_lacking : World → World → Option ℕ
first_lacking small large = find (λ label. not (has large.labels label)) small.labels

-- the first declared hook that isn't covered
abbrev pub first_uncovered : Decls → World → World → Option ℕ
first_uncovered decls small large = find (is_uncovered decls small large) (range_with_len 0 (length decls.hooks))

abbrev pub judged : Option ℕ → Option ℕ → Result (Unit {0}) InjectFault
judged (Some label) _ = Err (NoLabel label)
judged None (Some hook) = Err (NotCovered hook)
judged None None = Ok tt

-- whether the small world can be injected into the large one; a label that lacks comes before a hook
abbrev pub injection : Decls → World → World → Result (Unit {0}) InjectFault
injection decls small large = judged (first_lacking small large) (first_uncovered decls small large)
