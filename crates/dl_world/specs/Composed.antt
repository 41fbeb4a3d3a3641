-- The world that two worlds make together.
use Rattle.std.specs.Prelude.{ℕ, List, [], ◌∷◌, ◌++◌, if◌then◌else◌}
use Rattle.dl_model.specs.declared.file.World.{World}
use Rattle.dl_model.specs.Sorts.{has}

-- the numbers of the first list, and then the new ones of the second
abbrev pub with_new : List ℕ → List ℕ → List ℕ
with_new ns [] = ns
with_new ns (m ∷ ms) = with_new (if has ns m then ns else ns ++ m ∷ []) ms

-- each number of the two lists once, where it stands first
abbrev pub union : List ℕ → List ℕ → List ℕ
union ns ms = with_new (with_new [] ns) ms

-- the labels of the first world and then the new ones of the second, and the same for hooks
abbrev pub composed_of : World → World → ℕ → World
composed_of a b sym = record { sym = sym; labels = union a.labels b.labels; hooks = union a.hooks b.hooks }
