-- Words that follow others on a line.
use Rattle.std.specs.Prelude.{List, [], ◌∷◌, ◌++◌}
use Rattle.dl_report.specs.Layout.{Text}

-- words, each with a blank before it
abbrev pub spaced : List Text → Text
spaced [] = []
spaced (word ∷ words) = 32 ∷ (word ++ spaced words)
