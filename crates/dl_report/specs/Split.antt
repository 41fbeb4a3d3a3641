-- The words of a line that are still to be read.
use Rattle.std.specs.Prelude.{Bool, true, false, ◌==◌, List, []}
use Rattle.std.specs.List.{slice_split}
use Rattle.dl_report.specs.Layout.{Text}

-- the words between blanks
abbrev pub words_of : Text → List Text
words_of bytes = slice_split (λ b. b == 32) bytes

abbrev pub words_left : Bool → Text → List Text
words_left true bytes = []
words_left false bytes = words_of bytes
