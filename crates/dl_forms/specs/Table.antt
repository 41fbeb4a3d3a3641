-- The names of a file and their numbers.
use Rattle.std.specs.Prelude.{◌≡◌, ℕ, length, Bool, true, false, List, [], ◌∷◌, ◌++◌, Option, Some, None, if◌then◌else◌, slice_get, slice_set, codes, replicate}
use Rattle.dl_forms.specs.declared.scope.SortDecl.{SortDecl}
use Rattle.dl_forms.specs.declared.scope.Marks.{Marks}
use Rattle.dl_forms.specs.Context.{Text, is_among}

-- The texts of the names, each at its number, the declared sorts, and what was noted of each name, at its number.
pub record NameTable : Type 0 where
  pub texts : List Text
  pub sorts : List SortDecl
  pub marks : List Marks

-- the words that no file declares, in the order of their numbers
unfoldable pub reserved : List Text
reserved =
    codes "int" ∷ codes "bool" ∷ codes "node" ∷ codes "self" ∷ codes "me" ∷ codes "to" ∷ codes "from" ∷ codes "result" ∷ codes "goal" ∷
    codes "pre" ∷ codes "guard" ∷ codes "fits" ∷ codes "hooks" ∷ codes "mine" ∷ codes "other" ∷ codes "test" ∷ codes "post" ∷ codes "frame" ∷ []

abbrev pub unmarked : Marks
unmarked = record { quantified = false; other = false }

abbrev pub no_names : NameTable
no_names = record { texts = []; sorts = []; marks = [] }

abbrev pub first_names : NameTable
first_names = record { texts = reserved; sorts = []; marks = replicate 18 unmarked }

-- a new name has the next number, and no mark
abbrev pub with_name : NameTable → Text → NameTable
with_name names name =
    if is_among name names.texts then names
    else record { texts = names.texts ++ name ∷ []; sorts = names.sorts; marks = names.marks ++ unmarked ∷ [] }

-- the table when these names were numbered, one after another
abbrev pub numbered : NameTable → List Text → NameTable
numbered names [] = names
numbered names (text ∷ texts) = numbered (with_name names text) texts

abbrev pub with_sort : NameTable → SortDecl → NameTable
with_sort names sort = record { texts = names.texts; sorts = names.sorts ++ sort ∷ []; marks = names.marks }

-- a quantifier has bound the name, or another variable has had it
abbrev pub has_mark : Bool → Marks → Bool
has_mark quantified mark = if quantified then mark.quantified else mark.other

abbrev pub noted : Bool → Marks → Marks
noted quantified mark = if quantified then record { quantified = true; other = mark.other } else record { quantified = mark.quantified; other = true }

abbrev pub mark_in : Option Marks → Marks
mark_in (Some mark) = mark
mark_in None = unmarked

abbrev pub mark_at : NameTable → ℕ → Marks
mark_at names sym = mark_in (slice_get names.marks sym)

-- a name that has a number is noted so
abbrev pub marks_with : List Marks → ℕ → Bool → Option Marks → List Marks
marks_with marks sym quantified (Some mark) = slice_set marks sym (noted quantified mark)
marks_with marks sym quantified None = marks

abbrev pub with_mark : NameTable → ℕ → Bool → NameTable
with_mark names sym quantified = record { texts = names.texts; sorts = names.sorts; marks = marks_with names.marks sym quantified (slice_get names.marks sym) }

-- quantifiers have bound these names
abbrev pub all_marked : NameTable → List ℕ → NameTable
all_marked names [] = names
all_marked names (sym ∷ syms) = all_marked (with_mark names sym true) syms

abbrev pub is_marked : NameTable → ℕ → Bool → Bool
is_marked names sym quantified = has_mark quantified (mark_at names sym)

-- The table has more names, without marks, behind those that it had. Its sorts and its marks are the same.
pub record Extends (old new : NameTable) : Type 0 where
  pub more : List Text
  pub texts : new.texts ≡ old.texts ++ more
  pub sorts : new.sorts ≡ old.sorts
  pub marks : new.marks ≡ old.marks ++ replicate (length more) unmarked
