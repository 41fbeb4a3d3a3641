-- What is wrong with a file, and which of several such things is answered.
use Rattle.std.specs.Prelude.{◌≡◌, ℕ, nat_lt, Bool, true, false, ◌==◌, ◌&&◌, ◌||◌, if◌then◌else◌, List, [], ◌∷◌, ◌++◌, Option, Some, None}
use Rattle.std.specs.List.{AllByRecursion as Each}
use Rattle.dl_tree.specs.declared.tree.Place.{Place}
use Rattle.dl_faults.specs.declared.wrong.Named.{Named}
use Rattle.dl_faults.specs.declared.wrong.Named.TheVariants.{Nothing}
use Rattle.dl_faults.specs.declared.wrong.Wrong.{Wrong}

-- a rule is broken, and nothing is named
abbrev pub at : ℕ → Place → Wrong
at rule place = record { rule = rule; place = place; what = Nothing }

abbrev pub naming : ℕ → Place → Named → Wrong
naming rule place what = record { rule = rule; place = place; what = what }

-- it is wrong where the test fails
abbrev pub unless : Bool → Wrong → List Wrong
unless fine wrong = if fine then [] else wrong ∷ []

-- ---- the earliest one

-- the first number is smaller, or the two are the same and then this decides
abbrev pub smaller_or : ℕ → ℕ → Bool → Bool
smaller_or m n decides = nat_lt m n || ((m == n) && decides)

-- the one stands earlier in the text than the other, or at the same place by a smaller rule
abbrev pub goes_before_in_line : Wrong → Wrong → Bool
goes_before_in_line a b = smaller_or a.place.col b.place.col (nat_lt a.rule b.rule)

abbrev pub goes_before : Wrong → Wrong → Bool
goes_before a b = smaller_or a.place.line b.place.line (goes_before_in_line a b)

abbrev pub earlier : Wrong → Option Wrong → Option Wrong
earlier first None = Some first
earlier first (Some later) = Some (if goes_before later first then later else first)

-- The earliest one; at one place that of the smallest rule; at one place and rule the first of the list.
abbrev pub earliest : List Wrong → Option Wrong
earliest [] = None
earliest (wrong ∷ wrongs) = earlier wrong (earliest wrongs)

-- the earliest one of two parts of a list, by those of the parts
abbrev pub joined : Option Wrong → Option Wrong → Option Wrong
joined None later = later
joined (Some first) later = earlier first later

-- It goes before all that stand in front of it in the list, and none of those behind it goes before it.
pub record GoesFirst (wrongs : List Wrong) (wrong : Wrong) : Type 0 where
  pub front : List Wrong
  pub behind : List Wrong
  pub all : wrongs ≡ front ++ wrong ∷ behind
  pub before_front : Each (λ other. goes_before wrong other ≡ true) front
  pub before_behind : Each (λ other. goes_before other wrong ≡ false) behind
