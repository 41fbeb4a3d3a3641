-- What the names of a procedure stand for, in slots. Of slots with one name the last one counts.
use Rattle.std.specs.Prelude.{◌≡◌, ℕ, ℤ, pos, ◌==◌, true, if◌then◌else◌, List, [], ◌∷◌, map, replicate}
use Rattle.dl_term.specs.Names.{Names, no_names, with_number}
use Rattle.dl_model.specs.Sorts.{has}
use Rattle.dl_prog.specs.declared.slots.Slot.{Slot}

-- the names with those of the slots
abbrev pub named_from : Names → List Slot → Names
named_from names [] = names
named_from names (slot ∷ slots) = named_from (with_number names slot.sym slot.value) slots

abbrev pub named : List Slot → Names
named slots = named_from (no_names 0) slots

-- the number of a name, or this one where no slot has the name
abbrev pub found : List Slot → ℕ → ℤ → ℤ
found [] sym other = other
found (slot ∷ slots) sym other = found slots sym (if sym == slot.sym then slot.value else other)

-- the slot with a new number, where it has the name
abbrev pub put : ℕ → ℤ → Slot → Slot
put sym new slot = if sym == slot.sym then record { sym = slot.sym; value = new } else slot

abbrev pub put_all : ℕ → ℤ → List Slot → List Slot
put_all sym new slots = map (put sym new) slots

-- each name stands for its number, as long as there are both
abbrev pub put_each : List ℕ → List ℤ → List Slot → List Slot
put_each [] news slots = slots
put_each (sym ∷ syms) [] slots = slots
put_each (sym ∷ syms) (new ∷ news) slots = put_each syms news (put_all sym new slots)

abbrev pub syms_of : List Slot → List ℕ
syms_of slots = map (λ slot. slot.sym) slots

-- the slots have the names
pub record HasEach (slots : List Slot) (names : List ℕ) : Type 0 where
  pub each : (sym : ℕ) → has names sym ≡ true → has (syms_of slots) sym ≡ true

-- a slot of no name
abbrev pub blank : Slot
blank = record { sym = 0; value = pos 0 }

abbrev pub blanks : List Slot
blanks = replicate 25 blank

-- each number is 0
abbrev pub AreZero : List Slot → Type 0
AreZero [] = Unit {0}
AreZero (slot ∷ slots) = (slot.value ≡ pos 0) × AreZero slots
