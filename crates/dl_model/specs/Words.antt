-- The words that have a fixed number, and what the names of a step stand for.
use Rattle.std.specs.Prelude.{ℕ, ℤ, pos, List, [], ◌∷◌}
use Rattle.dl_term.specs.State.{State}
use Rattle.dl_term.specs.Names.{Names, no_names, with_number}

-- The words that no file declares have the numbers below 18, among them these.
abbrev pub me_word : ℕ
me_word = 4

abbrev pub to_word : ℕ
to_word = 5

abbrev pub from_word : ℕ
from_word = 6

abbrev pub result_word : ℕ
result_word = 7

abbrev pub first_name : ℕ
first_name = 18

-- the names stand for these numbers, in order
abbrev pub with_numbers : Names → List ℕ → List ℤ → Names
with_numbers names [] values = names
with_numbers names (x ∷ xs) [] = names
with_numbers names (x ∷ xs) (v ∷ vs) = with_numbers (with_number names x v) xs vs

-- `me` alone
abbrev pub me_names : ℕ → ℤ → Names
me_names own node = with_number (no_names own) me_word node

-- what a send sees: `me`, `to` and the arguments
abbrev pub send_names : ℕ → List ℕ → ℕ → ℤ → List ℤ → Names
send_names own syms node to args = with_numbers (with_number (me_names own (pos node)) to_word to) syms args

-- what a receive sees: `me`, `from` and the arguments
abbrev pub receive_names : ℕ → List ℕ → ℕ → ℕ → List ℤ → Names
receive_names own syms node from args = with_numbers (with_number (me_names own (pos node)) from_word (pos from)) syms args

-- A state without nodes and labels. Terms over names alone have their values in it.
abbrev pub no_state : State
no_state = record { nodes = 0; labels = [] }
