-- The names of hypotheses that no file declares.
use Rattle.std.specs.Prelude.{ℕ}

-- the coherence of the own protocol
abbrev pub self_word : ℕ
self_word = 3

-- the guard of the step
abbrev pub guard_word : ℕ
guard_word = 10

-- the sorts of what the step updates
abbrev pub fits_word : ℕ
fits_word = 11

-- the hooks that the send meets
abbrev pub hooks_word : ℕ
hooks_word = 12

-- the message that is received is addressed to the receiver, and live
abbrev pub mine_word : ℕ
mine_word = 13
