-- The names of the hypotheses that the obligations of programs have besides those of a step.
use Rattle.std.specs.Prelude.{ℕ}

-- the annotation, or the precondition
abbrev pub pre_word : ℕ
pre_word = 9

-- another node makes the step
abbrev pub other_word : ℕ
other_word = 14

-- the test of a loop
abbrev pub test_word : ℕ
test_word = 15

-- the postcondition of the procedure that was called
abbrev pub post_word : ℕ
post_word = 16

-- what the caller held on to
abbrev pub frame_word : ℕ
frame_word = 17
