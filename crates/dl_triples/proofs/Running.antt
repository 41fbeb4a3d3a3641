-- Commands and their blocks.
use Rattle.std.proofs.Common.{◌≡◌, ◌≤◌, ◌<◌, ◌+◌, ℕ, List, [], ◌∷◌, ◌++◌, length, drop, get_or, min, refl, sym, ◌∙◌, ap, add-one, append_assoc, arith}
use Rattle.std.proofs.Math.Seq.{drop-cons}
use Rattle.std.proofs.lemmas.List.{append-nil, drop_all}
use Rattle.dl_term.specs.declared.syntax.Formula.{Formula}
use Rattle.dl_model.specs.declared.program.Command.{Command, Send, Await, Poll, Read, Set, If', While', Call, Row_of-Command, end_of-Command, more_of-Command, items-the_row-Command, items_hidden-the_row-Command-0}
use Rattle.dl_model.specs.declared.program.Command.TheVariants.{If as IfOf, While as WhileOf}
use Rattle.dl_model.specs.declared.file.Decls.{Decls}
use Rattle.dl_model.specs.Block.{Block, block_of, followed, row_block}
use Rattle.dl_model.specs.Formed.{points}
use Rattle.dl_sequent.specs.declared.duty.Duty.{Duty}
use Rattle.dl_triples.specs.Duties.{duties_of_loop, duties_of_block}
use Rattle.dl_triples.specs.Commands.{command_points, points_of_commands, duties_of_command, duties_of_commands}

row_blocks : (n : _) (row : Row_of-Command n) → block_of (items-the_row-Command n row) ≡ row_block row
row_blocks n end_of-Command = refl
row_blocks n (more_of-Command command rest) = ap (followed command) (row_blocks _ rest)

-- ---- points

followed-points : (command : Command) (rest : Block) → points (followed command rest) ≡ command_points command + points rest
followed-points (Send note label tag to args) rest = refl
followed-points (Await note label tag sender args) rest = refl
followed-points (Poll note got label tag sender args) rest = refl
followed-points (Read note into label field index) rest = refl
followed-points (Set target value) rest = omega arith
followed-points (If' test s left t right) rest = refl
followed-points (While' test note s body) rest = omega arith
followed-points (Call note frame into callee args) rest = refl

pub commands-points : (commands : List Command) → points_of_commands commands ≡ points (block_of commands)
commands-points [] = refl
commands-points (command ∷ commands) = ap (λ n. command_points command + n) (commands-points commands) ∙ sym (followed-points command (block_of commands))

-- ---- obligations

module _ (d : Decls) (proc : ℕ) where
  followed-duties : (k : ℕ) (command : Command) (rest : Block) →
      duties_of_block d proc k (followed command rest) ≡ duties_of_command d proc k command ++ duties_of_block d proc (k + command_points command) rest
  followed-duties k (Send note label tag to args) rest = refl
  followed-duties k (Await note label tag sender args) rest = refl
  followed-duties k (Poll note got label tag sender args) rest = refl
  followed-duties k (Read note into label field index) rest = refl
  followed-duties k (Set target value) rest = let e : k ≡ k + 0 = omega arith in ap (λ n. duties_of_block d proc n rest) e
  followed-duties k (If' test s left t right) rest = refl
  followed-duties k (While' test note s body) rest = refl
  followed-duties k (Call note frame into callee args) rest = refl

  pub commands-duties : (k : ℕ) (commands : List Command) → duties_of_commands d proc k commands ≡ duties_of_block d proc k (block_of commands)
  commands-duties k [] = refl
  commands-duties k (command ∷ commands) =
      ap (λ (xs : List Duty). duties_of_command d proc k command ++ xs) (commands-duties (k + command_points command) commands)
      ∙ sym (followed-duties k command (block_of commands))

-- ---- the commands in a command

abbrev pub yes_row : Command → (n : _) × Row_of-Command n
yes_row (If' test s left t right) = (_, left)
yes_row _ = (_, end_of-Command)

abbrev pub no_row : Command → (n : _) × Row_of-Command n
no_row (If' test s left t right) = (_, right)
no_row _ = (_, end_of-Command)

abbrev pub body_row : Command → (n : _) × Row_of-Command n
body_row (While' test note s body) = (_, body)
body_row _ = (_, end_of-Command)

pub yes-block : (test : Formula) (chosen other : List Command) → row_block (yes_row (IfOf test chosen other)).1 ≡ block_of chosen
yes-block test chosen other = let row = yes_row (IfOf test chosen other) in sym (row_blocks row.0 row.1) ∙ ap block_of (items_hidden-the_row-Command-0 chosen)

pub no-block : (test : Formula) (chosen other : List Command) → row_block (no_row (IfOf test chosen other)).1 ≡ block_of other
no-block test chosen other = let row = no_row (IfOf test chosen other) in sym (row_blocks row.0 row.1) ∙ ap block_of (items_hidden-the_row-Command-0 other)

pub body-block : (test note : Formula) (body : List Command) → row_block (body_row (WhileOf test note body)).1 ≡ block_of body
body-block test note body = let row = body_row (WhileOf test note body) in sym (row_blocks row.0 row.1) ∙ ap block_of (items_hidden-the_row-Command-0 body)

pub if-points : (test : Formula) (chosen other : List Command) → command_points (IfOf test chosen other) ≡ points_of_commands chosen + points_of_commands other
if-points test chosen other =
    ap (λ b. points b + points (row_block (no_row (IfOf test chosen other)).1)) (yes-block test chosen other)
    ∙ ap (λ b. points (block_of chosen) + points b) (no-block test chosen other)
    ∙ ap (λ n. n + points (block_of other)) (sym (commands-points chosen))
    ∙ ap (λ n. points_of_commands chosen + n) (sym (commands-points other))

pub while-points : (test note : Formula) (body : List Command) → command_points (WhileOf test note body) ≡ 1 + points_of_commands body
while-points test note body = ap (λ b. 1 + points b) (body-block test note body) ∙ ap (λ n. 1 + n) (sym (commands-points body))

pub if-duties : (d : Decls) (proc k : ℕ) (test : Formula) (chosen other : List Command) →
    duties_of_command d proc k (IfOf test chosen other) ≡ duties_of_commands d proc k chosen ++ duties_of_commands d proc (k + points_of_commands chosen) other
if-duties d proc k test chosen other =
    ap (λ b. duties_of_block d proc k b ++ duties_of_block d proc (k + points b) (row_block (no_row (IfOf test chosen other)).1)) (yes-block test chosen other)
    ∙ ap (λ b. duties_of_block d proc k (block_of chosen) ++ duties_of_block d proc (k + points (block_of chosen)) b) (no-block test chosen other)
    ∙ ap (λ (xs : List Duty). xs ++ duties_of_block d proc (k + points (block_of chosen)) (block_of other)) (sym (commands-duties d proc k chosen))
    ∙ ap (λ n. duties_of_commands d proc k chosen ++ duties_of_block d proc (k + n) (block_of other)) (sym (commands-points chosen))
    ∙ ap (λ (xs : List Duty). duties_of_commands d proc k chosen ++ xs) (sym (commands-duties d proc (k + points_of_commands chosen) other))

pub while-duties : (d : Decls) (proc k : ℕ) (test note : Formula) (body : List Command) →
    duties_of_command d proc k (WhileOf test note body) ≡ duties_of_loop d proc k note ++ duties_of_commands d proc (k + 1) body
while-duties d proc k test note body =
    ap (λ b. duties_of_loop d proc k note ++ duties_of_block d proc (k + 1) b) (body-block test note body)
    ∙ ap (λ (xs : List Duty). duties_of_loop d proc k note ++ xs) (sym (commands-duties d proc (k + 1) body))

-- ---- one command more of those that are left

pub here : (commands : List Command) (i : ℕ) (command : Command) → i < length commands → command ≡ get_or commands i command → drop i commands ≡ command ∷ drop (i + 1) commands
here commands i command h e =
    let read : drop i commands ≡ get_or commands i command ∷ drop (i + 1) commands = rw (add-one, drop-cons commands i command) in
    read ∙ ap (λ c. c ∷ drop (i + 1) commands) (sym e)

pub next-points : (commands : List Command) (i point next all : ℕ) (command : Command) → i < length commands → command ≡ get_or commands i command →
    point + points_of_commands (drop i commands) ≡ all → next ≡ point + command_points command → next + points_of_commands (drop (i + 1) commands) ≡ all
next-points commands i point next all command h e before is =
    let more : points_of_commands (drop i commands) ≡ command_points command + points_of_commands (drop (i + 1) commands) = ap points_of_commands (here commands i command h e) in
    omega arith

-- the points of one command are no more than those that are left
pub points-left : (commands : List Command) (i : ℕ) (command : Command) → i < length commands → command ≡ get_or commands i command →
    command_points command ≤ points_of_commands (drop i commands)
points-left commands i command h e =
    let more : points_of_commands (drop i commands) ≡ command_points command + points_of_commands (drop (i + 1) commands) = ap points_of_commands (here commands i command h e) in
    omega arith

pub next-duties : (d : Decls) (proc : ℕ) (commands : List Command) (i point next : ℕ) (command : Command) (now later all : List Duty) → i < length commands →
    command ≡ get_or commands i command → now ++ duties_of_commands d proc point (drop i commands) ≡ all → later ≡ now ++ duties_of_command d proc point command →
    next ≡ point + command_points command → later ++ duties_of_commands d proc next (drop (i + 1) commands) ≡ all
next-duties d proc commands i point next command now later all h e before added is =
    ap (λ (n : ℕ). later ++ duties_of_commands d proc n (drop (i + 1) commands)) is
    ∙ (ap (λ (xs : List Duty). xs ++ duties_of_commands d proc (point + command_points command) (drop (i + 1) commands)) added
    ∙ (append_assoc now (duties_of_command d proc point command) (duties_of_commands d proc (point + command_points command) (drop (i + 1) commands))
    ∙ (ap (λ (cs : List Command). now ++ duties_of_commands d proc point cs) (sym (here commands i command h e)) ∙ before)))

-- none is left
pub last-duties : (d : Decls) (proc : ℕ) (commands : List Command) (i point : ℕ) (now all : List Duty) → length commands ≤ i →
    now ++ duties_of_commands d proc point (drop i commands) ≡ all → now ≡ all
last-duties d proc commands i point now all h before =
    sym (append-nil now) ∙ (ap (λ (cs : List Command). now ++ duties_of_commands d proc point cs) (sym (drop_all i commands h)) ∙ before)

pub last-points : (commands : List Command) (i point all : ℕ) → length commands ≤ i → point + points_of_commands (drop i commands) ≡ all → point ≡ all
last-points commands i point all h before =
    let none : points_of_commands (drop i commands) ≡ 0 = ap points_of_commands (drop_all i commands h) in
    omega arith

-- a sum that stops at the greatest number
pub sum-ends : {X : Type 0} (f : List X → ℕ) (xs : List X) (i points : ℕ) → f [] ≡ 0 → length xs ≤ i → points ≤ 18446744073709551615 →
    min (points + f (drop i xs)) 18446744073709551615 ≡ min (f xs) 18446744073709551615 → points ≡ min (f xs) 18446744073709551615
sum-ends f xs i points z h m e = let rest : f (drop i xs) ≡ 0 = ap f (drop_all i xs h) ∙ z in omega arith
