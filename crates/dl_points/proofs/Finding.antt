-- The point that is found is the one with the number, and what is found to hold after it is what has to hold there.
use Rattle.std.proofs.Common.{◌≡◌, ◌≤◌, ◌<◌, ◌+◌, ◌-◌, ℕ, zero, suc, Bool, true, false, if◌then◌else◌, List, [], ◌∷◌, ◌++◌, length, drop, get_or, min, take, length-drop, append_assoc, refl, sym, ◌∙◌, ap, arith}
use Rattle.std.proofs.lemmas.Bool.{ltb-true, ltb-false, lt-ltb, le-ltb}
use Rattle.std.proofs.lemmas.List.{drop_all, take_all}
use Rattle.std.specs.Prelude.{nat_lt, slice_get, unwrap_or}
use Rattle.dl_term.specs.declared.syntax.Formula.{Formula, True, And, Implies, Not}
use Rattle.dl_model.specs.declared.program.Command.{Command, Send, Await, Poll, Read, Set, If' as IfShape, While', Call}
use Rattle.dl_model.specs.declared.program.Command.TheVariants.{If as IfOf, While as WhileOf}
use Rattle.dl_model.specs.Block.{Block, Done, Sends, Awaits, Polls, Reads, Sets, Ifs, Whiles, Calls, block_of, followed, row_block}
use Rattle.dl_model.specs.Formed.{points}
use Rattle.dl_model.specs.declared.program.Proc.{Proc}
use Rattle.dl_triples.specs.Points.{Point, pre_of, post_of, points_of, no_point, next_of, point_at}
use Rattle.dl_triples.specs.Commands.{command_points, points_of_commands}
use Rattle.dl_points.specs.Finding.{at_zero, found_in, found_at, found_in_sides, next_in, next_at, next_in_sides}
use Rattle.dl_triples.proofs.Running.{here, commands-points, yes-block, no-block, body-block, yes_row, no_row, body_row}

-- ---- a command and what follows it

none-before : (k : ℕ) → nat_lt k 0 ≡ false
none-before k = le-ltb k 0 (omega arith)

past-one : {X : Type 0} (a b : X) (k : ℕ) → b ≡ (if nat_lt k 0 then a else b)
past-one a b k = ap (λ t. if t then a else b) (sym (none-before k))

followed-found : (command : Command) (rest : Block) (k : ℕ) →
    found_in (followed command rest) k ≡ (if nat_lt k (command_points command) then found_at command rest k else found_in rest (k - command_points command))
followed-found (Send note label tag to args) rest k = refl
followed-found (Await note label tag sender args) rest k = refl
followed-found (Poll note got label tag sender args) rest k = refl
followed-found (Read note into label field index) rest k = refl
followed-found (Set target value) rest k =
    let e : k ≡ k - 0 = omega arith in ap (found_in rest) e ∙ past-one Done (found_in rest (k - 0)) k
followed-found (IfShape test s left t right) rest k = refl
followed-found (While' test note s body) rest k = refl
followed-found (Call note frame into callee args) rest k = refl

followed-next : (command : Command) (rest : Block) (after : Formula) (k : ℕ) →
    next_in (followed command rest) after k ≡ (if nat_lt k (command_points command) then next_at command (pre_of rest after) k else next_in rest after (k - command_points command))
followed-next (Send note label tag to args) rest after k = refl
followed-next (Await note label tag sender args) rest after k = refl
followed-next (Poll note got label tag sender args) rest after k = refl
followed-next (Read note into label field index) rest after k = refl
followed-next (Set target value) rest after k =
    let e : k ≡ k - 0 = omega arith in ap (next_in rest after) e ∙ past-one (pre_of rest after) (next_in rest after (k - 0)) k
followed-next (IfShape test s left t right) rest after k = refl
followed-next (While' test note s body) rest after k = refl
followed-next (Call note frame into callee args) rest after k = refl

chosen : {X : Type 0} (a b : X) (t : Bool) → t ≡ true → (if t then a else b) ≡ a
chosen a b true e = refl
chosen a b false e = absurd (cc e)

other : {X : Type 0} (a b : X) (t : Bool) → t ≡ false → (if t then a else b) ≡ b
other a b true e = absurd (cc e)
other a b false e = refl

-- ---- through a list of commands

-- the commands from one on, as a slice
pub tail-is : (commands : List Command) (i : ℕ) → take (length commands - i) (drop i commands) ≡ drop i commands
tail-is commands i = take_all (length commands - i) (drop i commands) (let e = length-drop i commands in omega (e, arith))

-- the point stands in this command
pub found-here : (commands : List Command) (i left count : ℕ) (command : Command) (all : Block) → i < length commands → command ≡ get_or commands i command →
    count ≡ min (command_points command) 18446744073709551615 → left < count → found_in (block_of (drop i commands)) left ≡ all →
    found_at command (block_of (drop (i + 1) commands)) left ≡ all
found-here commands i left count command all h e is k before =
    let at : drop i commands ≡ command ∷ drop (i + 1) commands = here commands i command h e in
    sym (chosen (found_at command (block_of (drop (i + 1) commands)) left) (found_in (block_of (drop (i + 1) commands)) (left - command_points command)) (nat_lt left (command_points command))
    (lt-ltb left (command_points command) (omega arith)))
    ∙ sym (followed-found command (block_of (drop (i + 1) commands)) left) ∙ ap (λ cs. found_in (block_of cs) left) (sym at) ∙ before

-- the point stands after this command
pub found-later : (commands : List Command) (i left count : ℕ) (command : Command) (all : Block) → i < length commands → command ≡ get_or commands i command → left ≤ 4294967295 →
    count ≡ min (command_points command) 18446744073709551615 → count ≤ left → found_in (block_of (drop i commands)) left ≡ all →
    found_in (block_of (drop (i + 1) commands)) (left - count) ≡ all
found-later commands i left count command all h e small is k before =
    let at : drop i commands ≡ command ∷ drop (i + 1) commands = here commands i command h e in
    let same : count ≡ command_points command = omega arith in
    ap (λ n. found_in (block_of (drop (i + 1) commands)) (left - n)) same
    ∙ sym (other (found_at command (block_of (drop (i + 1) commands)) left) (found_in (block_of (drop (i + 1) commands)) (left - command_points command)) (nat_lt left (command_points command))
    (le-ltb left (command_points command) (omega arith)))
    ∙ sym (followed-found command (block_of (drop (i + 1) commands)) left) ∙ ap (λ cs. found_in (block_of cs) left) (sym at) ∙ before

pub found-none : (commands : List Command) (i left : ℕ) (all : Block) → length commands ≤ i → found_in (block_of (drop i commands)) left ≡ all → Done ≡ all
found-none commands i left all h before = sym (ap (λ cs. found_in (block_of cs) left) (drop_all i commands h)) ∙ before

pub next-here : (commands : List Command) (i left count : ℕ) (command : Command) (after all : Formula) → i < length commands → command ≡ get_or commands i command →
    count ≡ min (command_points command) 18446744073709551615 → left < count → next_in (block_of (drop i commands)) after left ≡ all →
    next_at command (pre_of (block_of (drop (i + 1) commands)) after) left ≡ all
next-here commands i left count command after all h e is k before =
    let at : drop i commands ≡ command ∷ drop (i + 1) commands = here commands i command h e in
    sym (chosen (next_at command (pre_of (block_of (drop (i + 1) commands)) after) left) (next_in (block_of (drop (i + 1) commands)) after (left - command_points command)) (nat_lt left (command_points command))
    (lt-ltb left (command_points command) (omega arith)))
    ∙ sym (followed-next command (block_of (drop (i + 1) commands)) after left) ∙ ap (λ cs. next_in (block_of cs) after left) (sym at) ∙ before

pub next-later : (commands : List Command) (i left count : ℕ) (command : Command) (after all : Formula) → i < length commands → command ≡ get_or commands i command → left ≤ 4294967295 →
    count ≡ min (command_points command) 18446744073709551615 → count ≤ left → next_in (block_of (drop i commands)) after left ≡ all →
    next_in (block_of (drop (i + 1) commands)) after (left - count) ≡ all
next-later commands i left count command after all h e small is k before =
    let at : drop i commands ≡ command ∷ drop (i + 1) commands = here commands i command h e in
    let same : count ≡ command_points command = omega arith in
    ap (λ n. next_in (block_of (drop (i + 1) commands)) after (left - n)) same
    ∙ sym (other (next_at command (pre_of (block_of (drop (i + 1) commands)) after) left) (next_in (block_of (drop (i + 1) commands)) after (left - command_points command)) (nat_lt left (command_points command))
    (le-ltb left (command_points command) (omega arith)))
    ∙ sym (followed-next command (block_of (drop (i + 1) commands)) after left) ∙ ap (λ cs. next_in (block_of cs) after left) (sym at) ∙ before

pub next-none : (commands : List Command) (i left : ℕ) (after all : Formula) → length commands ≤ i → next_in (block_of (drop i commands)) after left ≡ all → True ≡ all
next-none commands i left after all h before = sym (ap (λ cs. next_in (block_of cs) after left) (drop_all i commands h)) ∙ before

-- ---- in two sides, and in a loop

pub in-left : (left right : List Command) (k count : ℕ) → count ≡ min (points_of_commands left) 18446744073709551615 → k < count → found_in (block_of left) k ≡ found_in_sides (block_of left) (block_of right) k
in-left left right k count e h =
    let is = commands-points left in
    sym (chosen (found_in (block_of left) k) (found_in (block_of right) (k - points (block_of left))) (nat_lt k (points (block_of left))) (lt-ltb k (points (block_of left)) (omega (is, e, h, arith))))

pub in-right : (left right : List Command) (k count : ℕ) → k ≤ 4294967295 → count ≡ min (points_of_commands left) 18446744073709551615 → count ≤ k →
    found_in (block_of right) (k - count) ≡ found_in_sides (block_of left) (block_of right) k
in-right left right k count small e h =
    let is = commands-points left in
    let same : count ≡ points (block_of left) = omega (is, e, h, small, arith) in
    ap (λ n. found_in (block_of right) (k - n)) same
    ∙ sym (other (found_in (block_of left) k) (found_in (block_of right) (k - points (block_of left))) (nat_lt k (points (block_of left))) (le-ltb k (points (block_of left)) (omega (same, h, arith))))

pub next-in-left : (left right : List Command) (after : Formula) (k count : ℕ) → count ≡ min (points_of_commands left) 18446744073709551615 → k < count →
    next_in (block_of left) after k ≡ next_in_sides (block_of left) (block_of right) after k
next-in-left left right after k count e h =
    let is = commands-points left in
    sym (chosen (next_in (block_of left) after k) (next_in (block_of right) after (k - points (block_of left))) (nat_lt k (points (block_of left))) (lt-ltb k (points (block_of left)) (omega (is, e, h, arith))))

pub next-in-right : (left right : List Command) (after : Formula) (k count : ℕ) → k ≤ 4294967295 → count ≡ min (points_of_commands left) 18446744073709551615 → count ≤ k →
    next_in (block_of right) after (k - count) ≡ next_in_sides (block_of left) (block_of right) after k
next-in-right left right after k count small e h =
    let is = commands-points left in
    let same : count ≡ points (block_of left) = omega (is, e, h, small, arith) in
    ap (λ n. next_in (block_of right) after (k - n)) same
    ∙ sym (other (next_in (block_of left) after k) (next_in (block_of right) after (k - points (block_of left))) (nat_lt k (points (block_of left))) (le-ltb k (points (block_of left)) (omega (same, h, arith))))

pub at-first : {X : Type 0} (x : X) (f : ℕ → X) (k : ℕ) → k ≡ 0 → x ≡ at_zero x f k
at-first x f zero h = refl
at-first x f (suc n) h = absurd (omega (h, arith))

pub at-later : {X : Type 0} (x : X) (f : ℕ → X) (k : ℕ) → 1 ≤ k → f (k - 1) ≡ at_zero x f k
at-later x f zero h = absurd (omega (h, arith))
at-later x f (suc n) h = let e : suc n - 1 ≡ n = omega arith in ap f e

-- ---- in the commands of a command

pub if-found : (test : Formula) (chosen other : List Command) (rest : Block) (k : ℕ) → found_at (IfOf test chosen other) rest k ≡ found_in_sides (block_of chosen) (block_of other) k
if-found test chosen other rest k =
    ap (λ b. found_in_sides b (row_block (no_row (IfOf test chosen other)).1) k) (yes-block test chosen other) ∙ ap (λ b. found_in_sides (block_of chosen) b k) (no-block test chosen other)

pub while-found : (test note : Formula) (body : List Command) (rest : Block) (k : ℕ) →
    found_at (WhileOf test note body) rest k ≡ at_zero (Whiles test note (block_of body) rest) (λ n. found_in (block_of body) n) k
while-found test note body rest k = ap (λ b. at_zero (Whiles test note b rest) (λ n. found_in b n) k) (body-block test note body)

pub while-followed : (test note : Formula) (body : List Command) (rest : Block) → followed (WhileOf test note body) rest ≡ Whiles test note (block_of body) rest
while-followed test note body rest = ap (λ b. Whiles test note b rest) (body-block test note body)

pub if-next : (test : Formula) (chosen other : List Command) (next : Formula) (k : ℕ) → next_at (IfOf test chosen other) next k ≡ next_in_sides (block_of chosen) (block_of other) next k
if-next test chosen other next k =
    ap (λ b. next_in_sides b (row_block (no_row (IfOf test chosen other)).1) next k) (yes-block test chosen other) ∙ ap (λ b. next_in_sides (block_of chosen) b next k) (no-block test chosen other)

pub while-next : (test note : Formula) (body : List Command) (next : Formula) (k : ℕ) → next_at (WhileOf test note body) next k ≡ at_zero next (λ n. next_in (block_of body) note n) k
while-next test note body next k = ap (λ b. at_zero next (λ n. next_in b note n) k) (body-block test note body)

-- ---- what the code finds in the commands of a command

pub if-found-left : (command : Command) (test : Formula) (chosen other counted run : List Command) (rest : Block) (k count : ℕ) → command ≡ IfOf test chosen other →
    counted ≡ chosen → run ≡ chosen → count ≡ min (points_of_commands counted) 18446744073709551615 → k < count → found_in (block_of run) k ≡ found_at command rest k
if-found-left command test chosen other counted run rest k count is e r n h =
    ap (λ (cs : List Command). found_in (block_of cs) k) r
    ∙ in-left chosen other k count (n ∙ ap (λ (cs : List Command). min (points_of_commands cs) 18446744073709551615) e) h
    ∙ sym (if-found test chosen other rest k) ∙ ap (λ x. found_at x rest k) (sym is)

pub if-found-right : (command : Command) (test : Formula) (chosen other counted run : List Command) (rest : Block) (k count : ℕ) → command ≡ IfOf test chosen other →
    counted ≡ chosen → run ≡ other → k ≤ 4294967295 → count ≡ min (points_of_commands counted) 18446744073709551615 → count ≤ k →
    found_in (block_of run) (k - count) ≡ found_at command rest k
if-found-right command test chosen other counted run rest k count is e r small n h =
    ap (λ (cs : List Command). found_in (block_of cs) (k - count)) r
    ∙ in-right chosen other k count small (n ∙ ap (λ (cs : List Command). min (points_of_commands cs) 18446744073709551615) e) h
    ∙ sym (if-found test chosen other rest k) ∙ ap (λ x. found_at x rest k) (sym is)

pub while-found-first : (command : Command) (test note : Formula) (body from : List Command) (rest : List Command) (k : ℕ) → command ≡ WhileOf test note body →
    from ≡ command ∷ rest → k ≡ 0 → block_of from ≡ found_at command (block_of rest) k
while-found-first command test note body from rest k is e z =
    ap block_of e ∙ ap (λ x. followed x (block_of rest)) is ∙ while-followed test note body (block_of rest)
    ∙ at-first (Whiles test note (block_of body) (block_of rest)) (λ n. found_in (block_of body) n) k z
    ∙ sym (while-found test note body (block_of rest) k) ∙ ap (λ x. found_at x (block_of rest) k) (sym is)

pub while-found-later : (command : Command) (test note : Formula) (body run : List Command) (rest : Block) (k : ℕ) → command ≡ WhileOf test note body →
    run ≡ body → 1 ≤ k → found_in (block_of run) (k - 1) ≡ found_at command rest k
while-found-later command test note body run rest k is r z =
    ap (λ (cs : List Command). found_in (block_of cs) (k - 1)) r
    ∙ at-later (Whiles test note (block_of body) rest) (λ n. found_in (block_of body) n) k z
    ∙ sym (while-found test note body rest k) ∙ ap (λ x. found_at x rest k) (sym is)

pub if-next-left : (command : Command) (test : Formula) (chosen other counted run : List Command) (next : Formula) (k count : ℕ) → command ≡ IfOf test chosen other →
    counted ≡ chosen → run ≡ chosen → count ≡ min (points_of_commands counted) 18446744073709551615 → k < count → next_in (block_of run) next k ≡ next_at command next k
if-next-left command test chosen other counted run next k count is e r n h =
    ap (λ (cs : List Command). next_in (block_of cs) next k) r
    ∙ next-in-left chosen other next k count (n ∙ ap (λ (cs : List Command). min (points_of_commands cs) 18446744073709551615) e) h
    ∙ sym (if-next test chosen other next k) ∙ ap (λ x. next_at x next k) (sym is)

pub if-next-right : (command : Command) (test : Formula) (chosen other counted run : List Command) (next : Formula) (k count : ℕ) → command ≡ IfOf test chosen other →
    counted ≡ chosen → run ≡ other → k ≤ 4294967295 → count ≡ min (points_of_commands counted) 18446744073709551615 → count ≤ k →
    next_in (block_of run) next (k - count) ≡ next_at command next k
if-next-right command test chosen other counted run next k count is e r small n h =
    ap (λ (cs : List Command). next_in (block_of cs) next (k - count)) r
    ∙ next-in-right chosen other next k count small (n ∙ ap (λ (cs : List Command). min (points_of_commands cs) 18446744073709551615) e) h
    ∙ sym (if-next test chosen other next k) ∙ ap (λ x. next_at x next k) (sym is)

pub while-next-first : (command : Command) (test note : Formula) (body : List Command) (next : Formula) (k : ℕ) → command ≡ WhileOf test note body →
    k ≡ 0 → next ≡ next_at command next k
while-next-first command test note body next k is z =
    at-first next (λ n. next_in (block_of body) note n) k z ∙ sym (while-next test note body next k) ∙ ap (λ x. next_at x next k) (sym is)

pub while-next-later : (command : Command) (test note : Formula) (body run : List Command) (next : Formula) (k : ℕ) → command ≡ WhileOf test note body →
    run ≡ body → 1 ≤ k → next_in (block_of run) note (k - 1) ≡ next_at command next k
while-next-later command test note body run next k is r z =
    ap (λ (cs : List Command). next_in (block_of cs) note (k - 1)) r ∙ at-later next (λ n. next_in (block_of body) note n) k z
    ∙ sym (while-next test note body next k) ∙ ap (λ x. next_at x next k) (sym is)

-- ---- the point that is found is that of the list

two-lengths : (xs ys : List Point) → length (xs ++ ys) ≡ length xs + length ys
two-lengths [] ys = omega arith
two-lengths (x ∷ xs) ys = let e = two-lengths xs ys in omega (e, arith)

count-is : (block : Block) (after : Formula) → length (points_of block after) ≡ points block
count-is Done after = refl
count-is (Sends note label tag to args rest) after = let e = count-is rest after in omega (e, arith)
count-is (Awaits note label tag sender args rest) after = let e = count-is rest after in omega (e, arith)
count-is (Polls note got label tag sender args rest) after = let e = count-is rest after in omega (e, arith)
count-is (Reads note into label field index rest) after = let e = count-is rest after in omega (e, arith)
count-is (Sets target value rest) after = count-is rest after
count-is (Ifs test left right rest) after =
    let a = count-is left (pre_of rest after) in
    let b = count-is right (pre_of rest after) in
    let e = count-is rest after in
    let one = two-lengths (points_of left (pre_of rest after)) (points_of right (pre_of rest after) ++ points_of rest after) in
    let two = two-lengths (points_of right (pre_of rest after)) (points_of rest after) in
    omega (one, two, a, b, e, arith)
count-is (Whiles test note body rest) after =
    let a = count-is body note in
    let e = count-is rest after in
    let one = two-lengths (points_of body note) (points_of rest after) in
    omega (one, a, e, arith)
count-is (Calls note frame into callee args rest) after = let e = count-is rest after in omega (e, arith)

abbrev pub at_place : List Point → ℕ → Point
at_place ps k = unwrap_or (slice_get ps k) no_point

in-front : (xs ys : List Point) (k : ℕ) → k < length xs → at_place (xs ++ ys) k ≡ at_place xs k
in-front [] ys k h = absurd (omega (h, arith))
in-front (x ∷ xs) ys zero h = refl
in-front (x ∷ xs) ys (suc k) h = in-front xs ys k (omega (h, arith))

behind : (xs ys : List Point) (k d : ℕ) → k ≡ length xs + d → at_place (xs ++ ys) k ≡ at_place ys d
behind [] ys k d e = let is : k ≡ d = omega (e, arith) in ap (at_place ys) is
behind (x ∷ xs) ys zero d e = absurd (omega (e, arith))
behind (x ∷ xs) ys (suc k) d e = behind xs ys k d (omega (e, arith))

-- what is said of a place in two lists, and of one behind a first point
append-place : {X : Type 0} (f : Point → X) (xs ys : List Point) (n k : ℕ) → length xs ≡ n → f (at_place (xs ++ ys) k) ≡ (if nat_lt k n then f (at_place xs k) else f (at_place ys (k - n)))
append-place f xs ys n k e = go (nat_lt k n) refl
  where
    go : (t : Bool) → nat_lt k n ≡ t → f (at_place (xs ++ ys) k) ≡ (if t then f (at_place xs k) else f (at_place ys (k - n)))
    go true h = ap f (in-front xs ys k (let l = ltb-true k n h in omega (l, e, arith)))
    go false h = ap f (behind xs ys k (k - n) (let l = ltb-false k n h in omega (l, e, arith)))

cons-place : {X : Type 0} (f : Point → X) (p : Point) (ps : List Point) (k : ℕ) → f (at_place (p ∷ ps) k) ≡ (if nat_lt k 1 then f p else f (at_place ps (k - 1)))
cons-place f p ps zero = refl
cons-place f p ps (suc k) =
    let e : k ≡ suc k - 1 = omega arith in
    ap (λ n. f (at_place ps n)) e ∙ sym (other (f p) (f (at_place ps (suc k - 1))) (nat_lt (suc k) 1) (le-ltb (suc k) 1 (omega arith)))

abbrev block_at : Point → Block
block_at point = point.block

pub found-is : (block : Block) (after : Formula) (k : ℕ) → found_in block k ≡ block_at (at_place (points_of block after) k)
found-is Done after k = refl
found-is (Sends note label tag to args rest) after k =
    ap (λ x. if nat_lt k 1 then Sends note label tag to args rest else x) (found-is rest after (k - 1)) ∙ sym (cons-place block_at (record { block = Sends note label tag to args rest; after = after }) (points_of rest after) k)
found-is (Awaits note label tag sender args rest) after k =
    ap (λ x. if nat_lt k 1 then Awaits note label tag sender args rest else x) (found-is rest after (k - 1)) ∙ sym (cons-place block_at (record { block = Awaits note label tag sender args rest; after = after }) (points_of rest after) k)
found-is (Polls note got label tag sender args rest) after k =
    ap (λ x. if nat_lt k 1 then Polls note got label tag sender args rest else x) (found-is rest after (k - 1)) ∙ sym (cons-place block_at (record { block = Polls note got label tag sender args rest; after = after }) (points_of rest after) k)
found-is (Reads note into label field index rest) after k =
    ap (λ x. if nat_lt k 1 then Reads note into label field index rest else x) (found-is rest after (k - 1)) ∙ sym (cons-place block_at (record { block = Reads note into label field index rest; after = after }) (points_of rest after) k)
found-is (Sets target value rest) after k = found-is rest after k
found-is (Ifs test left right rest) after k =
    let before = pre_of rest after in
    let xs = points_of left before in
    let ys = points_of right before in
    let zs = points_of rest after in
    let a = count-is left before in
    let b = count-is right before in
    let one = two-lengths xs ys in
    let n = points left + points right in
    (λ i. if nat_lt k n then (if nat_lt k (points left) then found-is left before k i else found-is right before (k - points left) i) else found-is rest after (k - n) i)
    ∙ ap (λ x. if nat_lt k n then x else block_at (at_place zs (k - n))) (sym (append-place block_at xs ys (points left) k a))
    ∙ sym (append-place block_at (xs ++ ys) zs n k (omega (one, a, b, arith))) ∙ ap (λ ps. block_at (at_place ps k)) (append_assoc xs ys zs)
found-is (Whiles test note body rest) after k =
    let a = count-is body note in
    let n = 1 + points body in
    let zs = points_of rest after in
    (λ i. if nat_lt k n then inside (found-is body note) k i else found-is rest after (k - n) i)
    ∙ sym (append-place block_at (record { block = Whiles test note body rest; after = after } ∷ points_of body note) zs n k (omega (a, arith)))
  where
    inside : ((n : ℕ) → found_in body n ≡ block_at (at_place (points_of body note) n)) → (m : ℕ) → at_zero (Whiles test note body rest) (λ n. found_in body n) m ≡ block_at (at_place (record { block = Whiles test note body rest; after = after } ∷ points_of body note) m)
    inside more zero = refl
    inside more (suc m) = more m
found-is (Calls note frame into callee args rest) after k =
    ap (λ x. if nat_lt k 1 then Calls note frame into callee args rest else x) (found-is rest after (k - 1)) ∙ sym (cons-place block_at (record { block = Calls note frame into callee args rest; after = after }) (points_of rest after) k)

pub next-is : (block : Block) (after : Formula) (k : ℕ) → next_in block after k ≡ next_of (at_place (points_of block after) k)
next-is Done after k = refl
next-is (Sends note label tag to args rest) after k =
    ap (λ x. if nat_lt k 1 then pre_of rest after else x) (next-is rest after (k - 1)) ∙ sym (cons-place next_of (record { block = Sends note label tag to args rest; after = after }) (points_of rest after) k)
next-is (Awaits note label tag sender args rest) after k =
    ap (λ x. if nat_lt k 1 then pre_of rest after else x) (next-is rest after (k - 1)) ∙ sym (cons-place next_of (record { block = Awaits note label tag sender args rest; after = after }) (points_of rest after) k)
next-is (Polls note got label tag sender args rest) after k =
    ap (λ x. if nat_lt k 1 then pre_of rest after else x) (next-is rest after (k - 1)) ∙ sym (cons-place next_of (record { block = Polls note got label tag sender args rest; after = after }) (points_of rest after) k)
next-is (Reads note into label field index rest) after k =
    ap (λ x. if nat_lt k 1 then pre_of rest after else x) (next-is rest after (k - 1)) ∙ sym (cons-place next_of (record { block = Reads note into label field index rest; after = after }) (points_of rest after) k)
next-is (Sets target value rest) after k = next-is rest after k
next-is (Ifs test left right rest) after k =
    let before = pre_of rest after in
    let xs = points_of left before in
    let ys = points_of right before in
    let zs = points_of rest after in
    let a = count-is left before in
    let b = count-is right before in
    let one = two-lengths xs ys in
    let n = points left + points right in
    (λ i. if nat_lt k n then (if nat_lt k (points left) then next-is left before k i else next-is right before (k - points left) i) else next-is rest after (k - n) i)
    ∙ ap (λ x. if nat_lt k n then x else next_of (at_place zs (k - n))) (sym (append-place next_of xs ys (points left) k a))
    ∙ sym (append-place next_of (xs ++ ys) zs n k (omega (one, a, b, arith))) ∙ ap (λ ps. next_of (at_place ps k)) (append_assoc xs ys zs)
next-is (Whiles test note body rest) after k =
    let a = count-is body note in
    let n = 1 + points body in
    let zs = points_of rest after in
    (λ i. if nat_lt k n then inside (next-is body note) k i else next-is rest after (k - n) i)
    ∙ sym (append-place next_of (record { block = Whiles test note body rest; after = after } ∷ points_of body note) zs n k (omega (a, arith)))
  where
    inside : ((n : ℕ) → next_in body note n ≡ next_of (at_place (points_of body note) n)) → (m : ℕ) → at_zero (pre_of rest after) (λ n. next_in body note n) m ≡ next_of (at_place (record { block = Whiles test note body rest; after = after } ∷ points_of body note) m)
    inside more zero = refl
    inside more (suc m) = more m
next-is (Calls note frame into callee args rest) after k =
    ap (λ x. if nat_lt k 1 then pre_of rest after else x) (next-is rest after (k - 1)) ∙ sym (cons-place next_of (record { block = Calls note frame into callee args rest; after = after }) (points_of rest after) k)

-- ---- points of a procedure, by their numbers from 1 on

pub point-found : (proc : Proc) (k : ℕ) → 1 ≤ k → found_in (block_of proc.body) (k - 1) ≡ (point_at proc k).block
point-found proc zero h = absurd (omega (h, arith))
point-found proc (suc n) h = let e : suc n - 1 ≡ n = omega arith in ap (found_in (block_of proc.body)) e ∙ found-is (block_of proc.body) (post_of proc) n

pub point-none : (proc : Proc) (k : ℕ) → k ≡ 0 → Done ≡ (point_at proc k).block
point-none proc zero h = refl
point-none proc (suc n) h = absurd (omega (h, arith))

pub point-next : (proc : Proc) (k : ℕ) → 1 ≤ k → next_in (block_of proc.body) (post_of proc) (k - 1) ≡ next_of (point_at proc k)
point-next proc zero h = absurd (omega (h, arith))
point-next proc (suc n) h = let e : suc n - 1 ≡ n = omega arith in ap (next_in (block_of proc.body) (post_of proc)) e ∙ next-is (block_of proc.body) (post_of proc) n

pub point-last : (proc : Proc) (k : ℕ) → k ≡ 0 → True ≡ next_of (point_at proc k)
point-last proc zero h = refl
point-last proc (suc n) h = absurd (omega (h, arith))
