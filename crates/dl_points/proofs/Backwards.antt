-- What commands ask for is what their block asks for, and where no way passes, what follows does not matter.
use Rattle.std.proofs.Common.{◌≡◌, ◌≤◌, ◌<◌, ◌+◌, ◌-◌, ℕ, zero, suc, Bool, true, false, ◌&&◌, ◌||◌, if◌then◌else◌, List, [], ◌∷◌, take, drop, length, get_or, refl, sym, ◌∙◌, ap, arith}
use Rattle.std.proofs.lemmas.List.{drop_all}
use Rattle.std.specs.List.{list_all}
use Rattle.dl_term.specs.declared.syntax.Formula.{Formula, Not, And, Implies}
use Rattle.dl_term.specs.Measures.{is_oversized}
use Rattle.dl_model.specs.declared.program.Command.{Command, Send, Await, Poll, Read, Set, If' as IfShape, While', Call}
use Rattle.dl_model.specs.declared.program.Command.TheVariants.{If as IfOf}
use Rattle.dl_model.proofs.Small.{or-true-left, or-true-right}
use Rattle.dl_model.specs.Block.{Block, Done, Sends, Awaits, Polls, Reads, Sets, Ifs, Whiles, Calls, block_of, followed, row_block}
use Rattle.dl_subst.specs.Substitution.{substituted}
use Rattle.dl_triples.specs.Points.{pre_of}
use Rattle.dl_points.specs.Passing.{pre_of_command, pre_of_commands, block_passes, command_passes, reach_of}
use Rattle.dl_triples.proofs.Running.{here, yes-block, no-block, yes_row, no_row}
use Rattle.dl_points.proofs.Sized.{Fits, larger-too, commands-fit, either-side}

-- ---- a command and what follows it

followed-pre : (command : Command) (rest : Block) (after : Formula) → pre_of (followed command rest) after ≡ pre_of_command command (pre_of rest after)
followed-pre (Send note label tag to args) rest after = refl
followed-pre (Await note label tag sender args) rest after = refl
followed-pre (Poll note got label tag sender args) rest after = refl
followed-pre (Read note into label field index) rest after = refl
followed-pre (Set target value) rest after = refl
followed-pre (IfShape test s left t right) rest after = refl
followed-pre (While' test note s body) rest after = refl
followed-pre (Call note frame into callee args) rest after = refl

pub commands-pre : (commands : List Command) (after : Formula) → pre_of_commands commands after ≡ pre_of (block_of commands) after
commands-pre [] after = refl
commands-pre (command ∷ commands) after = ap (pre_of_command command) (commands-pre commands after) ∙ sym (followed-pre command (block_of commands) after)

followed-passes : (command : Command) (rest : Block) → block_passes (followed command rest) ≡ (command_passes command && block_passes rest)
followed-passes (Send note label tag to args) rest = refl
followed-passes (Await note label tag sender args) rest = refl
followed-passes (Poll note got label tag sender args) rest = refl
followed-passes (Read note into label field index) rest = refl
followed-passes (Set target value) rest = refl
followed-passes (IfShape test s left t right) rest = refl
followed-passes (While' test note s body) rest = refl
followed-passes (Call note frame into callee args) rest = refl

pub commands-passes : (commands : List Command) → list_all command_passes commands ≡ block_passes (block_of commands)
commands-passes [] = refl
commands-passes (command ∷ commands) = ap (λ b. command_passes command && b) (commands-passes commands) ∙ sym (followed-passes command (block_of commands))

-- ---- the sides of a choice

pub if-pre : (test : Formula) (chosen other : List Command) (after : Formula) →
    pre_of_command (IfOf test chosen other) after ≡ And (Implies test (pre_of_commands chosen after)) (Implies (Not test) (pre_of_commands other after))
if-pre test chosen other after =
    ap (λ b. And (Implies test (pre_of b after)) (Implies (Not test) (pre_of (row_block (no_row (IfOf test chosen other)).1) after))) (yes-block test chosen other)
    ∙ ap (λ b. And (Implies test (pre_of (block_of chosen) after)) (Implies (Not test) (pre_of b after))) (no-block test chosen other)
    ∙ (λ i. And (Implies test (sym (commands-pre chosen after) i)) (Implies (Not test) (sym (commands-pre other after) i)))

pub choice-made : (command : Command) (test : Formula) (chosen other run more : List Command) (f copy first second : Formula) → command ≡ IfOf test chosen other → run ≡ chosen → more ≡ other →
    copy ≡ f → first ≡ pre_of_commands run copy → second ≡ pre_of_commands more f → And (Implies test first) (Implies (Not test) second) ≡ pre_of_command command f
choice-made command test chosen other run more f copy first second is r m k a b =
    (λ i. And (Implies test (a i)) (Implies (Not test) (b i)))
    ∙ (λ i. And (Implies test (pre_of_commands (r i) (k i))) (Implies (Not test) (pre_of_commands (m i) f)))
    ∙ sym (if-pre test chosen other f) ∙ ap (λ c. pre_of_command c f) (sym is)

-- too large on one side
pub large-choice : (command : Command) (test : Formula) (chosen other : List Command) (f : Formula) → command ≡ IfOf test chosen other →
    (is_oversized (pre_of_commands chosen f) || is_oversized (pre_of_commands other f)) ≡ true → is_oversized (pre_of_command command f) ≡ true
large-choice command test chosen other f is large =
    ap (λ c. is_oversized (pre_of_command c f)) is ∙ ap is_oversized (if-pre test chosen other f) ∙ either-side test (pre_of_commands chosen f) (pre_of_commands other f) large

pub large-chosen : (command : Command) (test : Formula) (chosen other run : List Command) (f copy : Formula) → command ≡ IfOf test chosen other → run ≡ chosen → copy ≡ f →
    is_oversized (pre_of_commands run copy) ≡ true → is_oversized (pre_of_command command f) ≡ true
large-chosen command test chosen other run f copy is r k large =
    let e : is_oversized (pre_of_commands chosen f) ≡ true = sym (λ i. is_oversized (pre_of_commands (r i) (k i))) ∙ large in
    large-choice command test chosen other f is (or-true-left (is_oversized (pre_of_commands chosen f)) (is_oversized (pre_of_commands other f)) e)

pub large-other : (command : Command) (test : Formula) (chosen other run : List Command) (f : Formula) → command ≡ IfOf test chosen other → run ≡ other →
    is_oversized (pre_of_commands run f) ≡ true → is_oversized (pre_of_command command f) ≡ true
large-other command test chosen other run f is r large =
    let e : is_oversized (pre_of_commands other f) ≡ true = sym (λ i. is_oversized (pre_of_commands (r i) f)) ∙ large in
    large-choice command test chosen other f is (or-true-right (is_oversized (pre_of_commands chosen f)) (is_oversized (pre_of_commands other f)) e)

pub if-passes : (test : Formula) (chosen other : List Command) → command_passes (IfOf test chosen other) ≡ (list_all command_passes chosen || list_all command_passes other)
if-passes test chosen other =
    ap (λ b. block_passes b || block_passes (row_block (no_row (IfOf test chosen other)).1)) (yes-block test chosen other)
    ∙ ap (λ b. block_passes (block_of chosen) || block_passes b) (no-block test chosen other)
    ∙ (λ i. sym (commands-passes chosen) i || sym (commands-passes other) i)

pub passes-first : (a b r : Bool) → r ≡ a → r ≡ true → true ≡ (a || b)
passes-first true b r e h = refl
passes-first false b r e h = cc

pub passes-second : (a b r s : Bool) → r ≡ a → r ≡ false → s ≡ b → s ≡ (a || b)
passes-second true b r s e h k = cc
passes-second false b r s e h k = k

-- ---- where no way passes, what follows does not matter

both-false : (a b : Bool) → (a || b) ≡ false → (a ≡ false) × (b ≡ false)
both-false true b h = absurd (cc h)
both-false false b h = (refl, h)

second-false : (a b : Bool) → a ≡ true → (a && b) ≡ false → b ≡ false
second-false true b e h = h
second-false false b e h = cc

abbrev choice : Formula → Block → Block → Formula → Formula → Formula
choice test left right p q = And (Implies test (pre_of left p)) (Implies (Not test) (pre_of right q))

stops-in : (test : Formula) (left right rest : Block) (one other : Formula) (b : Bool) → block_passes rest ≡ b → ((block_passes left || block_passes right) && b) ≡ false →
    ((p q : Formula) → block_passes left ≡ false → pre_of left p ≡ pre_of left q) → ((p q : Formula) → block_passes right ≡ false → pre_of right p ≡ pre_of right q) →
    (block_passes rest ≡ false → pre_of rest one ≡ pre_of rest other) →
    choice test left right (pre_of rest one) (pre_of rest one) ≡ choice test left right (pre_of rest other) (pre_of rest other)
stops-in test left right rest one other false e h l r s = ap (λ p. choice test left right p p) (s e)
stops-in test left right rest one other true e h l r s =
    let sides = both-false (block_passes left) (block_passes right) (second-false true (block_passes left || block_passes right) refl (turn (block_passes left || block_passes right) h)) in
    (λ i. And (Implies test (l (pre_of rest one) (pre_of rest other) sides.0 i)) (Implies (Not test) (r (pre_of rest one) (pre_of rest other) sides.1 i)))
  where
    turn : (a : Bool) → (a && true) ≡ false → (true && a) ≡ false
    turn true h = h
    turn false h = h

pub stops : (block : Block) (one other : Formula) → block_passes block ≡ false → pre_of block one ≡ pre_of block other
stops Done one other h = cc
stops (Sends note label tag to args rest) one other h = refl
stops (Awaits note label tag sender args rest) one other h = refl
stops (Polls note got label tag sender args rest) one other h = refl
stops (Reads note into label field index rest) one other h = refl
stops (Sets target value rest) one other h = ap (λ f. substituted f target value) (stops rest one other h)
stops (Ifs test left right rest) one other h =
    stops-in test left right rest one other (block_passes rest) refl h (λ p q e. stops left p q e) (λ p q e. stops right p q e) (stops rest one other)
stops (Whiles test note body rest) one other h = refl
stops (Calls note frame into callee args rest) one other h = refl

pub command-stops : (command : Command) (one other : Formula) → command_passes command ≡ false → pre_of_command command one ≡ pre_of_command command other
command-stops (Send note label tag to args) one other h = refl
command-stops (Await note label tag sender args) one other h = refl
command-stops (Poll note got label tag sender args) one other h = refl
command-stops (Read note into label field index) one other h = refl
command-stops (Set target value) one other h = cc
command-stops (IfShape test s left t right) one other h =
    let sides = both-false (block_passes (row_block left)) (block_passes (row_block right)) h in
    λ i. And (Implies test (stops (row_block left) one other sides.0 i)) (Implies (Not test) (stops (row_block right) one other sides.1 i))
command-stops (While' test note s body) one other h = refl
command-stops (Call note frame into callee args) one other h = refl

pub commands-stop : (commands : List Command) (one other : Formula) → list_all command_passes commands ≡ false → pre_of_commands commands one ≡ pre_of_commands commands other
commands-stop [] one other h = cc
commands-stop (command ∷ commands) one other h = go (command_passes command) refl h (commands-stop commands one other)
  where
    go : (b : Bool) → command_passes command ≡ b → (b && list_all command_passes commands) ≡ false →
        (list_all command_passes commands ≡ false → pre_of_commands commands one ≡ pre_of_commands commands other) →
        pre_of_command command (pre_of_commands commands one) ≡ pre_of_command command (pre_of_commands commands other)
    go true e k more = ap (pre_of_command command) (more k)
    go false e k more = command-stops command (pre_of_commands commands one) (pre_of_commands commands other) e

-- ---- from the last command that matters to the first one

none-taken : (commands : List Command) → take 0 commands ≡ []
none-taken [] = refl
none-taken (command ∷ commands) = refl

-- the commands after the reach do not matter
pub reach-all : (commands : List Command) (after : Formula) → pre_of_commands (take (reach_of commands) commands) after ≡ pre_of_commands commands after
reach-all [] after = refl
reach-all (command ∷ commands) after = go (command_passes command) refl (reach-all commands after)
  where
    go : (b : Bool) → command_passes command ≡ b → pre_of_commands (take (reach_of commands) commands) after ≡ pre_of_commands commands after →
        pre_of_commands (take (if b then suc (reach_of commands) else 1) (command ∷ commands)) after ≡ pre_of_command command (pre_of_commands commands after)
    go true e more = ap (pre_of_command command) more
    go false e more = ap (λ cs. pre_of_command command (pre_of_commands cs after)) (none-taken commands) ∙ command-stops command after (pre_of_commands commands after) e

-- the commands before the last one of the reach let a way through
pub reach-passes : (commands : List Command) (n : ℕ) → n < reach_of commands → list_all command_passes (take n commands) ≡ true
reach-passes commands zero h = ap (list_all command_passes) (none-taken commands)
reach-passes [] (suc n) h = absurd (omega (h, arith))
reach-passes (command ∷ commands) (suc n) h = go (command_passes command) refl h (reach-passes commands n)
  where
    go : (b : Bool) → command_passes command ≡ b → suc n < (if b then suc (reach_of commands) else 1) → (n < reach_of commands → list_all command_passes (take n commands) ≡ true) →
        (command_passes command && list_all command_passes (take n commands)) ≡ true
    go true e k more = ap (λ c. c && list_all command_passes (take n commands)) e ∙ more (omega (k, arith))
    go false e k more = absurd (omega (k, arith))

-- one command more, from the end
pub pre-take : (commands : List Command) (n : ℕ) (command : Command) (after : Formula) → n < length commands → command ≡ get_or commands n command →
    pre_of_commands (take (suc n) commands) after ≡ pre_of_commands (take n commands) (pre_of_command command after)
pre-take [] n command after h e = absurd (omega (h, arith))
pre-take (first ∷ commands) zero command after h e =
    ap (λ cs. pre_of_command first (pre_of_commands cs after)) (none-taken commands) ∙ (ap (λ c. pre_of_command c after) (sym e) ∙ ap (λ cs. pre_of_commands cs (pre_of_command command after)) (sym (none-taken (first ∷ commands))))
pre-take (first ∷ commands) (suc n) command after h e = ap (pre_of_command first) (pre-take commands n command after (omega (h, arith)) e)

pub next-back : (commands : List Command) (count done at : ℕ) (command : Command) (now later all : Formula) → count ≤ length commands → done < count → at ≡ count - 1 - done →
    command ≡ get_or commands at command → pre_of_commands (take (count - done) commands) now ≡ all → later ≡ pre_of_command command now →
    pre_of_commands (take (count - (done + 1)) commands) later ≡ all
next-back commands count done at command now later all h k a e before is =
    let n : count - done ≡ suc at = omega arith in
    let m : count - (done + 1) ≡ at = omega arith in
    ap (λ j. pre_of_commands (take j commands) later) m ∙ ap (pre_of_commands (take at commands)) is ∙ sym (pre-take commands at command now (omega arith) e)
    ∙ ap (λ j. pre_of_commands (take j commands) now) (sym n) ∙ before

-- what is too large on the way makes all of it too large
pub large-back : (commands : List Command) (count done at : ℕ) (command : Command) (now all : Formula) → count ≡ reach_of commands → count ≤ length commands → done < count → at ≡ count - 1 - done →
    command ≡ get_or commands at command → pre_of_commands (take (count - done) commands) now ≡ all → is_oversized (pre_of_command command now) ≡ true → is_oversized all ≡ true
large-back commands count done at command now all r h k a e before large =
    let n : count - done ≡ suc at = omega arith in
    let whole : pre_of_commands (take at commands) (pre_of_command command now) ≡ all =
    sym (pre-take commands at command now (omega arith) e) ∙ ap (λ j. pre_of_commands (take j commands) now) (sym n) ∙ before in
    let fits : Fits (pre_of_command command now) (pre_of_commands (take at commands) (pre_of_command command now)) =
    commands-fit (take at commands) (pre_of_command command now) (reach-passes commands at (omega arith)) in
    sym (ap is_oversized whole) ∙ larger-too (pre_of_command command now) (pre_of_commands (take at commands) (pre_of_command command now)) fits large

-- nothing is left before
pub none-back : (commands : List Command) (count done : ℕ) (now all : Formula) → count ≤ done → pre_of_commands (take (count - done) commands) now ≡ all → now ≡ all
none-back commands count done now all h before =
    let n : count - done ≡ 0 = omega arith in
    sym (ap (λ cs. pre_of_commands cs now) (none-taken commands)) ∙ (sym (ap (λ j. pre_of_commands (take j commands) now) n) ∙ before)

-- all of the reach is left at first
pub first-back : (commands : List Command) (count : ℕ) (after : Formula) → count ≡ reach_of commands → pre_of_commands (take (count - 0) commands) after ≡ pre_of_commands commands after
first-back commands count after e =
    let n : count - 0 ≡ reach_of commands = omega (e, arith) in
    ap (λ j. pre_of_commands (take j commands) after) n ∙ reach-all commands after

-- ---- the reach

passes-go : (n : ℕ) (b : Bool) → b ≡ true → (if b then suc n else 1) ≡ suc n
passes-go n true e = refl
passes-go n false e = cc

stops-go : (n : ℕ) (b : Bool) → b ≡ false → (if b then suc n else 1) ≡ 1
stops-go n true e = cc
stops-go n false e = refl

pub reach-later : (commands : List Command) (i all : ℕ) (command : Command) → i < length commands → command ≡ get_or commands i command → command_passes command ≡ true →
    i + reach_of (drop i commands) ≡ all → i + 1 + reach_of (drop (i + 1) commands) ≡ all
reach-later commands i all command h e p before =
    let more : reach_of (drop i commands) ≡ suc (reach_of (drop (i + 1) commands)) = ap reach_of (here commands i command h e) ∙ passes-go (reach_of (drop (i + 1) commands)) (command_passes command) p in
    omega (more, before, arith)

pub reach-here : (commands : List Command) (i all : ℕ) (command : Command) → i < length commands → command ≡ get_or commands i command → command_passes command ≡ false →
    i + reach_of (drop i commands) ≡ all → i + 1 ≡ all
reach-here commands i all command h e p before =
    let more : reach_of (drop i commands) ≡ 1 = ap reach_of (here commands i command h e) ∙ stops-go (reach_of (drop (i + 1) commands)) (command_passes command) p in
    omega (more, before, arith)

pub reach-none : (commands : List Command) (i n all : ℕ) → length commands ≤ i → i ≡ n → i + reach_of (drop i commands) ≡ all → n ≡ all
reach-none commands i n all h e before =
    let none : reach_of (drop i commands) ≡ 0 = ap reach_of (drop_all i commands h) in
    omega (none, e, before, arith)
