-- Where paths lead: the commands there, and what is left of the procedure.
use Rattle.std.proofs.Common.{◌≡◌, ◌≤◌, ◌<◌, ◌+◌, ◌-◌, ℕ, zero, suc, Bool, true, false, List, [], ◌∷◌, Some, None, length, drop, max, refl, ap, sym, ◌∙◌, subst, add-one, arith}
use Rattle.std.proofs.lemmas.List.{drop_all}
use Rattle.std.proofs.lemmas.Bool.{ltb-true, ltb-false}
use Rattle.std.specs.Prelude.{Option, nat_lt, slice_get, unwrap_or}
use Rattle.dl_model.specs.declared.program.Command.{Command, Send, Await, Poll, Read, Set, If', While', Call, Row_of-Command, end_of-Command, more_of-Command, items-the_row-Command, items_hidden-the_row-Command-0}
use Rattle.dl_model.specs.declared.program.Command.TheVariants.{If as IfOf, While as WhileOf}
use Rattle.dl_term.specs.declared.syntax.Formula.{Formula}
use Rattle.dl_term.specs.Measures.{EachIsNarrow}
use Rattle.dl_model.specs.declared.program.Proc.{Proc}
use Rattle.dl_model.specs.Block.{Block, Done, joined, block_of, followed, row_block}
use Rattle.dl_model.specs.Lookup.{proc_at, no_proc}
use Rattle.dl_prog.specs.declared.slots.Slot.{Slot}
use Rattle.dl_prog.specs.declared.stack.Step.{Step}
use Rattle.dl_prog.specs.declared.stack.Step.TheVariants.{Enter, Inside}
use Rattle.dl_prog.specs.Places.{blocks, inner, commands_in, rest_in, left_in, proc_in, back_of}
use Rattle.dl_prog.specs.Ready.{BlockCanRun, ProcsCanRun, depth, depth_of, command_depth, room_below, need, Fits}
use Rattle.dl_prog.specs.Slots.{HasEach}

-- ---- blocks

pub row_blocks : (n : _) (row : Row_of-Command n) → block_of (items-the_row-Command n row) ≡ row_block row
row_blocks n end_of-Command = refl
row_blocks n (more_of-Command command rest) = ap (followed command) (row_blocks _ rest)

joined-followed : (command : Command) (rest more : Block) → joined (followed command rest) more ≡ followed command (joined rest more)
joined-followed (Send note label tag to args) rest more = refl
joined-followed (Await note label tag sender args) rest more = refl
joined-followed (Poll note got label tag sender args) rest more = refl
joined-followed (Read note into label field index) rest more = refl
joined-followed (Set target value) rest more = refl
joined-followed (If' test s left t right) rest more = refl
joined-followed (While' test note s body) rest more = refl
joined-followed (Call note frame into proc args) rest more = refl

pub joined-blocks : (commands : List Command) (rest : Block) → joined (block_of commands) rest ≡ blocks commands rest
joined-blocks [] rest = refl
joined-blocks (command ∷ commands) rest = joined-followed command (block_of commands) rest ∙ ap (followed command) (joined-blocks commands rest)

pub blocks-done : (commands : List Command) → blocks commands Done ≡ block_of commands
blocks-done [] = refl
blocks-done (command ∷ commands) = ap (followed command) (blocks-done commands)

-- the command at a position comes first of what is left there
at-suc : (commands : List Command) (at : ℕ) (command : Command) (rest : Block) → slice_get commands at ≡ Some command →
    blocks (drop at commands) rest ≡ followed command (blocks (drop (suc at) commands) rest)
at-suc [] at command rest e = absurd (cc e)
at-suc (first ∷ commands) zero command rest e = let same : first ≡ command = cc e in ap (λ c. followed c (blocks commands rest)) same
at-suc (first ∷ commands) (suc at) command rest e = at-suc commands at command rest e

pub blocks-at : (commands : List Command) (at : ℕ) (command : Command) (rest : Block) → slice_get commands at ≡ Some command →
    blocks (drop at commands) rest ≡ followed command (blocks (drop (at + 1) commands) rest)
blocks-at commands at command rest e = at-suc commands at command rest e ∙ ap (λ n. followed command (blocks (drop n commands) rest)) (sym (add-one at))

pub blocks-past : (commands : List Command) (at : ℕ) (rest : Block) → length commands ≤ at → blocks (drop at commands) rest ≡ rest
blocks-past commands at rest h = ap (λ cs. blocks cs rest) (drop_all at commands h)

pub left-at : (procs : List Proc) (steps : List Step) (at : ℕ) (command : Command) → slice_get (commands_in procs steps) at ≡ Some command →
    left_in procs steps at ≡ followed command (left_in procs steps (at + 1))
left-at procs steps at command e = blocks-at (commands_in procs steps) at command (rest_in procs steps) e

pub rest-done : (procs : List Proc) (steps : List Step) → back_of steps ≡ None → rest_in procs steps ≡ Done
rest-done procs [] e = refl
rest-done procs (Enter proc back saved ∷ outer) e = refl
rest-done procs (Inside at first back ∷ outer) e = absurd (cc e)

pub left-done : (procs : List Proc) (steps : List Step) (at : ℕ) → length (commands_in procs steps) ≤ at → back_of steps ≡ None → left_in procs steps at ≡ Done
left-done procs steps at h e = blocks-past (commands_in procs steps) at (rest_in procs steps) h ∙ rest-done procs steps e

-- ---- commands that can run

CanRunAlone : List Proc → ℕ → Command → Type 0
CanRunAlone procs number command = BlockCanRun procs number (followed command Done)

alone : (procs : List Proc) (number : ℕ) (command : Command) (rest : Block) → BlockCanRun procs number (followed command rest) →
    BlockCanRun procs number (followed command Done) × BlockCanRun procs number rest
alone procs number (Send note label tag to args) rest h = ((h.0, tt), h.1)
alone procs number (Await note label tag sender args) rest h = ((h.0, tt), h.1)
alone procs number (Poll note got label tag sender args) rest h = ((h.0, tt), h.1)
alone procs number (Read note into label field index) rest h = ((h.0, tt), h.1)
alone procs number (Set target value) rest h = ((h.0, tt), h.1)
alone procs number (If' test s left t right) rest h = ((h.0, tt), h.1)
alone procs number (While' test note s body) rest h = ((h.0, tt), h.1)
alone procs number (Call note frame into proc args) rest h = ((h.0, tt), h.1)

at-can-run : (procs : List Proc) (number : ℕ) (commands : List Command) (at : ℕ) (command : Command) → BlockCanRun procs number (block_of commands) →
    slice_get commands at ≡ Some command → BlockCanRun procs number (followed command Done)
at-can-run procs number [] at command h e = absurd (cc e)
at-can-run procs number (first ∷ commands) zero command h e =
    let same : first ≡ command = cc e in
    subst (λ c. BlockCanRun procs number (followed c Done)) same (alone procs number first (block_of commands) h).0
at-can-run procs number (first ∷ commands) (suc at) command h e = at-can-run procs number commands at command (alone procs number first (block_of commands) h).1 e

inner-can-run : (procs : List Proc) (number : ℕ) (command : Command) (first : Bool) → BlockCanRun procs number (followed command Done) →
    BlockCanRun procs number (block_of (inner (Some command) first))
inner-can-run procs number (Send note label tag to args) first h = tt
inner-can-run procs number (Await note label tag sender args) first h = tt
inner-can-run procs number (Poll note got label tag sender args) first h = tt
inner-can-run procs number (Read note into label field index) first h = tt
inner-can-run procs number (Set target value) first h = tt
inner-can-run procs number (If' test s left t right) true h = subst (BlockCanRun procs number) (sym (row_blocks _ left)) h.0.1
inner-can-run procs number (If' test s left t right) false h = subst (BlockCanRun procs number) (sym (row_blocks _ right)) h.0.2
inner-can-run procs number (While' test note s body) first h = subst (BlockCanRun procs number) (sym (row_blocks _ body)) h.0.1
inner-can-run procs number (Call note frame into proc args) first h = tt

all-can-run : (procs : List Proc) (steps : List Step) → ProcsCanRun procs → BlockCanRun procs (proc_in steps) (block_of (commands_in procs steps))
all-can-run procs [] h = tt
all-can-run procs (Enter proc back saved ∷ outer) h = there (slice_get procs proc) refl
  where
    there : (found : Option Proc) → slice_get procs proc ≡ found → BlockCanRun procs proc (block_of (unwrap_or found no_proc).body)
    there (Some it) e = (h.each proc it e).body
    there None e = tt
all-can-run procs (Inside at first back ∷ outer) h = there (slice_get (commands_in procs outer) at) refl (all-can-run procs outer h)
  where
    there : (found : Option Command) → slice_get (commands_in procs outer) at ≡ found → BlockCanRun procs (proc_in outer) (block_of (commands_in procs outer)) →
        BlockCanRun procs (proc_in outer) (block_of (inner found first))
    there (Some command) e can = inner-can-run procs (proc_in outer) command first (at-can-run procs (proc_in outer) (commands_in procs outer) at command can e)
    there None e can = tt

-- what a machine may rely on at a command
pub here-can-run : (procs : List Proc) (steps : List Step) (at : ℕ) (command : Command) → ProcsCanRun procs → slice_get (commands_in procs steps) at ≡ Some command →
    BlockCanRun procs (proc_in steps) (followed command Done)
here-can-run procs steps at command h e = at-can-run procs (proc_in steps) (commands_in procs steps) at command (all-can-run procs steps h) e

pub few-params : (procs : List Proc) (number : ℕ) → ProcsCanRun procs → length (proc_at procs number).params ≤ 8
few-params procs number h = there (slice_get procs number) refl
  where
    there : (found : Option Proc) → slice_get procs number ≡ found → length (unwrap_or found no_proc).params ≤ 8
    there (Some it) e = (h.each number it e).few_params
    there None e = omega arith

pub few-locals : (procs : List Proc) (number : ℕ) → ProcsCanRun procs → length (proc_at procs number).locals ≤ 16
few-locals procs number h = there (slice_get procs number) refl
  where
    there : (found : Option Proc) → slice_get procs number ≡ found → length (unwrap_or found no_proc).locals ≤ 16
    there (Some it) e = (h.each number it e).few_locals
    there None e = omega arith

-- the test of a choice or a loop
abbrev pub test_of : Command → Option Formula
test_of (Send note label tag to args) = None
test_of (Await note label tag sender args) = None
test_of (Poll note got label tag sender args) = None
test_of (Read note into label field index) = None
test_of (Set target value) = None
test_of (If' test s left t right) = Some test
test_of (While' test note s body) = Some test
test_of (Call note frame into proc args) = None

-- ---- room

pub depth-followed : (command : Command) (rest : Block) → depth (followed command rest) ≡ max (command_depth command) (depth rest)
depth-followed (Send note label tag to args) rest = omega arith
depth-followed (Await note label tag sender args) rest = omega arith
depth-followed (Poll note got label tag sender args) rest = omega arith
depth-followed (Read note into label field index) rest = omega arith
depth-followed (Set target value) rest = omega arith
depth-followed (If' test s left t right) rest = omega arith
depth-followed (While' test note s body) rest = omega arith
depth-followed (Call note frame into proc args) rest = omega arith

pub depth-more : (command : Command) (commands : List Command) → depth_of (command ∷ commands) ≡ max (command_depth command) (depth_of commands)
depth-more command commands = depth-followed command (block_of commands)

depth-at : (commands : List Command) (at : ℕ) (command : Command) → slice_get commands at ≡ Some command → command_depth command ≤ depth_of commands
depth-at [] at command e = absurd (cc e)
depth-at (first ∷ commands) zero command e =
    let same : first ≡ command = cc e in
    let more = depth-more first commands in
    subst (λ c. command_depth c ≤ depth_of (first ∷ commands)) same (omega arith)
depth-at (first ∷ commands) (suc at) command e =
    let later = depth-at commands at command e in
    let more = depth-more first commands in
    omega arith

-- a choice or a loop
abbrev pub is_open : Command → Bool
is_open (Send note label tag to args) = false
is_open (Await note label tag sender args) = false
is_open (Poll note got label tag sender args) = false
is_open (Read note into label field index) = false
is_open (Set target value) = false
is_open (If' test s left t right) = true
is_open (While' test note s body) = true
is_open (Call note frame into proc args) = false

depth-inner : (command : Command) (first : Bool) → is_open command ≡ true → 1 + depth_of (inner (Some command) first) ≤ command_depth command
depth-inner (Send note label tag to args) first e = absurd (cc e)
depth-inner (Await note label tag sender args) first e = absurd (cc e)
depth-inner (Poll note got label tag sender args) first e = absurd (cc e)
depth-inner (Read note into label field index) first e = absurd (cc e)
depth-inner (Set target value) first e = absurd (cc e)
depth-inner (If' test s left t right) true e = let same = ap depth (row_blocks _ left) in omega arith
depth-inner (If' test s left t right) false e = let same = ap depth (row_blocks _ right) in omega arith
depth-inner (While' test note s body) first e = let same = ap depth (row_blocks _ body) in omega arith
depth-inner (Call note frame into proc args) first e = absurd (cc e)

fits-need : (procs : List Proc) (spare : ℕ) (steps : List Step) → Fits procs spare steps → need procs steps ≤ spare
fits-need procs spare [] h = omega arith
fits-need procs spare (Inside at first back ∷ outer) h = h.0
fits-need procs spare (Enter proc back saved ∷ []) h = h
fits-need procs spare (Enter proc back saved ∷ step ∷ outer) h = h.0

-- there is room for a step into a choice or a loop
pub room-inside : (procs : List Proc) (spare : ℕ) (steps : List Step) (at : ℕ) (command : Command) → Fits procs spare steps →
    slice_get (commands_in procs steps) at ≡ Some command → is_open command ≡ true → 0 < spare
room-inside procs spare steps at command h e o =
    let enough = fits-need procs spare steps h in
    let here = depth-at (commands_in procs steps) at command e in
    let deeper = depth-inner command true o in
    omega arith

pub fits-inside : (procs : List Proc) (spare : ℕ) (steps : List Step) (at : ℕ) (command : Command) (first : Bool) (back : ℕ) → Fits procs spare steps →
    slice_get (commands_in procs steps) at ≡ Some command → is_open command ≡ true → Fits procs (spare - 1) (Inside at first back ∷ steps)
fits-inside procs zero steps at command first back h e o = let some = room-inside procs zero steps at command h e o in absurd (omega arith)
fits-inside procs (suc spare) steps at command first back h e o =
    let enough = fits-need procs (suc spare) steps h in
    let here = depth-at (commands_in procs steps) at command e in
    let deeper = depth-inner command first o in
    let same : depth_of (inner (slice_get (commands_in procs steps) at) first) ≡ depth_of (inner (Some command) first) = ap (λ c. depth_of (inner c first)) e in
    let less : suc spare - 1 ≡ spare = omega arith in
    subst (λ n. Fits procs n (Inside at first back ∷ steps)) (sym less) (omega arith, h)

below-more : (procs : List Proc) (n m : ℕ) → n < m → room_below procs n + (1 + depth_of (proc_at procs n).body) ≤ room_below procs m
below-more procs n zero h = absurd (omega arith)
below-more procs n (suc m) h = by_test (nat_lt n m) refl (below-more procs n m)
  where
    by_test : (t : Bool) → nat_lt n m ≡ t → (n < m → room_below procs n + (1 + depth_of (proc_at procs n).body) ≤ room_below procs m) →
        room_below procs n + (1 + depth_of (proc_at procs n).body) ≤ room_below procs (suc m)
    by_test true e before = let earlier = before (ltb-true n m e) in omega arith
    by_test false e before =
        let past : m ≤ n = ltb-false n m e in
        let same : n ≡ m = omega arith in
        subst (λ k. room_below procs n + (1 + depth_of (proc_at procs n).body) ≤ room_below procs (suc k)) same (omega arith)

pub room-enter : (procs : List Proc) (spare : ℕ) (steps : List Step) (callee : ℕ) → Fits procs spare steps → callee < proc_in steps → 0 < spare
room-enter procs spare steps callee h less =
    let enough = fits-need procs spare steps h in
    let room = below-more procs callee (proc_in steps) less in
    omega arith

pub fits-enter : (procs : List Proc) (spare : ℕ) (steps : List Step) (callee back : ℕ) (saved : List Slot) → Fits procs spare steps → callee < proc_in steps →
    HasEach saved (proc_at procs (proc_in steps)).locals → Fits procs (spare - 1) (Enter callee back saved ∷ steps)
fits-enter procs zero steps callee back saved h less locals = let some = room-enter procs zero steps callee h less in absurd (omega arith)
fits-enter procs (suc spare) steps callee back saved h less locals =
    let enough = fits-need procs (suc spare) steps h in
    let room = below-more procs callee (proc_in steps) less in
    let less_one : suc spare - 1 ≡ spare = omega arith in
    let needs : need procs (Enter callee back saved ∷ steps) ≤ spare = omega arith in
    subst (λ n. Fits procs n (Enter callee back saved ∷ steps)) (sym less_one) (by_outer steps h needs locals)
  where
    by_outer : (steps : List Step) → Fits procs (suc spare) steps → need procs (Enter callee back saved ∷ steps) ≤ spare →
        HasEach saved (proc_at procs (proc_in steps)).locals → Fits procs spare (Enter callee back saved ∷ steps)
    by_outer [] h needs locals = needs
    by_outer (step ∷ outer) h needs locals = (needs, locals, h)

-- ---- the commands in a command

abbrev yes_row : Command → (n : _) × Row_of-Command n
yes_row (If' test s left t right) = (_, left)
yes_row _ = (_, end_of-Command)

abbrev no_row : Command → (n : _) × Row_of-Command n
no_row (If' test s left t right) = (_, right)
no_row _ = (_, end_of-Command)

abbrev body_row : Command → (n : _) × Row_of-Command n
body_row (While' test note s body) = (_, body)
body_row _ = (_, end_of-Command)

yes-block : (test : Formula) (chosen other : List Command) → row_block (yes_row (IfOf test chosen other)).1 ≡ block_of chosen
yes-block test chosen other = let row = yes_row (IfOf test chosen other) in sym (row_blocks row.0 row.1) ∙ ap block_of (items_hidden-the_row-Command-0 chosen)

no-block : (test : Formula) (chosen other : List Command) → row_block (no_row (IfOf test chosen other)).1 ≡ block_of other
no-block test chosen other = let row = no_row (IfOf test chosen other) in sym (row_blocks row.0 row.1) ∙ ap block_of (items_hidden-the_row-Command-0 other)

body-block : (test note : Formula) (body : List Command) → row_block (body_row (WhileOf test note body)).1 ≡ block_of body
body-block test note body = let row = body_row (WhileOf test note body) in sym (row_blocks row.0 row.1) ∙ ap block_of (items_hidden-the_row-Command-0 body)

pub if-depth : (test : Formula) (chosen other : List Command) → command_depth (IfOf test chosen other) ≡ 1 + max (depth_of chosen) (depth_of other)
if-depth test chosen other =
    let first = ap depth (yes-block test chosen other) in
    let second = ap depth (no-block test chosen other) in
    omega arith

pub while-depth : (test note : Formula) (body : List Command) → command_depth (WhileOf test note body) ≡ 1 + depth_of body
while-depth test note body = let inside = ap depth (body-block test note body) in omega arith

pub test-can-run : (procs : List Proc) (number : ℕ) (command : Command) (test : Formula) → BlockCanRun procs number (followed command Done) → test_of command ≡ Some test → EachIsNarrow test
test-can-run procs number (Send note label tag to args) test h e = absurd (cc e)
test-can-run procs number (Await note label tag sender args) test h e = absurd (cc e)
test-can-run procs number (Poll note got label tag sender args) test h e = absurd (cc e)
test-can-run procs number (Read note into label field index) test h e = absurd (cc e)
test-can-run procs number (Set target value) test h e = absurd (cc e)
test-can-run procs number (If' guard s left t right) test h e = let same : guard ≡ test = cc e in subst EachIsNarrow same h.0.0
test-can-run procs number (While' guard note s body) test h e = let same : guard ≡ test = cc e in subst EachIsNarrow same h.0.0
test-can-run procs number (Call note frame into proc args) test h e = absurd (cc e)

pub drop-one : {X : Type 0} (xs : List X) (n : ℕ) → drop (n + 1) xs ≡ drop 1 (drop n xs)
drop-one xs n = ap (λ k. drop k xs) (add-one n) ∙ by_suc xs n
  where
    by_suc : {X : Type 0} (xs : List X) (n : ℕ) → drop (suc n) xs ≡ drop 1 (drop n xs)
    by_suc [] zero = refl
    by_suc [] (suc n) = refl
    by_suc (x ∷ xs) zero = refl
    by_suc (x ∷ xs) (suc n) = by_suc xs n
