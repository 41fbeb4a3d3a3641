-- What a tick at each command does to the model's machine.
use Rattle.std.proofs.Common.{◌≡◌, ◌≤◌, ◌<◌, ◌+◌, ◌-◌, ℕ, zero, suc, ℤ, Bool, true, false, List, [], ◌∷◌, Some, None, length, drop, refl, ap, sym, ◌∙◌, subst, add-one, arith}
use Rattle.std.specs.Prelude.{Option, slice_get, if◌then◌else◌}
use Rattle.dl_term.specs.declared.syntax.Formula.{Formula}
use Rattle.dl_term.specs.declared.syntax.Term.{Term}
use Rattle.dl_term.specs.Names.{Names, with_number}
use Rattle.dl_model.specs.declared.history.Call.{Call as Asked}
use Rattle.dl_model.specs.declared.program.Command.{Command, Send, Await, Poll, Read, Set, If', While', Call, items-the_row-Command}
use Rattle.dl_model.specs.declared.program.Proc.{Proc}
use Rattle.dl_model.specs.Block.{Block, Done, joined, followed, row_block}
use Rattle.dl_model.specs.Lookup.{proc_at}
use Rattle.dl_model.specs.Sorts.{has, is_i64, all_i64}
use Rattle.dl_model.specs.Words.{me_word}
use Rattle.dl_model.specs.Machine.{Machine, Working, Over, Frame, Ticks, Asks, Stops, next, next_at, entered, entry_names, returned, resumed, value_of, values_of, passes}
use Rattle.dl_prog.specs.declared.answer.At.{At}
use Rattle.dl_prog.specs.declared.answer.At.TheVariants as at
use Rattle.dl_prog.specs.declared.slots.Slot.{Slot}
use Rattle.dl_prog.specs.declared.stack.Step.{Step}
use Rattle.dl_prog.specs.declared.stack.Step.TheVariants.{Enter, Inside}
use Rattle.dl_prog.specs.declared.cont.Cont.{Cont}
use Rattle.dl_prog.specs.Slots.{named, put_all, HasEach}
use Rattle.dl_prog.specs.Stack.{Path}
use Rattle.dl_prog.specs.Places.{blocks, inner, commands_in, left_in, proc_in, back_of, caller_of, saved_in, callers_in, machine_in, machine_or, machine_of}
use Rattle.dl_prog.specs.Ready.{ProcsCanRun, IsReady, IsSettled, Fits}
use Rattle.dl_prog.specs.Moves.{answer_of, moved, gone_inside, gone_back, HasEntered, into_of, resumed_with}
use Rattle.dl_prog.proofs.SlotLemmas.{named-put, has-put}
use Rattle.dl_prog.proofs.PlaceLemmas.{row_blocks, joined-blocks, blocks-done, blocks-past, left-at, left-done, here-can-run, test_of, is_open, fits-inside, fits-enter}

-- ---- ticks, calls and stops

pub record Moved (procs : List Proc) (old new : Cont) (told : At) : Type 0 where
  pub ready : IsReady procs new
  pub answer : told ≡ answer_of (next procs (machine_of procs old))
  pub moves : machine_of procs new ≡ moved (machine_of procs old) (next procs (machine_of procs old))

pub machine-in : (procs : List Proc) (cont : Cont) → cont.over ≡ None → machine_of procs cont ≡ machine_in procs cont.steps.items cont.at cont.slots
machine-in procs cont e = ap (λ o. machine_or o (machine_in procs cont.steps.items cont.at cont.slots)) e

pub next-here : (procs : List Proc) (cont : Cont) (command : Command) → cont.over ≡ None → slice_get (commands_in procs cont.steps.items) cont.at ≡ Some command →
    next procs (machine_of procs cont)
    ≡ next_at procs (proc_in cont.steps.items) (named cont.slots) (callers_in procs cont.steps.items) (followed command (left_in procs cont.steps.items (cont.at + 1)))
next-here procs cont command o e =
    ap (next procs) (machine-in procs cont o)
    ∙ ap (next_at procs (proc_in cont.steps.items) (named cont.slots) (callers_in procs cont.steps.items)) (left-at procs cont.steps.items cont.at command e)

pub asks : (procs : List Proc) (old : Cont) (told : At) (asked : Asked) → IsReady procs old → next procs (machine_of procs old) ≡ Asks asked → told ≡ at.Call asked → Moved procs old old told
asks procs old told asked r n a = record { ready = r; answer = a ∙ sym (ap answer_of n); moves = sym (ap (moved (machine_of procs old)) n) }

pub stops : (procs : List Proc) (old : Cont) (told : At) → IsReady procs old → next procs (machine_of procs old) ≡ Stops → told ≡ at.Stopped → Moved procs old old told
stops procs old told r n a = record { ready = r; answer = a ∙ sym (ap answer_of n); moves = sym (ap (moved (machine_of procs old)) n) }

pub asks-or-stops : (procs : List Proc) (old : Cont) (told : At) (asked : Asked) (t : Bool) → IsReady procs old → next procs (machine_of procs old) ≡ (if t then Asks asked else Stops) →
    told ≡ (if t then at.Call asked else at.Stopped) → Moved procs old old told
asks-or-stops procs old told asked true r n a = asks procs old told asked r n a
asks-or-stops procs old told asked false r n a = stops procs old told r n a

pub ticks : (procs : List Proc) (old new : Cont) (told : At) (after : Machine) → IsReady procs new → next procs (machine_of procs old) ≡ Ticks after → told ≡ at.Tick →
    machine_of procs new ≡ after → Moved procs old new told
ticks procs old new told after r n a m = record { ready = r; answer = a ∙ sym (ap answer_of n); moves = m ∙ sym (ap (moved (machine_of procs old)) n) }

pub ticks-or-stops : (procs : List Proc) (old new ticked : Cont) (told : At) (after : Machine) (t : Bool) → IsReady procs old → IsReady procs ticked →
    next procs (machine_of procs old) ≡ (if t then Ticks after else Stops) → told ≡ (if t then at.Tick else at.Stopped) → new ≡ (if t then ticked else old) →
    machine_of procs ticked ≡ after → Moved procs old new told
ticks-or-stops procs old new ticked told after true r s n a e m = ticks procs old new told after (subst (IsReady procs) (sym e) s) n a (ap (machine_of procs) e ∙ m)
ticks-or-stops procs old new ticked told after false r s n a e m = subst (λ (x : Cont). Moved procs old x told) (sym e) (stops procs old told r n a)

-- ---- an assignment

-- the machine with a new number for a local
pub put-machine : (procs : List Proc) (steps : List Step) (at : ℕ) (slots : List Slot) (target : ℕ) (new : ℤ) →
    HasEach slots (proc_at procs (proc_in steps)).locals → has (proc_at procs (proc_in steps)).locals target ≡ true →
    machine_in procs steps at (put_all target new slots)
    ≡ Working (record { proc = proc_in steps; left = left_in procs steps at; names = with_number (named slots) target new }) (callers_in procs steps)
put-machine procs steps at slots target new h e =
    ap (λ (n : Names). Working (record { proc = proc_in steps; left = left_in procs steps at; names = n }) (callers_in procs steps)) (named-put slots target new (h.each target e))

pub put-ready : (procs : List Proc) (cont : Cont) (target : ℕ) (new : ℤ) → IsReady procs cont → IsReady procs (record cont { at = cont.at + 1; slots = put_all target new cont.slots })
put-ready procs cont target new r = record { fits = r.fits; locals = has-put cont.slots target new (proc_at procs (proc_in cont.steps.items)).locals r.locals }

pub set-moves : (procs : List Proc) (old new : Cont) (told : At) (target : ℕ) (value : Term) → ProcsCanRun procs → IsReady procs old → old.over ≡ None →
    slice_get (commands_in procs old.steps.items) old.at ≡ Some (Set target value) →
    told ≡ (if is_i64 (value_of value (named old.slots)) then at.Tick else at.Stopped) →
    new ≡ (if is_i64 (value_of value (named old.slots)) then record old { at = old.at + 1; slots = put_all target (value_of value (named old.slots)) old.slots } else old) →
    Moved procs old new told
set-moves procs old new told target value can r o e a m =
    let v = value_of value (named old.slots) in
    let ticked : Cont = record old { at = old.at + 1; slots = put_all target v old.slots } in
    let runs = here-can-run procs old.steps.items old.at (Set target value) can e in
    let after : Machine = Working (record { proc = proc_in old.steps.items; left = left_in procs old.steps.items (old.at + 1); names = with_number (named old.slots) target v }) (callers_in procs old.steps.items) in
    ticks-or-stops procs old new ticked told after (is_i64 v) r (put-ready procs old target v r) (next-here procs old (Set target value) o e) a m
    (machine-in procs ticked o ∙ put-machine procs old.steps.items (old.at + 1) old.slots target v r.locals runs.0.0)

-- ---- choices and loops

abbrev pub is_choice : Command → Bool
is_choice (Send note label tag to args) = false
is_choice (Await note label tag sender args) = false
is_choice (Poll note got label tag sender args) = false
is_choice (Read note into label field index) = false
is_choice (Set target value) = false
is_choice (If' test s left t right) = true
is_choice (While' test note s body) = false
is_choice (Call note frame into proc args) = false

abbrev pub is_loop : Command → Bool
is_loop (Send note label tag to args) = false
is_loop (Await note label tag sender args) = false
is_loop (Poll note got label tag sender args) = false
is_loop (Read note into label field index) = false
is_loop (Set target value) = false
is_loop (If' test s left t right) = false
is_loop (While' test note s body) = true
is_loop (Call note frame into proc args) = false

abbrev pub at_left : ℕ → Names → List Frame → Block → Machine
at_left proc names callers left = Working (record { proc = proc; left = left; names = names }) callers

if-next : (procs : List Proc) (proc : ℕ) (names : Names) (callers : List Frame) (command : Command) (rest : Block) (test : Formula) → is_choice command ≡ true → test_of command ≡ Some test →
    next_at procs proc names callers (followed command rest) ≡ Ticks (at_left proc names callers (blocks (inner (Some command) (passes test names)) rest))
if-next procs proc names callers (Send note label tag to args) rest test h e = absurd (cc h)
if-next procs proc names callers (Await note label tag sender args) rest test h e = absurd (cc h)
if-next procs proc names callers (Poll note got label tag sender args) rest test h e = absurd (cc h)
if-next procs proc names callers (Read note into label field index) rest test h e = absurd (cc h)
if-next procs proc names callers (Set target value) rest test h e = absurd (cc h)
if-next procs proc names callers (If' guard s left t right) rest test h e =
    ap (λ b. Ticks (at_left proc names callers b)) (by_test (passes guard names))
    ∙ ap (λ (f : Formula). Ticks (at_left proc names callers (blocks (inner (Some (If' guard s left t right)) (passes f names)) rest))) same
  where
    same : guard ≡ test
    same = cc e

    by_test : (chosen : Bool) → (if chosen then joined (row_block left) rest else joined (row_block right) rest) ≡ blocks (inner (Some (If' guard s left t right)) chosen) rest
    by_test true = ap (λ b. joined b rest) (sym (row_blocks _ left)) ∙ joined-blocks (items-the_row-Command _ left) rest
    by_test false = ap (λ b. joined b rest) (sym (row_blocks _ right)) ∙ joined-blocks (items-the_row-Command _ right) rest
if-next procs proc names callers (While' guard note s body) rest test h e = absurd (cc h)
if-next procs proc names callers (Call note frame into callee args) rest test h e = absurd (cc h)

while-next : (procs : List Proc) (proc : ℕ) (names : Names) (callers : List Frame) (command : Command) (rest : Block) (test : Formula) → is_loop command ≡ true → test_of command ≡ Some test →
    next_at procs proc names callers (followed command rest)
    ≡ Ticks (at_left proc names callers (if passes test names then blocks (inner (Some command) true) (followed command rest) else rest))
while-next procs proc names callers (Send note label tag to args) rest test h e = absurd (cc h)
while-next procs proc names callers (Await note label tag sender args) rest test h e = absurd (cc h)
while-next procs proc names callers (Poll note got label tag sender args) rest test h e = absurd (cc h)
while-next procs proc names callers (Read note into label field index) rest test h e = absurd (cc h)
while-next procs proc names callers (Set target value) rest test h e = absurd (cc h)
while-next procs proc names callers (If' guard s left t right) rest test h e = absurd (cc h)
while-next procs proc names callers (While' guard note s body) rest test h e =
    ap (λ b. Ticks (at_left proc names callers (if passes guard names then b else rest))) body_is
    ∙ ap (λ (f : Formula). Ticks (at_left proc names callers (if passes f names then blocks (items-the_row-Command _ body) (followed (While' guard note s body) rest) else rest))) same
  where
    same : guard ≡ test
    same = cc e

    body_is : joined (row_block body) (followed (While' guard note s body) rest) ≡ blocks (items-the_row-Command _ body) (followed (While' guard note s body) rest)
    body_is = ap (λ b. joined b (followed (While' guard note s body) rest)) (sym (row_blocks _ body)) ∙ joined-blocks (items-the_row-Command _ body) (followed (While' guard note s body) rest)
while-next procs proc names callers (Call note frame into callee args) rest test h e = absurd (cc h)

pub choice-opens : (command : Command) → is_choice command ≡ true → is_open command ≡ true
choice-opens (Send note label tag to args) h = absurd (cc h)
choice-opens (Await note label tag sender args) h = absurd (cc h)
choice-opens (Poll note got label tag sender args) h = absurd (cc h)
choice-opens (Read note into label field index) h = absurd (cc h)
choice-opens (Set target value) h = absurd (cc h)
choice-opens (If' test s left t right) h = refl
choice-opens (While' test note s body) h = refl
choice-opens (Call note frame into proc args) h = absurd (cc h)

pub loop-opens : (command : Command) → is_loop command ≡ true → is_open command ≡ true
loop-opens (Send note label tag to args) h = absurd (cc h)
loop-opens (Await note label tag sender args) h = absurd (cc h)
loop-opens (Poll note got label tag sender args) h = absurd (cc h)
loop-opens (Read note into label field index) h = absurd (cc h)
loop-opens (Set target value) h = absurd (cc h)
loop-opens (If' test s left t right) h = refl
loop-opens (While' test note s body) h = refl
loop-opens (Call note frame into proc args) h = absurd (cc h)

-- the machine that has gone into a command
inside-machine : (procs : List Proc) (steps : List Step) (at back : ℕ) (slots : List Slot) (command : Command) (first : Bool) →
    slice_get (commands_in procs steps) at ≡ Some command →
    machine_in procs (Inside at first back ∷ steps) 0 slots
    ≡ at_left (proc_in steps) (named slots) (callers_in procs steps) (blocks (inner (Some command) first) (left_in procs steps back))
inside-machine procs steps at back slots command first e =
    ap (λ c. at_left (proc_in steps) (named slots) (callers_in procs steps) (blocks (inner c first) (left_in procs steps back))) e

inside-ready : (procs : List Proc) (cont : Cont) (command : Command) (first : Bool) (back : ℕ) → IsReady procs cont →
    slice_get (commands_in procs cont.steps.items) cont.at ≡ Some command → is_open command ≡ true → IsReady procs (gone_inside cont first back)
inside-ready procs cont command first back r e o =
    record { fits = fits-inside procs cont.steps.spare cont.steps.items cont.at command first back r.fits e o; locals = r.locals }

pub choose-moves : (procs : List Proc) (old new : Cont) (told : At) (command : Command) (test : Formula) → IsReady procs old → old.over ≡ None →
    slice_get (commands_in procs old.steps.items) old.at ≡ Some command → is_choice command ≡ true → test_of command ≡ Some test → told ≡ at.Tick →
    new ≡ gone_inside old (passes test (named old.slots)) (old.at + 1) → Moved procs old new told
choose-moves procs old new told command test r o e h t a m =
    let first : Bool = passes test (named old.slots) in
    let rest : Block = left_in procs old.steps.items (old.at + 1) in
    let after : Machine = at_left (proc_in old.steps.items) (named old.slots) (callers_in procs old.steps.items) (blocks (inner (Some command) first) rest) in
    let gone : Cont = gone_inside old first (old.at + 1) in
    ticks procs old new told after
    (subst (IsReady procs) (sym m) (inside-ready procs old command first (old.at + 1) r e (choice-opens command h)))
    (next-here procs old command o e ∙ if-next procs (proc_in old.steps.items) (named old.slots) (callers_in procs old.steps.items) command rest test h t)
    a
    (ap (machine_of procs) m ∙ (machine-in procs gone o ∙ inside-machine procs old.steps.items old.at (old.at + 1) old.slots command first e))

pub repeat-moves : (procs : List Proc) (old new : Cont) (told : At) (command : Command) (test : Formula) → IsReady procs old → old.over ≡ None →
    slice_get (commands_in procs old.steps.items) old.at ≡ Some command → is_loop command ≡ true → test_of command ≡ Some test → told ≡ at.Tick →
    new ≡ (if passes test (named old.slots) then gone_inside old true old.at else record old { at = old.at + 1 }) → Moved procs old new told
repeat-moves procs old new told command test r o e h t a m =
    by_test (passes test (named old.slots))
    (next-here procs old command o e ∙ while-next procs (proc_in old.steps.items) (named old.slots) (callers_in procs old.steps.items) command (left_in procs old.steps.items (old.at + 1)) test h t) m
  where
    by_test : (first : Bool) →
        next procs (machine_of procs old)
        ≡ Ticks (at_left (proc_in old.steps.items) (named old.slots) (callers_in procs old.steps.items)
        (if first then blocks (inner (Some command) true) (followed command (left_in procs old.steps.items (old.at + 1))) else left_in procs old.steps.items (old.at + 1))) →
        new ≡ (if first then gone_inside old true old.at else record old { at = old.at + 1 }) → Moved procs old new told
    by_test true n m =
        let again : machine_of procs (gone_inside old true old.at)
        ≡ at_left (proc_in old.steps.items) (named old.slots) (callers_in procs old.steps.items) (blocks (inner (Some command) true) (followed command (left_in procs old.steps.items (old.at + 1)))) =
        machine-in procs (gone_inside old true old.at) o
        ∙ (inside-machine procs old.steps.items old.at old.at old.slots command true e
        ∙ ap (λ b. at_left (proc_in old.steps.items) (named old.slots) (callers_in procs old.steps.items) (blocks (inner (Some command) true) b)) (left-at procs old.steps.items old.at command e)) in
        ticks procs old new told _ (subst (IsReady procs) (sym m) (inside-ready procs old command true old.at r e (loop-opens command h))) n a (ap (machine_of procs) m ∙ again)
    by_test false n m =
        let past : Cont = record old { at = old.at + 1 } in
        let ready : IsReady procs past = record { fits = r.fits; locals = r.locals } in
        ticks procs old new told _ (subst (IsReady procs) (sym m) ready) n a (ap (machine_of procs) m ∙ machine-in procs past o)

-- ---- calls and returns

enter-machine : (procs : List Proc) (steps : List Step) (at callee : ℕ) (saved slots : List Slot) (command : Command) (v : List ℤ) (note frame : Formula) (into : ℕ) (args : List Term) →
    slice_get (commands_in procs steps) at ≡ Some (Call note frame into callee args) → named slots ≡ entry_names (proc_at procs callee) ((named saved).number me_word) v →
    machine_in procs (Enter callee at saved ∷ steps) 0 slots
    ≡ Working (entered procs callee ((named saved).number me_word) v)
    (record { proc = proc_in steps; left = followed (Call note frame into callee args) (left_in procs steps (at + 1)); names = named saved } ∷ callers_in procs steps)
enter-machine procs [] at callee saved slots command v note frame into args e n = absurd (cc e)
enter-machine procs (step ∷ outer) at callee saved slots command v note frame into args e n =
    λ i. Working (record { proc = callee; left = blocks-done (proc_at procs callee).body i; names = n i })
    (record { proc = proc_in (step ∷ outer); left = left-at procs (step ∷ outer) at (Call note frame into callee args) e i; names = named saved } ∷ callers_in procs (step ∷ outer))

pub call-moves : (procs : List Proc) (old new : Cont) (told : At) (note frame : Formula) (into callee : ℕ) (args : List Term) → ProcsCanRun procs → IsReady procs old → old.over ≡ None →
    slice_get (commands_in procs old.steps.items) old.at ≡ Some (Call note frame into callee args) →
    told ≡ (if all_i64 (values_of args (named old.slots)) then at.Tick else at.Stopped) →
    (all_i64 (values_of args (named old.slots)) ≡ false → new ≡ old) →
    (all_i64 (values_of args (named old.slots)) ≡ true → HasEntered procs callee (values_of args (named old.slots)) old new) → Moved procs old new told
call-moves procs old new told note frame into callee args can r o e a s h =
    by_test (all_i64 (values_of args (named old.slots))) (next-here procs old (Call note frame into callee args) o e) a s h
  where
    steps : List Step
    steps = old.steps.items

    v : List ℤ
    v = values_of args (named old.slots)

    after : Machine
    after = Working (entered procs callee ((named old.slots).number me_word) v)
        (record { proc = proc_in steps; left = followed (Call note frame into callee args) (left_in procs steps (old.at + 1)); names = named old.slots } ∷ callers_in procs steps)

    entered_now : HasEntered procs callee v old new → machine_of procs new ≡ after
    entered_now w =
        machine-in procs new (w.over ∙ o)
        ∙ ((λ i. machine_in procs ((w.steps i).items) (w.at i) new.slots)
        ∙ enter-machine procs steps old.at callee old.slots new.slots (Call note frame into callee args) v note frame into args e w.names)

    ready : HasEntered procs callee v old new → IsReady procs new
    ready w =
        let runs = here-can-run procs steps old.at (Call note frame into callee args) can e in
        let path : Path = record { items = Enter callee old.at old.slots ∷ steps; spare = old.steps.spare - 1 } in
        let fits : Fits procs path.spare path.items = fits-enter procs old.steps.spare steps callee old.at old.slots r.fits runs.0.3 r.locals in
        record {
          fits = subst (λ (p : Path). Fits procs p.spare p.items) (sym w.steps) fits;
          locals = subst (λ (p : Path). HasEach new.slots (proc_at procs (proc_in p.items)).locals) (sym w.steps) w.locals;
        }

    by_test : (t : Bool) → next procs (machine_of procs old) ≡ (if t then Ticks after else Stops) → told ≡ (if t then at.Tick else at.Stopped) → (t ≡ false → new ≡ old) →
        (t ≡ true → HasEntered procs callee v old new) → Moved procs old new told
    by_test true n a s h = ticks procs old new told after (ready (h refl)) n a (entered_now (h refl))
    by_test false n a s h = subst (λ (x : Cont). Moved procs old x told) (sym (s refl)) (stops procs old told r n a)

-- ---- returns

pub none-past : {X : Type 0} (xs : List X) (i : ℕ) → slice_get xs i ≡ None → length xs ≤ i
none-past [] i e = omega arith
none-past (x ∷ xs) zero e = absurd (cc e)
none-past (x ∷ xs) (suc i) e = let later = none-past xs i e in omega arith

-- the machine that has no command left in its procedure
pub done-machine : (procs : List Proc) (cont : Cont) → cont.over ≡ None → length (commands_in procs cont.steps.items) ≤ cont.at → back_of cont.steps.items ≡ None →
    machine_of procs cont ≡ at_left (proc_in cont.steps.items) (named cont.slots) (callers_in procs cont.steps.items) Done
done-machine procs cont o h e =
    machine-in procs cont o ∙ ap (at_left (proc_in cont.steps.items) (named cont.slots) (callers_in procs cont.steps.items)) (left-done procs cont.steps.items cont.at h e)

pub here-machine : (procs : List Proc) (cont : Cont) (command : Command) → cont.over ≡ None → slice_get (commands_in procs cont.steps.items) cont.at ≡ Some command →
    machine_of procs cont
    ≡ at_left (proc_in cont.steps.items) (named cont.slots) (callers_in procs cont.steps.items) (followed command (left_in procs cont.steps.items (cont.at + 1)))
here-machine procs cont command o e =
    machine-in procs cont o ∙ ap (at_left (proc_in cont.steps.items) (named cont.slots) (callers_in procs cont.steps.items)) (left-at procs cont.steps.items cont.at command e)

resumed-other : (proc : ℕ) (names : Names) (v : ℤ) (command : Command) (rest : Block) → into_of (Some command) ≡ None →
    resumed proc names v (followed command rest) ≡ record { proc = proc; left = followed command rest; names = names }
resumed-other proc names v (Send note label tag to args) rest e = refl
resumed-other proc names v (Await note label tag sender args) rest e = refl
resumed-other proc names v (Poll note got label tag sender args) rest e = refl
resumed-other proc names v (Read note into label field index) rest e = refl
resumed-other proc names v (Set target value) rest e = refl
resumed-other proc names v (If' test s left t right) rest e = refl
resumed-other proc names v (While' test note s body) rest e = refl
resumed-other proc names v (Call note frame into callee args) rest e = absurd (cc e)

pub finish-none : (procs : List Proc) (cont : Cont) (v : ℤ) → cont.over ≡ None → IsSettled procs cont → into_of (slice_get (commands_in procs cont.steps.items) cont.at) ≡ None →
    machine_of procs cont ≡ resumed_with v (machine_of procs cont)
finish-none procs cont v o settled e = there (slice_get (commands_in procs cont.steps.items) cont.at) refl e
  where
    proc : ℕ
    proc = proc_in cont.steps.items

    callers : List Frame
    callers = callers_in procs cont.steps.items

    there : (found : Option Command) → slice_get (commands_in procs cont.steps.items) cont.at ≡ found → into_of found ≡ None → machine_of procs cont ≡ resumed_with v (machine_of procs cont)
    there None f h =
        let past = none-past (commands_in procs cont.steps.items) cont.at f in
        let here = done-machine procs cont o past (settled past) in
        here ∙ sym (ap (resumed_with v) here)
    there (Some command) f h =
        let here = here-machine procs cont command o f in
        let other = resumed-other proc (named cont.slots) v command (left_in procs cont.steps.items (cont.at + 1)) h in
        here ∙ (ap (λ (frame : Frame). Working frame callers) (sym other) ∙ sym (ap (resumed_with v) here))

pub record Finished (procs : List Proc) (old new : Cont) (v : ℤ) : Type 0 where
  pub ready : IsReady procs new
  pub moves : machine_of procs new ≡ resumed_with v (machine_of procs old)

pub finish-some : (procs : List Proc) (cont : Cont) (v : ℤ) (into : ℕ) (slots : List Slot) → ProcsCanRun procs → IsReady procs cont → cont.over ≡ None →
    into_of (slice_get (commands_in procs cont.steps.items) cont.at) ≡ Some into → slots ≡ put_all into v cont.slots →
    Finished procs cont (record cont { at = cont.at + 1; slots = slots }) v
finish-some procs cont v into slots can r o e p =
    subst (λ (s : List Slot). Finished procs cont (record cont { at = cont.at + 1; slots = s }) v) (sym p) (there (slice_get (commands_in procs cont.steps.items) cont.at) refl e)
  where
    new : Cont
    new = record cont { at = cont.at + 1; slots = put_all into v cont.slots }

    there : (found : Option Command) → slice_get (commands_in procs cont.steps.items) cont.at ≡ found → into_of found ≡ Some into → Finished procs cont new v
    there None f h = absurd (cc h)
    there (Some (Send note label tag to args)) f h = absurd (cc h)
    there (Some (Await note label tag sender args)) f h = absurd (cc h)
    there (Some (Poll note got label tag sender args)) f h = absurd (cc h)
    there (Some (Read note goal label field index)) f h = absurd (cc h)
    there (Some (Set target value)) f h = absurd (cc h)
    there (Some (If' test s left t right)) f h = absurd (cc h)
    there (Some (While' test note s body)) f h = absurd (cc h)
    there (Some (Call note frame goal callee args)) f h =
        let same : goal ≡ into = cc h in
        let runs = here-can-run procs cont.steps.items cont.at (Call note frame goal callee args) can f in
        let target : has (proc_at procs (proc_in cont.steps.items)).locals into ≡ true = subst (λ n. has (proc_at procs (proc_in cont.steps.items)).locals n ≡ true) same runs.0.2 in
        let here = here-machine procs cont (Call note frame goal callee args) o f in
        record {
          ready = put-ready procs cont into v r;
          moves =
              machine-in procs new o
              ∙ (put-machine procs cont.steps.items (cont.at + 1) cont.slots into v r.locals target
              ∙ (ap (λ n. at_left (proc_in cont.steps.items) (with_number (named cont.slots) n v) (callers_in procs cont.steps.items) (left_in procs cont.steps.items (cont.at + 1))) (sym same)
              ∙ sym (ap (resumed_with v) here)));
        }

-- the machine of the caller
pub caller-machine : (procs : List Proc) (steps : List Step) (back : ℕ) (v : ℤ) → caller_of steps ≡ Some back →
    resumed_with v (machine_in procs (drop 1 steps) back (saved_in steps)) ≡ returned (callers_in procs steps) v
caller-machine procs [] back v e = absurd (cc e)
caller-machine procs (Inside at first b ∷ outer) back v e = absurd (cc e)
caller-machine procs (Enter proc b saved ∷ []) back v e = absurd (cc e)
caller-machine procs (Enter proc b saved ∷ step ∷ outer) back v e =
    let same : b ≡ back = cc e in
    ap (λ n. resumed_with v (machine_in procs (step ∷ outer) n saved)) (sym same)

pub no-callers : (procs : List Proc) (steps : List Step) → caller_of steps ≡ None → back_of steps ≡ None → callers_in procs steps ≡ []
no-callers procs [] e h = refl
no-callers procs (Inside at first b ∷ outer) e h = absurd (cc h)
no-callers procs (Enter proc b saved ∷ []) e h = refl
no-callers procs (Enter proc b saved ∷ step ∷ outer) e h = absurd (cc e)

pub caller-longer : (steps : List Step) (back : ℕ) → caller_of steps ≡ Some back → 0 < length steps
caller-longer [] back e = absurd (cc e)
caller-longer (step ∷ steps) back e = omega arith

pub caller-fits : (procs : List Proc) (spare : ℕ) (steps : List Step) (back : ℕ) → Fits procs spare steps → caller_of steps ≡ Some back → Fits procs (spare + 1) (drop 1 steps)
caller-fits procs spare [] back h e = absurd (cc e)
caller-fits procs spare (Inside at first b ∷ outer) back h e = absurd (cc e)
caller-fits procs spare (Enter proc b saved ∷ []) back h e = absurd (cc e)
caller-fits procs spare (Enter proc b saved ∷ step ∷ outer) back h e = subst (λ n. Fits procs n (step ∷ outer)) (sym (add-one spare)) h.2

pub caller-locals : (procs : List Proc) (spare : ℕ) (steps : List Step) (back : ℕ) → Fits procs spare steps → caller_of steps ≡ Some back →
    HasEach (saved_in steps) (proc_at procs (proc_in (drop 1 steps))).locals
caller-locals procs spare [] back h e = absurd (cc e)
caller-locals procs spare (Inside at first b ∷ outer) back h e = absurd (cc e)
caller-locals procs spare (Enter proc b saved ∷ []) back h e = absurd (cc e)
caller-locals procs spare (Enter proc b saved ∷ step ∷ outer) back h e = h.1

pub back-ready : (procs : List Proc) (cont : Cont) (back : ℕ) → IsReady procs cont → caller_of cont.steps.items ≡ Some back → IsReady procs (gone_back cont back)
back-ready procs cont back r e = record {
  fits = caller-fits procs cont.steps.spare cont.steps.items back r.fits e;
  locals = caller-locals procs cont.steps.spare cont.steps.items back r.fits e;
}

-- a machine that has gone back, has left the commands that are made, and has taken what was returned
pub given : (procs : List Proc) (old kept : Cont) (new : Machine) (back : ℕ) (v : ℤ) → old.over ≡ None → caller_of old.steps.items ≡ Some back → kept.over ≡ (gone_back old back).over →
    machine_in procs kept.steps.items kept.at kept.slots ≡ machine_in procs (gone_back old back).steps.items (gone_back old back).at (gone_back old back).slots →
    new ≡ resumed_with v (machine_of procs kept) → new ≡ returned (callers_in procs old.steps.items) v
given procs old kept new back v o e k m n =
    n ∙ (ap (resumed_with v) (machine-in procs kept (k ∙ o) ∙ m) ∙ caller-machine procs old.steps.items back v e)

-- ---- leaving commands that are made

pub outer-machine : (procs : List Proc) (steps : List Step) (at back : ℕ) (slots : List Slot) → back_of steps ≡ Some back → length (commands_in procs steps) ≤ at →
    machine_in procs (drop 1 steps) back slots ≡ machine_in procs steps at slots
outer-machine procs [] at back slots e h = absurd (cc e)
outer-machine procs (Enter proc b saved ∷ outer) at back slots e h = absurd (cc e)
outer-machine procs (Inside opened first b ∷ outer) at back slots e h =
    let same : b ≡ back = cc e in
    ap (λ n. machine_in procs outer n slots) (sym same)
    ∙ sym (ap (at_left (proc_in outer) (named slots) (callers_in procs outer)) (blocks-past (commands_in procs (Inside opened first b ∷ outer)) at (left_in procs outer b) h))

pub outer-longer : (steps : List Step) (back : ℕ) → back_of steps ≡ Some back → 0 < length steps
outer-longer [] back e = absurd (cc e)
outer-longer (step ∷ steps) back e = omega arith

pub outer-fits : (procs : List Proc) (spare : ℕ) (steps : List Step) (back : ℕ) → Fits procs spare steps → back_of steps ≡ Some back → Fits procs (spare + 1) (drop 1 steps)
outer-fits procs spare [] back h e = absurd (cc e)
outer-fits procs spare (Enter proc b saved ∷ outer) back h e = absurd (cc e)
outer-fits procs spare (Inside at first b ∷ outer) back h e = subst (λ n. Fits procs n outer) (sym (add-one spare)) h.1

pub outer-locals : (procs : List Proc) (steps : List Step) (back : ℕ) (slots : List Slot) → back_of steps ≡ Some back →
    HasEach slots (proc_at procs (proc_in steps)).locals → HasEach slots (proc_at procs (proc_in (drop 1 steps))).locals
outer-locals procs [] back slots e h = absurd (cc e)
outer-locals procs (Enter proc b saved ∷ outer) back slots e h = absurd (cc e)
outer-locals procs (Inside at first b ∷ outer) back slots e h = h

-- ---- the end of a procedure

abbrev pub result_in : List Proc → Cont → ℤ
result_in procs cont = value_of (proc_at procs (proc_in cont.steps.items)).result (named cont.slots)

leave-next : (procs : List Proc) (old : Cont) → old.over ≡ None → length (commands_in procs old.steps.items) ≤ old.at → back_of old.steps.items ≡ None →
    next procs (machine_of procs old) ≡ (if is_i64 (result_in procs old) then Ticks (returned (callers_in procs old.steps.items) (result_in procs old)) else Stops)
leave-next procs old o h e = ap (next procs) (done-machine procs old o h e)

pub leave-stops : (procs : List Proc) (old : Cont) → IsReady procs old → old.over ≡ None → length (commands_in procs old.steps.items) ≤ old.at → back_of old.steps.items ≡ None →
    (if is_i64 (result_in procs old) then Some (result_in procs old) else None) ≡ None → Moved procs old old at.Stopped
leave-stops procs old r o h e f = by_test (is_i64 (result_in procs old)) (leave-next procs old o h e) f
  where
    by_test : (t : Bool) → next procs (machine_of procs old) ≡ (if t then Ticks (returned (callers_in procs old.steps.items) (result_in procs old)) else Stops) →
        (if t then Some (result_in procs old) else None) ≡ None → Moved procs old old at.Stopped
    by_test true n f = absurd (cc f)
    by_test false n f = stops procs old at.Stopped r n refl

pub leave-gives : (procs : List Proc) (old new : Cont) (v : ℤ) → IsReady procs new → old.over ≡ None → length (commands_in procs old.steps.items) ≤ old.at → back_of old.steps.items ≡ None →
    (if is_i64 (result_in procs old) then Some (result_in procs old) else None) ≡ Some v → machine_of procs new ≡ returned (callers_in procs old.steps.items) v → Moved procs old new at.Tick
leave-gives procs old new v r o h e f m = by_test (is_i64 (result_in procs old)) (leave-next procs old o h e) f
  where
    by_test : (t : Bool) → next procs (machine_of procs old) ≡ (if t then Ticks (returned (callers_in procs old.steps.items) (result_in procs old)) else Stops) →
        (if t then Some (result_in procs old) else None) ≡ Some v → Moved procs old new at.Tick
    by_test true n f =
        let same : result_in procs old ≡ v = cc f in
        ticks procs old new at.Tick _ r n refl (m ∙ ap (returned (callers_in procs old.steps.items)) (sym same))
    by_test false n f = absurd (cc f)

-- ---- one machine of the model, kept in two ways

pub same-machine : (procs : List Proc) (old new : Cont) → new.over ≡ old.over → machine_in procs new.steps.items new.at new.slots ≡ machine_in procs old.steps.items old.at old.slots →
    machine_of procs new ≡ machine_of procs old
same-machine procs old new o m = λ i. machine_or (o i) (m i)

pub moved-from : (procs : List Proc) (old kept new : Cont) (told : At) → machine_of procs kept ≡ machine_of procs old → Moved procs kept new told → Moved procs old new told
moved-from procs old kept new told m moves = record {
  ready = moves.ready;
  answer = moves.answer ∙ ap (λ machine. answer_of (next procs machine)) m;
  moves = moves.moves ∙ ap (λ machine. moved machine (next procs machine)) m;
}

pub over-moves : (procs : List Proc) (old : Cont) (v : ℤ) → IsReady procs old → old.over ≡ Some v → Moved procs old old (at.Ended v)
over-moves procs old v r e =
    let m : machine_of procs old ≡ Over v = ap (λ o. machine_or o (machine_in procs old.steps.items old.at old.slots)) e in
    record { ready = r; answer = sym (ap (λ machine. answer_of (next procs machine)) m); moves = m ∙ sym (ap (λ machine. moved machine (next procs machine)) m) }
