-- A turn's ticks, one after another.
use Rattle.std.proofs.Common.{◌≡◌, ◌≤◌, ◌+◌, ◌-◌, ℕ, ℤ, zero, suc, None, List, refl, ap, sym, ◌∙◌, arith}
use Rattle.dl_model.specs.declared.history.Call.{Call}
use Rattle.dl_model.specs.declared.program.Proc.{Proc}
use Rattle.dl_model.specs.Machine.{Machine, Next, Ticks, Asks, Ends, Stops, next}
use Rattle.dl_model.specs.Ends.{Rest, after_ticks, if_tick}
use Rattle.dl_prog.specs.declared.answer.At.TheVariants as at
use Rattle.dl_prog.specs.Moves.{answer_of, moved}
use Rattle.dl_nodes.specs.Serial.{Player, asked, left_of, rested, ticked}

-- ---- what was answered

pub told-tick : (procs : List Proc) (before after : Machine) (n : Next) → at.Tick ≡ answer_of n → after ≡ moved before n → n ≡ Ticks after
told-tick procs before after (Ticks m) e f = ap Ticks (sym f)
told-tick procs before after (Asks call) e f = cc
told-tick procs before after (Ends v) e f = cc
told-tick procs before after Stops e f = cc

pub told-call : (n : Next) (call : Call) → at.Call call ≡ answer_of n → n ≡ Asks call
told-call (Ticks m) call e = cc
told-call (Asks c) call e = cc
told-call (Ends v) call e = cc
told-call Stops call e = cc

pub told-end : (n : Next) (v : ℤ) → at.Ended v ≡ answer_of n → n ≡ Ends v
told-end (Ticks m) v e = cc
told-end (Asks c) v e = cc
told-end (Ends w) v e = cc
told-end Stops v e = cc

pub told-stop : (n : Next) → at.Stopped ≡ answer_of n → n ≡ Stops
told-stop (Ticks m) e = cc
told-stop (Asks c) e = cc
told-stop (Ends w) e = cc
told-stop Stops e = refl

-- ---- ticks

pub left-falls : (procs : List Proc) (n : ℕ) (m : Machine) → (after_ticks procs n m).left ≤ n
left-falls procs zero m = omega arith
left-falls procs (suc n) m = go (next procs m) (λ after. left-falls procs n after)
  where
    go : (x : Next) → ((after : Machine) → (after_ticks procs n after).left ≤ n)
        → (if_tick (λ after. after_ticks procs n after) (record { machine = m; left = suc n }) x).left ≤ suc n
    go (Ticks after) h = omega (arith, h after)
    go (Asks call) h = omega arith
    go (Ends v) h = omega arith
    go Stops h = omega arith

-- one tick more
abbrev after_tick : Player → Machine → Player
after_tick p after = record { node = p.node; machine = after; ticks = p.ticks + 1; units = p.units + 1 }

same-rest : (budget l : ℕ) (p : Player) (after : Machine) (rest : Rest) → left_of budget p ≡ suc l → rest.left ≤ l → rested budget p rest ≡ rested budget (after_tick p after) rest
same-rest budget l p after rest e h =
    let ticks : p.ticks + ((budget - p.units) - rest.left) ≡ (p.ticks + 1) + ((budget - (p.units + 1)) - rest.left) = omega arith in
    let units : p.units + ((budget - p.units) - rest.left) ≡ (p.units + 1) + ((budget - (p.units + 1)) - rest.left) = omega arith in
    λ i. record { node = p.node; machine = rest.machine; ticks = ticks i; units = units i }

pub tick-more : (procs : List Proc) (budget l : ℕ) (p : Player) (after : Machine) → left_of budget p ≡ suc l → next procs p.machine ≡ Ticks after
    → ticked procs budget p ≡ ticked procs budget (record { node = p.node; machine = after; ticks = p.ticks + 1; units = p.units + 1 })
tick-more procs budget l p after e n =
    let rest = after_ticks procs l after in
    let was : after_ticks procs (left_of budget p) p.machine ≡ rest =
    ap (λ (k : ℕ). after_ticks procs k p.machine) e
    ∙ ap (λ (x : Next). if_tick (λ m. after_ticks procs l m) (record { machine = p.machine; left = suc l }) x) n in
    let fewer : budget - (p.units + 1) ≡ l = omega arith in
    let now : after_ticks procs (budget - (p.units + 1)) after ≡ rest = ap (λ (k : ℕ). after_ticks procs k after) fewer in
    ap (rested budget p) was
    ∙ same-rest budget l p after rest e (left-falls procs l after)
    ∙ sym (ap (rested budget (after_tick p after)) now)

-- ---- no tick more

still : (procs : List Proc) (budget : ℕ) (p : Player) → after_ticks procs (left_of budget p) p.machine ≡ record { machine = p.machine; left = left_of budget p } → ticked procs budget p ≡ p
still procs budget p e =
    let ticks : p.ticks + ((budget - p.units) - (budget - p.units)) ≡ p.ticks = omega arith in
    let units : p.units + ((budget - p.units) - (budget - p.units)) ≡ p.units = omega arith in
    ap (rested budget p) e ∙ (λ i. record { node = p.node; machine = p.machine; ticks = ticks i; units = units i })

stays : (procs : List Proc) (left : ℕ) (m : Machine) (n : Next) → next procs m ≡ n → ((after : Machine) → n ≡ Ticks after → ⊥) → after_ticks procs left m ≡ record { machine = m; left = left }
stays procs zero m n e h = refl
stays procs (suc left) m n e h = ap (λ (x : Next). if_tick (λ a. after_ticks procs left a) (record { machine = m; left = suc left }) x) e ∙ go n h
  where
    go : (x : Next) → ((after : Machine) → x ≡ Ticks after → ⊥) → if_tick (λ a. after_ticks procs left a) (record { machine = m; left = suc left }) x ≡ record { machine = m; left = suc left }
    go (Ticks after) h = absurd (h after refl)
    go (Asks call) h = refl
    go (Ends v) h = refl
    go Stops h = refl

pub still-at : (procs : List Proc) (budget : ℕ) (p : Player) (n : Next) → next procs p.machine ≡ n → ((after : Machine) → n ≡ Ticks after → ⊥) → ticked procs budget p ≡ p
still-at procs budget p n e h = still procs budget p (stays procs (left_of budget p) p.machine n e h)

pub spent-still : (procs : List Proc) (budget : ℕ) (p : Player) → left_of budget p ≡ 0 → ticked procs budget p ≡ p
spent-still procs budget p e =
    still procs budget p (ap (λ (k : ℕ). after_ticks procs k p.machine) e ∙ (λ i. record { machine = p.machine; left = sym e i }))

pub asked-none : (n : Next) (left : ℕ) → left ≡ 0 → None ≡ asked left n
asked-none n left e = ap (λ (k : ℕ). asked k n) (sym e)
