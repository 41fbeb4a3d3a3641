-- After a round without an entry each node has an end.
use Rattle.std.proofs.Common.{◌≡◌, ◌≤◌, ◌-◌, ℕ, zero, suc, false, cond, Option, Some, None, is_some, List, [], ◌∷◌, refl, ap, sym, ◌∙◌, subst, arith}
use Rattle.std.specs.List.{AllByRecursion as Each, AllZip}
use Rattle.dl_model.specs.declared.history.Call.{Call}
use Rattle.dl_model.specs.declared.history.Call.TheVariants as call
use Rattle.dl_model.specs.declared.history.End.TheVariants.{Waiting}
use Rattle.dl_model.specs.declared.program.Proc.{Proc}
use Rattle.dl_model.specs.Machine.{Machine, Next, Ticks, Asks, Ends, Stops, next}
use Rattle.dl_model.specs.Delivery.{matches}
use Rattle.dl_model.specs.Ends.{Rest, after_ticks, if_tick, if_no_match, end_at, units_at_end}
use Rattle.dl_model.proofs.Small.{or-left, or-right}
use Rattle.dl_prog.specs.Moves.{answer_of}
use Rattle.dl_soup.specs.Seen.{Seen}
use Rattle.dl_soup.specs.Replies.{has_any}
use Rattle.dl_nodes.specs.declared.bare.Bare.{Bare}
use Rattle.dl_nodes.specs.Serial.{Player, asked, if_can, call_of, called, left_of, ticked, turn_of, round_of}
use Rattle.dl_nodes.specs.Players.{HasEnd, HasJudged, IsAtRest, judged}
use Rattle.dl_nodes.proofs.TickLemmas.{left-falls}

-- ---- ticks lead to rest

rest-stays : (procs : List Proc) (n : ℕ) (m : Machine) → after_ticks procs (after_ticks procs n m).left (after_ticks procs n m).machine ≡ after_ticks procs n m
rest-stays procs zero m = refl
rest-stays procs (suc n) m = go (next procs m) refl (λ after. rest-stays procs n after)
  where
    go : (x : Next) → next procs m ≡ x
        → ((after : Machine) → after_ticks procs (after_ticks procs n after).left (after_ticks procs n after).machine ≡ after_ticks procs n after)
        → after_ticks procs (if_tick (λ after. after_ticks procs n after) (record { machine = m; left = suc n }) x).left
        (if_tick (λ after. after_ticks procs n after) (record { machine = m; left = suc n }) x).machine
        ≡ if_tick (λ after. after_ticks procs n after) (record { machine = m; left = suc n }) x
    go (Ticks after) e h = h after
    go (Asks call) e h = ap (λ (x : Next). if_tick (λ after. after_ticks procs n after) (record { machine = m; left = suc n }) x) e
    go (Ends v) e h = ap (λ (x : Next). if_tick (λ after. after_ticks procs n after) (record { machine = m; left = suc n }) x) e
    go Stops e h = ap (λ (x : Next). if_tick (λ after. after_ticks procs n after) (record { machine = m; left = suc n }) x) e

pub ticked-left : (procs : List Proc) (budget : ℕ) (p : Player) → p.units ≤ budget → left_of budget (ticked procs budget p) ≡ (after_ticks procs (left_of budget p) p.machine).left
ticked-left procs budget p h =
    let few = left-falls procs (left_of budget p) p.machine in
    omega (arith, few)

ticked-still : (procs : List Proc) (budget : ℕ) (p : Player) → p.units ≤ budget
    → after_ticks procs (left_of budget (ticked procs budget p)) (ticked procs budget p).machine ≡ record { machine = (ticked procs budget p).machine; left = left_of budget (ticked procs budget p) }
ticked-still procs budget p h =
    let rest = after_ticks procs (left_of budget p) p.machine in
    let left = ticked-left procs budget p h in
    ap (λ (k : ℕ). after_ticks procs k rest.machine) left
    ∙ rest-stays procs (left_of budget p) p.machine
    ∙ (λ i. record { machine = rest.machine; left = sym left i })

ticked-few : (procs : List Proc) (budget : ℕ) (p : Player) → p.units ≤ budget → (ticked procs budget p).units ≤ budget
ticked-few procs budget p h = omega arith

-- ---- a round without an entry

no-call : (soup : Seen) (player : Player) (o : Option Call) → (called soup player o).acts ≡ false → (o ≡ None) × ((called soup player o).soup ≡ soup) × ((called soup player o).player ≡ player)
no-call soup player (Some call) e = cc
no-call soup player None e = (refl, refl, refl)

turn-rests : (procs : List Proc) (budget : ℕ) (soup : Seen) (p : Player) → p.units ≤ budget → (turn_of procs budget soup p).acts ≡ false
    → ((turn_of procs budget soup p).soup ≡ soup) × IsAtRest procs budget soup (turn_of procs budget soup p).player
turn-rests procs budget soup p h e =
    let none = no-call soup (ticked procs budget p) (call_of procs budget soup (ticked procs budget p)) e in
    let rest : IsAtRest procs budget soup (ticked procs budget p) = record { few = ticked-few procs budget p h; still = ticked-still procs budget p h; none = none.0 } in
    (none.1, subst (λ (q : Player). IsAtRest procs budget soup q) (sym none.2) rest)

pub round-rests : (procs : List Proc) (budget : ℕ) (soup : Seen) (players : List Player) → Each (λ p. p.units ≤ budget) players → (round_of procs budget soup players).acts ≡ false
    → ((round_of procs budget soup players).soup ≡ soup) × Each (IsAtRest procs budget soup) (round_of procs budget soup players).players
round-rests procs budget soup [] h e = (refl, tt)
round-rests procs budget soup (p ∷ players) h e =
    let turn = turn_of procs budget soup p in
    let first = turn-rests procs budget soup p h.0 (or-left turn.acts (round_of procs budget turn.soup players).acts e) in
    let rest = round-rests procs budget turn.soup players h.1 (or-right turn.acts (round_of procs budget turn.soup players).acts e) in
    (rest.0 ∙ first.0, (first.1, subst (λ (s : Seen). Each (IsAtRest procs budget s) (round_of procs budget turn.soup players).players) first.0 rest.1))

-- ---- the end

waits : (ids : List ℕ) (call : Call) → cond (has_any ids) (Some call) None ≡ None → Some Waiting ≡ if_no_match ids
waits [] call e = refl
waits (id ∷ ids) call e = cc

call-ends : (soup : Seen) (node left : ℕ) (call : Call) → if_can soup node (Some call) ≡ None → Some Waiting ≡ end_at soup.inst soup.state node (suc left) (Asks call)
call-ends soup node left (call.Send label tag to args) e = cc
call-ends soup node left (call.Poll label tag) e = cc
call-ends soup node left (call.Await label tag) e = waits (matches soup.inst soup.state node label tag) (call.Await label tag) e
call-ends soup node left (call.Read label field index) e = cc

judged-is : (soup : Seen) (node left : ℕ) (n : Next) → ((after : Machine) → n ≡ Ticks after → left ≡ 0) → if_can soup node (asked left n) ≡ None
    → Some (judged (answer_of n) left) ≡ end_at soup.inst soup.state node left n
judged-is soup node zero (Ticks after) h none = refl
judged-is soup node zero (Asks call) h none = refl
judged-is soup node zero (Ends v) h none = refl
judged-is soup node zero Stops h none = refl
judged-is soup node (suc left) (Ticks after) h none = let e : suc left ≡ 0 = h after refl in absurd (omega arith)
judged-is soup node (suc left) (Asks call) h none = call-ends soup node left call none
judged-is soup node (suc left) (Ends v) h none = refl
judged-is soup node (suc left) Stops h none = refl

-- at rest a tick comes next only where no unit is left
no-tick : (procs : List Proc) (left : ℕ) (m after : Machine) → after_ticks procs left m ≡ record { machine = m; left = left } → next procs m ≡ Ticks after → left ≡ 0
no-tick procs zero m after still e = refl
no-tick procs (suc left) m after still e =
    let made : after_ticks procs left after ≡ record { machine = m; left = suc left } = sym (ap (λ (x : Next). if_tick (λ a. after_ticks procs left a) (record { machine = m; left = suc left }) x) e) ∙ still in
    let count : (after_ticks procs left after).left ≡ suc left = ap (λ (r : Rest). r.left) made in
    let few : (after_ticks procs left after).left ≤ left = left-falls procs left after in
    absurd (omega arith)

units-there : (procs : List Proc) (budget : ℕ) (p : Player) → p.units ≤ budget → after_ticks procs (left_of budget p) p.machine ≡ record { machine = p.machine; left = left_of budget p } → p.units ≡ units_at_end procs budget p.units p.machine
units-there procs budget p few still =
    let left : (after_ticks procs (budget - p.units) p.machine).left ≡ budget - p.units = ap (λ (r : Rest). r.left) still in
    omega arith

has-end : (procs : List Proc) (budget : ℕ) (soup : Seen) (p : Player) (bare : Bare) → IsAtRest procs budget soup p → HasJudged procs budget p bare → HasEnd procs soup budget p bare
has-end procs budget soup p bare rest noted = record {
  node = noted.same_node;
  told = noted.noted
      ∙ judged-is soup p.node (left_of budget p) (next procs p.machine) (λ after e. no-tick procs (left_of budget p) p.machine after rest.still e) rest.none
      ∙ sym (ap (λ (r : Rest). end_at soup.inst soup.state p.node r.left (next procs r.machine)) rest.still);
  ends = ap is_some noted.noted;
  units = noted.same_units ∙ units-there procs budget p rest.few rest.still;
}

pub have-ends : (procs : List Proc) (budget : ℕ) (soup : Seen) (players : List Player) (nodes : List Bare) → Each (IsAtRest procs budget soup) players → AllZip (HasJudged procs budget) players nodes
    → AllZip (HasEnd procs soup budget) players nodes
have-ends procs budget soup [] [] rests noted = tt
have-ends procs budget soup [] (bare ∷ nodes) rests noted = noted
have-ends procs budget soup (p ∷ players) [] rests noted = noted
have-ends procs budget soup (p ∷ players) (bare ∷ nodes) rests noted = (has-end procs budget soup p bare rests.0 noted.0, have-ends procs budget soup players nodes rests.1 noted.1)
