-- What a tick and an answer without one do to a node as it is kept.
use Rattle.std.proofs.Common.{◌≡◌, ◌<◌, ◌≤◌, ◌+◌, ◌-◌, ℕ, ℤ, zero, suc, List, Bool, true, false, cond, Option, Some, None, refl, ap, sym, ◌∙◌, subst, arith}
use Rattle.dl_model.specs.declared.history.Call.{Call}
use Rattle.dl_model.specs.declared.history.Reply.{Reply}
use Rattle.dl_model.specs.declared.program.Proc.{Proc}
use Rattle.dl_model.specs.declared.protocol.Instances.{Instances}
use Rattle.dl_model.specs.Machine.{Machine, Next, Ticks, Asks, Ends, Stops, next, after_reply}
use Rattle.dl_prog.specs.declared.answer.At.TheVariants as at
use Rattle.dl_prog.specs.declared.cont.Cont.{Cont}
use Rattle.dl_prog.specs.Moves.{answer_of, moved}
use Rattle.dl_prog.specs.Places.{machine_of}
use Rattle.dl_prog.specs.Ready.{IsReady}
use Rattle.dl_soup.specs.Seen.{Seen}
use Rattle.dl_soup.specs.Replies.{acted, can_call, reply_of}
use Rattle.dl_nodes.specs.declared.bare.Bare.{Bare}
use Rattle.dl_nodes.specs.Given.{MachineIsGiven, ProcsAreGiven}
use Rattle.dl_nodes.specs.Players.{BareIsReady, entries_of, player_of}
use Rattle.dl_nodes.specs.Turns.{Stands, TurnIsMade}
use Rattle.dl_nodes.specs.Serial.{Player, Turn, asked, call_of, called, if_can, left_of, ticked, turn_of}
use Rattle.dl_nodes.proofs.TickLemmas.{asked-none, spent-still, still-at, tick-more, told-call, told-end, told-stop, told-tick}
use Rattle.dl_nodes.proofs.GivenLemmas.{reply-given, tick-given}

-- the node with another machine
abbrev pub with_cont : Bare → Cont → Bare
with_cont bare cont = record { node = bare.node; cont = cont; ticks = bare.ticks; units = bare.units; end = bare.end }

-- the node with another machine, after one more tick
abbrev pub with_tick : Bare → Cont → Bare
with_tick bare cont = record { node = bare.node; cont = cont; ticks = bare.ticks + 1; units = bare.units + 1; end = bare.end }

some-left : (budget : ℕ) (p : Player) → p.units < budget → left_of budget p ≡ suc (budget - (p.units + 1))
some-left budget p h = omega arith

-- what holds of a node in the middle of its ticks, which lead to `whole`
pub record OnTheWay (procs : List Proc) (inst : Instances) (budget : ℕ) (whole : Player) (bare : Bare) : Type 0 where
  pub ready : BareIsReady procs inst budget bare
  pub leads : ticked procs budget (player_of procs bare) ≡ whole

pub tick-step : (procs : List Proc) (inst : Instances) (budget : ℕ) (whole : Player) (bare : Bare) (cont : Cont) → ProcsAreGiven inst procs → OnTheWay procs inst budget whole bare → bare.units < budget → IsReady procs cont
    → at.Tick ≡ answer_of (next procs (machine_of procs bare.cont)) → machine_of procs cont ≡ moved (machine_of procs bare.cont) (next procs (machine_of procs bare.cont))
    → OnTheWay procs inst budget whole (with_tick bare cont)
tick-step procs inst budget whole bare cont given h less ready told moves =
    let n : next procs (machine_of procs bare.cont) ≡ Ticks (machine_of procs cont) = told-tick procs (machine_of procs bare.cont) (machine_of procs cont) (next procs (machine_of procs bare.cont)) told moves in
    let units = h.ready.units in
    let ticks = h.ready.ticks in
    record {
      ready = record {
        cont = ready;
        given = tick-given inst procs bare.node (machine_of procs bare.cont) (machine_of procs cont) h.ready.node given h.ready.given n;
        node = h.ready.node;
        units = omega arith;
        ticks = omega arith;
      };
      leads = sym (tick-more procs budget (budget - (bare.units + 1)) (player_of procs bare) (machine_of procs cont) (some-left budget (player_of procs bare) less) n) ∙ h.leads;
    }

same-machine : (procs : List Proc) (before : Machine) (after : Machine) (n : Next) → after ≡ moved before n → ((m : Machine) → n ≡ Ticks m → ⊥) → after ≡ before
same-machine procs before after (Ticks m) e h = absurd (h m refl)
same-machine procs before after (Asks call) e h = e
same-machine procs before after (Ends v) e h = e
same-machine procs before after Stops e h = e

pub stand-step : (procs : List Proc) (inst : Instances) (budget : ℕ) (whole : Player) (bare : Bare) (cont : Cont) → OnTheWay procs inst budget whole bare → IsReady procs cont
    → ((m : Machine) → next procs (machine_of procs bare.cont) ≡ Ticks m → ⊥) → machine_of procs cont ≡ moved (machine_of procs bare.cont) (next procs (machine_of procs bare.cont))
    → Stands procs inst budget whole (with_cont bare cont)
stand-step procs inst budget whole bare cont h ready no_tick moves =
    let same : machine_of procs cont ≡ machine_of procs bare.cont = same-machine procs (machine_of procs bare.cont) (machine_of procs cont) (next procs (machine_of procs bare.cont)) moves no_tick in
    record {
      ready = record {
        cont = ready;
        given = subst (MachineIsGiven inst) (sym same) h.ready.given;
        node = h.ready.node;
        units = h.ready.units;
        ticks = h.ready.ticks;
      };
      is = (λ i. record { node = bare.node; machine = same i; ticks = bare.ticks; units = bare.units })
          ∙ sym (still-at procs budget (player_of procs bare) (next procs (machine_of procs bare.cont)) refl no_tick)
          ∙ h.leads;
    }

pub spent-step : (procs : List Proc) (inst : Instances) (budget : ℕ) (whole : Player) (bare : Bare) → OnTheWay procs inst budget whole bare → budget ≤ bare.units → Stands procs inst budget whole bare
spent-step procs inst budget whole bare h more =
    let none : left_of budget (player_of procs bare) ≡ 0 = omega arith in
    record { ready = h.ready; is = sym (spent-still procs budget (player_of procs bare) none) ∙ h.leads }

-- the ticks so far lead on to where the turn's ticks lead
pub record TicksSoFar (procs : List Proc) (inst : Instances) (budget : ℕ) (first bare : Bare) : Type 0 where
  pub way : OnTheWay procs inst budget (ticked procs budget (player_of procs first)) bare
  pub units : first.units ≤ bare.units

pub ticks-begin : (procs : List Proc) (inst : Instances) (budget : ℕ) (bare : Bare) → BareIsReady procs inst budget bare → TicksSoFar procs inst budget bare bare
ticks-begin procs inst budget bare ready = record { way = record { ready = ready; leads = refl }; units = omega arith }

pub ticks-go : (procs : List Proc) (inst : Instances) (budget : ℕ) (first bare new : Bare) (cont : Cont) → ProcsAreGiven inst procs → TicksSoFar procs inst budget first bare → bare.units < budget → IsReady procs cont
    → at.Tick ≡ answer_of (next procs (machine_of procs bare.cont)) → machine_of procs cont ≡ moved (machine_of procs bare.cont) (next procs (machine_of procs bare.cont)) → new ≡ with_tick bare cont
    → TicksSoFar procs inst budget first new
ticks-go procs inst budget first bare new cont given h less ready told moves made =
    let units : first.units ≤ bare.units = h.units in
    let more : first.units ≤ bare.units + 1 = omega arith in
    subst (λ (b : Bare). TicksSoFar procs inst budget first b) (sym made)
    (record { way = tick-step procs inst budget (ticked procs budget (player_of procs first)) bare cont given h.way less ready told moves; units = more })

-- the soup is as it was
pub record TurnSoFar (procs : List Proc) (soup now : Seen) (budget : ℕ) (first bare : Bare) : Type 0 where
  pub same : now ≡ soup
  pub ticks : TicksSoFar procs now.inst budget first bare

pub calls-no-tick : (n : Next) (call : Call) → at.Call call ≡ answer_of n → (m : Machine) → n ≡ Ticks m → ⊥
calls-no-tick n call e m f = let asks : n ≡ Asks call = told-call n call e in cc

pub ends-no-tick : (n : Next) (v : ℤ) → at.Ended v ≡ answer_of n → (m : Machine) → n ≡ Ticks m → ⊥
ends-no-tick n v e m f = let ends : n ≡ Ends v = told-end n v e in cc

pub stops-no-tick : (n : Next) → at.Stopped ≡ answer_of n → (m : Machine) → n ≡ Ticks m → ⊥
stops-no-tick n e m f = let stops : n ≡ Stops = told-stop n e in cc

-- ---- what is asked where it stands

asked-at : (procs : List Proc) (budget l : ℕ) (bare : Bare) (cont : Cont) (n : Next) → left_of budget (player_of procs bare) ≡ suc l → machine_of procs cont ≡ machine_of procs bare.cont → next procs (machine_of procs bare.cont) ≡ n
    → asked (suc l) n ≡ asked (left_of budget (player_of procs (with_cont bare cont))) (next procs (machine_of procs cont))
asked-at procs budget l bare cont n e same is = λ i. asked (sym e i) ((sym is ∙ ap (next procs) (sym same)) i)

pub call-asked : (procs : List Proc) (budget : ℕ) (bare : Bare) (cont : Cont) (call : Call) → bare.units < budget → at.Call call ≡ answer_of (next procs (machine_of procs bare.cont))
    → machine_of procs cont ≡ moved (machine_of procs bare.cont) (next procs (machine_of procs bare.cont)) → Some call ≡ asked (left_of budget (player_of procs (with_cont bare cont))) (next procs (machine_of procs cont))
call-asked procs budget bare cont call less told moves =
    asked-at procs budget (budget - (bare.units + 1)) bare cont (Asks call) (some-left budget (player_of procs bare) less)
    (same-machine procs (machine_of procs bare.cont) (machine_of procs cont) (next procs (machine_of procs bare.cont)) moves (calls-no-tick (next procs (machine_of procs bare.cont)) call told))
    (told-call (next procs (machine_of procs bare.cont)) call told)

pub end-asked : (procs : List Proc) (budget : ℕ) (bare : Bare) (cont : Cont) (v : ℤ) → bare.units < budget → at.Ended v ≡ answer_of (next procs (machine_of procs bare.cont))
    → machine_of procs cont ≡ moved (machine_of procs bare.cont) (next procs (machine_of procs bare.cont)) → None ≡ asked (left_of budget (player_of procs (with_cont bare cont))) (next procs (machine_of procs cont))
end-asked procs budget bare cont v less told moves =
    asked-at procs budget (budget - (bare.units + 1)) bare cont (Ends v) (some-left budget (player_of procs bare) less)
    (same-machine procs (machine_of procs bare.cont) (machine_of procs cont) (next procs (machine_of procs bare.cont)) moves (ends-no-tick (next procs (machine_of procs bare.cont)) v told))
    (told-end (next procs (machine_of procs bare.cont)) v told)

pub stop-asked : (procs : List Proc) (budget : ℕ) (bare : Bare) (cont : Cont) → bare.units < budget → at.Stopped ≡ answer_of (next procs (machine_of procs bare.cont))
    → machine_of procs cont ≡ moved (machine_of procs bare.cont) (next procs (machine_of procs bare.cont)) → None ≡ asked (left_of budget (player_of procs (with_cont bare cont))) (next procs (machine_of procs cont))
stop-asked procs budget bare cont less told moves =
    asked-at procs budget (budget - (bare.units + 1)) bare cont Stops (some-left budget (player_of procs bare) less)
    (same-machine procs (machine_of procs bare.cont) (machine_of procs cont) (next procs (machine_of procs bare.cont)) moves (stops-no-tick (next procs (machine_of procs bare.cont)) told))
    (told-stop (next procs (machine_of procs bare.cont)) told)

pub spent-asked : (procs : List Proc) (budget : ℕ) (bare : Bare) → budget ≤ bare.units → None ≡ asked (left_of budget (player_of procs bare)) (next procs (machine_of procs bare.cont))
spent-asked procs budget bare more =
    let none : left_of budget (player_of procs bare) ≡ 0 = omega arith in
    asked-none (next procs (machine_of procs bare.cont)) (left_of budget (player_of procs bare)) none

-- ---- the turn

pub asks-nothing : (procs : List Proc) (budget : ℕ) (soup : Seen) (p : Player) → None ≡ asked (left_of budget p) (next procs p.machine) → call_of procs budget soup p ≡ None
asks-nothing procs budget soup p e = ap (if_can soup p.node) (sym e)

asks-call : (procs : List Proc) (budget : ℕ) (soup : Seen) (p : Player) (call : Call) → Some call ≡ asked (left_of budget p) (next procs p.machine) → call_of procs budget soup p ≡ if_can soup p.node (Some call)
asks-call procs budget soup p call e = ap (if_can soup p.node) (sym e)

-- the turn of a node that stands at a call, or at none
pub turn-at : (procs : List Proc) (budget : ℕ) (soup : Seen) (p here : Player) (o : Option Call) → here ≡ ticked procs budget p → call_of procs budget soup here ≡ o → called soup here o ≡ turn_of procs budget soup p
turn-at procs budget soup p here o e h = ap (called soup here) (sym h) ∙ ap (λ (q : Player). called soup q (call_of procs budget soup q)) e

-- ---- the call that a machine asks for

pub asks-left : (left : ℕ) (n : Next) (call : Call) → Some call ≡ asked left n → 0 < left
asks-left zero n call e = cc
asks-left (suc left) n call e = omega arith

-- a node that asks has a unit left
pub with-unit : (budget : ℕ) (p : Player) (n : Next) (call : Call) → Some call ≡ asked (left_of budget p) n → p.units < budget
with-unit budget p n call e =
    let some : 0 < left_of budget p = asks-left (left_of budget p) n call e in
    omega arith

pub asks-next : (left : ℕ) (n : Next) (call : Call) → Some call ≡ asked left n → n ≡ Asks call
asks-next zero n call e = cc
asks-next (suc left) (Asks other) call e = cc
asks-next (suc left) (Ticks after) call e = cc
asks-next (suc left) (Ends v) call e = cc
asks-next (suc left) Stops call e = cc

-- ---- the whole turn

pub none-made : (procs : List Proc) (budget : ℕ) (soup : Seen) (before bare : Bare) → Stands procs soup.inst budget (ticked procs budget (player_of procs before)) bare → before.units ≤ bare.units
    → call_of procs budget soup (player_of procs bare) ≡ None → TurnIsMade procs budget soup soup before bare false
none-made procs budget soup before bare h more none = record {
  ready = h.ready;
  whole = turn-at procs budget soup (player_of procs before) (player_of procs bare) None h.is none;
  same = refl;
  spare = omega arith;
  left = omega arith;
}

-- the soup has room where a unit is left to the node
pub call-has-room : (budget spare : ℕ) (before bare : Bare) → before.units ≤ bare.units → bare.units < budget → budget - before.units ≤ spare → 0 < spare
call-has-room budget spare before bare more less room = omega arith

called-inst : (soup : Seen) (p : Player) (o : Option Call) → (called soup p o).soup.inst ≡ soup.inst
called-inst soup p (Some call) = refl
called-inst soup p None = refl

called-spare : (soup : Seen) (p : Player) (o : Option Call) → 0 < soup.spare → (called soup p o).soup.spare + entries_of (called soup p o).acts ≡ soup.spare
called-spare soup p (Some call) h = omega arith
called-spare soup p None h = omega arith

called-units : (soup : Seen) (p : Player) (o : Option Call) → (called soup p o).player.units ≡ p.units + entries_of (called soup p o).acts
called-units soup p (Some call) = refl
called-units soup p None = omega arith

few-entries : (b : Bool) → entries_of b ≤ 1
few-entries true = omega arith
few-entries false = omega arith

pub call-made : (procs : List Proc) (budget : ℕ) (soup after : Seen) (before bare new : Bare) (call : Call) (acts : Bool) → Stands procs soup.inst budget (ticked procs budget (player_of procs before)) bare → before.units ≤ bare.units
    → Some call ≡ asked (left_of budget (player_of procs bare)) (next procs (machine_of procs bare.cont)) → bare.units < budget → 0 < soup.spare → BareIsReady procs soup.inst budget new
    → ◌≡◌ {A = Turn} (record { soup = after; player = player_of procs new; acts = acts }) (called soup (player_of procs bare) (if_can soup bare.node (Some call)))
    → TurnIsMade procs budget soup after before new acts
call-made procs budget soup after before bare new call acts h more asks less room ready turn =
    let p = player_of procs bare in
    let o = if_can soup bare.node (Some call) in
    let spare : after.spare + entries_of acts ≡ soup.spare = ap (λ (t : Turn). t.soup.spare + entries_of t.acts) turn ∙ called-spare soup p o room in
    let same : entries_of acts ≡ entries_of (called soup p o).acts = ap (λ (t : Turn). entries_of t.acts) turn in
    let units : new.units ≡ bare.units + entries_of acts = ap (λ (t : Turn). t.player.units) turn ∙ called-units soup p o ∙ ap (λ (n : ℕ). bare.units + n) (sym same) in
    let few : entries_of acts ≤ 1 = few-entries acts in
    record {
      ready = ready;
      whole = turn ∙ turn-at procs budget soup (player_of procs before) p o h.is (asks-call procs budget soup p call asks);
      same = ap (λ (t : Turn). t.soup.inst) turn ∙ called-inst soup p o;
      spare = spare;
      left = omega arith;
    }

-- the node after its call
pub called-ready : (procs : List Proc) (inst : Instances) (budget : ℕ) (bare : Bare) (cont : Cont) (reply : Reply) → BareIsReady procs inst budget bare → bare.units < budget → IsReady procs cont
    → machine_of procs cont ≡ after_reply (machine_of procs bare.cont) reply → BareIsReady procs inst budget (record { node = bare.node; cont = cont; ticks = 0; units = bare.units + 1; end = bare.end })
called-ready procs inst budget bare cont reply h less ready moves = record {
  cont = ready;
  given = subst (MachineIsGiven inst) (sym moves) (reply-given inst (machine_of procs bare.cont) reply h.given);
  node = h.node;
  units = omega arith;
  ticks = omega arith;
}

called-player : (procs : List Proc) (soup : Seen) (bare : Bare) (cont : Cont) (call : Call) (reply : Reply) → reply ≡ reply_of soup bare.node call → machine_of procs cont ≡ after_reply (machine_of procs bare.cont) reply
    → player_of procs (record { node = bare.node; cont = cont; ticks = 0; units = bare.units + 1; end = bare.end }) ≡ (called soup (player_of procs bare) (Some call)).player
called-player procs soup bare cont call reply told moves =
    λ i. record { node = bare.node; machine = (moves ∙ ap (after_reply (machine_of procs bare.cont)) told) i; ticks = 0; units = bare.units + 1 }

-- ---- the call, if it is made

ready-some : (b : Bool) (reply made : Reply) → Some reply ≡ cond b (Some made) None → (b ≡ true) × (reply ≡ made)
ready-some true reply made e = let same : reply ≡ made = cc in (refl, same)
ready-some false reply made e = cc

ready-none : (b : Bool) (made : Reply) → None ≡ cond b (Some made) None → b ≡ false
ready-none true made e = cc
ready-none false made e = refl

pub is-called : (procs : List Proc) (soup after : Seen) (bare : Bare) (cont : Cont) (call : Call) (reply : Reply) → Some reply ≡ cond (can_call soup bare.node call) (Some (reply_of soup bare.node call)) None
    → after ≡ cond (can_call soup bare.node call) (acted soup bare.node bare.ticks call) soup → machine_of procs cont ≡ after_reply (machine_of procs bare.cont) reply
    → ◌≡◌ {A = Turn} (record { soup = after; player = player_of procs (record { node = bare.node; cont = cont; ticks = 0; units = bare.units + 1; end = bare.end }); acts = true }) (called soup (player_of procs bare) (if_can soup bare.node (Some call)))
is-called procs soup after bare cont call reply told is moves =
    let both = ready-some (can_call soup bare.node call) reply (reply_of soup bare.node call) told in
    let made : after ≡ acted soup bare.node bare.ticks call = is ∙ ap (λ (b : Bool). cond b (acted soup bare.node bare.ticks call) soup) both.0 in
    (λ i. record { soup = made i; player = called-player procs soup bare cont call reply both.1 moves i; acts = true })
    ∙ ap (λ (b : Bool). called soup (player_of procs bare) (cond b (Some call) None)) (sym both.0)

pub is-not-called : (procs : List Proc) (soup after : Seen) (bare : Bare) (call : Call) → None ≡ cond (can_call soup bare.node call) (Some (reply_of soup bare.node call)) None
    → after ≡ cond (can_call soup bare.node call) (acted soup bare.node bare.ticks call) soup
    → ◌≡◌ {A = Turn} (record { soup = after; player = player_of procs bare; acts = false }) (called soup (player_of procs bare) (if_can soup bare.node (Some call)))
is-not-called procs soup after bare call told is =
    let waits : can_call soup bare.node call ≡ false = ready-none (can_call soup bare.node call) (reply_of soup bare.node call) told in
    let same : after ≡ soup = is ∙ ap (λ (b : Bool). cond b (acted soup bare.node bare.ticks call) soup) waits in
    (λ i. record { soup = same i; player = player_of procs bare; acts = false })
    ∙ ap (λ (b : Bool). called soup (player_of procs bare) (cond b (Some call) None)) (sym waits)
