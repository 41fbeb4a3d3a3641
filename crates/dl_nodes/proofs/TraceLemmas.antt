-- What the schedule does to the trace of each node.
use Rattle.std.proofs.Common.{◌≡◌, ◌<◌, ◌≤◌, ◌+◌, ◌-◌, ◌==◌, ℕ, zero, suc, pos, Bool, true, false, ◌||◌, cond, Option, Some, None, List, [], ◌∷◌, ◌++◌, map, refl, ap, sym, ◌∙◌, subst, arith}
use Rattle.std.proofs.Common.{eq-eqb}
use Rattle.std.specs.List.{AllByRecursion as Each, AllZip, range_with_len}
use Rattle.std.proofs.lemmas.Bool.{eqb-false, eqb-true}
use Rattle.std.proofs.lemmas.List.Elements.{filter-append}
use Rattle.dl_term.specs.State.{State}
use Rattle.dl_model.specs.declared.file.Decls.{Decls}
use Rattle.dl_model.specs.declared.file.Program.{Program}
use Rattle.dl_model.specs.declared.history.Call.{Call}
use Rattle.dl_model.specs.declared.history.Call.TheVariants as call
use Rattle.dl_model.specs.declared.history.Entry.{Entry}
use Rattle.dl_model.specs.declared.history.Order.{Order}
use Rattle.dl_model.specs.declared.program.Proc.{Proc}
use Rattle.dl_model.specs.declared.protocol.Instances.{Instances}
use Rattle.dl_model.specs.Delivery.{IsUnder}
use Rattle.dl_model.specs.Ends.{Rest, after_ticks, end_at, end_of, if_tick, units_of}
use Rattle.dl_model.specs.Formed.{AreDistinct, IsFormed}
use Rattle.dl_model.specs.Histories.{HasProgram, IsTrace, SoupLeads, condensed_from, is_wait, is_wait_of, mine, with_ticks}
use Rattle.dl_model.specs.Lookup.{program_of}
use Rattle.dl_model.specs.Machine.{Machine, Over, Next, Ticks, Asks, Ends, Stops, Ticked, after_reply, next}
use Rattle.dl_model.specs.Runs.{machine_of}
use Rattle.dl_model.specs.Sorts.{has}
use Rattle.dl_model.specs.States.{first_state}
use Rattle.dl_state.specs.Shapes.{shape_state}
use Rattle.dl_model.proofs.Small.{each-map, eqb-other, or-both, or-left, or-right}
use Rattle.dl_soup.specs.Kept.{IsKept}
use Rattle.dl_soup.specs.Replies.{acted, can_call, entry_of, reply_of}
use Rattle.dl_soup.specs.Seen.{Seen}
use Rattle.dl_soup.proofs.WaitLemmas.{call-no-wait}
use Rattle.dl_nodes.specs.declared.bare.Bare.{Bare}
use Rattle.dl_nodes.specs.declared.begin.Run.{Run}
use Rattle.dl_nodes.specs.Begun.{IsFirst, IsSerialRun, first_player, first_players, first_players_of}
use Rattle.dl_nodes.specs.Players.{HasEnd, SoupIsSame}
use Rattle.dl_nodes.specs.Serial.{Player, Rounds, asked, call_of, called, if_can, left_of, round_of, ticked, turn_of}
use Rattle.dl_nodes.specs.Traced.{Comes, EndsTraced, IsTraced}
use Rattle.dl_nodes.proofs.FormedLemmas.{node-known}
use Rattle.dl_nodes.proofs.RoundLemmas.{serial-keeps}
use Rattle.dl_nodes.proofs.TickLemmas.{left-falls}
use Rattle.dl_nodes.proofs.TurnLemmas.{asks-next, with-unit}

-- ---- ticks

ticked-then : (procs : List Proc) (a b : ℕ) (m n o : Machine) → Ticked procs a m n → Ticked procs b n o → Ticked procs (a + b) m o
ticked-then procs zero b m n o h k =
    let q : b ≡ zero + b = omega arith in
    subst (λ (t : ℕ). Ticked procs t m o) q (subst (λ (x : Machine). Ticked procs b x o) (sym h) k)
ticked-then procs (suc a) b m n o h k =
    let q : suc (a + b) ≡ suc a + b = omega arith in
    subst (λ (t : ℕ). Ticked procs t m o) q (h.0, h.1, ticked-then procs a b h.0 n o h.2 k)

no-ticks : (procs : List Proc) (n x : ℕ) (m : Machine) → x ≡ n → Ticked procs (n - x) m m
no-ticks procs n x m e =
    let q : 0 ≡ n - x = omega arith in
    subst (λ (k : ℕ). Ticked procs k m m) q refl

-- the ticks that are made where so many units are left
rest-ticked : (procs : List Proc) (n : ℕ) (m : Machine) → Ticked procs (n - (after_ticks procs n m).left) m (after_ticks procs n m).machine
rest-ticked procs zero m = no-ticks procs zero zero m refl
rest-ticked procs (suc n) m = go (next procs m) refl (λ after. rest-ticked procs n after) (λ after. left-falls procs n after)
  where
    go : (x : Next) → next procs m ≡ x → ((after : Machine) → Ticked procs (n - (after_ticks procs n after).left) after (after_ticks procs n after).machine)
        → ((after : Machine) → (after_ticks procs n after).left ≤ n)
        → Ticked procs (suc n - (if_tick (λ after. after_ticks procs n after) (record { machine = m; left = suc n }) x).left) m (if_tick (λ after. after_ticks procs n after) (record { machine = m; left = suc n }) x).machine
    go (Ticks after) e h few =
        let less : (after_ticks procs n after).left ≤ n = few after in
        let q : suc (n - (after_ticks procs n after).left) ≡ suc n - (after_ticks procs n after).left = omega arith in
        subst (λ (k : ℕ). Ticked procs k m (after_ticks procs n after).machine) q (after, e, h after)
    go (Asks call) e h few = no-ticks procs (suc n) (suc n) m refl
    go (Ends v) e h few = no-ticks procs (suc n) (suc n) m refl
    go Stops e h few = no-ticks procs (suc n) (suc n) m refl

-- further ticks of a machine lead where all its ticks do
rest-after : (procs : List Proc) (budget units k : ℕ) (m n : Machine) → Ticked procs k m n → units + k ≤ budget → after_ticks procs (budget - units) m ≡ after_ticks procs (budget - (units + k)) n
rest-after procs budget units zero m n h less =
    let q : budget - units ≡ budget - (units + zero) = omega arith in
    λ i. after_ticks procs (q i) (h i)
rest-after procs budget units (suc k) m n h less =
    let l : budget - units ≡ suc (budget - (units + 1)) = omega arith in
    let more : (units + 1) + k ≤ budget = omega arith in
    let q : budget - ((units + 1) + k) ≡ budget - (units + suc k) = omega arith in
    ap (λ (j : ℕ). after_ticks procs j m) l
    ∙ ap (λ (x : Next). if_tick (λ after. after_ticks procs (budget - (units + 1)) after) (record { machine = m; left = suc (budget - (units + 1)) }) x) h.1
    ∙ rest-after procs budget (units + 1) k h.0 n h.2 more
    ∙ ap (λ (j : ℕ). after_ticks procs j n) q

-- ---- entries of a node

comes-more : (procs : List Proc) (entries : List Entry) (m mid asking : Machine) (entry : Entry) → Comes procs m entries mid → Ticked procs entry.ticks mid asking → next procs asking ≡ Asks entry.call
    → Comes procs m (entries ++ entry ∷ []) (after_reply asking entry.reply)
comes-more procs [] m mid asking entry h t n = (asking, subst (λ (x : Machine). Ticked procs entry.ticks x asking) (sym h) t, n, refl)
comes-more procs (e ∷ entries) m mid asking entry h t n = (h.0, h.1, h.2, comes-more procs entries (after_reply h.0 e.reply) mid asking entry h.3 t n)

comes-trace : (procs : List Proc) (entries : List Entry) (m n : Machine) → Comes procs m entries n → IsTrace procs m entries
comes-trace procs [] m n h = tt
comes-trace procs (e ∷ entries) m n h = (h.0, h.1, h.2, comes-trace procs entries (after_reply h.0 e.reply) n h.3)

append-none : {X : Type 0} (xs : List X) → xs ++ [] ≡ xs
append-none [] = refl
append-none (x ∷ xs) = ap (λ zs. x ∷ zs) (append-none xs)

mine-more : (entries : List Entry) (entry : Entry) (node : ℕ) (b : Bool) → (node == entry.node) ≡ b → mine (entries ++ entry ∷ []) node ≡ mine entries node ++ cond b (entry ∷ []) []
mine-more entries entry node b e = filter-append (λ (x : Entry). node == x.node) entries (entry ∷ []) ∙ ap (λ (c : Bool). mine entries node ++ cond c (entry ∷ []) []) e

units-more : (entries : List Entry) (entry : Entry) → is_wait entry ≡ false → units_of (entries ++ entry ∷ []) ≡ units_of entries + (entry.ticks + 1)
units-more [] entry e =
    let one : units_of (entry ∷ []) ≡ (entry.ticks + 1) + 0 = ap (λ (b : Bool). (entry.ticks + cond b 0 1) + 0) e in
    omega (arith, one)
units-more (x ∷ entries) entry e =
    let h : units_of (entries ++ entry ∷ []) ≡ units_of entries + (entry.ticks + 1) = units-more entries entry e in
    omega (arith, h)

-- ---- what a node has come to

-- The node's entries lead to a machine, its ticks since then lead to its machine, and its units are those of both.
record HasCome (procs : List Proc) (budget : ℕ) (start : Machine) (entries : List Entry) (player : Player) : Type 0 where
  pub asking : Machine
  pub comes : Comes procs start (mine entries player.node) asking
  pub since : Ticked procs player.ticks asking player.machine
  pub count : player.units ≡ units_of (mine entries player.node) + player.ticks
  pub few : player.units ≤ budget

come-ticks : (procs : List Proc) (budget : ℕ) (start : Machine) (entries : List Entry) (p : Player) → HasCome procs budget start entries p → HasCome procs budget start entries (ticked procs budget p)
come-ticks procs budget start entries p h =
    let rest = after_ticks procs (left_of budget p) p.machine in
    let count : p.units ≡ units_of (mine entries p.node) + p.ticks = h.count in
    let few : p.units ≤ budget = h.few in
    record {
      asking = h.asking;
      comes = h.comes;
      since = ticked-then procs p.ticks (left_of budget p - rest.left) h.asking p.machine rest.machine h.since (rest-ticked procs (left_of budget p) p.machine);
      count = omega arith;
      few = omega arith;
    }

come-call : (procs : List Proc) (budget : ℕ) (start : Machine) (soup : Seen) (p : Player) (call : Call) → HasCome procs budget start soup.history p → next procs p.machine ≡ Asks call → p.units < budget
    → is_wait_of call (reply_of soup p.node call) ≡ false → HasCome procs budget start (acted soup p.node p.ticks call).history (called soup p (Some call)).player
come-call procs budget start soup p call h asks less acts =
    let entry = entry_of p.node p.ticks call (reply_of soup p.node call) in
    let own : mine (soup.history ++ entry ∷ []) p.node ≡ mine soup.history p.node ++ entry ∷ [] = mine-more soup.history entry p.node true (eq-eqb p.node p.node refl) in
    let was : p.units ≡ units_of (mine soup.history p.node) + p.ticks = h.count in
    let more : units_of (mine soup.history p.node ++ entry ∷ []) ≡ units_of (mine soup.history p.node) + (p.ticks + 1) = units-more (mine soup.history p.node) entry acts in
    let all : units_of (mine (soup.history ++ entry ∷ []) p.node) ≡ units_of (mine soup.history p.node ++ entry ∷ []) = ap units_of own in
    record {
      asking = after_reply p.machine (reply_of soup p.node call);
      comes = subst (λ (es : List Entry). Comes procs start es (after_reply p.machine (reply_of soup p.node call))) (sym own)
          (comes-more procs (mine soup.history p.node) start h.asking p.machine entry h.comes h.since asks);
      since = refl;
      count = omega (arith, was, more, all);
      few = omega arith;
    }

come-other : (procs : List Proc) (budget : ℕ) (start : Machine) (entries : List Entry) (entry : Entry) (q : Player) → (q.node == entry.node) ≡ false → HasCome procs budget start entries q
    → HasCome procs budget start (entries ++ entry ∷ []) q
come-other procs budget start entries entry q other h =
    let same : mine entries q.node ≡ mine (entries ++ entry ∷ []) q.node = sym (mine-more entries entry q.node false other ∙ append-none (mine entries q.node)) in
    record {
      asking = h.asking;
      comes = subst (λ (es : List Entry). Comes procs start es h.asking) same h.comes;
      since = h.since;
      count = h.count ∙ ap (λ (es : List Entry). units_of es + q.ticks) same;
      few = h.few;
    }

-- ---- a turn

if-can-some : (soup : Seen) (node : ℕ) (o : Option Call) (call : Call) → if_can soup node o ≡ Some call → (o ≡ Some call) × (can_call soup node call ≡ true)
if-can-some soup node None call e = cc
if-can-some soup node (Some c) call e = go (can_call soup node c) refl e
  where
    go : (b : Bool) → can_call soup node c ≡ b → cond b (Some c) None ≡ Some call → (Some c ≡ Some call) × (can_call soup node call ≡ true)
    go true q f =
        let same : call ≡ c = cc in
        (f, ap (λ (d : Call). can_call soup node d) same ∙ q)
    go false q f = cc

own-call : (procs : List Proc) (budget : ℕ) (start : Machine) (soup : Seen) (p : Player) (o : Option Call) → call_of procs budget soup p ≡ o → HasCome procs budget start soup.history p
    → HasCome procs budget start (called soup p o).soup.history (called soup p o).player
own-call procs budget start soup p None e h = h
own-call procs budget start soup p (Some call) e h =
    let both = if-can-some soup p.node (asked (left_of budget p) (next procs p.machine)) call e in
    come-call procs budget start soup p call h (asks-next (left_of budget p) (next procs p.machine) call (sym both.0)) (with-unit budget p (next procs p.machine) call (sym both.0)) (call-no-wait soup p.node call both.1)

turn-own : (procs : List Proc) (budget : ℕ) (start : Machine) (soup : Seen) (p : Player) → HasCome procs budget start soup.history p
    → HasCome procs budget start (turn_of procs budget soup p).soup.history (turn_of procs budget soup p).player
turn-own procs budget start soup p h = own-call procs budget start soup (ticked procs budget p) (call_of procs budget soup (ticked procs budget p)) refl (come-ticks procs budget start soup.history p h)

other-call : (procs : List Proc) (budget : ℕ) (start : Machine) (soup : Seen) (p q : Player) (o : Option Call) → (q.node == p.node) ≡ false → HasCome procs budget start soup.history q
    → HasCome procs budget start (called soup p o).soup.history q
other-call procs budget start soup p q None other h = h
other-call procs budget start soup p q (Some call) other h = come-other procs budget start soup.history (entry_of p.node p.ticks call (reply_of soup p.node call)) q other h

turn-other : (procs : List Proc) (budget : ℕ) (start : Machine) (soup : Seen) (p q : Player) → (q.node == p.node) ≡ false → HasCome procs budget start soup.history q
    → HasCome procs budget start (turn_of procs budget soup p).soup.history q
turn-other procs budget start soup p q other h = other-call procs budget start soup (ticked procs budget p) q (call_of procs budget soup (ticked procs budget p)) other h

called-node : (soup : Seen) (p : Player) (o : Option Call) → (called soup p o).player.node ≡ p.node
called-node soup p None = refl
called-node soup p (Some call) = refl

turn-node : (procs : List Proc) (budget : ℕ) (soup : Seen) (p : Player) → (turn_of procs budget soup p).player.node ≡ p.node
turn-node procs budget soup p = called-node soup (ticked procs budget p) (call_of procs budget soup (ticked procs budget p))

-- ---- a round

abbrev nodes_in : List Player → List ℕ
nodes_in players = map (λ (p : Player). p.node) players

-- each node has come to where its entries lead from where it starts
abbrev EachCome : List Proc → ℕ → (ℕ → Machine) → List Entry → List Player → Type 0
EachCome procs budget starts entries players = Each (λ (p : Player). HasCome procs budget (starts p.node) entries p) players

eqb-turned : (a b : ℕ) → (a == b) ≡ false → (b == a) ≡ false
eqb-turned a b e = eqb-other b a (λ q. eqb-false a b e (sym q))

each-other : (procs : List Proc) (budget : ℕ) (starts : ℕ → Machine) (soup : Seen) (p : Player) (players : List Player) → has (nodes_in players) p.node ≡ false → EachCome procs budget starts soup.history players
    → EachCome procs budget starts (turn_of procs budget soup p).soup.history players
each-other procs budget starts soup p [] apart h = tt
each-other procs budget starts soup p (q ∷ players) apart h = (
  turn-other procs budget (starts q.node) soup p q (eqb-turned p.node q.node (or-left (p.node == q.node) (has (nodes_in players) p.node) apart)) h.0,
  each-other procs budget starts soup p players (or-right (p.node == q.node) (has (nodes_in players) p.node) apart) h.1,
)

round-apart : (procs : List Proc) (budget : ℕ) (start : Machine) (soup : Seen) (q : Player) (players : List Player) → has (nodes_in players) q.node ≡ false → HasCome procs budget start soup.history q
    → HasCome procs budget start (round_of procs budget soup players).soup.history q
round-apart procs budget start soup q [] apart h = h
round-apart procs budget start soup q (p ∷ players) apart h =
    round-apart procs budget start (turn_of procs budget soup p).soup q players (or-right (q.node == p.node) (has (nodes_in players) q.node) apart)
    (turn-other procs budget start soup p q (or-left (q.node == p.node) (has (nodes_in players) q.node) apart) h)

round-come : (procs : List Proc) (budget : ℕ) (starts : ℕ → Machine) (soup : Seen) (players : List Player) → AreDistinct (nodes_in players) → EachCome procs budget starts soup.history players
    → EachCome procs budget starts (round_of procs budget soup players).soup.history (round_of procs budget soup players).players
round-come procs budget starts soup [] distinct h = tt
round-come procs budget starts soup (p ∷ players) distinct h =
    let turn = turn_of procs budget soup p in
    let at_node = turn-node procs budget soup p in
    let own : HasCome procs budget (starts turn.player.node) turn.soup.history turn.player =
    subst (λ (n : ℕ). HasCome procs budget (starts n) turn.soup.history turn.player) (sym at_node) (turn-own procs budget (starts p.node) soup p h.0) in (
      round-apart procs budget (starts turn.player.node) turn.soup turn.player players (ap (λ (n : ℕ). has (nodes_in players) n) at_node ∙ distinct.0) own,
      round-come procs budget starts turn.soup players distinct.1 (each-other procs budget starts soup p players distinct.0 h.1),
    )

pub round-nodes : (procs : List Proc) (budget : ℕ) (soup : Seen) (players : List Player) → nodes_in (round_of procs budget soup players).players ≡ nodes_in players
round-nodes procs budget soup [] = refl
round-nodes procs budget soup (p ∷ players) = λ i. turn-node procs budget soup p i ∷ round-nodes procs budget (turn_of procs budget soup p).soup players i

-- ---- each entry is of one of the nodes

each-more : {X : Type 0} (P : X → Type 0) (xs ys : List X) → Each P xs → Each P ys → Each P (xs ++ ys)
each-more P [] ys h k = k
each-more P (x ∷ xs) ys h k = (h.0, each-more P xs ys h.1 k)

-- the entry is of such a node, and no wait
abbrev IsKnown : (ℕ → Type 0) → Entry → Type 0
IsKnown K entry = K entry.node × (is_wait entry ≡ false)

called-known : (K : ℕ → Type 0) (procs : List Proc) (budget : ℕ) (soup : Seen) (p : Player) (o : Option Call) → call_of procs budget soup p ≡ o → K p.node → Each (IsKnown K) soup.history → Each (IsKnown K) (called soup p o).soup.history
called-known K procs budget soup p None e k h = h
called-known K procs budget soup p (Some call) e k h =
    let both = if-can-some soup p.node (asked (left_of budget p) (next procs p.machine)) call e in
    each-more (IsKnown K) soup.history (entry_of p.node p.ticks call (reply_of soup p.node call) ∷ []) h ((k, call-no-wait soup p.node call both.1), tt)

round-known : (K : ℕ → Type 0) (procs : List Proc) (budget : ℕ) (soup : Seen) (players : List Player) → Each K (nodes_in players) → Each (IsKnown K) soup.history
    → Each (IsKnown K) (round_of procs budget soup players).soup.history
round-known K procs budget soup [] k h = h
round-known K procs budget soup (p ∷ players) k h =
    round-known K procs budget (turn_of procs budget soup p).soup players k.1 (called-known K procs budget soup (ticked procs budget p) (call_of procs budget soup (ticked procs budget p)) refl k.0 h)

-- ---- without waits

none-waits : (ticks : ℕ → ℕ) (node : ℕ) → ((n : ℕ) → ticks n ≡ 0) → (n : ℕ) → with_ticks ticks node 0 n ≡ 0
none-waits ticks node h n = go (n == node)
  where
    go : (b : Bool) → cond b 0 (ticks n) ≡ 0
    go true = refl
    go false = h n

-- a history without waits is whole
condensed-whole : (ticks : ℕ → ℕ) (entries : List Entry) → ((n : ℕ) → ticks n ≡ 0) → Each (λ (e : Entry). is_wait e ≡ false) entries → condensed_from ticks entries ≡ entries
condensed-whole ticks [] z h = refl
condensed-whole ticks (e ∷ entries) z h =
    let none : ticks e.node ≡ 0 = z e.node in
    let same : ticks e.node + e.ticks ≡ e.ticks = omega arith in
    let rest : condensed_from (with_ticks ticks e.node 0) entries ≡ entries = condensed-whole (with_ticks ticks e.node 0) entries (none-waits ticks e.node z) h.1 in
    ap (λ (b : Bool). cond b (condensed_from (with_ticks ticks e.node (ticks e.node + e.ticks)) entries)
    (record { node = e.node; ticks = ticks e.node + e.ticks; call = e.call; reply = e.reply } ∷ condensed_from (with_ticks ticks e.node 0) entries)) h.0
    ∙ (λ i. record { node = e.node; ticks = same i; call = e.call; reply = e.reply } ∷ rest i)

-- ---- rounds

-- what rounds keep of the nodes and of the history
record AreTraced (K : ℕ → Type 0) (procs : List Proc) (budget : ℕ) (starts : ℕ → Machine) (nodes : List ℕ) (history : List Entry) (players : List Player) : Type 0 where
  pub same : nodes_in players ≡ nodes
  pub come : EachCome procs budget starts history players
  pub known : Each (IsKnown K) history

round-traced : (K : ℕ → Type 0) (procs : List Proc) (budget : ℕ) (starts : ℕ → Machine) (nodes : List ℕ) (soup : Seen) (players : List Player) → AreDistinct nodes → Each K nodes
    → AreTraced K procs budget starts nodes soup.history players → AreTraced K procs budget starts nodes (round_of procs budget soup players).soup.history (round_of procs budget soup players).players
round-traced K procs budget starts nodes soup players distinct each h = record {
  same = round-nodes procs budget soup players ∙ h.same;
  come = round-come procs budget starts soup players (subst AreDistinct (sym h.same) distinct) h.come;
  known = round-known K procs budget soup players (subst (Each K) (sym h.same) each) h.known;
}

rounds-traced : (K : ℕ → Type 0) (procs : List Proc) (budget : ℕ) (starts : ℕ → Machine) (nodes : List ℕ) (rounds : ℕ) (soup : Seen) (players : List Player) (after : Seen) (ended : List Player) → AreDistinct nodes → Each K nodes
    → Rounds procs budget rounds soup players after ended → AreTraced K procs budget starts nodes soup.history players → AreTraced K procs budget starts nodes after.history ended
rounds-traced K procs budget starts nodes zero soup players after ended distinct each made h =
    subst (λ (s : Seen). AreTraced K procs budget starts nodes s.history ended) made.1
    (subst (λ (ps : List Player). AreTraced K procs budget starts nodes (round_of procs budget soup players).soup.history ps) made.2
    (round-traced K procs budget starts nodes soup players distinct each h))
rounds-traced K procs budget starts nodes (suc more) soup players after ended distinct each made h =
    rounds-traced K procs budget starts nodes more (round_of procs budget soup players).soup (round_of procs budget soup players).players after ended distinct each made.1
    (round-traced K procs budget starts nodes soup players distinct each h)

-- ---- the beginning

abbrev start_of : Decls → ℕ → Option Program → Machine
start_of decls node (Some program) = machine_of decls node program
start_of decls node None = Over (pos 0)

abbrev starts_of : Decls → ℕ → Machine
starts_of decls node = start_of decls node (program_of decls node)

abbrev RunsOne : Decls → ℕ → Type 0
RunsOne decls node = (program : Program) × (program_of decls node ≡ Some program)

first-come : (decls : Decls) (budget node : ℕ) (o : Option Program) → program_of decls node ≡ o → EachCome decls.procs budget (starts_of decls) [] (first_player decls node o)
first-come decls budget node None e = tt
first-come decls budget node (Some program) e = (
  record { asking = machine_of decls node program; comes = ap (start_of decls node) e; since = refl; count = refl; few = omega arith },
  tt,
)

all-come : (decls : Decls) (budget : ℕ) (nodes : List ℕ) → EachCome decls.procs budget (starts_of decls) [] (first_players_of decls nodes)
all-come decls budget [] = tt
all-come decls budget (node ∷ nodes) =
    each-more (λ (p : Player). HasCome decls.procs budget (starts_of decls p.node) [] p) (first_player decls node (program_of decls node)) (first_players_of decls nodes)
    (first-come decls budget node (program_of decls node) refl) (all-come decls budget nodes)

-- the nodes in front of which one stands, if it has a program
front-lacks : (decls : Decls) (node x : ℕ) (o : Option Program) (players : List Player) → (x == node) ≡ false → has (nodes_in players) x ≡ false → has (nodes_in (first_player decls node o ++ players)) x ≡ false
front-lacks decls node x None players e h = h
front-lacks decls node x (Some program) players e h = or-both (x == node) (has (nodes_in players) x) e h

first-lacks : (decls : Decls) (nodes : List ℕ) (x : ℕ) → has nodes x ≡ false → has (nodes_in (first_players_of decls nodes)) x ≡ false
first-lacks decls [] x h = refl
first-lacks decls (node ∷ nodes) x h =
    front-lacks decls node x (program_of decls node) (first_players_of decls nodes) (or-left (x == node) (has nodes x) h) (first-lacks decls nodes x (or-right (x == node) (has nodes x) h))

front-distinct : (decls : Decls) (node : ℕ) (o : Option Program) (players : List Player) → has (nodes_in players) node ≡ false → AreDistinct (nodes_in players) → AreDistinct (nodes_in (first_player decls node o ++ players))
front-distinct decls node None players e h = h
front-distinct decls node (Some program) players e h = (e, h)

first-distinct : (decls : Decls) (nodes : List ℕ) → AreDistinct nodes → AreDistinct (nodes_in (first_players_of decls nodes))
first-distinct decls [] h = tt
first-distinct decls (node ∷ nodes) h =
    front-distinct decls node (program_of decls node) (first_players_of decls nodes) (first-lacks decls nodes node h.0) (first-distinct decls nodes h.1)

range-lacks : (a b n : ℕ) → a < b → has (range_with_len b n) a ≡ false
range-lacks a b zero h = refl
range-lacks a b (suc n) h = or-both (a == b) (has (range_with_len (b + 1) n) a) (eqb-other a b (λ e. omega arith)) (range-lacks a (b + 1) n (omega arith))

range-distinct : (a n : ℕ) → AreDistinct (range_with_len a n)
range-distinct a zero = tt
range-distinct a (suc n) = (range-lacks a (a + 1) n (omega arith), range-distinct (a + 1) n)

front-runs : (decls : Decls) (node : ℕ) (o : Option Program) (players : List Player) → program_of decls node ≡ o → Each (RunsOne decls) (nodes_in players) → Each (RunsOne decls) (nodes_in (first_player decls node o ++ players))
front-runs decls node None players e h = h
front-runs decls node (Some program) players e h = ((program, e), h)

first-runs : (decls : Decls) (nodes : List ℕ) → Each (RunsOne decls) (nodes_in (first_players_of decls nodes))
first-runs decls [] = tt
first-runs decls (node ∷ nodes) = front-runs decls node (program_of decls node) (first_players_of decls nodes) refl (first-runs decls nodes)

front-has : (decls : Decls) (node x : ℕ) (o : Option Program) (players : List Player) → has (nodes_in players) x ≡ true → has (nodes_in (first_player decls node o ++ players)) x ≡ true
front-has decls node x None players h = h
front-has decls node x (Some program) players h = go (x == node)
  where
    go : (b : Bool) → (b || has (nodes_in players) x) ≡ true
    go true = refl
    go false = h

front-is : (decls : Decls) (node : ℕ) (o : Option Program) (program : Program) (players : List Player) → o ≡ Some program → has (nodes_in (first_player decls node o ++ players)) node ≡ true
front-is decls node None program players e = cc
front-is decls node (Some first) program players e = ap (λ (b : Bool). b || has (nodes_in players) node) (eq-eqb node node refl)

-- a node of the range that runs a program is there
first-has : (decls : Decls) (a n x : ℕ) (program : Program) → a ≤ x → x < a + n → program_of decls x ≡ Some program → has (nodes_in (first_players_of decls (range_with_len a n))) x ≡ true
first-has decls a zero x program low high e = absurd (omega arith)
first-has decls a (suc n) x program low high e = go (x == a) refl (λ above. first-has decls (a + 1) n x program above (omega arith) e)
  where
    go : (b : Bool) → (x == a) ≡ b → (a + 1 ≤ x → has (nodes_in (first_players_of decls (range_with_len (a + 1) n))) x ≡ true) → has (nodes_in (first_players_of decls (range_with_len a (suc n)))) x ≡ true
    go true q rest =
        let same : x ≡ a = eqb-true x a q in
        subst (λ (y : ℕ). has (nodes_in (first_players_of decls (range_with_len a (suc n)))) y ≡ true) (sym same)
        (front-is decls a (program_of decls a) program (first_players_of decls (range_with_len (a + 1) n)) (ap (program_of decls) (sym same) ∙ e))
    go false q rest =
        let other : x ≡ a → ⊥ = eqb-false x a q in
        let above : a + 1 ≤ x = omega (arith, other) in
        front-has decls a x (program_of decls a) (first_players_of decls (range_with_len (a + 1) n)) (rest above)

-- ---- the law

each-found : (P : Player → Type 0) (players : List Player) (x : ℕ) → has (nodes_in players) x ≡ true → Each P players → (p : Player) × (p.node ≡ x) × P p
each-found P [] x h each = cc
each-found P (p ∷ players) x h each = go (x == p.node) refl h (λ f. each-found P players x f each.1)
  where
    go : (b : Bool) → (x == p.node) ≡ b → (b || has (nodes_in players) x) ≡ true → (has (nodes_in players) x ≡ true → (q : Player) × (q.node ≡ x) × P q) → (q : Player) × (q.node ≡ x) × P q
    go true e f rest = (p, sym (eqb-true x p.node e), each.0)
    go false e f rest = rest f

starts-is : (decls : Decls) (node : ℕ) (program : Program) → program_of decls node ≡ Some program → starts_of decls node ≡ machine_of decls node program
starts-is decls node program e = ap (start_of decls node) e

end-traced : (decls : Decls) (budget : ℕ) (soup : Seen) (p : Player) (bare : Bare) → soup.inst ≡ decls.inst → RunsOne decls p.node → HasCome decls.procs budget (starts_of decls p.node) soup.history p → HasEnd decls.procs soup budget p bare
    → EndsTraced decls budget soup bare
end-traced decls budget soup p bare same (program, runs) h ends =
    let units = units_of (mine soup.history p.node) in
    let count : p.units ≡ units + p.ticks = h.count in
    let few : p.units ≤ budget = h.few in
    let rest : after_ticks decls.procs (budget - units) h.asking ≡ after_ticks decls.procs (budget - p.units) p.machine =
    rest-after decls.procs budget units p.ticks h.asking p.machine h.since (omega arith) ∙ ap (λ (k : ℕ). after_ticks decls.procs (budget - k) p.machine) (sym count) in
    let here : EndsTraced decls budget soup (record { node = p.node; cont = bare.cont; ticks = bare.ticks; units = bare.units; end = bare.end }) = record {
      program = program;
      machine = h.asking;
      runs = runs;
      comes = subst (λ (m : Machine). Comes decls.procs m (mine soup.history p.node) h.asking) (starts-is decls p.node program runs) h.comes;
      told = ends.told
          ∙ ap (λ (inst : Instances). end_of decls.procs inst soup.state p.node budget p.units p.machine) same
          ∙ sym (ap (λ (r : Rest). end_at decls.inst soup.state p.node r.left (next decls.procs r.machine)) rest);
      units = ends.units ∙ sym (ap (λ (r : Rest). budget - r.left) rest);
    } in
    subst (λ (n : ℕ). EndsTraced decls budget soup (record { node = n; cont = bare.cont; ticks = bare.ticks; units = bare.units; end = bare.end })) (sym ends.node) here

ends-traced : (decls : Decls) (budget : ℕ) (soup : Seen) (players : List Player) (nodes : List Bare) → soup.inst ≡ decls.inst → Each (RunsOne decls) (nodes_in players) → EachCome decls.procs budget (starts_of decls) soup.history players
    → AllZip (HasEnd decls.procs soup budget) players nodes → Each (EndsTraced decls budget soup) nodes
ends-traced decls budget soup [] [] same runs come ends = tt
ends-traced decls budget soup [] (bare ∷ nodes) same runs come ends = absurd ends
ends-traced decls budget soup (p ∷ players) [] same runs come ends = tt
ends-traced decls budget soup (p ∷ players) (bare ∷ nodes) same runs come ends =
    (end-traced decls budget soup p bare same runs.0 come.0 ends.0, ends-traced decls budget soup players nodes same runs.1 come.1 ends.1)

-- the soup's own history, from the first state of the file
from-first : (decls : Decls) (order : Order) (first soup : Seen) → IsFirst decls order first → SoupIsSame first soup → IsKept soup
    → SoupLeads decls.inst (first_state decls.inst) soup.history soup.state × IsUnder order 0 decls.inst (first_state decls.inst) soup.history
from-first decls order first soup begins same kept =
    let inst : soup.inst ≡ decls.inst = same.inst ∙ begins.same_inst in
    let state : shape_state soup.shape ≡ first_state decls.inst = ap shape_state same.shape ∙ begins.from_first in
    let under : soup.order ≡ order = same.order ∙ begins.same_order in (
      subst (λ (s : State). SoupLeads decls.inst s soup.history soup.state) state (subst (λ (i : Instances). SoupLeads i (shape_state soup.shape) soup.history soup.state) inst kept.leads),
      subst (λ (o : Order). IsUnder o 0 decls.inst (first_state decls.inst) soup.history) under
          (subst (λ (s : State). IsUnder soup.order 0 decls.inst s soup.history) state (subst (λ (i : Instances). IsUnder soup.order 0 i (shape_state soup.shape) soup.history) inst kept.under)),
    )

pub serial-traced : (decls : Decls) (budget : ℕ) (order : Order) (run : Run) → IsFormed decls → IsSerialRun decls budget order run → IsKept run.soup → IsTraced decls budget order run
serial-traced decls budget order run formed h own =
    let nodes = nodes_in (first_players decls) in
    let distinct : AreDistinct nodes = first-distinct decls (range_with_len 0 decls.inst.nodes) (range-distinct 0 decls.inst.nodes) in
    let runs : Each (RunsOne decls) nodes = first-runs decls (range_with_len 0 decls.inst.nodes) in
    let begins : AreTraced (RunsOne decls) decls.procs budget (starts_of decls) nodes h.first.history (first_players decls) =
    subst (λ (es : List Entry). AreTraced (RunsOne decls) decls.procs budget (starts_of decls) nodes es (first_players decls)) (sym h.begins.empty)
    (record { same = refl; come = all-come decls budget (range_with_len 0 decls.inst.nodes); known = tt }) in
    let done : AreTraced (RunsOne decls) decls.procs budget (starts_of decls) nodes run.soup.history h.players =
    rounds-traced (RunsOne decls) decls.procs budget (starts_of decls) nodes h.serial.0 h.first (first_players decls) run.soup h.players distinct runs h.serial.1 begins in
    let kept = serial-keeps decls.procs budget h.first (first_players decls) run.soup h.players h.serial in
    let both = from-first decls order h.first run.soup h.begins kept own in
    record {
      leads = both.0;
      under = both.1;
      entries = each-map (IsKnown (RunsOne decls)) (HasProgram decls) run.soup.history done.known (λ e k. k.0);
      whole = condensed-whole (λ node. 0) run.soup.history (λ n. refl)
          (each-map (IsKnown (RunsOne decls)) (λ (e : Entry). is_wait e ≡ false) run.soup.history done.known (λ e k. k.1));
      traces = λ node program e.
          let there : has (nodes_in h.players) node ≡ true =
          ap (λ (ns : List ℕ). has ns node) done.same ∙ first-has decls 0 decls.inst.nodes node program (omega arith) (omega (arith, node-known decls node program formed e)) e in
          let found = each-found (λ (p : Player). HasCome decls.procs budget (starts_of decls p.node) run.soup.history p) h.players node there done.come in
          subst (λ (m : Machine). IsTrace decls.procs m (mine run.soup.history node)) (starts-is decls node program e)
          (subst (λ (n : ℕ). IsTrace decls.procs (starts_of decls n) (mine run.soup.history n)) found.1
          (comes-trace decls.procs (mine run.soup.history found.0.node) (starts_of decls found.0.node) found.2.asking found.2.comes));
      ends = ends-traced decls budget run.soup h.players run.nodes.items (kept.inst ∙ h.begins.same_inst) (subst (Each (RunsOne decls)) (sym done.same) runs) done.come h.ends;
    }
