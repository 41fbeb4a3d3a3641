-- A round, one turn after another, and rounds one after another.
use Rattle.std.proofs.Common.{◌≡◌, ◌<◌, ◌≤◌, ◌+◌, ◌-◌, ℕ, zero, suc, Bool, true, false, ◌||◌, Option, Some, None, List, [], ◌∷◌, ◌++◌, length, take, drop, refl, ap, sym, ◌∙◌, subst, arith}
use Rattle.std.proofs.Common.{get_or, slice_set, add-one, drop-cons}
use Rattle.std.specs.List.{All, AllByRecursion as Each, AllZip}
use Rattle.std.proofs.lemmas.List.{drop-set-lt, drop_all, map-append, take_all, take_more, take_more_set}
use Rattle.std.proofs.lemmas.List.Sums.{sum_by-set, get_or-le-sum_by}
use Rattle.std.proofs.lemmas.List.Elements.{All-head, All-set, All-tail}
use Rattle.std.proofs.lemmas.Slice.Zip.{all_zipped_more}
use Rattle.dl_model.specs.declared.history.Call.{Call}
use Rattle.dl_model.specs.declared.program.Proc.{Proc}
use Rattle.dl_model.specs.declared.protocol.Instances.{Instances}
use Rattle.dl_soup.specs.Seen.{Seen}
use Rattle.dl_nodes.specs.declared.bare.Bare.{Bare}
use Rattle.dl_nodes.specs.Players.{BareIsReady, CanJudge, HasJudged, IsAtRest, SoupIsSame, entries_of, left_to, left_to_one, player_of, players_of}
use Rattle.dl_nodes.specs.Serial.{Player, Round, Rounds, IsSerial, Turn, call_of, called, round_of, ticked, turn_of}
use Rattle.dl_nodes.specs.Turns.{IsPlayed, RoundIsMade, TurnIsMade}
use Rattle.dl_nodes.proofs.EndLemmas.{round-rests}

-- a part of a round that was made, and the rest of it
abbrev pub round_then : List Player → Bool → Round → Round
round_then players acts rest = record { soup = rest.soup; players = players ++ rest.players; acts = acts || rest.acts }

or-assoc : (a b c : Bool) → (a || (b || c)) ≡ ((a || b) || c)
or-assoc true b c = refl
or-assoc false b c = refl

or-false : (a : Bool) → (a || false) ≡ a
or-false true = refl
or-false false = refl

append-more : {X : Type 0} (xs : List X) (y : X) (ys : List X) → xs ++ (y ∷ ys) ≡ (xs ++ y ∷ []) ++ ys
append-more [] y ys = refl
append-more (x ∷ xs) y ys = ap (λ zs. x ∷ zs) (append-more xs y ys)

append-none : {X : Type 0} (xs : List X) → xs ++ [] ≡ xs
append-none [] = refl
append-none (x ∷ xs) = ap (λ zs. x ∷ zs) (append-none xs)

-- the next turn moves into the part that was made
turn-made : (procs : List Proc) (budget : ℕ) (soup : Seen) (done : List Player) (acts : Bool) (player : Player) (players : List Player)
    → round_then done acts (round_of procs budget soup (player ∷ players))
    ≡ round_then (done ++ (turn_of procs budget soup player).player ∷ []) (acts || (turn_of procs budget soup player).acts) (round_of procs budget (turn_of procs budget soup player).soup players)
turn-made procs budget soup done acts player players =
    let turn = turn_of procs budget soup player in
    let rest = round_of procs budget turn.soup players in
    λ i. record { soup = rest.soup; players = append-more done turn.player rest.players i; acts = or-assoc acts turn.acts rest.acts i }

-- ---- a turn of the code's round

after-set : {X : Type 0} (xs : List X) (i : ℕ) (y : X) → drop (i + 1) (slice_set xs i y) ≡ drop (i + 1) xs
after-set xs i y = drop-set-lt (i + 1) xs i y (omega arith)

next-node : (procs : List Proc) (nodes : List Bare) (i : ℕ) (d : Bare) → i < length nodes → players_of procs (drop i nodes) ≡ player_of procs (get_or nodes i d) ∷ players_of procs (drop (i + 1) nodes)
next-node procs nodes i d h =
    ap (players_of procs) (drop-cons nodes i d h)
    ∙ ap (λ (n : ℕ). player_of procs (get_or nodes i d) ∷ players_of procs (drop n nodes)) (sym (add-one i))

more-nodes : (procs : List Proc) (nodes : List Bare) (i : ℕ) (new : Bare) → i < length nodes → players_of procs (take (i + 1) (slice_set nodes i new)) ≡ players_of procs (take i nodes) ++ player_of procs new ∷ []
more-nodes procs nodes i new h = ap (players_of procs) (take_more_set nodes i new h) ∙ map-append (player_of procs) (take i nodes) (new ∷ [])

round-step : (procs : List Proc) (budget : ℕ) (soup after : Seen) (nodes : List Bare) (i : ℕ) (d new : Bare) (acts acted : Bool) (whole : Round) → i < length nodes
    → ◌≡◌ {A = Turn} (record { soup = after; player = player_of procs new; acts = acted }) (turn_of procs budget soup (player_of procs (get_or nodes i d)))
    → round_then (players_of procs (take i nodes)) acts (round_of procs budget soup (players_of procs (drop i nodes))) ≡ whole
    → round_then (players_of procs (take (i + 1) (slice_set nodes i new))) (acts || acted) (round_of procs budget after (players_of procs (drop (i + 1) (slice_set nodes i new)))) ≡ whole
round-step procs budget soup after nodes i d new acts acted whole h made was =
    (λ j. round_then (more-nodes procs nodes i new h j) (acts || acted) (round_of procs budget after (players_of procs (after-set nodes i new j))))
    ∙ ap (λ (t : Turn). round_then (players_of procs (take i nodes) ++ t.player ∷ []) (acts || t.acts) (round_of procs budget t.soup (players_of procs (drop (i + 1) nodes)))) made
    ∙ sym (turn-made procs budget soup (players_of procs (take i nodes)) acts (player_of procs (get_or nodes i d)) (players_of procs (drop (i + 1) nodes)))
    ∙ ap (λ (ps : List Player). round_then (players_of procs (take i nodes)) acts (round_of procs budget soup ps)) (sym (next-node procs nodes i d h))
    ∙ was

entries-or : (a b : Bool) → entries_of (a || b) ≤ entries_of a + entries_of b
entries-or true b = omega arith
entries-or false b = omega arith

-- the units that are left after a node's turn
left-step : (budget : ℕ) (before nodes : List Bare) (i : ℕ) (d new : Bare) (acts acted : Bool) → i < length nodes
    → left_to_one budget new + entries_of acted ≤ left_to_one budget (get_or nodes i d) → left_to budget nodes + entries_of acts ≤ left_to budget before
    → left_to budget (slice_set nodes i new) + entries_of (acts || acted) ≤ left_to budget before
left-step budget before nodes i d new acts acted h falls was =
    let changed : left_to budget (slice_set nodes i new) + left_to_one budget (get_or nodes i d) ≡ left_to budget nodes + left_to_one budget new = sum_by-set (left_to_one budget) nodes i new d h in
    let few : entries_of (acts || acted) ≤ entries_of acts + entries_of acted = entries-or acts acted in
    omega arith

room-step : (budget spare now : ℕ) (nodes : List Bare) (i : ℕ) (d new : Bare) (acted : Bool) → i < length nodes
    → left_to_one budget new + entries_of acted ≤ left_to_one budget (get_or nodes i d) → now + entries_of acted ≡ spare → left_to budget nodes ≤ spare → left_to budget (slice_set nodes i new) ≤ now
room-step budget spare now nodes i d new acted h falls less was =
    let changed : left_to budget (slice_set nodes i new) + left_to_one budget (get_or nodes i d) ≡ left_to budget nodes + left_to_one budget new = sum_by-set (left_to_one budget) nodes i new d h in
    omega arith

-- ---- in the middle of a round

-- The turns of the first nodes are made, and the rest of the round leads where the whole one does.
pub record RoundSoFar (procs : List Proc) (budget : ℕ) (first now : Seen) (before nodes : List Bare) (i : ℕ) (acts : Bool) : Type 0 where
  pub ready : All (BareIsReady procs first.inst budget) nodes
  pub same : now.inst ≡ first.inst
  pub room : left_to budget nodes ≤ now.spare
  pub left : left_to budget nodes + entries_of acts ≤ left_to budget before
  pub made : round_then (players_of procs (take i nodes)) acts (round_of procs budget now (players_of procs (drop i nodes))) ≡ round_of procs budget first (players_of procs before)

pub round-begins : (procs : List Proc) (budget : ℕ) (soup : Seen) (nodes : List Bare) → All (BareIsReady procs soup.inst budget) nodes → left_to budget nodes ≤ soup.spare
    → RoundSoFar procs budget soup soup nodes nodes 0 false
round-begins procs budget soup nodes ready room = record { ready = ready; same = refl; room = room; left = omega arith; made = refl }

pub round-bare : (procs : List Proc) (budget : ℕ) (first now : Seen) (before nodes : List Bare) (i : ℕ) (acts : Bool) (d : Bare) → i < length nodes → RoundSoFar procs budget first now before nodes i acts
    → BareIsReady procs now.inst budget (get_or nodes i d)
round-bare procs budget first now before nodes i acts d lt h = subst (λ (inst : Instances). BareIsReady procs inst budget (get_or nodes i d)) (sym h.same) (h.ready i d lt)

-- one node has no more units left than all
pub round-room : (procs : List Proc) (budget : ℕ) (first now : Seen) (before nodes : List Bare) (i : ℕ) (acts : Bool) (d : Bare) → i < length nodes → RoundSoFar procs budget first now before nodes i acts
    → budget - (get_or nodes i d).units ≤ now.spare
round-room procs budget first now before nodes i acts d lt h =
    let one : left_to_one budget (get_or nodes i d) ≤ left_to budget nodes = get_or-le-sum_by (left_to_one budget) nodes i d lt in
    let room : left_to budget nodes ≤ now.spare = h.room in
    omega arith

pub round-goes : (procs : List Proc) (budget : ℕ) (first now after : Seen) (before nodes : List Bare) (i : ℕ) (d new : Bare) (acts acted both : Bool) → i < length nodes → both ≡ (acts || acted)
    → RoundSoFar procs budget first now before nodes i acts → TurnIsMade procs budget now after (get_or nodes i d) new acted
    → RoundSoFar procs budget first after before (slice_set nodes i new) (i + 1) both
round-goes procs budget first now after before nodes i d new acts acted both lt e h turn =
    subst (λ (b : Bool). RoundSoFar procs budget first after before (slice_set nodes i new) (i + 1) b) (sym e)
    (record {
      ready = All-set (BareIsReady procs first.inst budget) nodes i new (subst (λ (inst : Instances). BareIsReady procs inst budget new) h.same turn.ready) h.ready;
      same = turn.same ∙ h.same;
      room = room-step budget now.spare after.spare nodes i d new acted lt turn.left turn.spare h.room;
      left = left-step budget before nodes i d new acts acted lt turn.left h.left;
      made = round-step procs budget now after nodes i d new acts acted (round_of procs budget first (players_of procs before)) lt turn.whole h.made;
    })

pub round-ends : (procs : List Proc) (budget : ℕ) (first now : Seen) (before nodes : List Bare) (n : ℕ) (acts : Bool) → length nodes ≤ n → RoundSoFar procs budget first now before nodes n acts
    → RoundIsMade procs budget first now before nodes acts
round-ends procs budget first now before nodes n acts less h = record {
  ready = h.ready;
  whole = (λ j. record { soup = now; players = sym (append-none (players_of procs nodes)) j; acts = sym (or-false acts) j })
      ∙ (λ j. round_then (players_of procs (sym (take_all n nodes less) j)) acts (round_of procs budget now (players_of procs (sym (drop_all n nodes less) j))))
      ∙ h.made;
  same = h.same;
  room = h.room;
  left = h.left;
}

-- ---- rounds

ready-units : (procs : List Proc) (inst : Instances) (budget : ℕ) (nodes : List Bare) → All (BareIsReady procs inst budget) nodes → Each (λ p. p.units ≤ budget) (players_of procs nodes)
ready-units procs inst budget [] h = tt
ready-units procs inst budget (bare ∷ nodes) h =
    let first : BareIsReady procs inst budget bare = All-head (BareIsReady procs inst budget) bare nodes h in
    (first.units, ready-units procs inst budget nodes (All-tail (BareIsReady procs inst budget) bare nodes h))

can-judge : (procs : List Proc) (inst : Instances) (budget : ℕ) (nodes : List Bare) → All (BareIsReady procs inst budget) nodes → All (CanJudge procs budget) nodes
can-judge procs inst budget nodes h = λ k d lt. let one : BareIsReady procs inst budget (get_or nodes k d) = h k d lt in record { cont = one.cont; units = one.units }

-- a round with an entry before others
round-more : (procs : List Proc) (budget : ℕ) (soup mid after : Seen) (players others ended : List Player) → (round_of procs budget soup players).acts ≡ true
    → mid ≡ (round_of procs budget soup players).soup → others ≡ (round_of procs budget soup players).players → IsSerial procs budget mid others after ended → IsSerial procs budget soup players after ended
round-more procs budget soup mid after players others ended acts e f (rounds, made) =
    (suc rounds, (acts, subst (λ (s : Seen). Rounds procs budget rounds s (round_of procs budget soup players).players after ended) e (subst (λ (ps : List Player). Rounds procs budget rounds mid ps after ended) f made)))

round-last : (procs : List Proc) (budget : ℕ) (soup after : Seen) (players ended : List Player) → (round_of procs budget soup players).acts ≡ false
    → after ≡ (round_of procs budget soup players).soup → ended ≡ (round_of procs budget soup players).players → IsSerial procs budget soup players after ended
round-last procs budget soup after players ended acts e f = (0, (acts, sym e, sym f))

-- Each round so far had an entry, and so the schedule from here on ends where that from the beginning does.
pub record PlaySoFar (procs : List Proc) (budget : ℕ) (first now : Seen) (before nodes : List Bare) : Type 0 where
  pub ready : All (BareIsReady procs first.inst budget) nodes
  pub same : now.inst ≡ first.inst
  pub room : left_to budget nodes ≤ now.spare
  pub goes : (after : Seen) (ended : List Player) → IsSerial procs budget now (players_of procs nodes) after ended → IsSerial procs budget first (players_of procs before) after ended

pub play-begins : (procs : List Proc) (budget : ℕ) (soup : Seen) (nodes : List Bare) → All (BareIsReady procs soup.inst budget) nodes → left_to budget nodes ≤ soup.spare → PlaySoFar procs budget soup soup nodes nodes
play-begins procs budget soup nodes ready room = record { ready = ready; same = refl; room = room; goes = λ after ended h. h }

pub play-ready : (procs : List Proc) (budget : ℕ) (first now : Seen) (before nodes : List Bare) → PlaySoFar procs budget first now before nodes → All (BareIsReady procs now.inst budget) nodes
play-ready procs budget first now before nodes h = subst (λ (inst : Instances). All (BareIsReady procs inst budget) nodes) (sym h.same) h.ready

pub play-goes : (procs : List Proc) (budget : ℕ) (first now after : Seen) (before nodes new : List Bare) (acts : Bool) → acts ≡ true → PlaySoFar procs budget first now before nodes → RoundIsMade procs budget now after nodes new acts
    → PlaySoFar procs budget first after before new
play-goes procs budget first now after before nodes new acts e h round = record {
  ready = subst (λ (inst : Instances). All (BareIsReady procs inst budget) new) h.same round.ready;
  same = round.same ∙ h.same;
  room = round.room;
  goes = λ last ended serial. h.goes last ended
      (round-more procs budget now after last (players_of procs nodes) (players_of procs new) ended (sym (ap (λ (r : Round). r.acts) round.whole) ∙ e)
      (ap (λ (r : Round). r.soup) round.whole) (ap (λ (r : Round). r.players) round.whole) serial);
}

pub play-falls : (procs : List Proc) (budget : ℕ) (now after : Seen) (nodes new : List Bare) (acts : Bool) → acts ≡ true → RoundIsMade procs budget now after nodes new acts → left_to budget new < left_to budget nodes
play-falls procs budget now after nodes new acts e round =
    let left : left_to budget new + entries_of acts ≤ left_to budget nodes = round.left in
    let one : entries_of acts ≡ 1 = ap entries_of e in
    omega arith

pub play-ends : (procs : List Proc) (budget : ℕ) (first now after : Seen) (before nodes new : List Bare) (acts : Bool) → acts ≡ false → PlaySoFar procs budget first now before nodes → RoundIsMade procs budget now after nodes new acts
    → IsPlayed procs budget first after before new
play-ends procs budget first now after before nodes new acts e h round =
    let whole = round_of procs budget now (players_of procs nodes) in
    let none : whole.acts ≡ false = sym (ap (λ (r : Round). r.acts) round.whole) ∙ e in
    let soups : after ≡ whole.soup = ap (λ (r : Round). r.soup) round.whole in
    let players : players_of procs new ≡ whole.players = ap (λ (r : Round). r.players) round.whole in
    let rests = round-rests procs budget now (players_of procs nodes) (ready-units procs first.inst budget nodes h.ready) none in
    record {
      serial = h.goes after (players_of procs new) (round-last procs budget now after (players_of procs nodes) (players_of procs new) none soups players);
      rests = subst (λ (ps : List Player). Each (IsAtRest procs budget after) ps) (sym players)
          (subst (λ (s : Seen). Each (IsAtRest procs budget s) whole.players) (sym (soups ∙ rests.0)) rests.1);
      ready = can-judge procs now.inst budget new round.ready;
    }

-- ---- the ends of the nodes

-- The first nodes have their ends, and the others are as they were.
pub record JudgedSoFar (procs : List Proc) (budget : ℕ) (before nodes : List Bare) (i : ℕ) : Type 0 where
  pub noted : AllZip (HasJudged procs budget) (players_of procs (take i before)) (take i nodes)
  pub others : drop i nodes ≡ drop i before

same-next : (before nodes : List Bare) (i : ℕ) (d : Bare) → i < length nodes → length nodes ≡ length before → drop i nodes ≡ drop i before → (get_or nodes i d ≡ get_or before i d) × (drop (i + 1) nodes ≡ drop (i + 1) before)
same-next before nodes i d lt count others =
    let here : drop i nodes ≡ get_or nodes i d ∷ drop (suc i) nodes = drop-cons nodes i d lt in
    let there : drop i before ≡ get_or before i d ∷ drop (suc i) before = drop-cons before i d (omega arith) in
    let both : get_or nodes i d ∷ drop (suc i) nodes ≡ get_or before i d ∷ drop (suc i) before = sym here ∙ others ∙ there in
    let head : get_or nodes i d ≡ get_or before i d = cc in
    let rest : drop (suc i) nodes ≡ drop (suc i) before = cc in
    (head, ap (λ (n : ℕ). drop n nodes) (add-one i) ∙ rest ∙ sym (ap (λ (n : ℕ). drop n before) (add-one i)))

pub judged-next : (procs : List Proc) (budget : ℕ) (before nodes : List Bare) (i : ℕ) (d : Bare) → i < length nodes → length nodes ≡ length before → JudgedSoFar procs budget before nodes i → All (CanJudge procs budget) before
    → CanJudge procs budget (get_or nodes i d)
judged-next procs budget before nodes i d lt count h can = subst (CanJudge procs budget) (sym (same-next before nodes i d lt count h.others).0) (can i d (omega arith))

pub judged-goes : (procs : List Proc) (budget : ℕ) (before nodes : List Bare) (i : ℕ) (d new : Bare) → i < length nodes → length nodes ≡ length before → JudgedSoFar procs budget before nodes i
    → HasJudged procs budget (player_of procs (get_or nodes i d)) new → JudgedSoFar procs budget before (slice_set nodes i new) (i + 1)
judged-goes procs budget before nodes i d new lt count h judged =
    let next = same-next before nodes i d lt count h.others in
    let more : players_of procs (take (i + 1) before) ≡ players_of procs (take i before) ++ player_of procs (get_or before i d) ∷ [] =
    ap (players_of procs) (take_more before i d (omega arith)) ∙ map-append (player_of procs) (take i before) (get_or before i d ∷ []) in
    let here : HasJudged procs budget (player_of procs (get_or before i d)) new = subst (λ (b : Bare). HasJudged procs budget (player_of procs b) new) next.0 judged in
    record {
      noted = subst (λ (ps : List Player). AllZip (HasJudged procs budget) ps (take (i + 1) (slice_set nodes i new))) (sym more)
          (subst (λ (bs : List Bare). AllZip (HasJudged procs budget) (players_of procs (take i before) ++ player_of procs (get_or before i d) ∷ []) bs) (sym (take_more_set nodes i new lt))
          (all_zipped_more (HasJudged procs budget) (players_of procs (take i before)) (take i nodes) (player_of procs (get_or before i d)) new h.noted here));
      others = after-set nodes i new ∙ next.1;
    }

pub judged-ends : (procs : List Proc) (budget : ℕ) (before nodes : List Bare) (n : ℕ) → length nodes ≤ n → length nodes ≡ length before → JudgedSoFar procs budget before nodes n
    → AllZip (HasJudged procs budget) (players_of procs before) nodes
judged-ends procs budget before nodes n less count h =
    subst (λ (bs : List Bare). AllZip (HasJudged procs budget) (players_of procs before) bs) (take_all n nodes less)
    (subst (λ (bs : List Bare). AllZip (HasJudged procs budget) (players_of procs bs) (take n nodes)) (take_all n before (omega arith)) h.noted)

-- ---- what the schedule keeps of the soup

kept-twice : (a b c : Seen) → SoupIsSame a b → SoupIsSame b c → SoupIsSame a c
kept-twice a b c h k = record { inst = k.inst ∙ h.inst; shape = k.shape ∙ h.shape; order = k.order ∙ h.order }

called-keeps : (soup : Seen) (player : Player) (o : Option Call) → SoupIsSame soup (called soup player o).soup
called-keeps soup player (Some call) = record { inst = refl; shape = refl; order = refl }
called-keeps soup player None = record { inst = refl; shape = refl; order = refl }

round-keeps : (procs : List Proc) (budget : ℕ) (soup : Seen) (players : List Player) → SoupIsSame soup (round_of procs budget soup players).soup
round-keeps procs budget soup [] = record { inst = refl; shape = refl; order = refl }
round-keeps procs budget soup (player ∷ players) =
    kept-twice soup (turn_of procs budget soup player).soup (round_of procs budget (turn_of procs budget soup player).soup players).soup
    (called-keeps soup (ticked procs budget player) (call_of procs budget soup (ticked procs budget player)))
    (round-keeps procs budget (turn_of procs budget soup player).soup players)

rounds-keep : (procs : List Proc) (budget rounds : ℕ) (soup : Seen) (players : List Player) (after : Seen) (ended : List Player) → Rounds procs budget rounds soup players after ended → SoupIsSame soup after
rounds-keep procs budget zero soup players after ended h = subst (λ (s : Seen). SoupIsSame soup s) h.1 (round-keeps procs budget soup players)
rounds-keep procs budget (suc more) soup players after ended h =
    kept-twice soup (round_of procs budget soup players).soup after (round-keeps procs budget soup players)
    (rounds-keep procs budget more (round_of procs budget soup players).soup (round_of procs budget soup players).players after ended h.1)

pub serial-keeps : (procs : List Proc) (budget : ℕ) (soup : Seen) (players : List Player) (after : Seen) (ended : List Player) → IsSerial procs budget soup players after ended → SoupIsSame soup after
serial-keeps procs budget soup players after ended (rounds, h) = rounds-keep procs budget rounds soup players after ended h
