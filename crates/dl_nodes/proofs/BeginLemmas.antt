-- The nodes at the beginning of their programs, and the soup in the first state.
use Rattle.std.proofs.Common.{◌≡◌, ◌<◌, ◌≤◌, ◌+◌, ◌*◌, ℕ, zero, suc, ℤ, pos, Option, Some, None, List, [], ◌∷◌, ◌++◌, Result, Ok, Err, IfOk, length, refl, ap, sym, ◌∙◌, subst, arith}
use Rattle.std.proofs.Common.{Global, Vec, add-one, drop, get_or, take, take_at}
use Rattle.std.specs.List.{All, range_with_len}
use Rattle.std.specs.Vec.{with_items}
use Rattle.std.proofs.lemmas.List.{append_assoc, map-append}
use Rattle.std.proofs.lemmas.List.Sums.{sum_by-le}
use Rattle.std.proofs.lemmas.Nat.{mul-le}
use Rattle.dl_model.specs.declared.protocol.Instances.{Instances}
use Rattle.dl_model.specs.declared.program.Proc.{Proc}
use Rattle.dl_model.specs.declared.file.Program.{Program}
use Rattle.dl_model.specs.declared.file.Decls.{Decls}
use Rattle.dl_model.specs.declared.history.Order.{Order}
use Rattle.dl_model.specs.Formed.{IsFormed}
use Rattle.dl_model.specs.Block.{block_of}
use Rattle.dl_model.specs.Lookup.{proc_at, program_of}
use Rattle.dl_model.specs.Machine.{Working, entered}
use Rattle.dl_model.specs.Runs.{machine_of as first_machine}
use Rattle.dl_model.specs.States.{first_state}
use Rattle.dl_state.specs.declared.shape.Shape.{Shape}
use Rattle.dl_state.specs.Shapes.{EachIsFilled, shape_state}
use Rattle.dl_prog.specs.declared.cont.Cont.{Cont}
use Rattle.dl_prog.specs.Places.{machine_of}
use Rattle.dl_prog.specs.Ready.{IsReady}
use Rattle.dl_proto.specs.Shaped.{IsShaped}
use Rattle.dl_proto.proofs.FirstShape.{first-shaped}
use Rattle.dl_soup.specs.Given.{ShapeIsGiven}
use Rattle.dl_soup.specs.Seen.{Seen}
use Rattle.dl_nodes.specs.declared.bare.Bare.{Bare}
use Rattle.dl_nodes.specs.declared.begin.Run.{Run}
use Rattle.dl_nodes.specs.Begun.{IsFirst, IsSerialRun, first_player, first_players, first_players_of}
use Rattle.dl_nodes.specs.Given.{BlockIsGiven, MachineIsGiven}
use Rattle.dl_nodes.specs.Players.{BareIsReady, IsFinished, left_to, left_to_one, player_of, players_of}
use Rattle.dl_nodes.specs.Serial.{IsSerial, Player}
use Rattle.dl_nodes.proofs.FormedLemmas.{procs-given}

-- ---- a node

abbrev pub begun : ℕ → Cont → Bare
begun node cont = record { node = node; cont = cont; ticks = 0; units = 0; end = None }

-- The node enters its procedure with the constants, as these are given to the machine.
pub begun-ready : (decls : Decls) (node : ℕ) (program : Program) (cont : Cont) (procs : List Proc) (constants : List ℤ) → procs ≡ decls.procs → constants ≡ program.constants → IsFormed decls → node < decls.inst.nodes
    → IsReady procs cont → machine_of procs cont ≡ Working (entered procs program.proc (pos node) constants) [] → BareIsReady decls.procs decls.inst 0 (begun node cont)
begun-ready decls node program cont procs constants same numbers formed known ready is = record {
  cont = subst (λ (ps : List Proc). IsReady ps cont) same ready;
  given = subst (λ (ps : List Proc). MachineIsGiven decls.inst (machine_of ps cont)) same
      (subst (MachineIsGiven decls.inst) (sym is) (subst (λ (ps : List Proc). BlockIsGiven decls.inst (block_of (proc_at ps program.proc).body)) (sym same) ((procs-given decls formed).each program.proc), tt));
  node = known;
  units = omega arith;
  ticks = omega arith;
}

-- the nodes so far, and one with its program
pub one-more : (decls : Decls) (nodes : List Bare) (node : ℕ) (cont : Cont) (program : Program) (o : Option Program) → machine_of decls.procs cont ≡ first_machine decls node program → Some program ≡ o
    → players_of decls.procs (nodes ++ begun node cont ∷ []) ≡ players_of decls.procs nodes ++ first_player decls node o
one-more decls nodes node cont program o is e =
    map-append (player_of decls.procs) nodes (begun node cont ∷ [])
    ∙ (λ i. players_of decls.procs nodes ++ record { node = node; machine = is i; ticks = 0; units = 0 } ∷ [])
    ∙ ap (λ (p : Option Program). players_of decls.procs nodes ++ first_player decls node p) e

append-none : {X : Type 0} (xs : List X) → xs ++ [] ≡ xs
append-none [] = refl
append-none (x ∷ xs) = ap (λ zs. x ∷ zs) (append-none xs)

-- the nodes so far, and one without a program
pub none-more : (decls : Decls) (nodes : List Bare) (node : ℕ) (o : Option Program) → None ≡ o → players_of decls.procs nodes ≡ players_of decls.procs nodes ++ first_player decls node o
none-more decls nodes node o e = sym (append-none (players_of decls.procs nodes)) ∙ ap (λ (p : Option Program). players_of decls.procs nodes ++ first_player decls node p) e

-- ---- all nodes

range-more : (a n : ℕ) → range_with_len a (suc n) ≡ range_with_len a n ++ (a + n) ∷ []
range-more a zero = ap (λ (k : ℕ). k ∷ []) (omega arith)
range-more a (suc n) =
    let same : (a + 1) + n ≡ a + suc n = omega arith in
    ap (λ ks. a ∷ ks) (range-more (a + 1) n ∙ ap (λ (k : ℕ). range_with_len (a + 1) n ++ k ∷ []) same)

players-append : (decls : Decls) (xs : List ℕ) (node : ℕ) → first_players_of decls (xs ++ node ∷ []) ≡ first_players_of decls xs ++ first_player decls node (program_of decls node)
players-append decls [] node = append-none (first_player decls node (program_of decls node))
players-append decls (x ∷ xs) node =
    ap (λ ps. first_player decls x (program_of decls x) ++ ps) (players-append decls xs node)
    ∙ sym (append_assoc (first_player decls x (program_of decls x)) (first_players_of decls xs) (first_player decls node (program_of decls node)))

-- The nodes below this one are there, if they have a program.
pub record NodesSoFar (decls : Decls) (nodes : List Bare) (node : ℕ) : Type 0 where
  pub players : players_of decls.procs nodes ≡ first_players_of decls (range_with_len 0 node)
  pub ready : All (BareIsReady decls.procs decls.inst 0) nodes
  pub few : length nodes ≤ node

pub nodes-begin : (decls : Decls) → NodesSoFar decls [] 0
nodes-begin decls = record { players = refl; ready = λ k d lt. absurd (omega arith); few = omega arith }

pub nodes-go : (decls : Decls) (nodes new : List Bare) (node : ℕ) → NodesSoFar decls nodes node → players_of decls.procs new ≡ players_of decls.procs nodes ++ first_player decls node (program_of decls node)
    → All (BareIsReady decls.procs decls.inst 0) new → length new ≤ length nodes + 1 → NodesSoFar decls new (node + 1)
nodes-go decls nodes new node h players ready few =
    let so_far : length nodes ≤ node = h.few in
    let start : zero + node ≡ node = omega arith in
    let more : range_with_len 0 (node + 1) ≡ range_with_len 0 node ++ node ∷ [] =
    ap (λ (n : ℕ). range_with_len 0 n) (add-one node) ∙ range-more 0 node ∙ ap (λ (k : ℕ). range_with_len 0 node ++ k ∷ []) start in
    record {
      players = players
          ∙ ap (λ ps. ps ++ first_player decls node (program_of decls node)) h.players
          ∙ sym (players-append decls (range_with_len 0 node) node)
          ∙ sym (ap (first_players_of decls) more);
      ready = ready;
      few = omega arith;
    }

-- ---- the budget

more-budget : (decls : Decls) (budget : ℕ) (nodes : List Bare) → All (BareIsReady decls.procs decls.inst 0) nodes → All (BareIsReady decls.procs decls.inst budget) nodes
more-budget decls budget nodes h = λ k d lt.
    let one : BareIsReady decls.procs decls.inst 0 (get_or nodes k d) = h k d lt in
    let none : (get_or nodes k d).units ≤ 0 = one.units in
    record { cont = one.cont; given = one.given; node = one.node; units = omega arith; ticks = one.ticks }

pub begun-budget : (decls : Decls) (inst : Instances) (budget : ℕ) (nodes : List Bare) → inst ≡ decls.inst → All (BareIsReady decls.procs decls.inst 0) nodes → All (BareIsReady decls.procs inst budget) nodes
begun-budget decls inst budget nodes e h = subst (λ (i : Instances). All (BareIsReady decls.procs i budget) nodes) (sym e) (more-budget decls budget nodes h)

-- no more is left to the nodes than the budget of each
pub left-at-most : (budget spare : ℕ) (nodes : List Bare) → length nodes * budget ≤ spare → left_to budget nodes ≤ spare
left-at-most budget spare nodes h =
    let most : left_to budget nodes ≤ length nodes * budget = sum_by-le (left_to_one budget) budget nodes (λ k d lt. omega arith) in
    omega arith

pub few-nodes : (decls : Decls) (count : ℕ) → IsFormed decls → count ≤ decls.inst.nodes → count ≤ 16
few-nodes decls count formed few =
    let small : decls.inst.nodes ≤ 16 = formed.small.nodes in
    omega arith

pub room-fits : (count budget : ℕ) → count ≤ 16 → budget ≤ 100000 → count * budget ≤ 1600000
room-fits count budget few less = mul-le count budget 16 100000 few less

at-most : (a b : ℕ) → a ≡ b → a ≤ b
at-most a b e = omega arith

pub enough-room : (count len budget spare room : ℕ) → count ≡ len → room ≡ len * budget → spare ≡ room → count * budget ≤ spare
enough-room count len budget spare room same made given = at-most (count * budget) spare (ap (λ (n : ℕ). n * budget) same ∙ sym made ∙ sym given)

-- ---- the first state

pub shape-given : (decls : Decls) (shape : Shape) → EachIsFilled shape → shape_state shape ≡ first_state decls.inst → ShapeIsGiven decls.inst shape
shape-given decls shape filled first = record { filled = filled; shaped = subst (IsShaped decls.inst) (sym first) (first-shaped decls.inst) }

abbrev pub fresh : Instances → Shape → Order → ℕ → Seen
fresh inst shape order room = record { inst = inst; shape = shape; order = order; state = shape_state shape; history = []; spare = room }

pub if-ok : {A E : Type 0} (P Q : A → Type 0) (r : Result A E) → IfOk r P → ((x : A) → P x → Q x) → IfOk r Q
if-ok P Q (Ok x) h k = k x h
if-ok P Q (Err e) h k = tt

-- the order is the soup's own
pub first-own : (decls : Decls) (order : Order) (soup : Seen) → IsFirst decls order soup → IsFirst decls soup.order soup
first-own decls order soup h = record { same_inst = h.same_inst; same_order = refl; at_first = h.at_first; from_first = h.from_first; empty = h.empty }

pub begun-first : (decls : Decls) (order : Order) (room : ℕ) (shape : Shape) (soup : Seen) → soup ≡ fresh decls.inst shape order room → shape_state shape ≡ first_state decls.inst → IsFirst decls order soup
begun-first decls order room shape soup e first = record {
  same_inst = ap (λ (s : Seen). s.inst) e;
  same_order = ap (λ (s : Seen). s.order) e;
  at_first = ap (λ (s : Seen). s.state) e ∙ first;
  from_first = ap (λ (s : Seen). shape_state s.shape) e ∙ first;
  empty = ap (λ (s : Seen). s.history) e;
}

-- ---- the run

run-made : (decls : Decls) (budget : ℕ) (order : Order) (first : Seen) (nodes : List Bare) (run : Run) → IsFirst decls order first → players_of decls.procs nodes ≡ first_players decls
    → IsFinished decls.procs budget first run.soup nodes run.nodes.items → IsSerialRun decls budget order run
run-made decls budget order first nodes run begins players done = record {
  first = first;
  players = done.players;
  begins = begins;
  serial = subst (λ (ps : List Player). IsSerial decls.procs budget first ps run.soup done.players) players done.serial;
  ends = done.ends;
}

-- the nodes are in a vector, which has them as they were left
pub run-played : (decls : Decls) (budget : ℕ) (first after : Seen) (nodes : Vec Bare Global) (procs : List Proc) (before new : List Bare) → procs ≡ decls.procs → before ≡ nodes.items → length new ≡ nodes.len
    → IsFirst decls first.order first → players_of decls.procs nodes.items ≡ first_players decls → IsFinished procs budget first after before new
    → IsSerialRun decls budget first.order (record { soup = after; nodes = with_items nodes new })
run-played decls budget first after nodes procs before new same given count begins players done =
    let whole : take nodes.len (new ++ drop (length new) nodes.items) ≡ new = take_at new (drop (length new) nodes.items) nodes.len count in
    run-made decls budget first.order first nodes.items (record { soup = after; nodes = with_items nodes new }) begins players
    (subst (λ (bs : List Bare). IsFinished decls.procs budget first after nodes.items bs) (sym whole)
    (subst (λ (bs : List Bare). IsFinished decls.procs budget first after bs new) given
    (subst (λ (ps : List Proc). IsFinished ps budget first after before new) same done)))
