-- A run has one configuration after each list of events; it is a soup run with a trace of each machine; and it is a run without its waits.
use Rattle.std.proofs.Common.{◌≡◌, ℕ, zero, suc, ◌+◌, ◌==◌, Bool, true, false, Option, Some, None, List, [], ◌∷◌, refl, ap, sym, ◌∙◌, subst, cond, eq-eqb, arith, inl, inr}
use Rattle.std.proofs.lemmas.Bool.{cases_eq}
use mathlib.Core.Path.{fun_ext}
use Rattle.std.specs.Prelude.{option_map}
use Rattle.dl_term.specs.State.{State}
use Rattle.dl_model.specs.declared.history.Call.{Call}
use Rattle.dl_model.specs.declared.history.Call.TheVariants as call
use Rattle.dl_model.specs.declared.history.Reply.{Reply}
use Rattle.dl_model.specs.declared.history.Reply.TheVariants as reply
use Rattle.dl_model.specs.declared.history.Entry.{Entry}
use Rattle.dl_model.specs.declared.program.Proc.{Proc}
use Rattle.dl_model.specs.declared.file.Program.{Program}
use Rattle.dl_model.specs.declared.file.Decls.{Decls}
use Rattle.dl_model.specs.Block.{Block, Done, Sends, Awaits, Polls, Reads, Sets, Ifs, Whiles, Calls}
use Rattle.dl_model.specs.Lookup.{program_of}
use Rattle.dl_term.specs.Names.{Names}
use Rattle.std.specs.List.{AllByRecursion as Each}
use Rattle.dl_model.specs.Machine.{Frame, Machine, Working, Over, Ticks, Asks, Stops, next, next_at, Ticked, after_reply, after_reply_at}
use Rattle.dl_model.specs.Runs.{Config, Event, ProgramEvent, FreeEvent, IsFreeCall, Replies, step_of, state_after, Leads, machine_of, initial, IsRun}
use Rattle.dl_model.specs.Histories.{mine, SoupLeads, IsTrace, HasProgram, IsOfWorld, IsSoupRun, is_wait_of, is_wait, with_ticks, condensed_from, condensed}
use Rattle.dl_model.proofs.Small.{eqb-other, some-same, some-none, each-map}

-- ---- one configuration

ticks-same : (a b : Machine) → Ticks a ≡ Ticks b → a ≡ b
ticks-same a b e = cc

pub ticked-same : (procs : List Proc) (k : ℕ) (a b c : Machine) → Ticked procs k a b → Ticked procs k a c → b ≡ c
ticked-same procs zero a b c h g = sym h ∙ g
ticked-same procs (suc k) a b c h g = ticked-same procs k h.0 b c h.2 (subst (λ m. Ticked procs k m c) (ticks-same g.0 h.0 (sym g.1 ∙ h.1)) g.2)

config-same : (a b : Config) → a.state ≡ b.state → a.machines ≡ b.machines → a ≡ b
config-same a b p q = λ i. record { state = p i; machines = q i }

pub event-same : (d : Decls) (before : Config) (e : Entry) (a b : Config) → Event d before e a → Event d before e b → a ≡ b
event-same d before e a b h g = elim h.acts [
  | inl p ↦ elim g.acts [
    | inl q ↦
        let one : p.machine ≡ q.machine = some-same _ _ (sym p.there ∙ q.there) in
        let asking = ticked-same d.procs e.ticks p.machine p.asking q.asking p.ticks (subst (λ m. Ticked d.procs e.ticks m q.asking) (sym one) q.ticks) in
        config-same a b (p.state ∙ sym q.state)
        (fun_ext (λ node. p.machines node ∙ ap (λ m. cond (node == e.node) (Some (after_reply m e.reply)) (before.machines node)) asking ∙ sym (q.machines node)))
    | inr f ↦ absurd (some-none (before.machines e.node) p.machine p.there f.free)
  ]
  | inr f ↦ elim g.acts [
    | inl q ↦ absurd (some-none (before.machines e.node) q.machine q.there f.free)
    | inr k ↦ config-same a b (f.state ∙ sym k.state) (fun_ext (λ node. f.machines node ∙ sym (k.machines node)))
  ]
]

pub leads-same : (d : Decls) (es : List Entry) (before a b : Config) → Leads d before es a → Leads d before es b → a ≡ b
leads-same d [] before a b h g = sym h ∙ g
leads-same d (e ∷ es) before a b h g = leads-same d es h.0 a b h.2 (subst (λ c. Leads d c es b) (event-same d before e g.0 h.0 g.1 h.1) g.2)

-- ---- a run and a soup run

abbrev HasMachine : Config → Entry → Type 0
HasMachine c e = (m : Machine) × (c.machines e.node ≡ Some m)

abbrev put : (ℕ → Option Machine) → ℕ → Machine → ℕ → Option Machine
put machines at m node = cond (node == at) (Some m) (machines node)

put-same : (machines : ℕ → Option Machine) (at : ℕ) (m : Machine) (node : ℕ) → node ≡ at → put machines at m node ≡ Some m
put-same machines at m node e = ap (λ b. cond b (Some m) (machines node)) (eq-eqb node at e)

put-other : (machines : ℕ → Option Machine) (at : ℕ) (m : Machine) (node : ℕ) → (node ≡ at → ⊥) → put machines at m node ≡ machines node
put-other machines at m node n = ap (λ b. cond b (Some m) (machines node)) (eqb-other node at n)

mine-same : (e : Entry) (es : List Entry) (node : ℕ) → node ≡ e.node → mine (e ∷ es) node ≡ e ∷ mine es node
mine-same e es node q = ap (λ b. cond b (e ∷ mine es node) (mine es node)) (eq-eqb node e.node q)

mine-other : (e : Entry) (es : List Entry) (node : ℕ) → (node ≡ e.node → ⊥) → mine (e ∷ es) node ≡ mine es node
mine-other e es node n = ap (λ b. cond b (e ∷ mine es node) (mine es node)) (eqb-other node e.node n)

still-there : (machines : ℕ → Option Machine) (at : ℕ) (m : Machine) (node : ℕ) → ((o : Machine) × (machines node ≡ Some o)) → (o : Machine) × (put machines at m node ≡ Some o)
still-there machines at m node h = elim (cases_eq node at) [ inl q ↦ (m, put-same machines at m node q) | inr n ↦ (h.0, put-other machines at m node n ∙ h.1) ]

abbrev Traces : Decls → Config → List Entry → Type 0
Traces d c es = (node : ℕ) (m : Machine) → c.machines node ≡ Some m → IsTrace d.procs m (mine es node)

program-acts : (d : Decls) (before : Config) (e : Entry) (after : Config) → HasMachine before e → Event d before e after → ProgramEvent d before e after
program-acts d before e after h event = elim event.acts [ inl p ↦ p | inr f ↦ absurd (some-none (before.machines e.node) h.0 h.1 f.free) ]

trace-step : (d : Decls) (before : Config) (e : Entry) (es : List Entry) (after : Config) → ProgramEvent d before e after → Traces d after es → Traces d before (e ∷ es)
trace-step d before e es after p more = λ node m h. elim (cases_eq node e.node) [
  | inl q ↦
      let one : p.machine ≡ m = some-same _ _ (sym p.there ∙ subst (λ n. before.machines n ≡ Some m) q h) in
      subst (IsTrace d.procs m) (sym (mine-same e es node q)) (
        p.asking,
        subst (λ k. Ticked d.procs e.ticks k p.asking) one p.ticks,
        p.asks,
        more node (after_reply p.asking e.reply) (p.machines node ∙ put-same before.machines e.node (after_reply p.asking e.reply) node q),
      )
  | inr n ↦ subst (IsTrace d.procs m) (sym (mine-other e es node n))
      (more node m (p.machines node ∙ put-other before.machines e.node (after_reply p.asking e.reply) node n ∙ h))
]

leads-soup : (d : Decls) (es : List Entry) (before after : Config) → Leads d before es after → Each (HasMachine before) es → SoupLeads d.inst before.state es after.state × Each (IsOfWorld d) es × Traces d before es
leads-soup d [] before after l h = (ap (λ c. c.state) l, tt, λ node m e. tt)
leads-soup d (e ∷ es) before after (mid, event, l) h =
    let p = program-acts d before e mid h.0 event in
    let there : Each (HasMachine mid) es = each-map (HasMachine before) (HasMachine mid) es h.1 (λ x k.
    let s = still-there before.machines e.node (after_reply p.asking e.reply) x.node k in (s.0, p.machines x.node ∙ s.1)) in
    let rest = leads-soup d es mid after l there in
    ((event.node, p.replies, subst (λ s. SoupLeads d.inst s es after.state) p.state rest.0), (event.label, rest.1), trace-step d before e es mid p rest.2)

soup-leads : (d : Decls) (es : List Entry) (before : Config) (after : State) → SoupLeads d.inst before.state es after → Each (IsOfWorld d) es → Traces d before es → Each (HasMachine before) es →
    (c : Config) × Leads d before es c × (c.state ≡ after)
soup-leads d [] before after l w t h = (before, refl, l)
soup-leads d (e ∷ es) before after l w t h =
    let own : IsTrace d.procs h.0.0 (e ∷ mine es e.node) = subst (IsTrace d.procs h.0.0) (mine-same e es e.node refl) (t e.node h.0.0 h.0.1) in
    let mid : Config = record { state = state_after d.inst before.state e.node (step_of e.call e.reply); machines = put before.machines e.node (after_reply own.0 e.reply) } in
    let event : Event d before e mid = record {
      node = l.0;
      label = w.0;
      acts = inl (record { machine = h.0.0; asking = own.0; there = h.0.1; ticks = own.1; asks = own.2; replies = l.1; state = refl; machines = λ node. refl });
    } in
    let traces : Traces d mid es = λ node m k. elim (cases_eq node e.node) [
      | inl q ↦ subst (λ n. IsTrace d.procs m (mine es n)) (sym q)
          (subst (λ o. IsTrace d.procs o (mine es e.node)) (some-same _ _ (sym (put-same before.machines e.node (after_reply own.0 e.reply) node q) ∙ k)) own.3)
      | inr n ↦ subst (IsTrace d.procs m) (mine-other e es node n) (t node m (sym (put-other before.machines e.node (after_reply own.0 e.reply) node n) ∙ k))
    ] in
    let rest = soup-leads d es mid after l.2 w.1 traces (each-map (HasMachine before) (HasMachine mid) es h.1 (λ x k. still-there before.machines e.node (after_reply own.0 e.reply) x.node k)) in
    (rest.0, (mid, event, rest.1), rest.2)

has-machine : (d : Decls) (es : List Entry) → Each (HasProgram d) es → Each (HasMachine (initial d)) es
has-machine d es h = each-map (HasProgram d) (HasMachine (initial d)) es h (λ e k. (machine_of d e.node k.0, ap (option_map (machine_of d e.node)) k.1))

pub run-soup : (d : Decls) (es : List Entry) (c : Config) → Each (HasProgram d) es → IsRun d es c → IsSoupRun d es c.state
run-soup d es c h l =
    let k = leads-soup d es (initial d) c l (has-machine d es h) in
    record { leads = k.0; labels = k.1; traces = λ node p e. k.2 node (machine_of d node p) (ap (option_map (machine_of d node)) e) }

initial-traces : (d : Decls) (es : List Entry) (node : ℕ) (m : Machine) (o : Option Program) → ((p : Program) → o ≡ Some p → IsTrace d.procs (machine_of d node p) (mine es node)) → option_map (machine_of d node) o ≡ Some m →
    IsTrace d.procs m (mine es node)
initial-traces d es node m None h e = cc
initial-traces d es node m (Some p) h e = subst (λ k. IsTrace d.procs k (mine es node)) (some-same _ _ e) (h p refl)

pub soup-run : (d : Decls) (es : List Entry) (s : State) → Each (HasProgram d) es → IsSoupRun d es s → (c : Config) × IsRun d es c × (c.state ≡ s)
soup-run d es s h r = soup-leads d es (initial d) s r.leads r.labels (λ node m e. initial-traces d es node m (program_of d node) (r.traces node) e) (has-machine d es h)

-- ---- without the waits

ticked-then : (procs : List Proc) (a b : ℕ) (m n o : Machine) → Ticked procs a m n → Ticked procs b n o → Ticked procs (a + b) m o
ticked-then procs zero b m n o h k = let q : b ≡ zero + b = omega arith in subst (λ t. Ticked procs t m o) q (subst (λ x. Ticked procs b x o) (sym h) k)
ticked-then procs (suc a) b m n o h k = let q : suc (a + b) ≡ suc a + b = omega arith in subst (λ t. Ticked procs t m o) q (h.0, h.1, ticked-then procs a b h.0 n o h.2 k)

abbrev IsWait : Call → Reply → Type 0
IsWait c r = (label : ℕ) × (tag : ℕ) × (c ≡ call.Await label tag) × (r ≡ reply.Miss)

wait-is : (c : Call) (r : Reply) → is_wait_of c r ≡ true → IsWait c r
wait-is (call.Await label tag) reply.Miss h = (label, tag, refl, refl)
wait-is (call.Await label tag) (reply.Sent id) h = cc
wait-is (call.Await label tag) (reply.Got id from args) h = cc
wait-is (call.Await label tag) (reply.Value v) h = cc
wait-is (call.Send label tag to args) r h = cc
wait-is (call.Poll label tag) r h = cc
wait-is (call.Read label field index) r h = cc

tick-not_ask : (b : Bool) (m : Machine) (c : Call) → cond b (Ticks m) Stops ≡ Asks c → ⊥
tick-not_ask true m c e = cc
tick-not_ask false m c e = cc

ask-same : (b : Bool) (a c : Call) → cond b (Asks a) Stops ≡ Asks c → a ≡ c
ask-same true a c e = cc
ask-same false a c e = cc

wait-stays_at : (procs : List Proc) (proc : ℕ) (names : Names) (callers : List Frame) (left : Block) (label tag : ℕ) → next_at procs proc names callers left ≡ Asks (call.Await label tag) →
    after_reply_at proc names callers reply.Miss left ≡ Working (record { proc = proc; left = left; names = names }) callers
wait-stays_at procs proc names callers (Awaits note l t sender args rest) label tag e = refl
wait-stays_at procs proc names callers (Sends note l t to args rest) label tag e = cc (ask-same _ _ _ e)
wait-stays_at procs proc names callers (Polls note got l t sender args rest) label tag e = cc
wait-stays_at procs proc names callers (Reads note into l field index rest) label tag e = cc (ask-same _ _ _ e)
wait-stays_at procs proc names callers Done label tag e = absurd (tick-not_ask _ _ _ e)
wait-stays_at procs proc names callers (Sets target value rest) label tag e = absurd (tick-not_ask _ _ _ e)
wait-stays_at procs proc names callers (Ifs test left right rest) label tag e = cc
wait-stays_at procs proc names callers (Whiles test note body rest) label tag e = cc
wait-stays_at procs proc names callers (Calls note frame into callee args rest) label tag e = absurd (tick-not_ask _ _ _ e)

wait-stays : (procs : List Proc) (m : Machine) (label tag : ℕ) → next procs m ≡ Asks (call.Await label tag) → after_reply m reply.Miss ≡ m
wait-stays procs (Over v) label tag e = cc
wait-stays procs (Working frame callers) label tag e = wait-stays_at procs frame.proc frame.names callers frame.left label tag e

-- The second configuration is the first one, but for ticks that its machines have not taken yet.
record IsBehind (d : Decls) (ticks : ℕ → ℕ) (c b : Config) : Type 0 where
  state : b.state ≡ c.state
  running : (node : ℕ) (m : Machine) → c.machines node ≡ Some m → (o : Machine) × (b.machines node ≡ Some o) × Ticked d.procs (ticks node) o m
  free : (node : ℕ) → c.machines node ≡ None → (b.machines node ≡ None) × (ticks node ≡ 0)

at-same : (ticks : ℕ → ℕ) (at n node : ℕ) → node ≡ at → with_ticks ticks at n node ≡ n
at-same ticks at n node e = ap (λ b. cond b n (ticks node)) (eq-eqb node at e)

at-other : (ticks : ℕ → ℕ) (at n node : ℕ) → (node ≡ at → ⊥) → with_ticks ticks at n node ≡ ticks node
at-other ticks at n node h = ap (λ b. cond b n (ticks node)) (eqb-other node at h)

no-free_wait : (d : Decls) (s : State) (node : ℕ) (c : Call) (r : Reply) → is_wait_of c r ≡ true → IsFreeCall d s node c r → ⊥
no-free_wait d s node c r w h = let k = wait-is c r w in subst (λ x. IsFreeCall d s node x r) k.2 h

pub no-move : (c : Call) (r : Reply) → is_wait_of c r ≡ true → step_of c r ≡ None
no-move c r w = let k = wait-is c r w in ap (λ x. step_of x r) k.2 ∙ ap (step_of (call.Await k.0 k.1)) k.3

behind-wait : (d : Decls) (ticks : ℕ → ℕ) (before behind : Config) (e : Entry) (after : Config) → is_wait e ≡ true → IsBehind d ticks before behind → Event d before e after →
    IsBehind d (with_ticks ticks e.node (ticks e.node + e.ticks)) after behind
behind-wait d ticks before behind e after w h event = elim event.acts [
  | inr f ↦ absurd (no-free_wait d before.state e.node e.call e.reply w f.allowed)
  | inl p ↦
      let k = wait-is e.call e.reply w in
      let stays : after_reply p.asking e.reply ≡ p.asking = ap (after_reply p.asking) k.3 ∙ wait-stays d.procs p.asking k.0 k.1 (p.asks ∙ ap Asks k.2) in
      let own = h.running e.node p.machine p.there in
      record {
        state = h.state ∙ sym (p.state ∙ ap (state_after d.inst before.state e.node) (no-move e.call e.reply w));
        running = λ node m q. elim (cases_eq node e.node) [
          | inl r ↦
              let same : p.asking ≡ m = sym stays ∙ some-same _ _ (sym (p.machines node ∙ put-same before.machines e.node (after_reply p.asking e.reply) node r) ∙ q) in (
                own.0,
                ap behind.machines r ∙ own.1,
                subst (λ t. Ticked d.procs t own.0 m) (sym (at-same ticks e.node (ticks e.node + e.ticks) node r))
                    (subst (Ticked d.procs (ticks e.node + e.ticks) own.0) same (ticked-then d.procs (ticks e.node) e.ticks own.0 p.machine p.asking own.2 p.ticks)),
              )
          | inr n ↦
              let o = h.running node m (sym (p.machines node ∙ put-other before.machines e.node (after_reply p.asking e.reply) node n) ∙ q) in
              (o.0, o.1, subst (λ t. Ticked d.procs t o.0 m) (sym (at-other ticks e.node (ticks e.node + e.ticks) node n)) o.2)
        ];
        free = λ node q. elim (cases_eq node e.node) [
          | inl r ↦ absurd (some-none (after.machines node) (after_reply p.asking e.reply) (p.machines node ∙ put-same before.machines e.node (after_reply p.asking e.reply) node r) q)
          | inr n ↦
              let o = h.free node (sym (p.machines node ∙ put-other before.machines e.node (after_reply p.asking e.reply) node n) ∙ q) in
              (o.0, at-other ticks e.node (ticks e.node + e.ticks) node n ∙ o.1)
        ];
      }
]

abbrev kept : (ℕ → ℕ) → Entry → Entry
kept ticks e = record { node = e.node; ticks = ticks e.node + e.ticks; call = e.call; reply = e.reply }

abbrev IsKept : Decls → (ℕ → ℕ) → Config → Entry → Config → Type 0
IsKept d ticks behind e after = (mid : Config) × Event d behind (kept ticks e) mid × IsBehind d (with_ticks ticks e.node 0) after mid

behind-program : (d : Decls) (ticks : ℕ → ℕ) (before behind : Config) (e : Entry) (after : Config) → IsBehind d ticks before behind → Event d before e after → ProgramEvent d before e after → IsKept d ticks behind e after
behind-program d ticks before behind e after h event p =
    let own = h.running e.node p.machine p.there in (
      record { state = state_after d.inst behind.state e.node (step_of e.call e.reply); machines = put behind.machines e.node (after_reply p.asking e.reply) },
      record {
        node = event.node;
        label = event.label;
        acts = inl (record {
          machine = own.0;
          asking = p.asking;
          there = own.1;
          ticks = ticked-then d.procs (ticks e.node) e.ticks own.0 p.machine p.asking own.2 p.ticks;
          asks = p.asks;
          replies = subst (λ s. Replies d.inst s e.node e.call e.reply) (sym h.state) p.replies;
          state = refl;
          machines = λ node. refl;
        });
      },
      record {
        state = ap (λ s. state_after d.inst s e.node (step_of e.call e.reply)) h.state ∙ sym p.state;
        running = λ node m q. elim (cases_eq node e.node) [
          | inl r ↦ (
            after_reply p.asking e.reply,
            put-same behind.machines e.node (after_reply p.asking e.reply) node r,
            subst (λ t. Ticked d.procs t (after_reply p.asking e.reply) m) (sym (at-same ticks e.node 0 node r))
                (some-same _ _ (sym (p.machines node ∙ put-same before.machines e.node (after_reply p.asking e.reply) node r) ∙ q)),
          )
          | inr n ↦
              let o = h.running node m (sym (p.machines node ∙ put-other before.machines e.node (after_reply p.asking e.reply) node n) ∙ q) in
              (o.0, put-other behind.machines e.node (after_reply p.asking e.reply) node n ∙ o.1, subst (λ t. Ticked d.procs t o.0 m) (sym (at-other ticks e.node 0 node n)) o.2)
        ];
        free = λ node q. elim (cases_eq node e.node) [
          | inl r ↦ absurd (some-none (after.machines node) (after_reply p.asking e.reply) (p.machines node ∙ put-same before.machines e.node (after_reply p.asking e.reply) node r) q)
          | inr n ↦
              let o = h.free node (sym (p.machines node ∙ put-other before.machines e.node (after_reply p.asking e.reply) node n) ∙ q) in
              (put-other behind.machines e.node (after_reply p.asking e.reply) node n ∙ o.0, at-other ticks e.node 0 node n ∙ o.1)
        ];
      },
    )

zero-at : (ticks : ℕ → ℕ) (at node : ℕ) → ticks at ≡ 0 → with_ticks ticks at 0 node ≡ ticks node
zero-at ticks at node z = elim (cases_eq node at) [ inl r ↦ at-same ticks at 0 node r ∙ sym (ap ticks r ∙ z) | inr n ↦ at-other ticks at 0 node n ]

behind-free : (d : Decls) (ticks : ℕ → ℕ) (before behind : Config) (e : Entry) (after : Config) → IsBehind d ticks before behind → Event d before e after → FreeEvent d before e after → IsKept d ticks behind e after
behind-free d ticks before behind e after h event f =
    let own = h.free e.node f.free in (
      record { state = state_after d.inst behind.state e.node (step_of e.call e.reply); machines = behind.machines },
      record {
        node = event.node;
        label = event.label;
        acts = inr (record {
          free = own.0;
          ticks = let q = own.1 in let z = f.ticks in omega arith;
          allowed = subst (λ s. IsFreeCall d s e.node e.call e.reply) (sym h.state) f.allowed;
          state = refl;
          machines = λ node. refl;
        });
      },
      record {
        state = ap (λ s. state_after d.inst s e.node (step_of e.call e.reply)) h.state ∙ sym f.state;
        running = λ node m q. let o = h.running node m (sym (f.machines node) ∙ q) in (o.0, o.1, subst (λ t. Ticked d.procs t o.0 m) (sym (zero-at ticks e.node node own.1)) o.2);
        free = λ node q. let o = h.free node (sym (f.machines node) ∙ q) in (o.0, zero-at ticks e.node node own.1 ∙ o.1);
      },
    )

behind-kept : (d : Decls) (ticks : ℕ → ℕ) (before behind : Config) (e : Entry) (after : Config) → IsBehind d ticks before behind → Event d before e after → IsKept d ticks behind e after
behind-kept d ticks before behind e after h event = elim event.acts [ inl p ↦ behind-program d ticks before behind e after h event p | inr f ↦ behind-free d ticks before behind e after h event f ]

abbrev EndsBehind : Decls → Config → List Entry → Config → Type 0
EndsBehind d behind es after = (c : Config) × Leads d behind es c × (c.state ≡ after.state)

abbrev GoesOn : Decls → List Entry → Config → Type 0
GoesOn d es after = (ticks : ℕ → ℕ) (before behind : Config) → IsBehind d ticks before behind → Leads d before es after → EndsBehind d behind (condensed_from ticks es) after

condensed-step : (d : Decls) (e : Entry) (es : List Entry) (ticks : ℕ → ℕ) (before behind after mid : Config) → IsBehind d ticks before behind → Event d before e mid → Leads d mid es after → GoesOn d es after →
    (b : Bool) → is_wait e ≡ b → EndsBehind d behind (cond b (condensed_from (with_ticks ticks e.node (ticks e.node + e.ticks)) es) (kept ticks e ∷ condensed_from (with_ticks ticks e.node 0) es)) after
condensed-step d e es ticks before behind after mid h event l more true w =
    more (with_ticks ticks e.node (ticks e.node + e.ticks)) mid behind (behind-wait d ticks before behind e mid w h event) l
condensed-step d e es ticks before behind after mid h event l more false w =
    let k = behind-kept d ticks before behind e mid h event in
    let rest = more (with_ticks ticks e.node 0) mid k.0 k.2 l in
    (rest.0, (k.0, k.1, rest.1), rest.2)

condensed-leads : (d : Decls) (es : List Entry) (after : Config) → GoesOn d es after
condensed-leads d [] after ticks before behind h l = (behind, refl, h.state ∙ ap (λ c. c.state) l)
condensed-leads d (e ∷ es) after ticks before behind h (mid, event, l) =
    condensed-step d e es ticks before behind after mid h event l (condensed-leads d es after) (is_wait e) refl

-- a run without its waits is a run to the same state
pub condensed-run : (d : Decls) (es : List Entry) (c : Config) → IsRun d es c → (b : Config) × IsRun d (condensed es) b × (b.state ≡ c.state)
condensed-run d es c l = condensed-leads d es c (λ node. 0) (initial d) (initial d) (record {
  state = refl;
  running = λ node m e. (m, e, refl);
  free = λ node e. (e, refl);
}) l
