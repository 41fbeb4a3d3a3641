-- A file with each kind of command meets all premises and has a run, and three files have runs that are not safe.
use Rattle.std.proofs.Common.{◌≡◌, ℕ, zero, suc, ◌<◌, ◌==◌, pos, Bool, true, false, Some, None, [], ◌∷◌, refl, sym, cond, lit<, arith, ◌⊎◌, inl, inr, subst}
use Rattle.std.specs.Prelude.{slice_get}
use Rattle.std.proofs.lemmas.Bool.{false≢true}
use Rattle.dl_term.specs.State.{State, field_at}
use Rattle.dl_term.specs.Meaning.{holds}
use Rattle.dl_model.specs.declared.program.Proc.{Proc}
use Rattle.dl_model.specs.declared.file.Program.{Program}
use Rattle.dl_model.specs.declared.file.Decls.{Decls}
use Rattle.dl_model.specs.declared.history.Reply.TheVariants as reply
use Rattle.dl_model.specs.Sorts.{has}
use Rattle.dl_model.specs.Lookup.{program_of, proc_at, hook_at, world_at, world_of, composed}
use Rattle.dl_model.specs.Steps.{Sending, Receiving, after_step, label_of_step}
use Rattle.dl_model.specs.States.{first_state}
use Rattle.dl_model.specs.Machine.{Over, after_reply, packed, entry_names}
use Rattle.dl_model.specs.Runs.{Config, Event, initial, initial_free, IsRun, machine_of}
use Rattle.dl_model.specs.Safe.{coherent, IsSafe, EachRunIsSafe, EachFreeRunMeetsInvariants}
use Rattle.dl_model.specs.Worlds.{Injects, ProcKeepsWorlds, KeepsWorlds}
use Rattle.dl_model.specs.Formed.{ProtocolIsFormed, ProcIsFormed, IsFormed}
use Rattle.dl_model.proofs.Small.{some-same, or-true-right}
use Rattle.dl_model.proofs.Examples.{one-of, two-of, injects-itself, bool-sort}
use Rattle.dl_sound.specs.Obligations.{ProcObligations, FileObligations}
use Rattle.dl_sound.specs.Examples.{ping, game_with, sends, takes, false_post, false_guard, false_invariant, helper, whole, receiver, whole_game}

-- ---- formed

game-formed : ProtocolIsFormed 2 (game_with ping)
game-formed = record {
  few_fields = omega arith;
  few_tags = omega arith;
  field_names = record { distinct = (refl, tt); allowed = (omega arith, tt) };
  tag_names = record { distinct = (refl, tt); allowed = (omega arith, tt) };
  fields = (record { sort = bool-sort; first = (refl, lit< tt); first_in_sort = λ node b. refl }, tt);
  tags = (
    record {
      args = (omega arith, tt);
      names = record { distinct = tt; allowed = tt };
      send = record { guard = ((tt, tt), refl); updates = (record { field = refl; index = tt; value = ((refl, lit< tt), refl) }, tt); once = (refl, tt) };
      receive = record { guard = ((tt, tt), refl); updates = tt; once = tt };
    },
    tt,
  );
  coherence = tt;
}

helper-formed : ProcIsFormed whole_game 0 helper
helper-formed = record {
  world = lit< tt;
  params = (omega arith, tt);
  few_locals = omega arith;
  names = record { distinct = tt; allowed = tt };
  pre = (tt, tt);
  post = (tt, tt);
  body = tt;
  result = (refl, lit< tt);
}

whole-formed : ProcIsFormed whole_game 1 whole
whole-formed = record {
  world = lit< tt;
  params = (omega arith, tt);
  few_locals = omega arith;
  names = record { distinct = (refl, (refl, (refl, tt))); allowed = (omega arith, (omega arith, (omega arith, tt))) };
  pre = (tt, tt);
  post = (tt, tt);
  body = (
    (tt, tt),
    refl,
    refl,
    (refl, lit< tt),
    tt,
    (
      ((tt, tt), refl),
      (tt, tt),
      ((tt, tt), (tt, tt), ((refl, tt), (refl, tt)), lit< tt, refl, tt, (((refl, tt), (refl, tt)), (refl, tt), tt)),
      (
        ((tt, tt), refl),
        ((tt, tt), refl, refl, ((refl, (refl, tt)), (refl, (refl, tt))), tt),
        tt,
        ((tt, tt), refl, tt, ((refl, tt), (refl, tt)), ((tt, tt), (tt, tt), ((refl, tt), (refl, tt)), lit< tt, refl, tt, tt)),
      ),
    ),
  );
  result = (refl, tt);
}

receiver-formed : ProcIsFormed whole_game 2 receiver
receiver-formed = record {
  world = lit< tt;
  params = (omega arith, tt);
  few_locals = omega arith;
  names = record { distinct = (refl, tt); allowed = (omega arith, tt) };
  pre = (tt, tt);
  post = (tt, tt);
  body = ((tt, tt), refl, refl, ((refl, tt), (refl, tt)), tt);
  result = (refl, tt);
}

procs-formed : (number : ℕ) (proc : Proc) → slice_get whole_game.procs number ≡ Some proc → ProcIsFormed whole_game number proc
procs-formed zero proc e = subst (ProcIsFormed whole_game 0) (some-same helper proc e) helper-formed
procs-formed (suc number) proc e = two-of (λ n p. ProcIsFormed whole_game (suc n) p) whole receiver whole-formed receiver-formed number proc e

pub whole_game-formed : IsFormed whole_game
whole_game-formed = record {
  small = record { some_node = omega arith; nodes = omega arith; labels = omega arith; protocols = omega arith; hooks = omega arith; worlds = omega arith; invariants = omega arith; procs = omega arith; points = omega arith };
  inst = record { protocols = one-of (λ n protocol. ProtocolIsFormed 2 protocol) (game_with ping) game-formed; labels = (lit< tt, tt) };
  label_names = refl;
  hooks = tt;
  worlds = (
    record { labels = (lit< tt, tt); hooks = tt; labels_once = (refl, tt); hooks_once = tt },
    (record { labels = tt; hooks = tt; labels_once = tt; hooks_once = tt }, tt),
  );
  invariants = λ i invariant e. cc;
  procs = procs-formed;
  deploy = (
    lit< tt,
    (record { node = lit< tt; proc = lit< tt; constants = refl }, (record { node = lit< tt; proc = lit< tt; constants = refl }, tt)),
    (refl, (refl, tt)),
  );
  names = record {
    distinct = (refl, (refl, (refl, (refl, (refl, (refl, (refl, tt)))))));
    allowed = (omega arith, (omega arith, (omega arith, (omega arith, (omega arith, (omega arith, (omega arith, tt)))))));
  };
  apart = tt;
}

-- ---- worlds

empty-into : Injects whole_game (world_at whole_game 1) (world_at whole_game 0)
empty-into = record { labels = λ label m. cc; hooks = λ hook. refl }

procs-keep : (proc : ℕ) → proc < 3 → ProcKeepsWorlds whole_game proc
procs-keep zero b = record { pre = refl; post = refl; body = tt }
procs-keep (suc zero) b = record {
  pre = refl;
  post = refl;
  body = (refl, refl, (refl, (refl, (refl, refl, empty-into), tt), ((refl, refl, tt), tt, (refl, refl, (refl, (refl, refl, empty-into), tt)))));
}
procs-keep (suc (suc zero)) b = record { pre = refl; post = refl; body = (refl, refl, tt) }
procs-keep (suc (suc (suc n))) b = absurd (omega arith)

abbrev first_program : Program
first_program = record { node = 0; proc = 1; constants = [] }

abbrev second_program : Program
second_program = record { node = 1; proc = 2; constants = [] }

pub whole_game-keeps : KeepsWorlds whole_game
whole_game-keeps = record {
  cores = two-of (λ n world. (hook : ℕ) → has world.hooks hook ≡ true → has world.labels (hook_at whole_game hook).core ≡ true) _ _ (λ hook m. cc) (λ hook m. cc);
  clients = two-of (λ n world. (hook : ℕ) → has world.hooks hook ≡ true → has world.labels (hook_at whole_game hook).client ≡ true) _ _ (λ hook m. cc) (λ hook m. cc);
  invariants = λ i invariant e. cc;
  visible = λ i invariant e. cc;
  procs = procs-keep;
  programs = λ node program e. program-world program.proc;
}
  where
    program-world : (proc : ℕ) → Injects whole_game (world_of whole_game proc) (composed whole_game)
    program-world zero = empty-into
    program-world (suc zero) = injects-itself whole_game (composed whole_game) refl
    program-world (suc (suc zero)) = injects-itself whole_game (composed whole_game) refl
    program-world (suc (suc (suc n))) = injects-itself whole_game (composed whole_game) refl

-- ---- obligations

no-coherence : (label : ℕ) (s : State) → coherent whole_game.inst label s ≡ true
no-coherence zero s = refl
no-coherence (suc n) s = refl

helper-obligations : ProcObligations whole_game 0
helper-obligations = record { start = λ node args s h. refl; body = tt; post = λ node names s h i mover step k o l c m. refl }

whole-obligations : ProcObligations whole_game 1
whole-obligations = record {
  start = λ node args s h. refl;
  body = record {
    guard = λ node names s h. (record { addressee = refl; arguments = refl; guard = refl; updates = refl }, λ hook m c t. cc);
    sent = λ node names s h a. refl;
    stable = λ node names s h mover step k o l c m. refl;
    after_it = record {
      turn = λ node names s h e. refl;
      exit = λ node names s h e. absurd (false≢true (sym e));
      stable = λ node names s h mover step k o l c m. refl;
      inside = record {
        sorted = λ node names s h. refl;
        entered = λ node names s h. refl;
        framed = λ node names s h. refl;
        left = λ node names s h v i p. or-true-right _ _ refl;
        stable = λ node names s h mover step k o l c m. refl;
        keeps = λ node names s h mover step k o l c m. refl;
        after_it = tt;
      };
      after_it = record {
        if_true = record {
          taken = λ node names s h id t c. refl;
          missed = λ node names s h. refl;
          stable = λ node names s h mover step k o l c m. refl;
          after_it = tt;
        };
        if_false = tt;
        after_it = record {
          read = λ node names s h. refl;
          stable = λ node names s h mover step k o l c m. refl;
          after_it = record {
            sorted = λ node names s h. refl;
            entered = λ node names s h. refl;
            framed = λ node names s h. refl;
            left = λ node names s h v i p. or-true-right _ _ refl;
            stable = λ node names s h mover step k o l c m. refl;
            keeps = λ node names s h mover step k o l c m. refl;
            after_it = tt;
          };
        };
      };
    };
  };
  post = λ node names s h i mover step k o l c m. refl;
}

receiver-obligations : ProcObligations whole_game 2
receiver-obligations = record {
  start = λ node args s h. refl;
  body = record {
    taken = λ node names s h id t c. or-true-right _ _ refl;
    stable = λ node names s h mover step k o l c m. refl;
    after_it = tt;
  };
  post = λ node names s h i mover step k o l c m. refl;
}

procs-obligations : (proc : ℕ) → proc < 3 → ProcObligations whole_game proc
procs-obligations zero b = helper-obligations
procs-obligations (suc zero) b = whole-obligations
procs-obligations (suc (suc zero)) b = receiver-obligations
procs-obligations (suc (suc (suc n))) b = absurd (omega arith)

which-program : (a b : Bool) (p : Program) → cond a (Some first_program) (cond b (Some second_program) None) ≡ Some p → (first_program ≡ p) ⊎ (second_program ≡ p)
which-program true b p e = inl (some-same first_program p e)
which-program false true p e = inr (some-same second_program p e)
which-program false false p e = cc

deployed : (node : ℕ) (p : Program) → program_of whole_game node ≡ Some p →
    holds (proc_at whole_game.procs p.proc).pre (entry_names (proc_at whole_game.procs p.proc) (pos node) p.constants) (first_state whole_game.inst) ≡ true
deployed node p e = elim (which-program (node == 0) (node == 1) p e) [
  | inl h ↦ subst (λ (q : Program). holds (proc_at whole_game.procs q.proc).pre (entry_names (proc_at whole_game.procs q.proc) (pos node) q.constants) (first_state whole_game.inst) ≡ true) h refl
  | inr h ↦ subst (λ (q : Program). holds (proc_at whole_game.procs q.proc).pre (entry_names (proc_at whole_game.procs q.proc) (pos node) q.constants) (first_state whole_game.inst) ≡ true) h refl
]

pub whole_game-obligations : FileObligations whole_game
whole_game-obligations = record {
  states = record {
    protocols = record { init = λ label. no-coherence label (first_state whole_game.inst); step = λ s node step a b c e. no-coherence (label_of_step step) (after_step whole_game.inst s node step) };
    invariants = λ i invariant e. cc;
  };
  procs = procs-obligations;
  deployed = deployed;
}

-- ---- a run

abbrev after_send : Decls → Program → Config
after_send d program = record {
  state = after_step d.inst (first_state d.inst) 0 (Sending 0 0 (pos 1) []);
  machines = λ node. cond (node == 0) (Some (after_reply (machine_of d 0 program) (reply.Sent 0))) ((initial d).machines node);
}

abbrev after_both : Config
after_both = record {
  state = after_step whole_game.inst (after_send whole_game first_program).state 1 (Receiving 0 0);
  machines = λ node. cond (node == 1) (Some (after_reply (machine_of whole_game 1 second_program) (reply.Got 0 0 (packed [])))) ((after_send whole_game first_program).machines node);
}

pub whole_game-run : (after : Config) × IsRun whole_game (sends ∷ takes ∷ []) after × (field_at after.state 0 0 (pos 0) (pos 0) ≡ pos 1)
whole_game-run = (
  after_both,
  (
    after_send whole_game first_program,
    record {
      node = lit< tt;
      label = refl;
      acts = inl (record {
        machine = machine_of whole_game 0 first_program;
        asking = machine_of whole_game 0 first_program;
        there = refl;
        ticks = refl;
        asks = refl;
        replies = refl;
        state = refl;
        machines = λ node. refl;
      });
    },
    (
      after_both,
      record {
        node = lit< tt;
        label = refl;
        acts = inl (record {
          machine = machine_of whole_game 1 second_program;
          asking = machine_of whole_game 1 second_program;
          there = refl;
          ticks = refl;
          asks = refl;
          replies = record {
            match = record { known = lit< tt; tagged = refl; receivable = record { live = refl; mine = refl; arguments = refl; guard = refl; updates = refl } };
            sender = refl;
            values = refl;
          };
          state = refl;
          machines = λ node. refl;
        });
      },
      refl,
    ),
  ),
  refl,
)

-- ---- runs that are not safe

abbrev first_sender : Program
first_sender = record { node = 0; proc = 0; constants = [] }

send-event_post : Event false_post (initial false_post) sends (after_send false_post first_sender)
send-event_post = record {
  node = lit< tt;
  label = refl;
  acts = inl (record { machine = machine_of false_post 0 first_sender; asking = machine_of false_post 0 first_sender; there = refl; ticks = refl; asks = refl; replies = refl; state = refl; machines = λ node. refl });
}

pub false_post-unsafe : EachRunIsSafe false_post → ⊥
false_post-unsafe h =
    let there = (h (sends ∷ []) (after_send false_post first_sender) (after_send false_post first_sender, send-event_post, refl)).2 in
    let safe = subst (IsSafe false_post) there.2.1 there.2.0 in
    false≢true (safe.posts 0 first_sender (after_reply (machine_of false_post 0 first_sender) (reply.Sent 0)) 1 (pos 7) refl refl (Over (pos 7), refl, refl))

send-event_guard : Event false_guard (initial false_guard) sends (after_send false_guard first_sender)
send-event_guard = record {
  node = lit< tt;
  label = refl;
  acts = inl (record { machine = machine_of false_guard 0 first_sender; asking = machine_of false_guard 0 first_sender; there = refl; ticks = refl; asks = refl; replies = refl; state = refl; machines = λ node. refl });
}

pub false_guard-unsafe : EachRunIsSafe false_guard → ⊥
false_guard-unsafe h = false≢true (h (sends ∷ []) (after_send false_guard first_sender) (after_send false_guard first_sender, send-event_guard, refl)).1.0.guard

pub false_invariant-unsafe : EachFreeRunMeetsInvariants false_invariant → ⊥
false_invariant-unsafe h = false≢true ((h [] (initial_free false_invariant) refl).invariants 0 _ refl)
