use Rattle.std.proofs.lemmas.Bool.{false≢true}
use Rattle.std.proofs.Common.{zero, suc, arith, pos, Some, [], ◌∷◌, ◌==◌, cond, refl, lit<, inl}
use Rattle.dl_model.specs.declared.history.Reply.TheVariants as reply
use Rattle.dl_model.specs.Examples.{mail, delivered, letter, read_letter, waiting_server, served}
use Rattle.dl_model.specs.Machine.{Machine, after_reply}
use Rattle.dl_model.specs.Runs.{Config, initial, machine_of}
use Rattle.dl_term.specs.Syntax.{opened}
use Rattle.dl_model.proofs.laws.mail_computes.Goals as goal

-- ---- the run

abbrev client_at : Machine
client_at = machine_of (mail (pos 0)) 0 (record { node = 0; proc = 0; constants = pos 7 ∷ [] })

abbrev sent : Config
sent = record {
  state = delivered (pos 0) (letter ∷ []);
  machines = λ node. cond (node == 0) (Some (after_reply client_at (reply.Sent 0))) ((initial (mail (pos 0))).machines node);
}

abbrev received : Config
received = record {
  state = delivered (pos 1) (read_letter ∷ []);
  machines = λ node. cond (node == 1) (Some (served (pos 0))) (sent.machines node);
}

pub returns-clause-run : goal.returns-clause-run
unfolding opened
returns-clause-run c = (
  received,
  (
    sent,
    record {
      node = lit< tt;
      label = refl;
      acts = inl (record { machine = client_at; asking = client_at; there = refl; ticks = refl; asks = refl; replies = refl; state = refl; machines = λ node. refl });
    },
    (
      received,
      record {
        node = lit< tt;
        label = refl;
        acts = inl (record {
          machine = waiting_server (pos 0);
          asking = waiting_server (pos 0);
          there = refl;
          ticks = refl;
          asks = refl;
          replies = record {
            match = record { known = lit< tt; tagged = refl; receivable = record { live = refl; mine = refl; arguments = refl; guard = refl; updates = refl } };
            sender = refl;
            values = refl;
          };
          state = refl;
          machines = λ node. refl;
        });
      },
      refl,
    ),
  ),
  refl,
)

pub returns-clause-one_match : goal.returns-clause-one_match
unfolding opened
returns-clause-one_match c = refl

pub returns-clause-of_another : goal.returns-clause-of_another
unfolding opened
returns-clause-of_another c = refl

pub returns-clause-taken : goal.returns-clause-taken
unfolding opened
returns-clause-taken c = refl

pub returns-clause-seen_holds : goal.returns-clause-seen_holds
unfolding opened
returns-clause-seen_holds c = refl

pub returns-clause-seen_fails : goal.returns-clause-seen_fails
unfolding opened
returns-clause-seen_fails c = refl

pub returns-clause-no_miss : goal.returns-clause-no_miss
unfolding opened
returns-clause-no_miss c h =
    h 0 (record { known = lit< tt; tagged = refl; receivable = record { live = refl; mine = refl; arguments = refl; guard = refl; updates = refl } })

pub returns-clause-miss : goal.returns-clause-miss
unfolding opened
returns-clause-miss c zero m = false≢true m.receivable.live
returns-clause-miss c (suc id) m = let b = m.known in omega arith
