-- With one name for sender and addressee the obligations of a file are valid, and a run breaks its invariant.
use Rattle.std.proofs.Common.{pos, false, None, [], ◌∷◌, refl, lit<, inr}
use Rattle.std.proofs.lemmas.Bool.{false≢true}
use Rattle.dl_term.specs.Syntax.{opened}
use Rattle.dl_model.specs.declared.history.Call.TheVariants as call
use Rattle.dl_model.specs.declared.history.Reply.TheVariants as reply
use Rattle.dl_model.specs.declared.history.Entry.{Entry}
use Rattle.dl_model.specs.Machine.{packed}
use Rattle.dl_model.specs.Steps.{Sending, after_step}
use Rattle.dl_model.specs.States.{first_state}
use Rattle.dl_model.specs.Runs.{Config, Event, initial_free}
use Rattle.dl_model.specs.Safe.{EachFreeRunMeetsInvariants}
use Rattle.dl_model.specs.Sequents.{IsValid}
use Rattle.dl_model.proofs.Small.{and-both}
use Rattle.dl_sequent.specs.declared.duty.Duty.TheVariants.{InitInvariant, StepInvariant}
use Rattle.dl_wp.proofs.Cells.{int-true}
use Rattle.dl_inv.specs.Obligations.{sequent_of}
use Rattle.dl_inv.specs.Taken.{IsMet}
use Rattle.dl_sound.specs.Examples.{talking}

pub talking-first : IsMet talking (InitInvariant 0)
unfolding opened
talking-first = ([], record { count = refl; distinct = tt; unbound = tt }, λ own state names sorted fits facts. refl)

pub talking-valid : IsValid talking.inst (sequent_of talking (StepInvariant 0 0 0 false) (40 ∷ 40 ∷ []))
unfolding opened
talking-valid = λ own state names sorted fits facts. and-both _ _ facts.0 (int-true (names.number 40) (names.number 40) refl)

-- the first node sends to the second one
abbrev said : Entry
said = record { node = 0; ticks = 0; call = call.Send 0 0 (pos 1) (packed []); reply = reply.Sent 0 }

abbrev told : Config
told = record { state = after_step talking.inst (first_state talking.inst) 0 (Sending 0 0 (pos 1) []); machines = λ node. None }

said-event : Event talking (initial_free talking) said told
said-event = record {
  node = lit< tt;
  label = refl;
  acts = inr (record {
    free = refl;
    ticks = refl;
    allowed = (refl, record { addressee = refl; arguments = refl; guard = refl; updates = refl }, λ hook m c t. cc);
    state = refl;
    machines = λ node. refl;
  });
}

pub talking-broken : EachFreeRunMeetsInvariants talking → ⊥
unfolding opened
talking-broken h = false≢true ((h (said ∷ []) told (told, said-event, refl)).invariants 0 _ refl)
