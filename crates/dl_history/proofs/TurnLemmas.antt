-- A machine's turn, and a free node's.
use Rattle.std.proofs.Common.{◌≡◌, sym, subst}
use Rattle.dl_term.specs.State.{State}
use Rattle.dl_model.specs.declared.history.Entry.{Entry}
use Rattle.dl_model.specs.declared.file.Decls.{Decls}
use Rattle.dl_model.specs.Formed.{IsFormed}
use Rattle.dl_model.specs.Machine.{Machine, after_reply}
use Rattle.dl_model.specs.Runs.{Replies, label_of_call, state_after, step_of}
use Rattle.dl_history.specs.Sends.{MachineIsGiven}
use Rattle.dl_history.specs.Taken.{CallIsGiven, Reaches, IsTaken, IsRefused, IsDeclared, IsFreeTurn}
use Rattle.dl_history.proofs.Sends.{ticked-sends, reply-sends, asks-tag}
use Rattle.dl_history.proofs.StepLemmas.{label-there, call-given, free-given}

pub turn-given : (d : Decls) (e : Entry) (s : State) (old asking : Machine) → IsFormed d → IsDeclared d e → MachineIsGiven d old → Reaches d.procs e.ticks e.call old asking →
    Replies d.inst s e.node e.call e.reply → CallIsGiven d.inst s e.node e.call e.reply
turn-given d e s old asking formed k given r replies =
    call-given d s e.node e.call e.reply k.node (label-there d (label_of_call e.call) formed k.label)
    (asks-tag d asking e.call (ticked-sends d formed e.ticks old asking given r.ticks) r.asks) replies

pub turn-sends : (d : Decls) (e : Entry) (old asking new : Machine) → IsFormed d → MachineIsGiven d old → Reaches d.procs e.ticks e.call old asking → new ≡ after_reply asking e.reply → MachineIsGiven d new
turn-sends d e old asking new formed given r is =
    subst (MachineIsGiven d) (sym is) (reply-sends d asking e.reply (ticked-sends d formed e.ticks old asking given r.ticks))

pub turn-taken : (d : Decls) (e : Entry) (s after : State) (old asking new : Machine) → Reaches d.procs e.ticks e.call old asking → Replies d.inst s e.node e.call e.reply →
    after ≡ state_after d.inst s e.node (step_of e.call e.reply) → new ≡ after_reply asking e.reply → IsTaken d s e after old new
turn-taken d e s after old asking new r replies state is = record { asking = asking; reached = r; replies = replies; state = state; machine = is }

pub turn-unreached : (d : Decls) (e : Entry) (s : State) (old : Machine) → ((asking : Machine) → Reaches d.procs e.ticks e.call old asking → ⊥) → IsRefused d s e old
turn-unreached d e s old never = record { never = λ asking r replies. never asking r }

pub turn-unreplied : (d : Decls) (e : Entry) (s : State) (old : Machine) → (Replies d.inst s e.node e.call e.reply → ⊥) → IsRefused d s e old
turn-unreplied d e s old never = record { never = λ asking r replies. never replies }

pub free-turn-given : (d : Decls) (e : Entry) (s : State) → IsFormed d → IsDeclared d e → IsFreeTurn d s e → CallIsGiven d.inst s e.node e.call e.reply
free-turn-given d e s formed k t = free-given d s e.node e.call e.reply k.node (label-there d (label_of_call e.call) formed k.label) t.allowed
