-- A call that is told as something small is the machine's next one.
use Rattle.std.proofs.Common.{◌≡◌, ◌&&◌, ℕ, ℤ, List, [], Some, None, refl, sym, ◌∙◌}
use Rattle.std.specs.Prelude.{Option, slice_get, if◌then◌else◌}
use Rattle.dl_term.specs.Names.{Names}
use Rattle.dl_model.specs.declared.history.Call.TheVariants as call
use Rattle.dl_model.specs.declared.program.Command.{Command}
use Rattle.dl_model.specs.declared.program.Command.TheVariants as of
use Rattle.dl_model.specs.declared.program.Proc.{Proc}
use Rattle.dl_model.specs.Machine.{Asks, Stops, value_of, values_of, packed}
use Rattle.dl_model.specs.Sorts.{is_i64, all_i64}
use Rattle.dl_prog.specs.declared.answer.At.TheVariants as at
use Rattle.dl_prog.specs.declared.asked.Asked.TheVariants as asked
use Rattle.dl_prog.specs.declared.cont.Cont.{Cont}
use Rattle.dl_prog.specs.Asked.{AsksFor}
use Rattle.dl_prog.specs.Places.{commands_in}
use Rattle.dl_prog.specs.Ready.{IsReady}
use Rattle.dl_prog.specs.Slots.{named}
use Rattle.dl_prog.proofs.Moving.{Moved, next-here, asks}
use Rattle.dl_prog.proofs.ValueLemmas.{fits}

pub asks-send : (procs : List Proc) (cont : Cont) (label tag : ℕ) (to : ℤ) → IsReady procs cont → cont.over ≡ None →
    AsksFor (slice_get (commands_in procs cont.steps.items) cont.at) (named cont.slots) (asked.Send label tag to) →
    Moved procs cont cont (at.Call (call.Send label tag to (packed [])))
asks-send procs cont label tag to r o h = there (slice_get (commands_in procs cont.steps.items) cont.at) refl h
  where
    names : Names
    names = named cont.slots

    there : (found : Option Command) → slice_get (commands_in procs cont.steps.items) cont.at ≡ found → AsksFor found names (asked.Send label tag to) →
        Moved procs cont cont (at.Call (call.Send label tag to (packed [])))
    there None f h = absurd h
    there (Some (of.Send note l t target args)) f h =
        let here = fits (is_i64 (value_of target names)) (value_of target names) to (sym h.3) in
        asks procs cont _ (call.Send label tag to (packed [])) r
        (next-here procs cont (of.Send note l t target args) o f
        ∙ (λ i. if here.0 i && all_i64 (values_of (h.2 i) names) then Asks (call.Send (sym h.0 i) (sym h.1 i) (here.1 i) (packed (values_of (h.2 i) names))) else Stops)) refl
    there (Some (of.Await note l t sender args)) f h = absurd h
    there (Some (of.Poll note got l t sender args)) f h = absurd h
    there (Some (of.Read note into l field index)) f h = absurd h
    there (Some (of.Set target value)) f h = absurd h
    there (Some (of.If' test s left t right)) f h = absurd h
    there (Some (of.While' test note s body)) f h = absurd h
    there (Some (of.Call note frame into proc args)) f h = absurd h

pub asks-await : (procs : List Proc) (cont : Cont) (label tag : ℕ) → IsReady procs cont → cont.over ≡ None →
    AsksFor (slice_get (commands_in procs cont.steps.items) cont.at) (named cont.slots) (asked.Await label tag) →
    Moved procs cont cont (at.Call (call.Await label tag))
asks-await procs cont label tag r o h = there (slice_get (commands_in procs cont.steps.items) cont.at) refl h
  where
    names : Names
    names = named cont.slots

    there : (found : Option Command) → slice_get (commands_in procs cont.steps.items) cont.at ≡ found → AsksFor found names (asked.Await label tag) →
        Moved procs cont cont (at.Call (call.Await label tag))
    there None f h = absurd h
    there (Some (of.Send note l t target args)) f h = absurd h
    there (Some (of.Await note l t sender args)) f h =
        asks procs cont _ (call.Await label tag) r (next-here procs cont (of.Await note l t sender args) o f ∙ (λ i. Asks (call.Await (sym h.0 i) (sym h.1 i)))) refl
    there (Some (of.Poll note got l t sender args)) f h = absurd h
    there (Some (of.Read note into l field index)) f h = absurd h
    there (Some (of.Set target value)) f h = absurd h
    there (Some (of.If' test s left t right)) f h = absurd h
    there (Some (of.While' test note s body)) f h = absurd h
    there (Some (of.Call note frame into proc args)) f h = absurd h
