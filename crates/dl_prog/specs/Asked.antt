-- What a command asks for, read as something small.
use Rattle.std.specs.Prelude.{◌≡◌, ℕ, if◌then◌else◌, Option, Some, None, List, []}
use Rattle.dl_term.specs.declared.syntax.Term.{Term}
use Rattle.dl_term.specs.Names.{Names}
use Rattle.dl_model.specs.declared.program.Command.TheVariants as of
use Rattle.dl_model.specs.declared.program.Command.{Command}
use Rattle.dl_model.specs.Machine.{value_of}
use Rattle.dl_model.specs.Sorts.{is_i64}
use Rattle.dl_prog.specs.declared.asked.Asked.{Asked}
use Rattle.dl_prog.specs.declared.asked.Asked.TheVariants.{Send, Await, Other}

-- A send is told only without arguments, to a number in the range of i64.
abbrev pub IsSend : ℕ → ℕ → Term → List Term → Names → Asked → Type 0
IsSend label tag to args names (Send l t v) =
    (l ≡ label) × (t ≡ tag) × (args ≡ []) × (Some v ≡ (if is_i64 (value_of to names) then Some (value_of to names) else None))
IsSend label tag to args names (Await l t) = ⊥
IsSend label tag to args names Other = Unit {0}

abbrev pub IsAwait : ℕ → ℕ → Asked → Type 0
IsAwait label tag (Send l t v) = ⊥
IsAwait label tag (Await l t) = (l ≡ label) × (t ≡ tag)
IsAwait label tag Other = Unit {0}

abbrev pub IsOther : Asked → Type 0
IsOther (Send l t v) = ⊥
IsOther (Await l t) = ⊥
IsOther Other = Unit {0}

-- where it tells of a call, the command makes this call
abbrev pub AsksFor : Option Command → Names → Asked → Type 0
AsksFor None names asked = IsOther asked
AsksFor (Some (of.Send note label tag to args)) names asked = IsSend label tag to args names asked
AsksFor (Some (of.Await note label tag sender args)) names asked = IsAwait label tag asked
AsksFor (Some (of.Poll note got label tag sender args)) names asked = IsOther asked
AsksFor (Some (of.Read note into label field index)) names asked = IsOther asked
AsksFor (Some (of.Set target value)) names asked = IsOther asked
AsksFor (Some (of.If' test s left t right)) names asked = IsOther asked
AsksFor (Some (of.While' test note s body)) names asked = IsOther asked
AsksFor (Some (of.Call note frame into proc args)) names asked = IsOther asked
