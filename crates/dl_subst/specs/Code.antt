-- What the code's own types stand for: a change, the names bound around a place, and the answer for one place.
use Rattle.std.specs.Prelude.{ℕ, pos, Bool, false, Option, Some, None}
use Rattle.dl_term.specs.declared.syntax.Term.{Term, Num}
use Rattle.dl_subst.specs.declared.change.Change.{Change as CodeChange}
use Rattle.dl_subst.specs.declared.change.Change.TheVariants.{ForVariable, ForMessage, ForTerm, ForOwn, ForVariables}
use Rattle.dl_subst.specs.declared.change.Around.{Around, Nothing, Variable', Message'}
use Rattle.dl_subst.specs.declared.change.Place.{Place}
use Rattle.dl_subst.specs.declared.change.Place.TheVariants.{Kept, New, Zero}
use Rattle.dl_subst.specs.Change.{Change, and_name}
use Rattle.dl_subst.specs.Substitution.{for_variable, for_message, for_term, for_own, for_variables}

abbrev pub change_of : CodeChange → Change
change_of (ForVariable x new) = for_variable x new.now
change_of (ForMessage m new) = for_message m new.now
change_of (ForTerm old new) = for_term old.now new.now
change_of (ForOwn own) = for_own own
change_of (ForVariables xs terms own) = for_variables xs.now terms.now own

abbrev pub variables_of : Around → ℕ → Bool
variables_of Nothing = λ y. false
variables_of (Variable' p outer x) = and_name x (variables_of outer)
variables_of (Message' p outer m) = variables_of outer

abbrev pub messages_of : Around → ℕ → Bool
messages_of Nothing = λ y. false
messages_of (Variable' p outer x) = messages_of outer
messages_of (Message' p outer m) = and_name m (messages_of outer)

-- the new term of a place, if it has one
abbrev pub new_of : Place → Option Term
new_of Kept = None
new_of (New new) = Some new.now
new_of Zero = Some (Num (pos 0))
