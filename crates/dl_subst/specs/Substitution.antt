-- The five changes: a term for a variable, terms for the parts of a message, a term for another one, a label for `self`, and
-- terms for several variables at once.
use Rattle.std.specs.Prelude.{ℕ, pos, slice_get, false, ◌==◌, List, [], ◌∷◌, Option, Some, None, unwrap_or, if◌then◌else◌}
use Rattle.std.specs.List.{list_any}
use Rattle.dl_term.specs.declared.syntax.Lab.{Lab}
use Rattle.dl_term.specs.declared.syntax.Lab.TheVariants.{Own, At}
use Rattle.dl_term.specs.declared.syntax.Part.{Part}
use Rattle.dl_term.specs.declared.syntax.Part.TheVariants.{Id, From, To, Live, Arg}
use Rattle.dl_term.specs.declared.syntax.Term.{Term, Num, Var, Msg}
use Rattle.dl_term.specs.declared.syntax.Formula.{Formula}
use Rattle.dl_term.specs.Measures.{has_variable, has_message}
use Rattle.dl_term.specs.Names.{Names}
use Rattle.dl_term.specs.Same.{same_term}
use Rattle.dl_subst.specs.declared.message.NewMessage.{NewMessage}
use Rattle.dl_subst.specs.Change.{Change, changed, changed_term}

abbrev pub put_for_variable : ℕ → Term → Term → Option Term
put_for_variable x new (Var y) = if y == x then Some new else None
put_for_variable x new _ = None

-- the new term for each place of the variable x
abbrev pub for_variable : ℕ → Term → Change
for_variable x new = record {
  put = put_for_variable x new;
  label = λ label. label;
  stops_at_variable = λ y. y == x;
  stops_at_message = λ m. false;
}

-- the term for a part of a message, where the arguments past the last one are 0
abbrev pub new_part : NewMessage → Part → Term
new_part new Id = new.id
new_part new From = new.from
new_part new To = new.to
new_part new Live = new.live
new_part new (Arg k) = unwrap_or (slice_get new.args k) (Num (pos 0))

abbrev pub put_for_message : ℕ → NewMessage → Term → Option Term
put_for_message m new (Msg n part) = if n == m then Some (new_part new part) else None
put_for_message m new _ = None

-- the new terms for the parts of the message m
abbrev pub for_message : ℕ → NewMessage → Change
for_message m new = record {
  put = put_for_message m new;
  label = λ label. label;
  stops_at_variable = λ y. false;
  stops_at_message = λ n. n == m;
}

-- the new term for each outermost place of the old one, but for places under a quantifier that binds a name of the old one
abbrev pub for_term : Term → Term → Change
for_term old new = record {
  put = λ t. if same_term t old then Some new else None;
  label = λ label. label;
  stops_at_variable = has_variable old;
  stops_at_message = has_message old;
}

abbrev pub label_for : ℕ → Lab → Lab
label_for own Own = At own
label_for own (At label) = At label

-- the label for `self`
abbrev pub for_own : ℕ → Change
for_own own = record {
  put = λ t. None;
  label = label_for own;
  stops_at_variable = λ y. false;
  stops_at_message = λ m. false;
}

-- of the terms for these variables the last one for this name, or else the one that was found
abbrev pub term_for : (found : Term) → List ℕ → List Term → ℕ → Term
term_for found [] terms x = found
term_for found (y ∷ ys) [] x = found
term_for found (y ∷ ys) (t ∷ ts) x = term_for (if x == y then t else found) ys ts x

abbrev pub put_for_variables : List ℕ → List Term → Term → Option Term
put_for_variables xs terms (Var x) = if list_any (λ y. x == y) xs then Some (term_for (Num (pos 0)) xs terms x) else None
put_for_variables xs terms _ = None

abbrev pub label_put : Lab → Lab → Lab
label_put own Own = own
label_put own (At label) = At label

-- a term for each place of these variables, all at once, and the label for `self`; a variable past the last term has 0
abbrev pub for_variables : List ℕ → List Term → Lab → Change
for_variables xs terms own = record {
  put = put_for_variables xs terms;
  label = label_put own;
  stops_at_variable = λ y. false;
  stops_at_message = λ m. false;
}

-- the same names, with this label as `self`
abbrev pub with_own : Names → ℕ → Names
with_own names own = record { own = own; number = names.number; message = names.message }

abbrev pub substituted : Formula → ℕ → Term → Formula
substituted f x new = changed (for_variable x new) f

abbrev pub message_substituted : Formula → ℕ → NewMessage → Formula
message_substituted f m new = changed (for_message m new) f

abbrev pub replaced : Formula → Term → Term → Formula
replaced f old new = changed (for_term old new) f

abbrev pub with_label : Formula → ℕ → Formula
with_label f own = changed (for_own own) f

abbrev pub term_with_label : Term → ℕ → Term
term_with_label t own = changed_term (for_own own) t

abbrev pub terms_put : Formula → List ℕ → List Term → Lab → Formula
terms_put f xs terms own = changed (for_variables xs terms own) f
