-- The names that an obligation takes, and what it is that an obligation is valid.
use Rattle.std.specs.Prelude.{◌≡◌, ℕ, zero, suc, ◌+◌, Bool, false, true, List, [], ◌∷◌, None, length, map}
use Rattle.std.specs.List.{AllByRecursion as Each}
use Rattle.dl_term.specs.declared.syntax.Lab.TheVariants.{At}
use Rattle.dl_model.specs.declared.file.Decls.{Decls}
use Rattle.dl_model.specs.Lookup.{Parameter}
use Rattle.dl_model.specs.Words.{result_word}
use Rattle.dl_model.specs.Sorts.{has}
use Rattle.dl_model.specs.Formed.{AreDistinct}
use Rattle.dl_model.specs.Sequents.{IsValid}
use Rattle.dl_sequent.specs.declared.duty.Duty.{Duty}
use Rattle.dl_sequent.specs.declared.duty.Duty.TheVariants.{Got, Leave, Stable, Frame, Start, Guard, AfterSend, Miss, AfterRead, Body, Exit, Enter}
use Rattle.dl_inv.specs.Steps.{tag_of}
use Rattle.dl_inv.specs.Taken.{bound_in}
use Rattle.dl_triples.specs.Obligations.{vars_of, in_proc, sequent_of}

-- as many as the step has: a sender, an addressee and the arguments for a send, a receiver and a message for a receive
abbrev pub names_of_step : Decls → (label tag : ℕ) → (receive : Bool) → ℕ
names_of_step decls label tag false = 2 + length (tag_of decls.inst None (At label) tag).args
names_of_step decls label tag true = 2

-- the message of `Got`, what the call of `Leave` returned, and those of a step
abbrev pub names_taken : Decls → Duty → ℕ
names_taken decls (Got p k) = 1
names_taken decls (Leave p k) = 1
names_taken decls (Stable p k label tag receive) = names_of_step decls label tag receive
names_taken decls (Frame p k label tag receive) = names_of_step decls label tag receive
names_taken decls _ = 0

abbrev pub var_names : List Parameter → List ℕ
var_names vars = map (λ (v : Parameter). v.0) vars

-- the variables of the obligations of a procedure, without what was returned and with it
abbrev pub names_in : Decls → ℕ → List ℕ
names_in decls p = var_names (vars_of decls (in_proc decls p))

abbrev pub names_at : Decls → ℕ → ℕ → List ℕ
names_at decls p zero = result_word ∷ names_in decls p
names_at decls p (suc k) = names_in decls p

-- the variables of an obligation but for those that it takes
abbrev pub own_names : Decls → Duty → List ℕ
own_names decls (Start p) = names_in decls p
own_names decls (Guard p k) = names_in decls p
own_names decls (AfterSend p k) = names_in decls p
own_names decls (Got p k) = names_in decls p
own_names decls (Miss p k) = names_in decls p
own_names decls (AfterRead p k) = names_in decls p
own_names decls (Body p k) = names_in decls p
own_names decls (Exit p k) = names_in decls p
own_names decls (Enter p k) = names_in decls p
own_names decls (Leave p k) = names_in decls p
own_names decls (Stable p k label tag receive) = names_at decls p k
own_names decls (Frame p k label tag receive) = names_in decls p
own_names decls _ = []

-- The obligation may take these names: as many as it takes, distinct, none of its variables, and bound in none of its formulas.
pub record MayTake (decls : Decls) (duty : Duty) (names : List ℕ) : Type 0 where
  pub count : length names ≡ names_taken decls duty
  pub distinct : AreDistinct names
  pub new : Each (λ name. has (own_names decls duty) name ≡ false) names
  pub unbound : Each (λ name. has (bound_in (sequent_of decls duty names)) name ≡ false) names

-- The obligation is valid for some names that it may take.
abbrev pub IsMet : Decls → Duty → Type 0
IsMet decls duty = (names : List ℕ) × MayTake decls duty names × IsValid decls.inst (sequent_of decls duty names)
