-- Terms and formulas whose names and numbers stand for something.
use Rattle.std.specs.Prelude.{◌≡◌, ℕ, ◌≤◌, Bool, true, false, Some, IsSome, List, [], ◌∷◌, ◌⊎◌}
use Rattle.std.specs.Option.{option_map}
use Rattle.dl_term.specs.declared.syntax.Lab.{Lab}
use Rattle.dl_term.specs.declared.syntax.Part.{Part}
use Rattle.dl_term.specs.declared.syntax.Part.TheVariants.{Arg}
use Rattle.dl_term.specs.declared.syntax.Term.{Term, Num, Word, Var, Field', Row', Len, Msg, Add', Sub', Mul', If', more_of-Term as one, end_of-Term as end}
use Rattle.dl_term.specs.declared.syntax.Formula.{Formula, True, False, Eq, Lt, Le, Not', And', Or', Implies', All', Exists', Each', Any', more_of-Formula as one_formula, end_of-Formula as end_formula}
use Rattle.dl_forms.specs.Table.{NameTable as Names}
use Rattle.dl_forms.specs.declared.scope.Scope.{Scope}
use Rattle.dl_model.specs.declared.protocol.Instances.{Instances}
use Rattle.dl_model.specs.declared.protocol.FieldDecl.{FieldDecl}
use Rattle.dl_forms.specs.Scope.{Binding}
use Rattle.dl_forms.specs.Scope.{variables, messages}
use Rattle.dl_forms.specs.Show.{protocol_of, field_at, tag_at}

-- the list has the element
abbrev pub Has : {X : Type 0} → List X → X → Type 0
Has [] x = ⊥
Has (y ∷ ys) x = (y ≡ x) ⊎ Has ys x

abbrev pub IsPart : Part → Type 0
IsPart (Arg k) = k ≤ 7
IsPart _ = Unit {0}

module _ (names : Names) (scope : Scope) (inst : Instances) where
  -- the label exists, and the field, which is a row or not
  abbrev pub IsField : Lab → ℕ → Bool → Type 0
  IsField lab f row = option_map (λ (d : FieldDecl). d.row) (field_at names scope inst lab f) ≡ Some row

  -- each name of the term is one of these variables and messages or a word, and each number is of something that exists
  abbrev pub IsKnownTerm : List ℕ → List ℕ → Term → Type 0
  IsKnownTerm vars msgs (Num v) = Unit {0}
  IsKnownTerm vars msgs (Word sym v) = Has scope.words (sym, v)
  IsKnownTerm vars msgs (Var sym) = Has vars sym
  IsKnownTerm vars msgs (Field' lab f _ (one node end)) = IsField lab f false × IsKnownTerm vars msgs node
  IsKnownTerm vars msgs (Row' lab f _ (one node end) _ (one index end)) = IsField lab f true × IsKnownTerm vars msgs node × IsKnownTerm vars msgs index
  IsKnownTerm vars msgs (Len lab) = IsSome (protocol_of names scope inst lab)
  IsKnownTerm vars msgs (Msg m part) = Has msgs m × IsPart part
  IsKnownTerm vars msgs (Add' _ (one a end) _ (one b end)) = IsKnownTerm vars msgs a × IsKnownTerm vars msgs b
  IsKnownTerm vars msgs (Sub' _ (one a end) _ (one b end)) = IsKnownTerm vars msgs a × IsKnownTerm vars msgs b
  IsKnownTerm vars msgs (Mul' _ (one a end) _ (one b end)) = IsKnownTerm vars msgs a × IsKnownTerm vars msgs b
  IsKnownTerm vars msgs (If' _ (one a end) _ (one b end) _ (one x end) _ (one y end)) = IsKnownTerm vars msgs a × IsKnownTerm vars msgs b × IsKnownTerm vars msgs x × IsKnownTerm vars msgs y

  -- the same of a formula, in which quantifiers add names
  abbrev pub IsKnownFormula : Formula → List ℕ → List ℕ → Type 0
  IsKnownFormula True vars msgs = Unit {0}
  IsKnownFormula False vars msgs = Unit {0}
  IsKnownFormula (Eq a b) vars msgs = IsKnownTerm vars msgs a × IsKnownTerm vars msgs b
  IsKnownFormula (Lt a b) vars msgs = IsKnownTerm vars msgs a × IsKnownTerm vars msgs b
  IsKnownFormula (Le a b) vars msgs = IsKnownTerm vars msgs a × IsKnownTerm vars msgs b
  IsKnownFormula (Not' _ (one_formula f end_formula)) vars msgs = IsKnownFormula f vars msgs
  IsKnownFormula (And' _ (one_formula f end_formula) _ (one_formula g end_formula)) vars msgs = IsKnownFormula f vars msgs × IsKnownFormula g vars msgs
  IsKnownFormula (Or' _ (one_formula f end_formula) _ (one_formula g end_formula)) vars msgs = IsKnownFormula f vars msgs × IsKnownFormula g vars msgs
  IsKnownFormula (Implies' _ (one_formula f end_formula) _ (one_formula g end_formula)) vars msgs = IsKnownFormula f vars msgs × IsKnownFormula g vars msgs
  IsKnownFormula (All' sym _ (one_formula f end_formula)) vars msgs = IsKnownFormula f (sym ∷ vars) msgs
  IsKnownFormula (Exists' sym _ (one_formula f end_formula)) vars msgs = IsKnownFormula f (sym ∷ vars) msgs
  IsKnownFormula (Each' msg lab t _ (one_formula f end_formula)) vars msgs = IsSome (tag_at names scope inst lab t) × IsKnownFormula f vars (msg ∷ msgs)
  IsKnownFormula (Any' msg lab t _ (one_formula f end_formula)) vars msgs = IsSome (tag_at names scope inst lab t) × IsKnownFormula f vars (msg ∷ msgs)

  -- in what may be named at a place
  abbrev pub IsKnown : List Binding → Term → Type 0
  IsKnown bound term = IsKnownTerm (variables scope bound) (messages scope bound) term

  abbrev pub IsKnownThere : List Binding → Formula → Type 0
  IsKnownThere bound formula = IsKnownFormula formula (variables scope bound) (messages scope bound)
