-- What the laws of the backward steps ask for: formulas that are about the file, and names that are about the state.
use Rattle.std.specs.Prelude.{◌≡◌, ◌<◌, ℕ, ℤ, pos, Bool, true, false, ◌==◌, if◌then◌else◌, Option, Some, None, is_some, List, length, slice_get}
use Rattle.std.specs.List.{AllZip}
use Rattle.dl_term.specs.declared.syntax.Lab.{Lab}
use Rattle.dl_term.specs.declared.syntax.Part.{Part}
use Rattle.dl_term.specs.declared.syntax.Part.TheVariants.{Id, From, To, Live, Arg}
use Rattle.dl_term.specs.declared.syntax.Term.{Term, Num, Word, Var, Field', Row', Len, Msg, Add', Sub', Mul', If', more_of-Term as one, end_of-Term as end}
use Rattle.dl_term.specs.declared.syntax.Formula.{Formula, True, False, Eq, Lt, Le, Not', And', Or', Implies', All', Exists', Each', Any', more_of-Formula as one_formula, end_of-Formula as end_formula}
use Rattle.dl_term.specs.State.{State, soup_at, message_at, tag_of}
use Rattle.dl_term.specs.Names.{Names, Stored, label_of}
use Rattle.dl_term.specs.Meaning.{value}
use Rattle.dl_model.specs.declared.protocol.Protocol.{Protocol}
use Rattle.dl_model.specs.declared.protocol.Instances.{Instances}
use Rattle.dl_model.specs.Scopes.{is_field}
use Rattle.dl_wp.specs.declared.steps.SendStep.{SendStep}
use Rattle.dl_wp.specs.declared.steps.ReceiveStep.{ReceiveStep}
use Rattle.dl_wp.specs.Steps.{spoken_of}
use Rattle.dl_subst.specs.Change.{and_name}

-- ---- formulas

-- the mark `live` is read of bound messages alone
abbrev pub part_fits : (bound : Bool) → Part → Bool
part_fits bound Live = bound
part_fits bound Id = true
part_fits bound From = true
part_fits bound To = true
part_fits bound (Arg k) = true

-- Each label is one that may be named, a field or row is one of its protocol, and an index stands exactly where it is a row.
abbrev pub TermFits : (Lab → Option Protocol) → (bound : ℕ → Bool) → Term → Type 0
TermFits spoken bound (Num v) = Unit {0}
TermFits spoken bound (Word sym v) = Unit {0}
TermFits spoken bound (Var sym) = Unit {0}
TermFits spoken bound (Field' label field _ (one node end)) = (is_field (spoken label) field false ≡ true) × TermFits spoken bound node
TermFits spoken bound (Row' label field _ (one node end) _ (one index end)) =
    (is_field (spoken label) field true ≡ true) × TermFits spoken bound node × TermFits spoken bound index
TermFits spoken bound (Len label) = is_some (spoken label) ≡ true
TermFits spoken bound (Msg m part) = part_fits (bound m) part ≡ true
TermFits spoken bound (Add' _ (one a end) _ (one b end)) = TermFits spoken bound a × TermFits spoken bound b
TermFits spoken bound (Sub' _ (one a end) _ (one b end)) = TermFits spoken bound a × TermFits spoken bound b
TermFits spoken bound (Mul' _ (one a end) _ (one b end)) = TermFits spoken bound a × TermFits spoken bound b
TermFits spoken bound (If' _ (one a end) _ (one b end) _ (one x end) _ (one y end)) =
    TermFits spoken bound a × TermFits spoken bound b × TermFits spoken bound x × TermFits spoken bound y

abbrev pub FormulaFits : (Lab → Option Protocol) → (bound : ℕ → Bool) → Formula → Type 0
FormulaFits spoken bound True = Unit {0}
FormulaFits spoken bound False = Unit {0}
FormulaFits spoken bound (Eq a b) = TermFits spoken bound a × TermFits spoken bound b
FormulaFits spoken bound (Lt a b) = TermFits spoken bound a × TermFits spoken bound b
FormulaFits spoken bound (Le a b) = TermFits spoken bound a × TermFits spoken bound b
FormulaFits spoken bound (Not' _ (one_formula f end_formula)) = FormulaFits spoken bound f
FormulaFits spoken bound (And' _ (one_formula f end_formula) _ (one_formula g end_formula)) = FormulaFits spoken bound f × FormulaFits spoken bound g
FormulaFits spoken bound (Or' _ (one_formula f end_formula) _ (one_formula g end_formula)) = FormulaFits spoken bound f × FormulaFits spoken bound g
FormulaFits spoken bound (Implies' _ (one_formula f end_formula) _ (one_formula g end_formula)) = FormulaFits spoken bound f × FormulaFits spoken bound g
FormulaFits spoken bound (All' x _ (one_formula f end_formula)) = FormulaFits spoken bound f
FormulaFits spoken bound (Exists' x _ (one_formula f end_formula)) = FormulaFits spoken bound f
FormulaFits spoken bound (Each' m label tag _ (one_formula f end_formula)) = (is_some (spoken label) ≡ true) × FormulaFits spoken (and_name m bound) f
FormulaFits spoken bound (Any' m label tag _ (one_formula f end_formula)) = (is_some (spoken label) ≡ true) × FormulaFits spoken (and_name m bound) f

-- a formula of the file, or of the protocol `own`, in which no message that is free has its mark read
abbrev pub IsAbout : Instances → Option ℕ → Formula → Type 0
IsAbout inst own f = FormulaFits (spoken_of inst own) (λ m. false) f

-- ---- names

-- `self` is a label of the protocol, where there is one
abbrev pub IsOwn : Instances → Option ℕ → Names → Type 0
IsOwn inst None names = Unit {0}
IsOwn inst (Some own) names = slice_get inst.of names.own ≡ Some own

-- each message that is named is one of the state
abbrev pub AreThere : Names → State → Type 0
AreThere names state = (m label id : ℕ) → names.message m ≡ Some (Stored label id) → id < length (soup_at state label)

-- the step's terms are those of the send, at this label, by this node, to this addressee and with these arguments
pub record IsSend (inst : Instances) (own : Option ℕ) (step : SendStep) (names : Names) (state : State) (label node : ℕ) (to : ℤ) (args : List ℤ) : Type 0 where
  pub spoken : is_some (spoken_of inst own step.label) ≡ true
  pub at_label : label_of names.own step.label ≡ label
  pub sender : value step.sender names state ≡ pos node
  pub addressee : value step.to names state ≡ to
  pub arguments : AllZip (λ t v. value t names state ≡ v) step.args args

-- the step's terms are those of the receive of the message with this id, at this label, by this node
pub record IsReceive (inst : Instances) (own : Option ℕ) (step : ReceiveStep) (names : Names) (state : State) (label node id : ℕ) : Type 0 where
  pub spoken : is_some (spoken_of inst own step.label) ≡ true
  pub at_label : label_of names.own step.label ≡ label
  pub receiver : value step.receiver names state ≡ pos node
  pub message : names.message step.msg ≡ Some (Stored label id)
  pub tag : tag_of (message_at state label id) ≡ step.tag
