-- The notation: the forms of each kind of list.
use Rattle.std.specs.Prelude.{ℕ, Bool, ◌==◌, ◌&&◌, nat_le, List, [], ◌∷◌, Option, Some, None, length, codes, if◌then◌else◌}
use Rattle.std.specs.Str.{bytes_eq}
use Rattle.dl_forms.specs.Context.{Text}
use Rattle.dl_notation.specs.declared.role.Role.{Role}
use Rattle.dl_notation.specs.declared.role.Role.TheVariants.{Number, Name, Constant, Way, Formula, Term}
use Rattle.dl_notation.specs.declared.role.Role.TheVariants as role
use Rattle.dl_notation.specs.declared.role.ListRole.{ListRole}
use Rattle.dl_notation.specs.declared.role.ListRole.TheVariants as list
use Rattle.dl_notation.specs.declared.role.NameRole.TheVariants as name
use Rattle.dl_notation.specs.declared.role.NumberRole.TheVariants as number
use Rattle.dl_notation.specs.declared.role.FormulaRole.TheVariants as formula
use Rattle.dl_notation.specs.declared.role.TermRole.TheVariants as term

-- What each part of a form has to be: the first ones, and each further one, where there may be any.
pub record Form : Type 0 where
  pub fixed : List Role
  pub rest : Option Role

abbrev pub only : List Role → Form
only roles = record { fixed = roles; rest = None }

abbrev pub many : List Role → Role → Form
many roles further = record { fixed = roles; rest = Some further }

-- the form of a list that begins with no word
abbrev pub headless : ListRole → Option Form
headless list.Arguments = Some (many [] (role.List list.Argument))
headless list.Argument = Some (only (Name name.NewArgument ∷ Name name.Sort ∷ []))
headless list.HookArguments = Some (many [] (Name name.NewHookArgument))
headless list.Parameters = Some (many [] (role.List list.Parameter))
headless list.Parameter = Some (only (Name name.NewParameter ∷ Name name.Sort ∷ []))
headless list.Targets = Some (many [] (Name name.Target))
headless list.Program = Some (many (Name name.DeployedNode ∷ Name name.Procedure ∷ []) (Constant))
headless list.Multiple = Some (only (Number number.Integer ∷ role.List list.Certificate ∷ []))
headless _ = None

-- the forms of a list that begins with a word, each with its word
abbrev pub headed : ListRole → List (Text × Form)
headed list.File = (codes "disel", many (Number number.Version ∷ role.List list.Nodes ∷ []) (role.List list.Item)) ∷ []
headed list.Nodes = (codes "nodes", many (Name name.NewNode ∷ []) (Name name.NewNode)) ∷ []
headed list.Item =
    (codes "sort", only (Name name.NewSort ∷ role.List list.SortBody ∷ [])) ∷
    (codes "protocol", many (Name name.NewProtocol ∷ []) (role.List list.ProtocolPart)) ∷
    (codes "label", only (Name name.NewLabel ∷ Name name.Protocol ∷ [])) ∷
    (codes "hook", only (Name name.NewHook ∷ Name name.Core ∷ Name name.Client ∷ Name name.HookTag ∷ role.List list.HookArguments ∷ Formula formula.Hook ∷ [])) ∷
    (codes "world", only (Name name.NewWorld ∷ role.List list.WorldLabels ∷ role.List list.WorldHooks ∷ [])) ∷
    (codes "world", only (Name name.NewWorld ∷ role.List list.Composition ∷ [])) ∷
    (codes "invariant", only (Name name.NewInvariant ∷ Name name.World ∷ Formula formula.Invariant ∷ [])) ∷
    (codes "proc", only (Name name.NewProcedure ∷ Name name.World ∷ role.List list.Parameters ∷ role.List list.Locals ∷ role.List list.Precondition ∷ role.List list.Postcondition ∷ role.List list.Body ∷ role.List list.Return ∷ [])) ∷
    (codes "deploy", many (Name name.World ∷ []) (role.List list.Program)) ∷
    (codes "proof", only (role.List list.Obligation ∷ role.List list.StepNames ∷ role.List list.Script ∷ [])) ∷ []
headed list.SortBody =
    (codes "range", only (Number number.Integer ∷ Number number.Integer ∷ [])) ∷
    (codes "enum", many [] (Name name.NewEnumerator)) ∷ []
headed list.ProtocolPart =
    (codes "field", only (Name name.NewField ∷ Name name.Sort ∷ Term term.FirstValue ∷ [])) ∷
    (codes "row", only (Name name.NewField ∷ Name name.Sort ∷ Term term.FirstValue ∷ [])) ∷
    (codes "tag", only (Name name.NewTag ∷ role.List list.Arguments ∷ role.List list.Send ∷ [])) ∷
    (codes "tag", only (Name name.NewTag ∷ role.List list.Arguments ∷ role.List list.Send ∷ role.List list.Receive ∷ [])) ∷
    (codes "coherence", only (Formula formula.Coherence ∷ [])) ∷ []
headed list.Send = (codes "send", many (Formula formula.Guard ∷ []) (role.List list.Update)) ∷ []
headed list.Receive = (codes "receive", many (Formula formula.Guard ∷ []) (role.List list.Update)) ∷ []
headed list.Update =
    (codes "set", only (Name name.UpdatedField ∷ Term term.Update ∷ [])) ∷
    (codes "set", only (Name name.UpdatedField ∷ Term term.Update ∷ Term term.Update ∷ [])) ∷ []
headed list.WorldLabels = (codes "labels", many [] (Name name.ListedLabel)) ∷ []
headed list.WorldHooks = (codes "hooks", many [] (Name name.ListedHook)) ∷ []
headed list.Composition = (codes "compose", only (Name name.World ∷ Name name.World ∷ [])) ∷ []
headed list.Locals = (codes "locals", many [] (Name name.NewLocal)) ∷ []
headed list.Precondition = (codes "pre", only (Formula formula.Precondition ∷ [])) ∷ []
headed list.Postcondition = (codes "post", only (Formula formula.Postcondition ∷ [])) ∷ []
headed list.Body = (codes "body", many [] (role.List list.Command)) ∷ []
headed list.Return = (codes "return", only (Term term.Expression ∷ [])) ∷ []
headed list.Command =
    (codes "send", many (Formula formula.Annotation ∷ Name name.Label ∷ Name name.SentTag ∷ Term term.Expression ∷ []) (Term term.Expression)) ∷
    (codes "await", only (Formula formula.Annotation ∷ Name name.Label ∷ Name name.ReceivedTag ∷ Name name.Target ∷ role.List list.Targets ∷ [])) ∷
    (codes "poll", only (Formula formula.Annotation ∷ Name name.Target ∷ Name name.Label ∷ Name name.ReceivedTag ∷ Name name.Target ∷ role.List list.Targets ∷ [])) ∷
    (codes "read", only (Formula formula.Annotation ∷ Name name.Target ∷ Name name.Label ∷ Name name.ReadField ∷ [])) ∷
    (codes "read", only (Formula formula.Annotation ∷ Name name.Target ∷ Name name.Label ∷ Name name.ReadField ∷ Term term.Expression ∷ [])) ∷
    (codes "set", only (Name name.Target ∷ Term term.Expression ∷ [])) ∷
    (codes "if", only (Formula formula.Test ∷ role.List list.Then ∷ role.List list.Else ∷ [])) ∷
    (codes "while", many (Formula formula.Test ∷ Formula formula.Annotation ∷ []) (role.List list.Command)) ∷
    (codes "call", many (Formula formula.Annotation ∷ Formula formula.Frame ∷ Name name.Target ∷ Name name.Callee ∷ []) (Term term.Expression)) ∷ []
headed list.Then = (codes "then", many [] (role.List list.Command)) ∷ []
headed list.Else = (codes "else", many [] (role.List list.Command)) ∷ []
headed list.Obligation =
    (codes "init", only (Name name.Claimed ∷ [])) ∷
    (codes "step", only (Name name.Protocol ∷ Name name.ProtocolTag ∷ Way ∷ [])) ∷
    (codes "step", only (Name name.Invariant ∷ Name name.Label ∷ Name name.StepTag ∷ Way ∷ [])) ∷
    (codes "start", only (Name name.Procedure ∷ [])) ∷
    (codes "guard", only (Name name.Procedure ∷ Number number.Point ∷ [])) ∷
    (codes "after", only (Name name.Procedure ∷ Number number.Point ∷ [])) ∷
    (codes "got", only (Name name.Procedure ∷ Number number.Point ∷ [])) ∷
    (codes "miss", only (Name name.Procedure ∷ Number number.Point ∷ [])) ∷
    (codes "body", only (Name name.Procedure ∷ Number number.Point ∷ [])) ∷
    (codes "exit", only (Name name.Procedure ∷ Number number.Point ∷ [])) ∷
    (codes "enter", only (Name name.Procedure ∷ Number number.Point ∷ [])) ∷
    (codes "leave", only (Name name.Procedure ∷ Number number.Point ∷ [])) ∷
    (codes "stable", only (Name name.Procedure ∷ Number number.Point ∷ Name name.Label ∷ Name name.StepTag ∷ Way ∷ [])) ∷
    (codes "frame", only (Name name.Procedure ∷ Number number.Point ∷ Name name.Label ∷ Name name.StepTag ∷ Way ∷ [])) ∷
    (codes "deploy", only (Name name.Node ∷ [])) ∷ []
headed list.StepNames = (codes "names", many [] (Name name.NewStepName)) ∷ []
headed list.Script =
    (codes "by", only (Name name.Hypothesis ∷ [])) ∷
    (codes "close", only []) ∷
    (codes "split", only (role.List list.Script ∷ role.List list.Script ∷ [])) ∷
    (codes "pick", only (Number number.Half ∷ role.List list.Script ∷ [])) ∷
    (codes "intro", only (Name name.NewHypothesis ∷ role.List list.Script ∷ [])) ∷
    (codes "open", only (Name name.NewOpened ∷ role.List list.Script ∷ [])) ∷
    (codes "give", only (Term term.Given ∷ role.List list.Script ∷ [])) ∷
    (codes "parts", only (Name name.Hypothesis ∷ Name name.NewHypothesis ∷ Name name.NewHypothesis ∷ role.List list.Script ∷ [])) ∷
    (codes "cases", only (Name name.Hypothesis ∷ Name name.NewHypothesis ∷ role.List list.Script ∷ role.List list.Script ∷ [])) ∷
    (codes "apply", only (Name name.Hypothesis ∷ Name name.NewLastHypothesis ∷ role.List list.Script ∷ role.List list.Script ∷ [])) ∷
    (codes "inst", only (Name name.Hypothesis ∷ Term term.Given ∷ Name name.NewHypothesis ∷ role.List list.Script ∷ [])) ∷
    (codes "unpack", only (Name name.Hypothesis ∷ Name name.NewOpened ∷ Name name.NewHypothesis ∷ role.List list.Script ∷ [])) ∷
    (codes "have", only (Formula formula.Claim ∷ Name name.NewLastHypothesis ∷ role.List list.Script ∷ role.List list.Script ∷ [])) ∷
    (codes "decide", only (Formula formula.Claim ∷ Name name.NewHypothesis ∷ role.List list.Script ∷ role.List list.Script ∷ [])) ∷
    (codes "rewrite", only (Name name.Hypothesis ∷ Name name.Rewritten ∷ role.List list.Script ∷ [])) ∷
    (codes "reduce", only (Name name.Hypothesis ∷ Name name.Rewritten ∷ role.List list.Script ∷ [])) ∷
    (codes "range", only (Term term.Bounded ∷ Name name.NewHypothesis ∷ role.List list.Script ∷ [])) ∷
    (codes "linear", only (role.List list.Certificate ∷ [])) ∷
    (codes "linear", only (role.List list.Certificate ∷ role.List list.Certificate ∷ [])) ∷ []
headed list.Certificate =
    (codes "use", only (Name name.Hypothesis ∷ [])) ∷
    (codes "goal", only []) ∷
    (codes "add", many (role.List list.Multiple ∷ []) (role.List list.Multiple)) ∷
    (codes "div", only (Number number.Integer ∷ role.List list.Certificate ∷ [])) ∷ []
headed _ = []

abbrev pub has_room : Option Role → ℕ → ℕ → Bool
has_room None fixed count = fixed == count
has_room (Some further) fixed count = nat_le fixed count

-- the form has so many parts
abbrev pub fits : Form → ℕ → Bool
fits form count = has_room form.rest (length form.fixed) count

-- the first form that begins with the word and has so many parts behind it
abbrev pub form_named : Text → ℕ → List (Text × Form) → Option Form
form_named word count [] = None
form_named word count (entry ∷ entries) = if bytes_eq word entry.0 && fits entry.1 count then Some entry.1 else form_named word count entries

abbrev pub form_with : ℕ → Form → Option Form
form_with count form = if fits form count then Some form else None
