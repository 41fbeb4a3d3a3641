-- What the writing leaves open. A variable, a message, a node and an enumerator are written alike, by their names: the name of a node or an
-- enumerator that is known stands for its value, and every other one is a variable's or a message's.
use Rattle.std.specs.Prelude.{ℕ, ℤ, Bool, true, false, not, ◌&&◌, is_none, List, [], ◌++◌, map, Option, Some, None, slice_get, option_and_then}
use Rattle.std.specs.List.{list_all}
use Rattle.std.specs.Ordering.{int_eq}
use Rattle.dl_term.specs.declared.syntax.Term.{Term, Num, Word, Var, Field', Row', Len, Msg, Add', Sub', Mul', If', more_of-Term as one, end_of-Term as end}
use Rattle.dl_term.specs.declared.syntax.Formula.{Formula, True, False, Eq, Lt, Le, Not', And', Or', Implies', All', Exists', Each', Any', more_of-Formula as one_formula, end_of-Formula as end_formula}
use Rattle.dl_model.specs.declared.protocol.FieldDecl.{FieldDecl}
use Rattle.dl_model.specs.declared.protocol.Update.{Update}
use Rattle.dl_model.specs.declared.protocol.Transition.{Transition}
use Rattle.dl_model.specs.declared.protocol.Tag.{Tag}
use Rattle.dl_model.specs.declared.protocol.Protocol.{Protocol}
use Rattle.dl_model.specs.declared.protocol.Hook.{Hook}
use Rattle.dl_model.specs.declared.file.Invariant.{Invariant}
use Rattle.dl_model.specs.declared.file.Decls.{Decls}
use Rattle.dl_model.specs.declared.program.Command.{Command, Send, Await, Poll, Read, Set, If' as Choice', While', Call, Row_of-Command, end_of-Command, more_of-Command}
use Rattle.dl_model.specs.declared.program.Proc.{Proc}
use Rattle.dl_model.specs.Lookup.{arg_names, proc_at}
use Rattle.dl_sequent.specs.declared.duty.Duty.{Duty}
use Rattle.dl_sequent.specs.declared.duty.Duty.TheVariants as duty
use Rattle.dl_sequent.specs.declared.script.Given.{Given}
use Rattle.dl_sequent.specs.declared.script.Given.TheVariants.{Node, Message}
use Rattle.dl_sequent.specs.declared.script.Rule.{Rule}
use Rattle.dl_sequent.specs.declared.script.Rule.TheBlock as r
use Rattle.dl_sequent.specs.declared.script.Rule.TheBlock.{more_of-Script as script, end_of-Script as last}
use Rattle.dl_file.specs.declared.file.ItemKind.{ItemKind}
use Rattle.dl_file.specs.declared.file.ItemKind.TheVariants as kind
use Rattle.dl_file.specs.declared.file.Proof.{Proof}
use Rattle.dl_file.specs.declared.file.Item.{Item}
use Rattle.dl_file.specs.declared.file.File.{File}
use Rattle.dl_forms.specs.Context.{Text, look_up}
use Rattle.dl_forms.specs.Table.{NameTable}
use Rattle.dl_forms.specs.Scope.{text_at}
use Rattle.dl_notation.specs.Environment.{Environment}
use Rattle.dl_notation.specs.Rules.{other_words}
use Rattle.dl_means.specs.Points.{fits_point}

-- it holds of what is there
abbrev pub of_some : {X : Type 0} → (X → Bool) → Option X → Bool
of_some test (Some x) = test x
of_some test None = true

abbrev pub is_value : ℤ → Option ℤ → Bool
is_value v (Some w) = int_eq v w
is_value v None = false

abbrev pub is_variable : Term → Bool
is_variable (Var sym) = true
is_variable _ = false

-- `words` has the constants that are known, with their values
module _ (names : NameTable) (words : List (Text × ℤ)) where
  abbrev pub value_named : ℕ → Option ℤ
  value_named sym = option_and_then (λ text. look_up text words) (slice_get names.texts sym)

  abbrev pub says_term : Term → Bool
  says_term (Num v) = true
  says_term (Word sym v) = is_value v (value_named sym)
  says_term (Var sym) = is_none (value_named sym)
  says_term (Field' label field _ (one node end)) = says_term node
  says_term (Row' label field _ (one node end) _ (one index end)) = says_term node && says_term index
  says_term (Len label) = true
  says_term (Msg msg part) = true
  says_term (Add' _ (one a end) _ (one b end)) = says_term a && says_term b
  says_term (Sub' _ (one a end) _ (one b end)) = says_term a && says_term b
  says_term (Mul' _ (one a end) _ (one b end)) = says_term a && says_term b
  says_term (If' _ (one a end) _ (one b end) _ (one x end) _ (one y end)) = (says_term a && says_term b) && (says_term x && says_term y)

  abbrev pub says : Formula → Bool
  says True = true
  says False = true
  says (Eq a b) = says_term a && says_term b
  says (Lt a b) = says_term a && says_term b
  says (Le a b) = says_term a && says_term b
  says (Not' _ (one_formula f end_formula)) = says f
  says (And' _ (one_formula f end_formula) _ (one_formula g end_formula)) = says f && says g
  says (Or' _ (one_formula f end_formula) _ (one_formula g end_formula)) = says f && says g
  says (Implies' _ (one_formula f end_formula) _ (one_formula g end_formula)) = says f && says g
  says (All' sym _ (one_formula body end_formula)) = says body
  says (Exists' sym _ (one_formula body end_formula)) = says body
  says (Each' msg label tag _ (one_formula body end_formula)) = says body
  says (Any' msg label tag _ (one_formula body end_formula)) = says body

  -- ---- declarations

  abbrev pub says_update : Update → Bool
  says_update update = of_some says_term update.index && says_term update.value

  abbrev pub says_transition : Transition → Bool
  says_transition transition = says transition.guard && list_all says_update transition.updates

  abbrev pub says_tag : Tag → Bool
  says_tag tag = says_transition tag.send && of_some says_transition tag.receive

  abbrev pub says_protocol : Protocol → Bool
  says_protocol protocol =
      list_all (λ (field : FieldDecl). says_term field.first) protocol.fields && (list_all says_tag protocol.tags && of_some says protocol.coherence)

  -- ---- scripts

  -- the name of a variable alone is given as that of a message is
  abbrev pub says_given : Given → Bool
  says_given (Node term) = not (is_variable term) && says_term term
  says_given (Message msg) = is_none (value_named msg)

  abbrev pub says_rule : Rule → Bool
  says_rule (r.By hyp) = true
  says_rule r.Close = true
  says_rule (r.Split' _ (script a ap last) _ (script b bp last)) = says_rule a && says_rule b
  says_rule (r.Pick' part _ (script a ap last)) = says_rule a
  says_rule (r.Intro' name _ (script a ap last)) = says_rule a
  says_rule (r.Open' var _ (script a ap last)) = says_rule a
  says_rule (r.Give' what _ (script a ap last)) = says_given what && says_rule a
  says_rule (r.Parts' hyp left right _ (script a ap last)) = says_rule a
  says_rule (r.Cases' hyp name _ (script a ap last) _ (script b bp last)) = says_rule a && says_rule b
  says_rule (r.Apply' hyp name _ (script a ap last) _ (script b bp last)) = says_rule a && says_rule b
  says_rule (r.Inst' hyp what name _ (script a ap last)) = says_given what && says_rule a
  says_rule (r.Unpack' hyp var name _ (script a ap last)) = says_rule a
  says_rule (r.Have' formula name _ (script a ap last) _ (script b bp last)) = says formula && (says_rule a && says_rule b)
  says_rule (r.Decide' formula name _ (script a ap last) _ (script b bp last)) = says formula && (says_rule a && says_rule b)
  says_rule (r.Rewrite' hyp at _ (script a ap last)) = says_rule a
  says_rule (r.Reduce' hyp at _ (script a ap last)) = says_rule a
  says_rule (r.Range' term name _ (script a ap last)) = says_term term && says_rule a
  says_rule (r.Linear first second) = true

-- ---- procedures

abbrev mutual
  pub says_command : NameTable → List (Text × ℤ) → Command → Bool
  says_command names words (Send note label tag to args) = says names words note && (says_term names words to && list_all (says_term names words) args)
  says_command names words (Await note label tag sender args) = says names words note
  says_command names words (Poll note got label tag sender args) = says names words note
  says_command names words (Read note into label field index) = says names words note && of_some (says_term names words) index
  says_command names words (Set local value) = says_term names words value
  says_command names words (Choice' test _ left _ right) = says names words test && (says_commands names words left && says_commands names words right)
  says_command names words (While' test note _ body) = says names words test && (says names words note && says_commands names words body)
  says_command names words (Call note frame into proc args) = says names words note && (says names words frame && list_all (says_term names words) args)

  pub says_commands : {m : _} → NameTable → List (Text × ℤ) → Row_of-Command m → Bool
  says_commands names words end_of-Command = true
  says_commands names words (more_of-Command command rest) = says_command names words command && says_commands names words rest

abbrev pub says_proc : NameTable → List (Text × ℤ) → Proc → Bool
says_proc names words proc =
    says names words proc.pre && (says names words proc.post && (list_all (says_command names words) proc.body && says_term names words proc.result))

-- ---- proofs

-- the procedure that an obligation is of
abbrev pub proc_in : Duty → Option ℕ
proc_in (duty.Start proc) = Some proc
proc_in (duty.Guard proc point) = Some proc
proc_in (duty.AfterSend proc point) = Some proc
proc_in (duty.Got proc point) = Some proc
proc_in (duty.Miss proc point) = Some proc
proc_in (duty.AfterRead proc point) = Some proc
proc_in (duty.Body proc point) = Some proc
proc_in (duty.Exit proc point) = Some proc
proc_in (duty.Enter proc point) = Some proc
proc_in (duty.Leave proc point) = Some proc
proc_in (duty.Stable proc point label tag receive) = Some proc
proc_in (duty.Frame proc point label tag receive) = Some proc
proc_in _ = None

-- the parameters and the locals of the procedure: in a script their names stand for them, also where a later item declares an enumerator so
abbrev pub variables_in : NameTable → Decls → Option ℕ → List Text
variables_in names decls (Some proc) = map (text_at names) (arg_names (proc_at decls.procs proc).params ++ (proc_at decls.procs proc).locals)
variables_in names decls None = []

abbrev pub says_proof : NameTable → Environment → Decls → Proof → Bool
says_proof names env decls proof = fits_point decls proof.duty && says_rule names (other_words (variables_in names decls (proc_in proof.duty)) env.words) proof.script.rule

-- ---- items

abbrev pub says_kind : NameTable → Environment → File → ItemKind → ℕ → Bool
says_kind names env file kind.Protocol at = of_some (says_protocol names env.words) (slice_get file.decls.inst.protocols at)
says_kind names env file kind.Hook at = of_some (λ (hook : Hook). says names env.words hook.formula) (slice_get file.decls.hooks at)
says_kind names env file kind.Invariant at = of_some (λ (invariant : Invariant). says names env.words invariant.formula) (slice_get file.decls.invariants at)
says_kind names env file kind.Procedure at = of_some (says_proc names env.words) (slice_get file.decls.procs at)
says_kind names env file kind.Proof at = of_some (says_proof names env file.decls) (slice_get file.proofs at)
says_kind names env file _ at = true

-- the names in an item stand for constants exactly where the items before it, and the list of nodes, declare them so
abbrev pub says_item : NameTable → Environment → File → Item → Bool
says_item names env file item = says_kind names env file item.kind item.at
