-- Proofs as a file writes them: obligations by their names, scripts and certificates.
use Rattle.std.specs.Prelude.{ℕ, ℤ, pos, Bool, true, false, ◌==◌, if◌then◌else◌, List, [], ◌∷◌, map, Option, Some, None, slice_get, codes}
use Rattle.dl_tree.specs.declared.tree.Tree.{Tree}
use Rattle.dl_linear.specs.declared.certificate.Multiple.{Multiple}
use Rattle.dl_linear.specs.declared.certificate.Certificate.{Certificate}
use Rattle.dl_linear.specs.declared.certificate.Certificate.TheBlock.{Use, Sum', Div', more_of-Certificate as one, end_of-Certificate as end, Row_of-Multiple as Multiples, more_of-Multiple as more, end_of-Multiple as none}
use Rattle.dl_model.specs.declared.file.Invariant.{Invariant}
use Rattle.dl_model.specs.declared.file.Decls.{Decls}
use Rattle.dl_sequent.specs.declared.duty.Duty.{Duty}
use Rattle.dl_sequent.specs.declared.duty.Duty.TheVariants as duty
use Rattle.dl_sequent.specs.declared.script.Given.{Given}
use Rattle.dl_sequent.specs.declared.script.Given.TheVariants.{Node, Message}
use Rattle.dl_sequent.specs.declared.script.Rule.{Rule}
use Rattle.dl_sequent.specs.declared.script.Rule.TheBlock as r
use Rattle.dl_sequent.specs.declared.script.Rule.TheBlock.{more_of-Script as script, end_of-Script as last}
use Rattle.dl_file.specs.declared.file.Proof.{Proof}
use Rattle.dl_forms.specs.Table.{NameTable}
use Rattle.dl_forms.specs.Show.{symbol, number, form}
use Rattle.dl_shown.specs.Shown.{listed, name_of, named, protocol_of_label, tag_in, label_of, protocol_name, tag_name, node_name, proc_name, term_of, formula_of}

-- ---- obligations

abbrev pub way_of : Bool → Tree
way_of false = symbol (codes "send")
way_of true = symbol (codes "receive")

-- the protocol of the label `self` in the proof of an obligation
abbrev pub own_of : Duty → Option ℕ
own_of (duty.InitProtocol protocol) = Some protocol
own_of (duty.StepProtocol protocol tag receive) = Some protocol
own_of _ = None

module _ (names : NameTable) (decls : Decls) where
  abbrev pub own_protocol : ℕ → Tree
  own_protocol protocol = protocol_name names decls (slice_get decls.inst.protocols protocol)

  -- the tag of a protocol
  abbrev pub own_tag : ℕ → ℕ → Tree
  own_tag protocol tag = tag_name names decls (tag_in (slice_get decls.inst.protocols protocol) tag)

  abbrev pub invariant_name : ℕ → Tree
  invariant_name invariant = named names (λ (i : Invariant). i.sym) (slice_get decls.invariants invariant)

  -- the step that an obligation is about
  abbrev pub step_of : ℕ → ℕ → Bool → List Tree
  step_of label tag receive = label_of names decls label ∷ tag_name names decls (tag_in (protocol_of_label decls.inst label) tag) ∷ way_of receive ∷ []

  -- what is proved of a point of a procedure
  abbrev pub at_point : List ℕ → ℕ → ℕ → List Tree → Tree
  at_point word proc point step = form word (proc_name names decls proc ∷ number (pos point) ∷ step)

  -- an obligation by its name
  abbrev pub duty_of : Duty → Tree
  duty_of (duty.InitProtocol protocol) = form (codes "init") (own_protocol protocol ∷ [])
  duty_of (duty.InitInvariant invariant) = form (codes "init") (invariant_name invariant ∷ [])
  duty_of (duty.StepProtocol protocol tag receive) = form (codes "step") (own_protocol protocol ∷ own_tag protocol tag ∷ way_of receive ∷ [])
  duty_of (duty.StepInvariant invariant label tag receive) = form (codes "step") (invariant_name invariant ∷ step_of label tag receive)
  duty_of (duty.Start proc) = form (codes "start") (proc_name names decls proc ∷ [])
  duty_of (duty.Guard proc point) = at_point (codes "guard") proc point []
  duty_of (duty.AfterSend proc point) = at_point (codes "after") proc point []
  duty_of (duty.Got proc point) = at_point (codes "got") proc point []
  duty_of (duty.Miss proc point) = at_point (codes "miss") proc point []
  duty_of (duty.AfterRead proc point) = at_point (codes "after") proc point []
  duty_of (duty.Body proc point) = at_point (codes "body") proc point []
  duty_of (duty.Exit proc point) = at_point (codes "exit") proc point []
  duty_of (duty.Enter proc point) = at_point (codes "enter") proc point []
  duty_of (duty.Leave proc point) = at_point (codes "leave") proc point []
  duty_of (duty.Stable proc point label tag receive) = at_point (codes "stable") proc point (step_of label tag receive)
  duty_of (duty.Frame proc point label tag receive) = at_point (codes "frame") proc point (step_of label tag receive)
  duty_of (duty.Deploy node) = form (codes "deploy") (node_name names decls node ∷ [])

-- ---- certificates

-- the number of the word `goal`
abbrev pub goal_word : ℕ
goal_word = 8

abbrev pub use_of : NameTable → ℕ → Tree
use_of names row = if row == goal_word then form (codes "goal") [] else form (codes "use") (name_of names row ∷ [])

-- a certificate with its factor
abbrev pub multiplied : ℤ → Tree → Tree
multiplied factor certificate = listed (number factor ∷ certificate ∷ [])

abbrev mutual
  pub certificate_of : NameTable → Certificate → Tree
  certificate_of names (Use row) = use_of names row
  certificate_of names (Sum' _ parts) = form (codes "add") (multiples_of names parts)
  certificate_of names (Div' divisor _ (one certificate end)) = form (codes "div") (number divisor ∷ certificate_of names certificate ∷ [])

  pub multiples_of : {n : _} → NameTable → Multiples n → List Tree
  multiples_of names none = []
  multiples_of names (more factor certificate parts) = multiplied factor (certificate_of names certificate) ∷ multiples_of names parts

-- the same of a part as the code holds it
abbrev pub multiple_of : NameTable → Multiple → Tree
multiple_of names multiple = multiplied multiple.factor (certificate_of names multiple.certificate)

abbrev pub second_of : NameTable → Option Certificate → List Tree
second_of names (Some certificate) = certificate_of names certificate ∷ []
second_of names None = []

-- ---- scripts

module _ (names : NameTable) (decls : Decls) (own : Option ℕ) where
  abbrev pub given_of : Given → Tree
  given_of (Node term) = term_of names decls own term
  given_of (Message msg) = name_of names msg

  -- a rule, with the scripts for what it leaves to show
  abbrev pub rule_of : Rule → Tree
  rule_of (r.By hyp) = form (codes "by") (name_of names hyp ∷ [])
  rule_of r.Close = form (codes "close") []
  rule_of (r.Split' _ (script a ap last) _ (script b bp last)) = form (codes "split") (rule_of a ∷ rule_of b ∷ [])
  rule_of (r.Pick' part _ (script a ap last)) = form (codes "pick") (number (pos part) ∷ rule_of a ∷ [])
  rule_of (r.Intro' name _ (script a ap last)) = form (codes "intro") (name_of names name ∷ rule_of a ∷ [])
  rule_of (r.Open' var _ (script a ap last)) = form (codes "open") (name_of names var ∷ rule_of a ∷ [])
  rule_of (r.Give' what _ (script a ap last)) = form (codes "give") (given_of what ∷ rule_of a ∷ [])
  rule_of (r.Parts' hyp left right _ (script a ap last)) = form (codes "parts") (name_of names hyp ∷ name_of names left ∷ name_of names right ∷ rule_of a ∷ [])
  rule_of (r.Cases' hyp name _ (script a ap last) _ (script b bp last)) = form (codes "cases") (name_of names hyp ∷ name_of names name ∷ rule_of a ∷ rule_of b ∷ [])
  rule_of (r.Apply' hyp name _ (script a ap last) _ (script b bp last)) = form (codes "apply") (name_of names hyp ∷ name_of names name ∷ rule_of a ∷ rule_of b ∷ [])
  rule_of (r.Inst' hyp what name _ (script a ap last)) = form (codes "inst") (name_of names hyp ∷ given_of what ∷ name_of names name ∷ rule_of a ∷ [])
  rule_of (r.Unpack' hyp var name _ (script a ap last)) = form (codes "unpack") (name_of names hyp ∷ name_of names var ∷ name_of names name ∷ rule_of a ∷ [])
  rule_of (r.Have' formula name _ (script a ap last) _ (script b bp last)) =
      form (codes "have") (formula_of names decls own formula ∷ name_of names name ∷ rule_of a ∷ rule_of b ∷ [])
  rule_of (r.Decide' formula name _ (script a ap last) _ (script b bp last)) =
      form (codes "decide") (formula_of names decls own formula ∷ name_of names name ∷ rule_of a ∷ rule_of b ∷ [])
  rule_of (r.Rewrite' hyp at _ (script a ap last)) = form (codes "rewrite") (name_of names hyp ∷ name_of names at ∷ rule_of a ∷ [])
  rule_of (r.Reduce' hyp at _ (script a ap last)) = form (codes "reduce") (name_of names hyp ∷ name_of names at ∷ rule_of a ∷ [])
  rule_of (r.Range' term name _ (script a ap last)) = form (codes "range") (term_of names decls own term ∷ name_of names name ∷ rule_of a ∷ [])
  rule_of (r.Linear first second) = form (codes "linear") (certificate_of names first ∷ second_of names second)

abbrev pub proof_of : NameTable → Decls → Proof → Tree
proof_of names decls proof =
    form (codes "proof") (duty_of names decls proof.duty ∷ form (codes "names") (map (name_of names) proof.names) ∷ rule_of names decls (own_of proof.duty) proof.script.rule ∷ [])
