-- The obligations of protocols and invariants, as sequents.
use Rattle.std.specs.Prelude.{ℕ, false, true, List, [], ◌∷◌, ◌++◌, Option, Some, None, slice_get, unwrap_or}
use Rattle.dl_term.specs.declared.syntax.Lab.{Lab}
use Rattle.dl_term.specs.declared.syntax.Lab.TheVariants.{Own, At}
use Rattle.dl_term.specs.declared.syntax.Sort.{Sort}
use Rattle.dl_term.specs.declared.syntax.Formula.{Formula, True}
use Rattle.dl_model.specs.declared.protocol.Instances.{Instances}
use Rattle.dl_model.specs.declared.sequent.Hypothesis.{Hypothesis}
use Rattle.dl_model.specs.declared.sequent.Sequent.{Sequent}
use Rattle.dl_model.specs.declared.file.World.{World}
use Rattle.dl_model.specs.declared.file.Invariant.{Invariant}
use Rattle.dl_model.specs.declared.file.Decls.{Decls}
use Rattle.dl_model.specs.Lookup.{Parameter, arg_sorts, protocol_in, world_at}
use Rattle.dl_sequent.specs.Bounds.{Declared, node_sort}
use Rattle.dl_sequent.specs.declared.duty.Duty.{Duty}
use Rattle.dl_sequent.specs.declared.duty.Duty.TheVariants.{InitProtocol, InitInvariant, StepProtocol, StepInvariant}
use Rattle.dl_wp.specs.Before.{before_sent, before_received}
use Rattle.dl_wp.specs.First.{at_first}
use Rattle.dl_inv.specs.Words.{self_word, hooks_word}
use Rattle.dl_inv.specs.Steps.{name_at, called, send_by, receive_by, tag_of, send_hypotheses, receive_hypotheses, all_hooks}
use Rattle.dl_inv.specs.Facts.{facts_of}

-- variables and messages alone
abbrev pub known : List Parameter → List Declared → Option ℕ → Sequent
known vars messages own = record { vars = vars; messages = messages; facts = []; goal = True; own = own }

-- with these hypotheses and this goal
abbrev pub shows : Sequent → List Hypothesis → Formula → Sequent
shows s facts goal = record s { facts = facts; goal = goal }

-- ---- at first

abbrev pub init_sequent : Instances → Option ℕ → Formula → Sequent
init_sequent inst own f = shows (known [] [] own) [] (at_first inst own f)

-- ---- a step

abbrev pub with_sort : Sort → ℕ → Parameter
with_sort sort name = record { 0 = name; 1 = sort }

abbrev pub with_sorts : List ℕ → List Sort → List Parameter
with_sorts (x ∷ xs) (sort ∷ sorts) = with_sort sort x ∷ with_sorts xs sorts
with_sorts _ _ = []

-- the sender and the addressee, which are nodes, and the arguments, each in its sort
abbrev pub send_known : Instances → Option ℕ → Lab → ℕ → List ℕ → Sequent
send_known inst own label tag names =
    known (with_sorts names (node_sort inst.nodes ∷ node_sort inst.nodes ∷ arg_sorts (tag_of inst own label tag).args)) [] own

-- the label of a sequent's message: 255 stands for `self`
abbrev pub number_of_label : Lab → ℕ
number_of_label Own = 255
number_of_label (At label) = label

-- the receiver, which is a node, and a message of the label and tag
abbrev pub receive_known : Instances → Option ℕ → Lab → ℕ → List ℕ → Sequent
receive_known inst own label tag names =
    known (with_sort (node_sort inst.nodes) (name_at names 0) ∷ []) (record { 0 = name_at names 1; 1 = number_of_label label; 2 = tag } ∷ []) own

-- A send keeps the formula. `before` is known of the state, and `hooks` of the send besides.
abbrev pub send_sequent : Instances → Option ℕ → Lab → ℕ → List ℕ → (before hooks : List Hypothesis) → Formula → Sequent
send_sequent inst own label tag names before hooks f =
    let step = send_by label tag names in
    let given = send_known inst own label tag names in
    shows given (before ++ (send_hypotheses inst given step ++ hooks)) (before_sent inst own step f)

-- A receive keeps the formula. `before` is known of the state.
abbrev pub receive_sequent : Instances → Option ℕ → Lab → ℕ → List ℕ → (before : List Hypothesis) → Formula → Sequent
receive_sequent inst own label tag names before f =
    let step = receive_by label tag names in
    let given = receive_known inst own label tag names in
    shows given (before ++ receive_hypotheses inst given step) (before_received inst own step f)

-- ---- all of them

abbrev pub coherence_of : Instances → ℕ → Formula
coherence_of inst protocol = unwrap_or (protocol_in inst (Some protocol)).coherence True

-- the coherence, as what a step of its protocol may rely on
abbrev pub self_fact : Instances → ℕ → List Hypothesis
self_fact inst protocol = called self_word (coherence_of inst protocol) ∷ []

abbrev pub invariant_at : Decls → ℕ → Invariant
invariant_at decls i = unwrap_or (slice_get decls.invariants i) (record { sym = 0; world = 0; formula = True })

abbrev pub invariant_world : Decls → ℕ → World
invariant_world decls i = world_at decls (invariant_at decls i).world

-- what a step of an invariant may rely on: the facts before the invariant, and the invariant itself
abbrev pub facts_with : Decls → ℕ → List Hypothesis
facts_with decls i = facts_of decls i (invariant_world decls i) ++ called (invariant_at decls i).sym (invariant_at decls i).formula ∷ []

-- the world's hooks of the send, as one hypothesis
abbrev pub hooks_fact : Decls → World → ℕ → ℕ → List ℕ → List Hypothesis
hooks_fact decls world label tag names = called hooks_word (all_hooks decls world label tag (send_by (At label) tag names)) ∷ []

-- The hypotheses and the goal of an obligation that takes these names: none at first, sender, addressee and arguments for a send,
-- receiver and message for a receive.
abbrev pub sequent_of : Decls → Duty → List ℕ → Sequent
sequent_of decls (InitProtocol p) names = init_sequent decls.inst (Some p) (coherence_of decls.inst p)
sequent_of decls (InitInvariant i) names = init_sequent decls.inst None (invariant_at decls i).formula
sequent_of decls (StepProtocol p tag false) names = send_sequent decls.inst (Some p) Own tag names (self_fact decls.inst p) [] (coherence_of decls.inst p)
sequent_of decls (StepProtocol p tag true) names = receive_sequent decls.inst (Some p) Own tag names (self_fact decls.inst p) (coherence_of decls.inst p)
sequent_of decls (StepInvariant i label tag false) names =
    send_sequent decls.inst None (At label) tag names (facts_with decls i) (hooks_fact decls (invariant_world decls i) label tag names) (invariant_at decls i).formula
sequent_of decls (StepInvariant i label tag true) names = receive_sequent decls.inst None (At label) tag names (facts_with decls i) (invariant_at decls i).formula
sequent_of decls _ names = known [] [] None
