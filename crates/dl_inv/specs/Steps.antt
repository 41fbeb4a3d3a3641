-- The step of an obligation: its variables, and what is known of it.
use Rattle.std.specs.Prelude.{ℕ, pos, Bool, false, ◌&&◌, ◌==◌, if◌then◌else◌, List, [], ◌∷◌, ◌++◌, Option, Some, None, map, filter, drop, slice_get, unwrap_or}
use Rattle.std.specs.List.{flat_map}
use Rattle.dl_term.specs.declared.syntax.Lab.{Lab}
use Rattle.dl_term.specs.declared.syntax.Part.TheVariants.{From, To, Live}
use Rattle.dl_term.specs.declared.syntax.Sort.{Sort}
use Rattle.dl_term.specs.declared.syntax.Term.{Term, Num, Var, Msg}
use Rattle.dl_term.specs.declared.syntax.Formula.{Formula, Eq, And}
use Rattle.dl_model.specs.declared.protocol.Update.{Update}
use Rattle.dl_model.specs.declared.protocol.Tag.{Tag}
use Rattle.dl_model.specs.declared.protocol.Protocol.{Protocol}
use Rattle.dl_model.specs.declared.protocol.Hook.{Hook}
use Rattle.dl_model.specs.declared.protocol.Instances.{Instances}
use Rattle.dl_model.specs.declared.sequent.Hypothesis.{Hypothesis}
use Rattle.dl_model.specs.declared.sequent.Sequent.{Sequent}
use Rattle.dl_model.specs.declared.file.World.{World}
use Rattle.dl_model.specs.declared.file.Decls.{Decls}
use Rattle.dl_model.specs.Lookup.{arg_names, receive_of, hook_at}
use Rattle.dl_model.specs.Sorts.{has}
use Rattle.dl_model.specs.Words.{me_word, to_word, from_word}
use Rattle.dl_subst.specs.Change.{changed}
use Rattle.dl_sequent.specs.Bounds.{node_sort, field_sort, in_sort_formula}
use Rattle.dl_wp.specs.declared.steps.SendStep.{SendStep}
use Rattle.dl_wp.specs.declared.steps.ReceiveStep.{ReceiveStep}
use Rattle.dl_wp.specs.Steps.{Step, label_seen, seen, names_in_step, args_of_message, spoken_of, tag_in, send_step, receive_step}
use Rattle.dl_inv.specs.Words.{guard_word, fits_word, mine_word}
use Rattle.dl_inv.specs.Joined.{all_of}

-- a hypothesis of this name
abbrev pub called : ℕ → Formula → Hypothesis
called name formula = record { name = name; formula = formula }

-- ---- the two steps, by the names that the obligation takes

abbrev pub name_at : List ℕ → ℕ → ℕ
name_at names k = unwrap_or (slice_get names k) 0

-- a send by the first name to the second, with the others as arguments
abbrev pub send_by : Lab → ℕ → List ℕ → SendStep
send_by label tag names = record {
  label = label;
  tag = tag;
  sender = Var (name_at names 0);
  to = Var (name_at names 1);
  args = map (λ x. Var x) (drop 2 names);
}

-- the receive by the first name of the message of the second
abbrev pub receive_by : Lab → ℕ → List ℕ → ReceiveStep
receive_by label tag names = record { label = label; tag = tag; receiver = Var (name_at names 0); msg = name_at names 1 }

-- ---- what a formula of the protocol says in a step

-- the step's terms for `me`, for the word of the other node and for these names
abbrev pub put_in_step : (word : ℕ) → List ℕ → (ℕ → Term) → Term → Option Term
put_in_step word names named (Var x) = if has (me_word ∷ word ∷ names) x then Some (named x) else None
put_in_step word names named _ = None

-- A guard or a hook in a step at this label, by this node: `word` stands for the other node, and the names for the arguments.
-- What a quantifier binds stays.
abbrev pub in_step : Lab → (node : Term) → (word : ℕ) → (other : Term) → List ℕ → List Term → Formula → Formula
in_step label node word other names args f =
    changed (record {
      put = put_in_step word names (names_in_step node word other names args);
      label = label_seen label;
      stops_at_variable = λ x. false;
      stops_at_message = λ m. false;
    }) f

-- the index of an update is a node
abbrev pub index_fits : Instances → Sequent → Step → Option Term → List Formula
index_fits inst known step (Some index) = in_sort_formula inst known (seen step index) (node_sort inst.nodes) ∷ []
index_fits inst known step None = []

-- the value of an update is in the sort of its field
abbrev pub value_fits : Instances → Sequent → Step → Term → Option Sort → List Formula
value_fits inst known step value (Some sort) = in_sort_formula inst known (seen step value) sort ∷ []
value_fits inst known step value None = []

abbrev pub update_fits : Instances → Sequent → Step → Option Protocol → Update → List Formula
update_fits inst known step protocol update =
    index_fits inst known step update.index ++ value_fits inst known step update.value (field_sort protocol update.field)

-- what a step updates fits
abbrev pub all_fit : Instances → Sequent → Step → Option Protocol → List Update → Formula
all_fit inst known step protocol updates = all_of (flat_map (update_fits inst known step protocol) updates)

-- ---- hooks

abbrev pub hook_seen : SendStep → Hook → Formula
hook_seen step hook = in_step step.label step.sender to_word step.to hook.args step.args hook.formula

abbrev pub is_hook_of : Decls → ℕ → ℕ → ℕ → Bool
is_hook_of decls label tag hook = ((hook_at decls hook).client == label) && ((hook_at decls hook).tag == tag)

-- the hooks of the world for the sends of a tag at a label
abbrev pub all_hooks : Decls → World → ℕ → ℕ → SendStep → Formula
all_hooks decls world label tag step = all_of (map (λ hook. hook_seen step (hook_at decls hook)) (filter (is_hook_of decls label tag) world.hooks))

-- ---- what is known of the two steps

-- the tag of a step, where `self` has the protocol `own`
abbrev pub tag_of : Instances → Option ℕ → Lab → ℕ → Tag
tag_of inst own label tag = tag_in (spoken_of inst own label) tag

-- the guard holds, and what the send updates is in its sort
abbrev pub send_hypotheses : Instances → Sequent → SendStep → List Hypothesis
send_hypotheses inst known step =
    let tag = tag_of inst known.own step.label step.tag in
    called guard_word (in_step step.label step.sender to_word step.to (arg_names tag.args) step.args tag.send.guard)
    ∷ called fits_word (all_fit inst known (send_step inst known.own step) (spoken_of inst known.own step.label) tag.send.updates) ∷ []

-- the message is addressed to the receiver, and live
abbrev pub is_mine : ReceiveStep → Formula
is_mine step = And (Eq (Msg step.msg To) step.receiver) (Eq (Msg step.msg Live) (Num (pos 1)))

-- the message is the receiver's, the guard holds, and what the receive updates is in its sort
abbrev pub receive_hypotheses : Instances → Sequent → ReceiveStep → List Hypothesis
receive_hypotheses inst known step =
    let tag = tag_of inst known.own step.label step.tag in
    called mine_word (is_mine step)
    ∷ called guard_word (in_step step.label step.receiver from_word (Msg step.msg From) (arg_names tag.args) (args_of_message step.msg) (receive_of tag).guard)
    ∷ called fits_word (all_fit inst known (receive_step inst known.own step) (spoken_of inst known.own step.label) (receive_of tag).updates) ∷ []
