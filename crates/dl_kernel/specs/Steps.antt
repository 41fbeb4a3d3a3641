-- The rules: for each its condition, and the sequents that are left to prove.
use Rattle.std.specs.Prelude.{ℕ, pos, Bool, true, false, ◌&&◌, ◌||◌, ◌==◌, if◌then◌else◌, List, [], ◌∷◌, ◌++◌, Option, Some, None, is_some}
use Rattle.std.specs.Option.{option_map, option_and_then}
use Rattle.std.specs.List.{list_all, list_any, find}
use Rattle.dl_term.specs.declared.syntax.Lab.{Lab}
use Rattle.dl_term.specs.declared.syntax.Lab.TheVariants.{Own, At}
use Rattle.dl_term.specs.declared.syntax.Part.TheVariants.{Id, From, To, Live, Arg}
use Rattle.dl_term.specs.declared.syntax.Sort.{Sort}
use Rattle.dl_term.specs.declared.syntax.Term.{Term, Num, Var, Len, Msg}
use Rattle.dl_term.specs.declared.syntax.Formula.{Formula, And, Lt, Le, Not}
use Rattle.dl_term.specs.Same.{same_formula}
use Rattle.dl_subst.specs.declared.message.NewMessage.{NewMessage}
use Rattle.dl_subst.specs.Change.{captures}
use Rattle.dl_subst.specs.Substitution.{for_variable, for_message, for_term, substituted, message_substituted, replaced}
use Rattle.dl_model.specs.declared.protocol.Instances.{Instances}
use Rattle.dl_model.specs.declared.sequent.Hypothesis.{Hypothesis}
use Rattle.dl_model.specs.declared.sequent.Sequent.{Sequent}
use Rattle.dl_sequent.specs.declared.script.Given.{Given}
use Rattle.dl_sequent.specs.declared.script.Given.TheVariants.{Node, Message}
use Rattle.dl_sequent.specs.declared.script.Rule.{Rule}
use Rattle.dl_sequent.specs.declared.script.Rule.TheBlock as r
use Rattle.dl_sequent.specs.Clean.{knows, var_names, message_names, is_clean, is_new}
use Rattle.dl_sequent.specs.Bounds.{Declared, sort_of, message_of, written_label, node_sort, bounds_of, is_node_term, between}
use Rattle.dl_kernel.specs.declared.parts.Two.{Two}
use Rattle.dl_kernel.specs.declared.parts.Equation.{Equation}
use Rattle.dl_kernel.specs.declared.parts.Quantified.{Quantified}
use Rattle.dl_kernel.specs.declared.parts.Quantified.TheVariants.{Nodes, Messages}
use Rattle.dl_kernel.specs.Parts.{is_true, is_false, as_equation, as_denied, as_and, as_or, as_implication, as_universal, as_existential}
use Rattle.dl_kernel.specs.Reduced.{reduced}
use Rattle.dl_kernel.specs.Lines.{goal_word, linear_closes}

-- ---- sequents

abbrev pub with_fact : Sequent → ℕ → Formula → Sequent
with_fact s name formula = record s { facts = s.facts ++ record { name = name; formula = formula } ∷ [] }

abbrev pub with_goal : Sequent → Formula → Sequent
with_goal s goal = record s { goal = goal }

abbrev pub with_variable : Sequent → ℕ → Sort → Sequent
with_variable s name sort = record s { vars = s.vars ++ (name, sort) ∷ [] }

abbrev pub with_message : Sequent → ℕ → ℕ → ℕ → Sequent
with_message s name label tag = record s { messages = s.messages ++ (name, label, tag) ∷ [] }

abbrev pub fact_in : List Hypothesis → ℕ → Option Formula
fact_in facts name = option_map (λ (h : Hypothesis). h.formula) (find (λ (h : Hypothesis). h.name == name) facts)

abbrev pub fact_of : Sequent → ℕ → Option Formula
fact_of s name = fact_in s.facts name

-- the part of a hypothesis that a rule takes
abbrev pub part_of : {X : Type 0} → (Formula → Option X) → Sequent → ℕ → Option X
part_of part s name = option_and_then part (fact_of s name)

abbrev pub one_left : Option Sequent → Option (List Sequent)
one_left None = None
one_left (Some s) = Some (s ∷ [])

-- nothing is left where the test passes
abbrev pub closes : Bool → Option (List Sequent)
closes test = if test then Some [] else None

-- ---- connectives

abbrev pub is_the_goal : Option Formula → Formula → Bool
is_the_goal None goal = false
is_the_goal (Some f) goal = same_formula f goal

abbrev pub split_goal : Sequent → Option Two → Option (List Sequent)
split_goal s None = None
split_goal s (Some two) = Some (with_goal s two.left ∷ with_goal s two.right ∷ [])

abbrev pub pick_goal : Sequent → ℕ → Option Two → Option (List Sequent)
pick_goal s part None = None
pick_goal s part (Some two) =
    if part == 1 then Some (with_goal s two.left ∷ []) else if part == 2 then Some (with_goal s two.right ∷ []) else None

abbrev pub intro_goal : Sequent → ℕ → Option Two → Option (List Sequent)
intro_goal s name None = None
intro_goal s name (Some two) = Some (with_fact (with_goal s two.right) name two.left ∷ [])

abbrev pub parts_of_fact : Sequent → ℕ → ℕ → Option Two → Option (List Sequent)
parts_of_fact s left right None = None
parts_of_fact s left right (Some two) = Some (with_fact (with_fact s left two.left) right two.right ∷ [])

abbrev pub cases_of_fact : Sequent → ℕ → Option Two → Option (List Sequent)
cases_of_fact s name None = None
cases_of_fact s name (Some two) = Some (with_fact s name two.left ∷ with_fact s name two.right ∷ [])

abbrev pub apply_fact : Sequent → ℕ → Option Two → Option (List Sequent)
apply_fact s name None = None
apply_fact s name (Some two) = Some (with_goal s two.left ∷ with_fact s name two.right ∷ [])

-- ---- new names for what a quantifier binds

-- the parts of a message, as terms
abbrev pub parts_of : ℕ → NewMessage
parts_of m = record {
  id = Msg m Id;
  from = Msg m From;
  to = Msg m To;
  live = Msg m Live;
  args = Msg m (Arg 0) ∷ Msg m (Arg 1) ∷ Msg m (Arg 2) ∷ Msg m (Arg 3) ∷ Msg m (Arg 4) ∷ Msg m (Arg 5) ∷ Msg m (Arg 6) ∷ Msg m (Arg 7) ∷ [];
}

-- the formula with the term for the variable, unless a name is captured, which never happens in a clean sequent
abbrev pub put_node : ℕ → Formula → Term → Option Formula
put_node x f t = if captures (for_variable x t) f then None else Some (substituted f x t)

-- the formula with each part of the message m as that of k
abbrev pub put_message : ℕ → Formula → ℕ → Option Formula
put_message m f k = if captures (for_message m (parts_of k)) f then None else Some (message_substituted f m (parts_of k))

-- the number that a sequent writes for a label
abbrev pub label_number : Lab → Option ℕ
label_number Own = Some 255
label_number (At label) = if label == 255 then None else Some label

abbrev pub with_new : Instances → Sequent → ℕ → Quantified → Option Sequent
with_new inst s x (Nodes sym body) = Some (with_variable s x (node_sort inst.nodes))
with_new inst s x (Messages msg label tag body) = option_map (λ number. with_message s x number tag) (label_number label)

-- what a quantified formula says of the new name
abbrev pub at_new : ℕ → Quantified → Option Formula
at_new x (Nodes sym body) = put_node sym body (Var x)
at_new x (Messages msg label tag body) = put_message msg body x

abbrev pub put_in : (Sequent → Formula → Sequent) → Option Sequent → Option Formula → Option (List Sequent)
put_in put (Some s) (Some f) = Some (put s f ∷ [])
put_in put (Some s) None = None
put_in put None f = None

-- the new name stands for what is bound, in a sequent that has what is said of it
abbrev pub enter : (Sequent → Formula → Sequent) → Instances → Sequent → ℕ → Option Quantified → Option (List Sequent)
enter put inst s x None = None
enter put inst s x (Some q) = if is_new s x then put_in put (with_new inst s x q) (at_new x q) else None

-- ---- what is given for what a quantifier binds

-- the node term that is given
abbrev pub given_node : Sequent → Given → Option Term
given_node s (Node t) = Some t
given_node s (Message name) = if is_some (sort_of s.vars name) then Some (Var name) else None

abbrev pub given_message : Given → Option ℕ
given_message (Node t) = None
given_message (Message name) = Some name

-- a node term whose names are those of the sequent
abbrev pub is_allowed : Instances → Sequent → Term → Bool
is_allowed inst s t = is_node_term inst s t && knows (var_names s) (message_names s) t

abbrev pub at_node : Instances → Sequent → Option Term → ℕ → Formula → Option Formula
at_node inst s None x body = None
at_node inst s (Some t) x body = if is_allowed inst s t then put_node x body t else None

-- a message of the label and tag
abbrev pub is_message_of : Option Declared → Option ℕ → ℕ → Bool
is_message_of (Some m) (Some label) tag = (m.1 == label) && (m.2 == tag)
is_message_of (Some m) None tag = false
is_message_of None label tag = false

abbrev pub at_message : Sequent → Option ℕ → ℕ → Lab → ℕ → Formula → Option Formula
at_message s None msg label tag body = None
at_message s (Some k) msg label tag body =
    if is_message_of (message_of s.messages k) (label_number label) tag then put_message msg body k else None

-- what a quantified formula says of what is given
abbrev pub instance : Instances → Sequent → Given → Quantified → Option Formula
instance inst s what (Nodes sym body) = at_node inst s (given_node s what) sym body
instance inst s what (Messages msg label tag body) = at_message s (given_message what) msg label tag body

-- ---- changes of the goal or of a hypothesis

-- the formula that is changed: the goal, or a hypothesis other than the one that is used
abbrev pub target : Sequent → ℕ → ℕ → Option Formula
target s hyp at = if at == goal_word then Some s.goal else if at == hyp then None else fact_of s at

abbrev pub put_fact : List Hypothesis → ℕ → Formula → List Hypothesis
put_fact [] name f = []
put_fact (h ∷ hs) name f = if h.name == name then record { name = h.name; formula = f } ∷ hs else h ∷ put_fact hs name f

abbrev pub put_target : Sequent → ℕ → Formula → Sequent
put_target s at f = if at == goal_word then with_goal s f else record s { facts = put_fact s.facts at f }

abbrev pub id_of : Term → Option ℕ
id_of (Msg m Id) = Some m
id_of _ = None

-- two messages of the sequent that have one label and one tag
abbrev pub are_alike : Option Declared → Option Declared → Bool
are_alike (Some m) (Some k) = (m.1 == k.1) && (m.2 == k.2)
are_alike (Some m) None = false
are_alike None k = false

-- an equation of the ids of two such messages says that they are one message
abbrev pub are_one : Sequent → Option ℕ → Option ℕ → Bool
are_one s (Some m) (Some k) = are_alike (message_of s.messages m) (message_of s.messages k)
are_one s (Some m) None = false
are_one s None k = false

-- the formula with the right side of the equation for the left one
abbrev pub put_term : Equation → Formula → Option Formula
put_term e f = if captures (for_term e.left e.right) f then None else Some (replaced f e.left e.right)

abbrev pub put_id : Option ℕ → Option ℕ → Formula → Option Formula
put_id (Some m) (Some k) f = put_message m f k
put_id (Some m) None f = None
put_id None k f = None

abbrev pub rewritten : Sequent → Equation → Formula → Option Formula
rewritten s e f = if are_one s (id_of e.left) (id_of e.right) then put_id (id_of e.left) (id_of e.right) f else put_term e f

abbrev pub rewrite_by : Sequent → Option Equation → Option Formula → Option Formula
rewrite_by s (Some e) (Some f) = rewritten s e f
rewrite_by s (Some e) None = None
rewrite_by s None f = None

abbrev pub reduce_by : Option Equation → Option Equation → Option Formula → Option Formula
reduce_by (Some e) denied (Some f) = Some (reduced f e.left e.right true)
reduce_by None (Some e) (Some f) = Some (reduced f e.left e.right false)
reduce_by None None (Some f) = None
reduce_by e denied None = None

-- ---- ranges

abbrev pub id_range : ℕ → Option Declared → Option Formula
id_range name None = None
id_range name (Some m) = Some (And (Le (Num (pos 0)) (Msg name Id)) (Lt (Msg name Id) (Len (written_label m.1))))

-- what is known of a term's value
abbrev pub range_of : Instances → Sequent → Term → Option Formula
range_of inst s (Len label) = Some (Le (Num (pos 0)) (Len label))
range_of inst s (Msg name Id) = id_range name (message_of s.messages name)
range_of inst s t = option_map (λ sort. between sort t) (bounds_of inst s t)

-- ---- all rules

-- what a rule leaves to prove, or None where its condition fails
abbrev pub left_by : Instances → Sequent → Rule → Option (List Sequent)
left_by inst s (r.By hyp) = closes (is_the_goal (fact_of s hyp) s.goal)
left_by inst s r.Close = closes (is_true s.goal || list_any (λ (h : Hypothesis). is_false h.formula) s.facts)
left_by inst s (r.Split' _ _ _ _) = split_goal s (as_and s.goal)
left_by inst s (r.Pick' part _ _) = pick_goal s part (as_or s.goal)
left_by inst s (r.Intro' name _ _) = intro_goal s name (as_implication s.goal)
left_by inst s (r.Open' x _ _) = enter with_goal inst s x (as_universal s.goal)
left_by inst s (r.Give' what _ _) = one_left (option_map (with_goal s) (option_and_then (instance inst s what) (as_existential s.goal)))
left_by inst s (r.Parts' hyp left right _ _) = parts_of_fact s left right (part_of as_and s hyp)
left_by inst s (r.Cases' hyp name _ _ _ _) = cases_of_fact s name (part_of as_or s hyp)
left_by inst s (r.Apply' hyp name _ _ _ _) = apply_fact s name (part_of as_implication s hyp)
left_by inst s (r.Inst' hyp what name _ _) =
    one_left (option_map (with_fact s name) (option_and_then (instance inst s what) (part_of as_universal s hyp)))
left_by inst s (r.Unpack' hyp x name _ _) = enter (λ t. with_fact t name) inst s x (part_of as_existential s hyp)
left_by inst s (r.Have' f name _ _ _ _) = Some (with_goal s f ∷ with_fact s name f ∷ [])
left_by inst s (r.Decide' f name _ _ _ _) = Some (with_fact s name f ∷ with_fact s name (Not f) ∷ [])
left_by inst s (r.Rewrite' hyp at _ _) =
    one_left (option_map (put_target s at) (rewrite_by s (part_of as_equation s hyp) (target s hyp at)))
left_by inst s (r.Reduce' hyp at _ _) =
    one_left (option_map (put_target s at) (reduce_by (part_of as_equation s hyp) (part_of as_denied s hyp) (target s hyp at)))
left_by inst s (r.Range' t name _ _) = one_left (option_map (with_fact s name) (range_of inst s t))
left_by inst s (r.Linear first second) = closes (linear_closes s.facts s.goal first second)

-- the same, and a rule fails too where it leaves a sequent that isn't clean
abbrev pub only_clean : Option (List Sequent) → Option (List Sequent)
only_clean None = None
only_clean (Some ss) = if list_all is_clean ss then Some ss else None

abbrev pub after : Instances → Sequent → Rule → Option (List Sequent)
after inst s rule = only_clean (left_by inst s rule)
