-- Sequents with scripts that prove them, and with scripts whose first rule fails, for each rule.
use Rattle.std.specs.Prelude.{◌≡◌, ℕ, ℤ, pos, false, Some, None, List, [], ◌∷◌}
use Rattle.dl_term.specs.declared.syntax.Lab.TheVariants.{At}
use Rattle.dl_term.specs.declared.syntax.Part.TheVariants as part
use Rattle.dl_term.specs.declared.syntax.Sort.{Sort}
use Rattle.dl_term.specs.declared.syntax.Term.{Term, Num, Var, Field, Len, Msg, Add, If}
use Rattle.dl_term.specs.declared.syntax.Formula.{Formula, True, False, Eq, Lt, Le, Not, And, Or, Implies, All, Exists, Each}
use Rattle.dl_tree.specs.declared.tree.Place.{Place}
use Rattle.dl_model.specs.declared.protocol.Protocol.{Protocol}
use Rattle.dl_model.specs.declared.protocol.Instances.{Instances}
use Rattle.dl_model.specs.declared.sequent.Hypothesis.{Hypothesis}
use Rattle.dl_model.specs.declared.sequent.Sequent.{Sequent}
use Rattle.dl_linear.specs.declared.certificate.Certificate.{Use, Sum, Div}
use Rattle.dl_sequent.specs.declared.script.Given.TheVariants.{Node, Message}
use Rattle.dl_sequent.specs.declared.script.Script.{Script}
use Rattle.dl_sequent.specs.declared.script.Rule.{Rule, By, Close, Split, Pick, Intro, Open, Give, Parts, Cases, Apply, Inst, Unpack, Have, Decide, Rewrite, Reduce, Range, Linear}
use Rattle.dl_kernel.specs.declared.fault.KernelFault.TheVariants.{RuleFails}
use Rattle.dl_kernel.specs.Lines.{goal_word}
use Rattle.dl_kernel.specs.Outcome.{fault}

-- two nodes, and a label whose protocol has a field of two values and a tag without arguments
abbrev pub bit : Sort
bit = record { low = pos 0; high = pos 1 }

abbrev pub protocol : Protocol
protocol = record {
  sym = 30;
  fields = record { sym = 31; row = false; sort = bit; first = Num (pos 0) } ∷ [];
  tags = record { sym = 32; args = []; send = record { guard = True; updates = [] }; receive = None } ∷ [];
  coherence = None;
}

abbrev pub inst : Instances
inst = record { nodes = 2; protocols = protocol ∷ []; of = 0 ∷ [] }

-- a node variable, two messages, and these hypotheses and goal
abbrev pub s : Term
s = Var 18

abbrev pub asks : List Hypothesis → Formula → Sequent
asks facts goal = record { vars = (18, bit) ∷ []; messages = (19, 0, 0) ∷ (20, 0, 0) ∷ []; facts = facts; goal = goal; own = None }

abbrev pub fact : ℕ → Formula → Hypothesis
fact name formula = record { name = name; formula = formula }

-- the first rule stands at line 1, the rules of its sub-scripts at line 2
abbrev pub here : Place
here = record { line = 1; col = 1 }

abbrev pub then : Rule → Script
then rule = record { rule = rule; place = record { line = 2; col = 1 } }

abbrev pub Proves : Rule → Sequent → Type 0
Proves rule sequent = fault inst rule here sequent ≡ None

abbrev pub Fails : Rule → Sequent → Type 0
Fails rule sequent = fault inst rule here sequent ≡ Some (RuleFails here)

-- ---- formulas

abbrev pub p : Formula
p = Eq s (Num (pos 0))

abbrev pub q : Formula
q = Eq s (Num (pos 1))

abbrev pub same : Term → Formula
same t = Eq t t

-- both certificates of an equation of a term with itself
abbrev pub trivially : Rule
trivially = Linear (Use goal_word) (Some (Use goal_word))

abbrev pub by_goal : Rule
by_goal = Linear (Use goal_word) None

abbrev pub at : Term → Term
at node = Field (At 0) 0 node

abbrev pub choice : Term
choice = If s (Num (pos 0)) (Num (pos 5)) (Num (pos 6))

-- twice the field is at most 1, so the field is at most 0
abbrev pub doubled : Formula
doubled = Le (Add (at s) (at s)) (Num (pos 1))

abbrev pub halved : ℤ → Rule
halved by = Linear (Sum (record { factor = pos 1; certificate = Use goal_word } ∷ record { factor = pos 1; certificate = Div by (Use 40) } ∷ [])) None

-- ---- the rules

pub record RulesCompute : Type 0 where
  pub by : Proves (By 40) (asks (fact 40 p ∷ []) p)
  pub by_another : Fails (By 40) (asks (fact 40 q ∷ []) p)
  pub by_nothing : Fails (By 41) (asks (fact 40 p ∷ []) p)
  pub close : Proves Close (asks [] True)
  pub close_false : Proves Close (asks (fact 40 False ∷ []) p)
  pub close_open : Fails Close (asks (fact 40 p ∷ []) False)
  pub split : Proves (Split (then (By 40)) (then (By 41))) (asks (fact 40 p ∷ fact 41 q ∷ []) (And p q))
  pub split_or : Fails (Split (then (By 40)) (then (By 41))) (asks (fact 40 p ∷ fact 41 q ∷ []) (Or p q))
  pub pick : Proves (Pick 2 (then (By 40))) (asks (fact 40 q ∷ []) (Or p q))
  pub pick_third : Fails (Pick 3 (then (By 40))) (asks (fact 40 q ∷ []) (Or p q))
  pub intro : Proves (Intro 41 (then (By 41))) (asks [] (Implies p p))
  pub intro_not : Proves (Intro 41 (then Close)) (asks [] (Not False))
  pub intro_taken : Fails (Intro 40 (then (By 40))) (asks (fact 40 q ∷ []) (Implies p p))
  pub opens : Proves (Open 21 (then trivially)) (asks [] (All 22 (same (Var 22))))
  pub open_each : Proves (Open 21 (then trivially)) (asks [] (Each 22 (At 0) 0 (same (Msg 22 part.From))))
  pub open_old : Fails (Open 18 (then trivially)) (asks [] (All 22 (same (Var 22))))
  pub open_bound : Fails (Open 22 (then trivially)) (asks [] (All 22 (same (Var 22))))
  pub give : Proves (Give (Node (Num (pos 1))) (then trivially)) (asks [] (Exists 22 (same (Var 22))))
  pub give_variable : Proves (Give (Message 18) (then trivially)) (asks [] (Exists 22 (same (Var 22))))
  pub give_outside : Fails (Give (Node (Num (pos 2))) (then trivially)) (asks [] (Exists 22 (same (Var 22))))
  pub parts : Proves (Parts 40 41 42 (then (By 42))) (asks (fact 40 (And p q) ∷ []) q)
  pub parts_one_name : Fails (Parts 40 41 41 (then (By 41))) (asks (fact 40 (And p q) ∷ []) q)
  pub cases : Proves (Cases 40 41 (then (By 41)) (then (By 42))) (asks (fact 40 (Or p q) ∷ fact 42 p ∷ []) p)
  pub cases_and : Fails (Cases 40 41 (then (By 41)) (then (By 42))) (asks (fact 40 (And p q) ∷ fact 42 p ∷ []) p)
  pub apply : Proves (Apply 40 41 (then (By 42)) (then (By 41))) (asks (fact 40 (Implies p q) ∷ fact 42 p ∷ []) q)
  pub apply_not : Proves (Apply 40 41 (then (By 42)) (then Close)) (asks (fact 40 (Not p) ∷ fact 42 p ∷ []) q)
  pub apply_or : Fails (Apply 40 41 (then (By 42)) (then (By 41))) (asks (fact 40 (Or p q) ∷ fact 42 p ∷ []) q)
  pub instance : Proves (Inst 40 (Node s) 41 (then (By 41))) (asks (fact 40 (All 22 (Eq (Var 22) (Num (pos 0)))) ∷ []) p)
  pub instance_message : Proves (Inst 40 (Message 19) 41 (then (By 41))) (asks (fact 40 (Each 22 (At 0) 0 (Eq (Msg 22 part.Live) (Num (pos 1)))) ∷ []) (Eq (Msg 19 part.Live) (Num (pos 1))))
  pub instance_outside : Fails (Inst 40 (Node (Num (pos 7))) 41 (then (By 41))) (asks (fact 40 (All 22 (Eq (Var 22) (Num (pos 0)))) ∷ []) p)
  pub instance_unknown : Fails (Inst 40 (Node (at (Var 25))) 41 (then Close)) (asks (fact 40 (All 22 p) ∷ []) True)
  pub unpack : Proves (Unpack 40 21 41 (then trivially)) (asks (fact 40 (Exists 22 (Eq (Var 22) s)) ∷ []) (same s))
  pub unpack_old : Fails (Unpack 40 19 41 (then trivially)) (asks (fact 40 (Exists 22 (Eq (Var 22) s)) ∷ []) (same s))
  pub have : Proves (Have (same s) 41 (then trivially) (then (By 41))) (asks [] (same s))
  pub have_unknown : Fails (Have (same (Var 25)) 41 (then trivially) (then Close)) (asks [] True)
  pub decide : Proves (Decide p 41 (then (By 40)) (then (By 40))) (asks (fact 40 q ∷ []) q)
  pub decide_bound : Fails (Decide (All 18 p) 41 (then (By 40)) (then (By 40))) (asks (fact 40 q ∷ []) q)
  pub rewrite : Proves (Rewrite 40 41 (then (By 41))) (asks (fact 40 p ∷ fact 41 (Le s (at s)) ∷ []) (Le (Num (pos 0)) (at (Num (pos 0)))))
  pub rewrite_message : Proves (Rewrite 40 goal_word (then (By 41))) (asks (fact 40 (Eq (Msg 19 part.Id) (Msg 20 part.Id)) ∷ fact 41 (Eq (Msg 20 part.From) s) ∷ []) (Eq (Msg 19 part.From) s))
  pub rewrite_itself : Fails (Rewrite 40 40 (then (By 40))) (asks (fact 40 p ∷ []) p)
  pub reduce : Proves (Reduce 40 goal_word (then trivially)) (asks (fact 40 p ∷ []) (Eq choice (Num (pos 5))))
  pub reduce_not : Proves (Reduce 40 goal_word (then trivially)) (asks (fact 40 (Not p) ∷ []) (Eq choice (Num (pos 6))))
  pub reduce_itself : Fails (Reduce 40 40 (then (By 40))) (asks (fact 40 p ∷ []) p)
  pub range : Proves (Range (at s) 41 (then (By 41))) (asks [] (And (Le (Num (pos 0)) (at s)) (Le (at s) (Num (pos 1)))))
  pub range_id : Proves (Range (Msg 19 part.Id) 41 (then (By 41))) (asks [] (And (Le (Num (pos 0)) (Msg 19 part.Id)) (Lt (Msg 19 part.Id) (Len (At 0)))))
  pub range_none : Fails (Range (Add s s) 41 (then (By 41))) (asks [] True)
  pub linear : Proves (halved (pos 2)) (asks (fact 40 doubled ∷ []) (Le (at s) (Num (pos 0))))
  pub linear_undivided : Fails (halved (pos 4)) (asks (fact 40 doubled ∷ []) (Le (at s) (Num (pos 0))))
  pub linear_own_goal : Fails by_goal (asks [] p)
