-- Obligations of small files, written out.
use Rattle.std.specs.Prelude.{ℕ, pos, negsuc, Option, Some, None, List, [], ◌∷◌}
use Rattle.dl_term.specs.declared.syntax.Lab.{Lab}
use Rattle.dl_term.specs.declared.syntax.Lab.TheVariants.{At}
use Rattle.dl_term.specs.declared.syntax.Part.TheVariants as part
use Rattle.dl_term.specs.declared.syntax.Term.{Term, Num, Var, Field, Len, Msg, Add, If}
use Rattle.dl_term.specs.declared.syntax.Formula.{Formula, True, Eq, Lt, Le, And, Or, Implies, All, Each}
use Rattle.dl_model.specs.declared.protocol.Transition.{Transition}
use Rattle.dl_model.specs.declared.sequent.Hypothesis.{Hypothesis}
use Rattle.dl_model.specs.declared.sequent.Sequent.{Sequent}
use Rattle.dl_model.specs.declared.file.Decls.{Decls}
use Rattle.dl_model.specs.Words.{me_word, to_word}
use Rattle.dl_model.specs.Examples.{bool, int, seen, voting}
use Rattle.dl_sequent.specs.Examples.{mine, seen_before_receive}

-- a hypothesis by its name
abbrev pub fact : ℕ → Formula → Hypothesis
fact name formula = record { name = name; formula = formula }

-- ---- the counter: the variables 40 and 41 are its two nodes

-- each count is at least 0, at first and always
abbrev pub counted_first : Formula
counted_first = All 26 (Le (Num (pos 0)) (Num (pos 0)))

abbrev pub counted : Lab → Formula
counted label = All 26 (Le (Num (pos 0)) (Field label 0 (Var 26)))

abbrev pub one_more : Lab → Term
one_more label = Add (Field label 0 (Var 40)) (Num (pos 1))

-- the same, where the node 40 has one more
abbrev pub counted_then : Lab → Formula
counted_then label = All 26 (Le (Num (pos 0)) (If (Var 26) (Var 40) (one_more label) (Field label 0 (Var 26))))

-- one more is a number of 64 bits
abbrev pub fits : Lab → Formula
fits label = And (Le (Num (negsuc 0x7fff_ffff_ffff_ffff)) (one_more label)) (Le (one_more label) (Num (pos 0x7fff_ffff_ffff_ffff)))

-- about nothing, and about two nodes
abbrev pub at_first : Option ℕ → Formula → Sequent
at_first own goal = record { vars = []; messages = []; facts = []; goal = goal; own = own }

abbrev pub inc : Option ℕ → List Hypothesis → Formula → Sequent
inc own facts goal = record { vars = (40, bool) ∷ (41, bool) ∷ []; messages = []; facts = facts; goal = goal; own = own }

-- ---- the mail file: the node 40 sends the number 43 to the node 42, or it receives the message 41

abbrev pub seen_first : Formula
seen_first = True

abbrev pub seen_send : Sequent
seen_send = record {
  vars = (40, bool) ∷ (42, bool) ∷ (43, int) ∷ [];
  messages = [];
  facts = fact 26 seen ∷ fact 10 True ∷ fact 11 True ∷ fact 12 True ∷ [];
  goal = And seen (Implies (Eq (Num (pos 1)) (Num (pos 0))) (Eq (Field (At 0) 0 (Var 42)) (Num (pos 1))));
  own = None;
}

abbrev pub seen_receive : Sequent
seen_receive = record {
  vars = (40, bool) ∷ [];
  messages = (41, 0, 0) ∷ [];
  facts = fact 26 seen ∷ fact 13 mine ∷ fact 10 True ∷ fact 11 True ∷ [];
  goal = seen_before_receive;
  own = None;
}

-- ---- the vote and the query: who asked has cast

abbrev pub asked : Formula
asked = Each 31 (At 1) 0 (Eq (Field (At 0) 0 (Msg 31 part.From)) (Num (pos 1)))

abbrev pub voting_asked : Decls
voting_asked = record voting { invariants = record { sym = 32; world = 0; formula = asked } ∷ [] }

abbrev pub has_cast : ℕ → Formula
has_cast name = Eq (Field (At 0) 0 (Var name)) (Num (pos 1))

-- a query by the node 40, which meets the hook
abbrev pub asked_query : Sequent
asked_query = record {
  vars = (40, bool) ∷ (41, bool) ∷ [];
  messages = [];
  facts = fact 32 asked ∷ fact 10 True ∷ fact 11 True ∷ fact 12 (has_cast 40) ∷ [];
  goal = And asked (has_cast 40);
  own = None;
}

-- ---- a guard with a quantifier: each node is `me`, or the argument 30 is less than `to`

abbrev pub guard : Formula
guard = All 31 (Or (Eq (Var 31) (Var me_word)) (Lt (Var 30) (Var to_word)))

abbrev pub guard_in_step : Formula
guard_in_step = All 31 (Or (Eq (Var 31) (Var 40)) (Lt (Var 42) (Var 41)))

-- ---- at most one message: a label whose messages are sent and received and change no field

abbrev pub idle : Transition
idle = record { guard = True; updates = [] }

abbrev pub short : Decls
short = record {
  inst = record {
    nodes = 1;
    protocols = record { sym = 20; fields = []; tags = record { sym = 21; args = []; send = idle; receive = Some idle } ∷ []; coherence = None } ∷ [];
    of = 0 ∷ [];
  };
  labels = 22 ∷ [];
  hooks = [];
  worlds = record { sym = 23; labels = 0 ∷ []; hooks = [] } ∷ [];
  invariants = record { sym = 24; world = 0; formula = Le (Len (At 0)) (Num (pos 1)) } ∷ [];
  procs = [];
  deploy = None;
}
