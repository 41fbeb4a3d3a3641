-- A file whose one program has each command, with its obligations written out.
use Rattle.std.specs.Prelude.{pos, true, false, Some, None, List, [], ◌∷◌}
use Rattle.dl_term.specs.declared.syntax.Lab.TheVariants.{At}
use Rattle.dl_term.specs.declared.syntax.Part.TheVariants as part
use Rattle.dl_term.specs.declared.syntax.Term.{Term, Num, Word, Var, Field, Row, Len, Msg, Add, If}
use Rattle.dl_term.specs.declared.syntax.Formula.{Formula, True, Eq, Le, Not, And, Implies}
use Rattle.dl_model.specs.declared.protocol.Protocol.{Protocol}
use Rattle.dl_model.specs.declared.program.Command.{Send, Poll, Read, Set, If', While', Call, more_of-Command, end_of-Command}
use Rattle.dl_model.specs.declared.program.Proc.{Proc}
use Rattle.dl_model.specs.declared.sequent.Hypothesis.{Hypothesis}
use Rattle.dl_model.specs.declared.sequent.Sequent.{Sequent}
use Rattle.dl_model.specs.declared.file.Decls.{Decls}
use Rattle.dl_model.specs.Lookup.{Parameter}
use Rattle.dl_model.specs.Words.{me_word, from_word, result_word}
use Rattle.dl_model.specs.Examples.{bool, int}
use Rattle.dl_inv.specs.Examples.{fact}

-- ---- the file: the second node is `there`

abbrev pub here : Term
here = Word 18 (pos 0)

abbrev pub there : Term
there = Word 19 (pos 1)

abbrev pub is_one : Term → Formula
is_one t = Eq t (Num (pos 1))

-- A send of the tag marks its sender, and has 1 as its argument. A receive marks the sender of the message in a row of the receiver.
abbrev pub board : Protocol
board = record {
  sym = 20;
  fields = record { sym = 21; row = false; sort = bool; first = Num (pos 0) } ∷ record { sym = 22; row = true; sort = bool; first = Num (pos 0) } ∷ [];
  tags = record {
    sym = 23;
    args = (24, bool) ∷ [];
    send = record { guard = is_one (Var 24); updates = record { field = 0; index = None; value = Num (pos 1) } ∷ [] };
    receive = Some (record { guard = True; updates = record { field = 1; index = Some (Var from_word); value = Num (pos 1) } ∷ [] });
  } ∷ [];
  coherence = None;
}

-- returns its parameter, in a world without labels
abbrev pub echo : Proc
echo = record { sym = 28; world = 1; params = (29, bool) ∷ []; locals = []; pre = is_one (Var 29); post = Eq (Var result_word) (Var 29); body = []; result = Var 29 }

-- at most as many messages
abbrev pub bounded : Formula
bounded = Le (Var 31) (Len (At 0))

abbrev pub marked : Formula
marked = is_one (Field (At 0) 0 there)

abbrev pub marked_me : Formula
marked_me = is_one (Field (At 0) 0 (Var me_word))

abbrev pub row_there : Term
row_there = Row (At 0) 1 there here

-- y := x; send y; while y = 1 { poll }; if y = 0 { z := 1 } else { read z }; y := echo(z); return y
abbrev pub whole : Proc
whole = record {
  sym = 30;
  world = 0;
  params = (29, bool) ∷ [];
  locals = 31 ∷ 32 ∷ 33 ∷ [];
  pre = is_one (Var 29);
  post = Eq row_there (Var result_word);
  body = Set 31 (Var 29) ∷
      Send (is_one (Var 31)) 0 0 there (Var 31 ∷ []) ∷
      While' (is_one (Var 31)) bounded (tt ∷ []) (more_of-Command (Poll bounded 31 0 0 33 (32 ∷ [])) end_of-Command) ∷
      If' (Eq (Var 31) (Num (pos 0))) (tt ∷ []) (more_of-Command (Set 32 (Num (pos 1))) end_of-Command) (tt ∷ [])
      (more_of-Command (Read marked_me 32 0 1 (Some (Var 33))) end_of-Command) ∷
      Call (is_one (Var 32)) marked 31 0 (Var 32 ∷ []) ∷ [];
  result = Var 31;
}

abbrev pub noted : Decls
noted = record {
  inst = record { nodes = 2; protocols = board ∷ []; of = 0 ∷ [] };
  labels = 25 ∷ [];
  hooks = [];
  worlds = record { sym = 26; labels = 0 ∷ []; hooks = [] } ∷ record { sym = 27; labels = []; hooks = [] } ∷ [];
  invariants = [];
  procs = echo ∷ whole ∷ [];
  deploy = Some (record { world = 0; programs = record { node = 0; proc = 1; constants = pos 1 ∷ [] } ∷ [] });
}

-- ---- its obligations: the names 40 to 42 are taken

-- the node, the parameter and the locals
abbrev pub names_of_whole : List Parameter
names_of_whole = (me_word, bool) ∷ (29, bool) ∷ (31, int) ∷ (32, int) ∷ (33, int) ∷ []

abbrev pub where_it_is : List Hypothesis → Formula → Sequent
where_it_is facts goal = record { vars = names_of_whole; messages = []; facts = facts; goal = goal; own = None }

-- the argument is 0 or 1, and the guard holds
abbrev pub may_send : Formula
may_send = And (And (Le (Num (pos 0)) (Var 31)) (Le (Var 31) (Num (pos 1)))) (is_one (Var 31))

-- at most as many as there are with one message more
abbrev pub bounded_then : Formula
bounded_then = Le (Var 31) (Add (Len (At 0)) (Num (pos 1)))

-- what the choice after the loop asks for
abbrev pub choice : Formula
choice =
    And (Implies (Eq (Var 31) (Num (pos 0))) (is_one (Num (pos 1)))) (Implies (Not (Eq (Var 31) (Num (pos 0)))) marked_me)

abbrev pub mine : Term → Formula
mine node = And (Eq (Msg 41 part.To) node) (Eq (Msg 41 part.Live) (Num (pos 1)))

-- the node itself gets the message 41
abbrev pub taken : Sequent
taken = record {
  vars = names_of_whole;
  messages = (41, 0, 0) ∷ [];
  facts = fact 9 bounded ∷ fact 13 (mine (Var me_word)) ∷ fact 10 True ∷ fact 11 True ∷ [];
  goal = Le (Num (pos 1)) (Len (At 0));
  own = None;
}

abbrev pub enters : Formula
enters = And (And (Le (Num (pos 0)) (Var 32)) (Le (Var 32) (Num (pos 1)))) (And (is_one (Var 32)) marked)

-- the call returned the number 40
abbrev pub returned : Sequent
returned = record {
  vars = (me_word, bool) ∷ (29, bool) ∷ (31, int) ∷ (32, int) ∷ (33, int) ∷ (40, int) ∷ [];
  messages = [];
  facts = fact 16 (Eq (Var 40) (Var 32)) ∷ fact 17 marked ∷ [];
  goal = Eq row_there (Var 40);
  own = None;
}

-- another node 40 sends the number 42 to the node 41
abbrev pub other_sends : Formula → Formula → Sequent
other_sends f goal = record {
  vars = (me_word, bool) ∷ (29, bool) ∷ (31, int) ∷ (32, int) ∷ (33, int) ∷ (40, bool) ∷ (41, bool) ∷ (42, bool) ∷ [];
  messages = [];
  facts = fact 9 f ∷ fact 14 (Not (Eq (Var 40) (Var me_word))) ∷ fact 10 (is_one (Var 42)) ∷ fact 11 True ∷ fact 12 True ∷ [];
  goal = goal;
  own = None;
}

-- the second node is marked, where the node 40 marks itself
abbrev pub marked_then : Formula
marked_then = is_one (If there (Var 40) (Num (pos 1)) (Field (At 0) 0 there))

-- another node 40 receives the message 41, and the row has what was returned
abbrev pub other_receives : Sequent
other_receives = record {
  vars = (me_word, bool) ∷ (29, bool) ∷ (31, int) ∷ (32, int) ∷ (33, int) ∷ (result_word, int) ∷ (40, bool) ∷ [];
  messages = (41, 0, 0) ∷ [];
  facts = fact 9 (Eq row_there (Var result_word)) ∷ fact 14 (Not (Eq (Var 40) (Var me_word))) ∷ fact 13 (mine (Var 40)) ∷ fact 10 True ∷ fact 11 True ∷ [];
  goal = Eq (If there (Var 40) (If here (Msg 41 part.From) (Num (pos 1)) row_there) row_there) (Var result_word);
  own = None;
}
