-- Three small files, written out as what the readers give for them.
use Rattle.std.specs.Prelude.{ℕ, ℤ, pos, negsuc, true, false, Some, None, List, [], ◌∷◌}
use Rattle.dl_term.specs.declared.syntax.Lab.TheVariants.{Own, At}
use Rattle.dl_term.specs.declared.syntax.Part.TheVariants as part
use Rattle.dl_term.specs.declared.syntax.Sort.{Sort}
use Rattle.dl_term.specs.declared.syntax.Term.{Num, Word, Var, Field, Msg, Add, Mul}
use Rattle.dl_term.specs.declared.syntax.Formula.{Formula, True, Eq, Lt, Le, Implies, All, Each}
use Rattle.dl_term.specs.State.{State, Message}
use Rattle.dl_model.specs.declared.protocol.Protocol.{Protocol}
use Rattle.dl_model.specs.declared.program.Command.{Send, Await, Set, If', While', Call, more_of-Command, end_of-Command}
use Rattle.dl_model.specs.declared.program.Proc.{Proc}
use Rattle.dl_model.specs.declared.protocol.Instances.{Instances}
use Rattle.dl_model.specs.declared.sequent.Hypothesis.{Hypothesis}
use Rattle.dl_model.specs.declared.sequent.Sequent.{Sequent}
use Rattle.dl_model.specs.declared.history.Call.TheVariants as call
use Rattle.dl_model.specs.declared.history.Reply.TheVariants as reply
use Rattle.dl_model.specs.declared.history.Entry.{Entry}
use Rattle.dl_model.specs.declared.file.Decls.{Decls}
use Rattle.dl_model.specs.Words.{me_word, to_word}
use Rattle.dl_term.specs.Names.{no_names}
use Rattle.dl_model.specs.Block.{Block}
use Rattle.dl_model.specs.Machine.{Machine, Working, entered, packed, after_reply}
use Rattle.dl_model.specs.Runs.{machine_of}

abbrev pub int : Sort
int = record { low = negsuc 0x7fff_ffff_ffff_ffff; high = pos 0x7fff_ffff_ffff_ffff }

abbrev pub bool : Sort
bool = record { low = pos 0; high = pos 1 }

-- ---- the counter: two nodes, and a tag `inc` whose send adds 1 to the sender's field `n`

abbrev pub count : Protocol
count = record {
  sym = 20;
  fields = record { sym = 21; row = false; sort = int; first = Num (pos 0) } ∷ [];
  tags = record {
    sym = 22;
    args = [];
    send = record { guard = True; updates = record { field = 0; index = None; value = Add (Field Own 0 (Var me_word)) (Num (pos 1)) } ∷ [] };
    receive = None;
  } ∷ [];
  coherence = Some (All 26 (Le (Num (pos 0)) (Field Own 0 (Var 26))));
}

abbrev pub counter : Decls
counter = record {
  inst = record { nodes = 2; protocols = count ∷ []; of = 0 ∷ [] };
  labels = 23 ∷ [];
  hooks = [];
  worlds = record { sym = 24; labels = 0 ∷ []; hooks = [] } ∷ [];
  invariants = record { sym = 25; world = 0; formula = All 26 (Le (Num (pos 0)) (Field (At 0) 0 (Var 26))) } ∷ [];
  procs = [];
  deploy = Some (record { world = 0; programs = [] });
}

-- the two nodes' counts, and the soup
abbrev pub counts : ℤ → ℤ → List Message → State
counts a b soup = record { nodes = 2; labels = record { fields = ((a ∷ []) ∷ (b ∷ []) ∷ []) ∷ []; soup = soup } ∷ [] }

-- the first node sends to the second one, and this one to the first
abbrev pub two_sends : List Entry
two_sends =
    record { node = 0; ticks = 0; call = call.Send 0 0 (pos 1) (packed []); reply = reply.Sent 0 } ∷
    record { node = 1; ticks = 0; call = call.Send 0 0 (pos 0) (packed []); reply = reply.Sent 1 } ∷ []

abbrev pub inc_message : ℕ → ℤ → Message
inc_message from to = record { tag = 0; from = from; to = to; live = true; args = [] }

-- ---- mail: a tag `req` with one argument, whose receive sets the receiver's field `got` to 1

abbrev pub mail_protocol : Protocol
mail_protocol = record {
  sym = 20;
  fields = record { sym = 21; row = false; sort = bool; first = Num (pos 0) } ∷ [];
  tags = record {
    sym = 22;
    args = (23, int) ∷ [];
    send = record { guard = True; updates = [] };
    receive = Some (record { guard = True; updates = record { field = 0; index = None; value = Num (pos 1) } ∷ [] });
  } ∷ [];
  coherence = None;
}

-- who received a message has its field set: (each m r req (implies (= (live m) 0) (= (get r got (to m)) 1)))
abbrev pub seen : Formula
seen = Each 27 (At 0) 0 (Implies (Eq (Msg 27 part.Live) (Num (pos 0))) (Eq (Field (At 0) 0 (Msg 27 part.To)) (Num (pos 1))))

-- sends its parameter to the second node
abbrev pub client : Proc
client = record {
  sym = 28;
  world = 0;
  params = (23, int) ∷ [];
  locals = [];
  pre = True;
  post = True;
  body = Send True 0 0 (Word 19 (pos 1)) (Var 23 ∷ []) ∷ [];
  result = Num (pos 0);
}

-- waits for a message, and returns its argument and a number more
abbrev pub server : ℤ → Proc
server more = record {
  sym = 29;
  world = 0;
  params = [];
  locals = 30 ∷ 31 ∷ [];
  pre = True;
  post = Eq (Field (At 0) 0 (Var me_word)) (Num (pos 1));
  body = Await True 0 0 30 (31 ∷ []) ∷ [];
  result = Add (Var 31) (Num more);
}

abbrev pub mail : ℤ → Decls
mail more = record {
  inst = record { nodes = 2; protocols = mail_protocol ∷ []; of = 0 ∷ [] };
  labels = 24 ∷ [];
  hooks = [];
  worlds = record { sym = 25; labels = 0 ∷ []; hooks = [] } ∷ [];
  invariants = record { sym = 26; world = 0; formula = seen } ∷ [];
  procs = client ∷ server more ∷ [];
  deploy = Some (record { world = 0; programs = record { node = 0; proc = 0; constants = pos 7 ∷ [] } ∷ record { node = 1; proc = 1; constants = [] } ∷ [] });
}

-- the second node's field, and whether its one message is live
abbrev pub delivered : ℤ → List Message → State
delivered got soup = record { nodes = 2; labels = record { fields = ((pos 0 ∷ []) ∷ (got ∷ []) ∷ []) ∷ []; soup = soup } ∷ [] }

abbrev pub letter : Message
letter = record { tag = 0; from = 0; to = pos 1; live = true; args = pos 7 ∷ [] }

abbrev pub read_letter : Message
read_letter = record { tag = 0; from = 0; to = pos 1; live = false; args = pos 7 ∷ [] }

-- the first node sends, and the second one receives
abbrev pub send_and_receive : List Entry
send_and_receive =
    record { node = 0; ticks = 0; call = call.Send 0 0 (pos 1) (packed (pos 7 ∷ [])); reply = reply.Sent 0 } ∷
    record { node = 1; ticks = 0; call = call.Await 0 0; reply = reply.Got 0 0 (packed (pos 7 ∷ [])) } ∷ []

-- the second node's machine at the beginning, and after it received
abbrev pub waiting_server : ℤ → Machine
waiting_server more = machine_of (mail more) 1 (record { node = 1; proc = 1; constants = [] })

abbrev pub served : ℤ → Machine
served more = after_reply (waiting_server more) (reply.Got 0 0 (packed (pos 7 ∷ [])))

-- ---- a vote and a query: who asks at the query must have cast at the vote

abbrev pub vote : Protocol
vote = record {
  sym = 20;
  fields = record { sym = 21; row = false; sort = bool; first = Num (pos 0) } ∷ [];
  tags = record {
    sym = 22;
    args = [];
    send = record { guard = True; updates = record { field = 0; index = None; value = Num (pos 1) } ∷ [] };
    receive = Some (record { guard = True; updates = [] });
  } ∷ [];
  coherence = None;
}

abbrev pub query : Protocol
query = record {
  sym = 23;
  fields = [];
  tags = record { sym = 24; args = []; send = record { guard = True; updates = [] }; receive = Some (record { guard = True; updates = [] }) } ∷ [];
  coherence = None;
}

abbrev pub has_cast : Formula
has_cast = Eq (Field (At 0) 0 (Var me_word)) (Num (pos 1))

abbrev pub caster : Proc
caster = record {
  sym = 30;
  world = 0;
  params = [];
  locals = [];
  pre = True;
  post = True;
  body = Send True 0 0 (Word 19 (pos 1)) [] ∷ Send has_cast 1 0 (Word 19 (pos 1)) [] ∷ [];
  result = Num (pos 0);
}

abbrev pub voting : Decls
voting = record {
  inst = record { nodes = 2; protocols = vote ∷ query ∷ []; of = 0 ∷ 1 ∷ [] };
  labels = 25 ∷ 26 ∷ [];
  hooks = record { sym = 27; core = 0; client = 1; tag = 0; args = []; formula = has_cast } ∷ [];
  worlds = record { sym = 28; labels = 0 ∷ 1 ∷ []; hooks = 0 ∷ [] } ∷ record { sym = 29; labels = 0 ∷ []; hooks = [] } ∷ [];
  invariants = [];
  procs = caster ∷ [];
  deploy = Some (record { world = 0; programs = record { node = 0; proc = 0; constants = [] } ∷ [] });
}

-- ---- updates: a send exchanges the fields `x` and `y`, and marks its addressee in a row

abbrev pub swapper : Protocol
swapper = record {
  sym = 20;
  fields = record { sym = 21; row = false; sort = bool; first = Num (pos 1) } ∷
      record { sym = 22; row = false; sort = int; first = Num (pos 0) } ∷
      record { sym = 23; row = true; sort = bool; first = Num (pos 0) } ∷ [];
  tags = record {
    sym = 24;
    args = [];
    send = record {
      guard = True;
      updates = record { field = 0; index = None; value = Field Own 1 (Var me_word) } ∷
          record { field = 1; index = None; value = Field Own 0 (Var me_word) } ∷
          record { field = 2; index = Some (Var to_word); value = Num (pos 1) } ∷ [];
    };
    receive = None;
  } ∷ [];
  coherence = None;
}

abbrev pub swappers : Instances
swappers = record { nodes = 2; protocols = swapper ∷ []; of = 0 ∷ [] }

-- what the first node has in `x`, `y` and the row. The second one has 1, 0 and nobody marked.
abbrev pub swapped : ℤ → ℤ → List ℤ → List Message → State
swapped x y row soup = record {
  nodes = 2;
  labels = record {
    fields = ((x ∷ []) ∷ (pos 1 ∷ []) ∷ []) ∷ ((y ∷ []) ∷ (pos 0 ∷ []) ∷ []) ∷ (row ∷ (pos 0 ∷ pos 0 ∷ []) ∷ []) ∷ [];
    soup = soup;
  } ∷ [];
}

-- ---- a loop with a call: y := 3; while y < 5 { y := next(y) }; if y = 5 { z := 1 } else { z := 2 }; return 10 y + z

abbrev pub successor : Proc
successor = record {
  sym = 20;
  world = 0;
  params = (21, int) ∷ [];
  locals = [];
  pre = True;
  post = True;
  body = [];
  result = Add (Var 21) (Num (pos 1));
}

abbrev pub looper : Proc
looper = record {
  sym = 22;
  world = 0;
  params = [];
  locals = 23 ∷ 24 ∷ [];
  pre = True;
  post = True;
  body = Set 23 (Num (pos 3)) ∷
      While' (Lt (Var 23) (Num (pos 5))) True (tt ∷ []) (more_of-Command (Call True True 23 0 (Var 23 ∷ [])) end_of-Command) ∷
      If' (Eq (Var 23) (Num (pos 5))) (tt ∷ []) (more_of-Command (Set 24 (Num (pos 1))) end_of-Command) (tt ∷ []) (more_of-Command (Set 24 (Num (pos 2))) end_of-Command) ∷ [];
  result = Add (Mul (Num (pos 10)) (Var 23)) (Var 24);
}

abbrev pub looping : Machine
looping = Working (entered (successor ∷ looper ∷ []) 1 (pos 0) []) []

-- a machine at a block, with no names
abbrev pub at_block : Block → Machine
at_block block = Working (record { proc = 0; left = block; names = no_names 0 }) []

-- ---- a wait of the third node, and what it gets later

abbrev pub waits : Entry
waits = record { node = 2; ticks = 2; call = call.Await 0 0; reply = reply.Miss }

abbrev pub gets : ℕ → Entry
gets ticks = record { node = 2; ticks = ticks; call = call.Await 0 0; reply = reply.Got 0 0 (packed []) }

-- ---- sequents over the counter

abbrev pub claim : List Hypothesis → Formula → Sequent
claim facts goal = record { vars = (30, bool) ∷ []; messages = []; facts = facts; goal = goal; own = None }
