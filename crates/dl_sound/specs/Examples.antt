-- Small files that meet all premises of the laws, and some whose runs are not safe.
use Rattle.std.specs.Prelude.{pos, false, Some, None, [], ◌∷◌}
use Rattle.dl_term.specs.declared.syntax.Lab.TheVariants.{At}
use Rattle.dl_term.specs.declared.syntax.Part.TheVariants as part
use Rattle.dl_term.specs.declared.syntax.Formula.{Formula, True, False, Eq, Each}
use Rattle.dl_term.specs.declared.syntax.Term.{Num, Var, Msg}
use Rattle.dl_model.specs.declared.protocol.Tag.{Tag}
use Rattle.dl_model.specs.declared.protocol.Protocol.{Protocol}
use Rattle.dl_model.specs.declared.program.Command.{Command, Send, Await, Poll, Read, Set, If', While', Call, more_of-Command, end_of-Command}
use Rattle.dl_model.specs.declared.program.Proc.{Proc}
use Rattle.dl_model.specs.declared.history.Call.TheVariants as call
use Rattle.dl_model.specs.declared.history.Reply.TheVariants as reply
use Rattle.dl_model.specs.declared.history.Entry.{Entry}
use Rattle.dl_model.specs.declared.file.Decls.{Decls}
use Rattle.dl_model.specs.Machine.{packed}

-- ---- a game of two nodes: one sends a message and sets its field, and the other one receives it

abbrev pub ping : Tag
ping = record {
  sym = 41;
  args = [];
  send = record { guard = True; updates = record { field = 0; index = None; value = Num (pos 1) } ∷ [] };
  receive = Some (record { guard = True; updates = [] });
}

abbrev pub game_with : Tag → Protocol
game_with tag = record {
  sym = 42;
  fields = record { sym = 40; row = false; sort = record { low = pos 0; high = pos 1 }; first = Num (pos 0) } ∷ [];
  tags = tag ∷ [];
  coherence = None;
}

abbrev pub sender : Proc
sender = record { sym = 45; world = 0; params = []; locals = []; pre = True; post = True; body = Send True 0 0 (Num (pos 1)) [] ∷ []; result = Num (pos 7) }

abbrev pub receiver : Proc
receiver = record { sym = 46; world = 0; params = []; locals = 30 ∷ []; pre = True; post = True; body = Await True 0 0 30 [] ∷ []; result = Var 30 }

abbrev pub game : Decls
game = record {
  inst = record { nodes = 2; protocols = game_with ping ∷ []; of = 0 ∷ [] };
  labels = 43 ∷ [];
  hooks = [];
  worlds = record { sym = 44; labels = 0 ∷ []; hooks = [] } ∷ [];
  invariants = [];
  procs = sender ∷ receiver ∷ [];
  deploy = Some (record { world = 0; programs = record { node = 0; proc = 0; constants = [] } ∷ record { node = 1; proc = 1; constants = [] } ∷ [] });
}

abbrev pub sends : Entry
sends = record { node = 0; ticks = 0; call = call.Send 0 0 (pos 1) (packed []); reply = reply.Sent 0 }

abbrev pub takes : Entry
takes = record { node = 1; ticks = 0; call = call.Await 0 0; reply = reply.Got 0 0 (packed []) }

-- ---- files whose runs are not safe

-- the sender's postcondition is false
abbrev pub false_post : Decls
false_post = record game { procs = record sender { post = False } ∷ receiver ∷ [] }

-- the guard of the send is false, and the program sends
abbrev pub false_guard : Decls
false_guard = record game { inst = record { nodes = 2; protocols = game_with (record ping { send = record { guard = False; updates = [] } }) ∷ []; of = 0 ∷ [] } }

-- an invariant is false from the beginning
abbrev pub false_invariant : Decls
false_invariant = record game { invariants = record { sym = 50; world = 0; formula = False } ∷ [] }

-- ---- a file in which each message is to be from its addressee, which a send to another node breaks

abbrev pub chat : Tag
chat = record { sym = 41; args = []; send = record { guard = True; updates = [] }; receive = None }

abbrev pub from_itself : Formula
from_itself = Each 51 (At 0) 0 (Eq (Msg 51 part.From) (Msg 51 part.To))

abbrev pub talking : Decls
talking = record game {
  inst = record { nodes = 2; protocols = record { sym = 42; fields = []; tags = chat ∷ []; coherence = None } ∷ []; of = 0 ∷ [] };
  invariants = record { sym = 50; world = 0; formula = from_itself } ∷ [];
}

-- ---- a procedure with each command but an await

abbrev pub helper : Proc
helper = record { sym = 47; world = 1; params = []; locals = []; pre = True; post = True; body = []; result = Num (pos 5) }

abbrev pub calls_helper : Command
calls_helper = Call True True 30 0 []

abbrev pub whole : Proc
whole = record {
  sym = 45;
  world = 0;
  params = [];
  locals = 30 ∷ 31 ∷ 32 ∷ [];
  pre = True;
  post = True;
  body = Send True 0 0 (Num (pos 1)) [] ∷ While' True True (tt ∷ tt ∷ []) (more_of-Command calls_helper (more_of-Command (Set 31 (Var 30)) end_of-Command)) ∷
      If' True (tt ∷ []) (more_of-Command (Poll True 31 0 0 32 []) end_of-Command) [] end_of-Command ∷ Read True 30 0 0 None ∷ calls_helper ∷ [];
  result = Var 30;
}

-- `helper` runs in a world without labels
abbrev pub whole_game : Decls
whole_game = record game {
  worlds = record { sym = 44; labels = 0 ∷ []; hooks = [] } ∷ record { sym = 48; labels = []; hooks = [] } ∷ [];
  procs = helper ∷ whole ∷ receiver ∷ [];
  deploy = Some (record { world = 0; programs = record { node = 0; proc = 1; constants = [] } ∷ record { node = 1; proc = 2; constants = [] } ∷ [] });
}
