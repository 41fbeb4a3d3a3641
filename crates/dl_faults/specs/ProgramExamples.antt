-- Small files with procedures, without and with something wrong, written out as what the readers give for them.
use Rattle.std.specs.Prelude.{ℕ, pos, Some, None, List, [], ◌∷◌, ◌++◌, codes}
use Rattle.dl_term.specs.declared.syntax.Lab.TheVariants.{At}
use Rattle.dl_term.specs.declared.syntax.Term.{Num, Var, Word, Len}
use Rattle.dl_term.specs.declared.syntax.Formula.{Formula, True, Eq, Le}
use Rattle.dl_tree.specs.declared.tree.Tree.{Tree}
use Rattle.dl_tree.specs.declared.tree.Tree.TheVariants as tree
use Rattle.dl_model.specs.declared.protocol.Protocol.{Protocol}
use Rattle.dl_model.specs.declared.program.Command.{Send, Await, Call}
use Rattle.dl_model.specs.declared.program.Proc.{Proc}
use Rattle.dl_model.specs.declared.file.World.{World}
use Rattle.dl_model.specs.declared.file.Decls.{Decls}
use Rattle.dl_model.specs.Words.{result_word}
use Rattle.dl_file.specs.declared.file.File.{File}
use Rattle.dl_faults.specs.Shown.{word, form, no_place}
use Rattle.dl_faults.specs.Examples.{reserved}
use Rattle.dl_faults.specs.ProgramTrees as text

-- a message without arguments, which may always be sent and received
abbrev pub talk : Protocol
talk = record {
  sym = 20;
  fields = [];
  tags = record { sym = 21; args = []; send = record { guard = True; updates = [] }; receive = Some (record { guard = True; updates = [] }) } ∷ [];
  coherence = None;
}

-- sends to `b` at a label, and awaits a message at one
abbrev pub near_with : (sent awaited : ℕ) → (note post : Formula) → Proc
near_with sent awaited note post = record {
  sym = 27;
  world = 1;
  params = [];
  locals = 28 ∷ [];
  pre = True;
  post = post;
  body = Send True sent 0 (Word 19 (pos 1)) [] ∷ Await note awaited 0 28 [] ∷ [];
  result = Num (pos 0);
}

-- calls the procedure before it
abbrev pub far_with : (world : ℕ) → (frame : Formula) → Proc
far_with world frame = record { sym = 29; world = world; params = []; locals = 30 ∷ []; pre = True; post = True; body = Call True frame 30 0 [] ∷ []; result = Var 30 }

-- a world of one label and without hooks
abbrev pub small_world : ℕ → World
small_world label = record { sym = 26; labels = label ∷ []; hooks = [] }

-- two labels, a hook at the second one that looks at the first, the world of both, and another one
abbrev pub talking : World → (near far : Proc) → Decls
talking small near far = record {
  inst = record { nodes = 2; protocols = talk ∷ []; of = 0 ∷ 0 ∷ [] };
  labels = 22 ∷ 23 ∷ [];
  hooks = record { sym = 24; core = 0; client = 1; tag = 0; args = []; formula = True } ∷ [];
  worlds = record { sym = 25; labels = 0 ∷ 1 ∷ []; hooks = 0 ∷ [] } ∷ small ∷ [];
  invariants = [];
  procs = near ∷ far ∷ [];
  deploy = Some (record { world = 0; programs = record { node = 0; proc = 1; constants = [] } ∷ [] });
}

abbrev pub names_of_talk : List (List ℕ)
names_of_talk =
    reserved ++ (codes "a" ∷ codes "b" ∷ codes "game" ∷ codes "ping" ∷ codes "g" ∷ codes "l" ∷ codes "k" ∷ codes "w" ∷ codes "v" ∷ codes "near" ∷ codes "f" ∷ codes "far" ∷ codes "r" ∷ [])

-- the trees are those of the small world and of both procedures
abbrev pub with_procs : World → (near far : Proc) → (world_tree near_tree far_tree : Tree) → File
with_procs small near far world_tree near_tree far_tree = record {
  names = names_of_talk;
  decls = talking small near far;
  proofs = [];
  items = [];
  tree = text.whole (text.talk ∷ text.label_g ∷ text.label_l ∷ text.hook_k ∷ text.world_w ∷ world_tree ∷ near_tree ∷ far_tree ∷ text.deploy_far ∷ []);
}

-- nothing is wrong
abbrev pub played : File
played = with_procs (small_world 0) (near_with 0 0 True True) (far_with 0 True) text.world_of_g text.near text.far

-- an annotation speaks of the label that the small world doesn't have
abbrev pub noted : File
noted = with_procs (small_world 0) (near_with 0 0 (Le (Num (pos 0)) (Len (At 1))) True) (far_with 0 True) text.world_of_g text.near_noting text.far

-- a send is at this label
abbrev pub said : File
said = with_procs (small_world 0) (near_with 1 0 True True) (far_with 0 True) text.world_of_g text.near_sending text.far

-- the frame of the call speaks of the label of the called procedure
abbrev pub framed : File
framed = with_procs (small_world 0) (near_with 0 0 True True) (far_with 0 (Le (Num (pos 0)) (Len (At 0)))) text.world_of_g text.near text.far_framing

-- the caller's world has a hook at the label of the called procedure, whose world has none
abbrev pub called : File
called = with_procs (small_world 1) (near_with 1 1 True True) (far_with 0 True) text.world_of_l text.near_at_l text.far

-- the same of the deployed world and the procedure that is deployed
abbrev pub entered : File
entered = with_procs (small_world 1) (near_with 1 1 True True) (far_with 1 True) text.world_of_l text.near_at_l text.far_in_v

-- the postcondition is false of what is returned
abbrev pub promised : File
promised = with_procs (small_world 0) (near_with 0 0 True (Eq (Var result_word) (Num (pos 1)))) (far_with 0 True) text.world_of_g text.near_promising text.far

-- (got near 2)
abbrev pub second_point : Tree
second_point = form (codes "got") (word (codes "near") ∷ tree.Num (pos 2) no_place ∷ [])
