-- Small files without and with something wrong, written out as what the readers give for them.
use Rattle.std.specs.Prelude.{ℕ, pos, false, true, Some, None, List, [], ◌∷◌, ◌++◌, codes}
use Rattle.dl_term.specs.declared.syntax.Lab.TheVariants.{Own, At}
use Rattle.dl_term.specs.declared.syntax.Part.TheVariants as part
use Rattle.dl_term.specs.declared.syntax.Term.{Num, Var, Len, Msg}
use Rattle.dl_term.specs.declared.syntax.Formula.{Formula, True, Eq, Le, Or, All, Each}
use Rattle.dl_tree.specs.declared.tree.Tree.{Tree}
use Rattle.dl_model.specs.declared.protocol.Protocol.{Protocol}
use Rattle.dl_model.specs.declared.file.World.{World}
use Rattle.dl_model.specs.declared.file.Invariant.{Invariant}
use Rattle.dl_model.specs.declared.file.Decls.{Decls}
use Rattle.dl_sequent.specs.declared.duty.Duty.TheVariants.{StepInvariant}
use Rattle.dl_sequent.specs.declared.script.Script.{Script}
use Rattle.dl_sequent.specs.declared.script.Rule.{Rule, By, Close, Split, Range}
use Rattle.dl_file.specs.declared.file.Proof.{Proof}
use Rattle.dl_file.specs.declared.file.File.{File}
use Rattle.dl_faults.specs.Shown.{word, form}
use Rattle.dl_faults.specs.Trees as text
use Rattle.dl_faults.specs.Trees.{place}

-- the words that no file declares
abbrev pub reserved : List (List ℕ)
reserved =
    codes "int" ∷ codes "bool" ∷ codes "node" ∷ codes "self" ∷ codes "me" ∷ codes "to" ∷ codes "from" ∷ codes "result" ∷ codes "goal" ∷
    codes "pre" ∷ codes "guard" ∷ codes "fits" ∷ codes "hooks" ∷ codes "mine" ∷ codes "other" ∷ codes "test" ∷ codes "post" ∷ codes "frame" ∷ []

-- a message without arguments, which may always be sent and is never received
abbrev pub game : Protocol
game = record { sym = 19; fields = []; tags = record { sym = 20; args = []; send = record { guard = True; updates = [] }; receive = None } ∷ []; coherence = None }

-- ---- one label, and the invariant that no id of a message is below 0

abbrev pub ids : Formula
ids = Each 24 (At 0) 0 (Le (Num (pos 0)) (Msg 24 part.Id))

abbrev pub one_label : Decls
one_label = record {
  inst = record { nodes = 1; protocols = game ∷ []; of = 0 ∷ [] };
  labels = 21 ∷ [];
  hooks = [];
  worlds = record { sym = 22; labels = 0 ∷ []; hooks = [] } ∷ [];
  invariants = record { sym = 23; world = 0; formula = ids } ∷ [];
  procs = [];
  deploy = Some (record { world = 0; programs = [] });
}

abbrev pub names_of_one : List (List ℕ)
names_of_one = reserved ++ (codes "a" ∷ codes "game" ∷ codes "ping" ∷ codes "g" ∷ codes "w" ∷ codes "pos" ∷ codes "m" ∷ codes "s" ∷ codes "d" ∷ codes "h" ∷ codes "r" ∷ codes "k" ∷ [])

abbrev pub rule_at : ℕ → ℕ → Rule → Script
rule_at line col rule = record { rule = rule; place = place line col }

-- (split (by pos) (range (len g) h (by h)))
abbrev pub step_proof : Proof
step_proof = record {
  duty = StepInvariant 0 0 0 false;
  names = 25 ∷ 26 ∷ [];
  script = rule_at 8 45 (Split (rule_at 8 52 (By 23)) (rule_at 8 61 (Range (Len (At 0)) 27 (rule_at 8 78 (By 27)))));
  place = place 8 3;
}

-- (split (by pos) (close))
abbrev pub unfinished_proof : Proof
unfinished_proof = record {
  duty = StepInvariant 0 0 0 false;
  names = 25 ∷ 26 ∷ [];
  script = rule_at 8 45 (Split (rule_at 8 52 (By 23)) (rule_at 8 61 Close));
  place = place 8 3;
}

-- for a receive that the tag does not have
abbrev pub extra_proof : Proof
extra_proof = record { duty = StepInvariant 0 0 0 true; names = 28 ∷ 29 ∷ []; script = rule_at 9 48 Close; place = place 9 3 }

-- the items of the file are in its tree alone
abbrev pub with_proofs : List Proof → List Tree → File
with_proofs proofs items = record { names = names_of_one; decls = one_label; proofs = proofs; items = []; tree = text.whole (text.game ∷ text.label_g ∷ text.world_w ∷ text.ids ∷ text.deploy_w ∷ items) }

abbrev pub proved : File
proved = with_proofs (step_proof ∷ []) (text.proof_item ∷ [])

abbrev pub unproved : File
unproved = with_proofs [] []

abbrev pub unfinished : File
unfinished = with_proofs (unfinished_proof ∷ []) (text.unfinished_item ∷ [])

abbrev pub extra : File
extra = with_proofs (step_proof ∷ extra_proof ∷ []) (text.proof_item ∷ text.extra_item ∷ [])

-- (step pos g ping send)
abbrev pub step : Tree
step = form (codes "step") (word (codes "pos") ∷ word (codes "g") ∷ word (codes "ping") ∷ word (codes "send") ∷ [])

-- ---- two labels, and a hook at the second one that looks at the first

abbrev pub two_labels : List World → List Invariant → ℕ → Decls
two_labels worlds invariants deployed = record {
  inst = record { nodes = 1; protocols = game ∷ []; of = 0 ∷ 0 ∷ [] };
  labels = 21 ∷ 22 ∷ [];
  hooks = record { sym = 23; core = 0; client = 1; tag = 0; args = []; formula = True } ∷ [];
  worlds = worlds;
  invariants = invariants;
  procs = [];
  deploy = Some (record { world = deployed; programs = [] });
}

abbrev pub names_of_two : List (List ℕ)
names_of_two = reserved ++ (codes "a" ∷ codes "game" ∷ codes "ping" ∷ codes "g" ∷ codes "l" ∷ codes "k" ∷ codes "w" ∷ codes "v" ∷ codes "pos" ∷ codes "m" ∷ codes "x" ∷ [])

abbrev pub with_worlds : List World → List Invariant → ℕ → List Tree → File
with_worlds worlds invariants deployed items =
    record { names = names_of_two; decls = two_labels worlds invariants deployed; proofs = []; items = []; tree = text.whole (text.game ∷ text.label_g ∷ text.label_l ∷ text.hook_k ∷ items) }

-- the client alone, with the hook
abbrev pub client_world : World
client_world = record { sym = 24; labels = 1 ∷ []; hooks = 0 ∷ [] }

-- both labels with the hook, and the client without it
abbrev pub both_worlds : List World
both_worlds = record { sym = 24; labels = 0 ∷ 1 ∷ []; hooks = 0 ∷ [] } ∷ record { sym = 25; labels = 1 ∷ []; hooks = [] } ∷ []

abbrev pub about : ℕ → Formula → List Invariant
about world formula = record { sym = 26; world = world; formula = formula } ∷ []

abbrev pub coreless : File
coreless = with_worlds (client_world ∷ []) [] 0 (text.world_of_client ∷ text.deploy_client ∷ [])

abbrev pub uncovered : File
uncovered = with_worlds both_worlds (about 1 (Each 27 (At 1) 0 True)) 0 (text.world_of_both ∷ text.world_without ∷ text.covered_item ∷ text.deploy_both ∷ [])

abbrev pub outside : File
outside =
    with_worlds both_worlds (about 1 (All 28 (Or (Eq (Var 28) (Num (pos 0))) (Each 27 (At 0) 0 True)))) 1
    (text.world_of_both ∷ text.world_without ∷ text.outside_item ∷ text.deploy_without ∷ [])

abbrev pub lacking : File
lacking = with_worlds both_worlds (about 0 (Each 27 (At 1) 0 True)) 1 (text.world_of_both ∷ text.world_without ∷ text.lacking_item ∷ text.deploy_without ∷ [])

-- ---- a coherence that says that no message was sent, which each of two tags breaks

abbrev pub duel : File
duel = record {
  names = reserved ++ (codes "a" ∷ codes "duel" ∷ codes "ping" ∷ codes "pong" ∷ codes "g" ∷ codes "w" ∷ []);
  decls = record {
    inst = record {
      nodes = 1;
      protocols = record {
        sym = 19;
        fields = [];
        tags =
            record { sym = 20; args = []; send = record { guard = True; updates = [] }; receive = None } ∷
            record { sym = 21; args = []; send = record { guard = True; updates = [] }; receive = None } ∷ [];
        coherence = Some (Eq (Len Own) (Num (pos 0)));
      } ∷ [];
      of = 0 ∷ [];
    };
    labels = 22 ∷ [];
    hooks = [];
    worlds = record { sym = 23; labels = 0 ∷ []; hooks = [] } ∷ [];
    invariants = [];
    procs = [];
    deploy = Some (record { world = 0; programs = [] });
  };
  proofs = [];
  items = [];
  tree = text.whole (text.duel ∷ text.label_duel ∷ text.world_w ∷ text.deploy_duel ∷ []);
}

-- (step duel ping send)
abbrev pub duel_step : Tree
duel_step = form (codes "step") (word (codes "duel") ∷ word (codes "ping") ∷ word (codes "send") ∷ [])
