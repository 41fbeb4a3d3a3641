-- A small file with each kind of item but a hook and a procedure, and the tree that means it.
use Rattle.std.specs.Prelude.{ℕ, ℤ, pos, false, Some, None, List, [], ◌∷◌, ◌++◌, replicate, length, codes}
use Rattle.dl_term.specs.declared.syntax.Lab.TheVariants.{At}
use Rattle.dl_term.specs.declared.syntax.Sort.{Sort}
use Rattle.dl_term.specs.declared.syntax.Term.{Num, Word, Var, Field}
use Rattle.dl_term.specs.declared.syntax.Formula.{True, Le, All}
use Rattle.dl_tree.specs.declared.tree.Place.{Place}
use Rattle.dl_tree.specs.declared.tree.Tree.{Tree}
use Rattle.dl_tree.specs.declared.tree.Tree.TheVariants as tree
use Rattle.dl_model.specs.declared.protocol.Protocol.{Protocol}
use Rattle.dl_model.specs.declared.file.Decls.{Decls}
use Rattle.dl_linear.specs.declared.certificate.Certificate.{Use}
use Rattle.dl_sequent.specs.declared.duty.Duty.TheVariants.{InitInvariant}
use Rattle.dl_sequent.specs.declared.script.Rule.{Open, Linear}
use Rattle.dl_forms.specs.Context.{Text}
use Rattle.dl_forms.specs.Table.{NameTable, reserved, unmarked}
use Rattle.dl_file.specs.declared.file.ItemKind.TheVariants as kind
use Rattle.dl_file.specs.declared.file.Proof.{Proof}
use Rattle.dl_file.specs.declared.file.File.{File}

-- ---- the tree, each part with its column in the one line

abbrev pub column : ℕ → Place
column col = record { line = 1; col = col }

abbrev pub word : ℕ → Text → Tree
word col text = tree.Sym text (column col)

abbrev pub number : ℕ → ℤ → Tree
number col v = tree.Num v (column col)

abbrev pub list : ℕ → List Tree → Tree
list col parts = tree.List parts (column col)

-- (nodes a)
abbrev pub nodes_tree : Tree
nodes_tree = list 10 (word 11 (codes "nodes") ∷ word 17 (codes "a") ∷ [])

-- (sort s (enum z o))
abbrev pub sort_tree : Tree
sort_tree = list 20 (word 21 (codes "sort") ∷ word 26 (codes "s") ∷ list 28 (word 29 (codes "enum") ∷ word 34 (codes "z") ∷ word 36 (codes "o") ∷ []) ∷ [])

-- (set n 1)
abbrev pub update_tree : Tree
update_tree = list 73 (word 74 (codes "set") ∷ word 78 (codes "n") ∷ number 80 (pos 1) ∷ [])

-- (send true (set n 1))
abbrev pub send_tree : Tree
send_tree = list 62 (word 63 (codes "send") ∷ word 68 (codes "true") ∷ update_tree ∷ [])

-- (tag t () (send true (set n 1)))
abbrev pub tag_tree : Tree
tag_tree = list 52 (word 53 (codes "tag") ∷ word 57 (codes "t") ∷ list 59 [] ∷ send_tree ∷ [])

-- (field n s z)
abbrev pub field_tree : Tree
field_tree = list 85 (word 86 (codes "field") ∷ word 92 (codes "n") ∷ word 94 (codes "s") ∷ word 96 (codes "z") ∷ [])

-- (protocol p (tag t () (send true (set n 1))) (field n s z))
abbrev pub protocol_tree : Tree
protocol_tree = list 40 (word 41 (codes "protocol") ∷ word 50 (codes "p") ∷ tag_tree ∷ field_tree ∷ [])

-- (label c p)
abbrev pub label_tree : Tree
label_tree = list 100 (word 101 (codes "label") ∷ word 107 (codes "c") ∷ word 109 (codes "p") ∷ [])

-- (world w (labels c) (hooks))
abbrev pub first_world_tree : Tree
first_world_tree = list 112 (word 113 (codes "world") ∷ word 119 (codes "w") ∷ list 121 (word 122 (codes "labels") ∷ word 129 (codes "c") ∷ []) ∷ list 132 (word 133 (codes "hooks") ∷ []) ∷ [])

-- (world v (compose w w))
abbrev pub second_world_tree : Tree
second_world_tree = list 141 (word 142 (codes "world") ∷ word 148 (codes "v") ∷ list 150 (word 151 (codes "compose") ∷ word 159 (codes "w") ∷ word 161 (codes "w") ∷ []) ∷ [])

-- (invariant i v (all x (<= z (get c n x))))
abbrev pub invariant_tree : Tree
invariant_tree = list 165 (word 166 (codes "invariant") ∷ word 176 (codes "i") ∷ word 178 (codes "v") ∷ list 180 (word 181 (codes "all") ∷ word 185 (codes "x") ∷ list 187 (word 188 (codes "<=") ∷ word 191 (codes "z") ∷ list 193 (word 194 (codes "get") ∷ word 198 (codes "c") ∷ word 200 (codes "n") ∷ word 202 (codes "x") ∷ []) ∷ []) ∷ []) ∷ [])

-- (deploy v)
abbrev pub deployment_tree : Tree
deployment_tree = list 208 (word 209 (codes "deploy") ∷ word 216 (codes "v") ∷ [])

-- (proof (init i) (names) (open k (linear (goal))))
abbrev pub proof_tree : Tree
proof_tree = list 219 (word 220 (codes "proof") ∷ list 226 (word 227 (codes "init") ∷ word 232 (codes "i") ∷ []) ∷ list 235 (word 236 (codes "names") ∷ []) ∷ list 243 (word 244 (codes "open") ∷ word 249 (codes "k") ∷ list 251 (word 252 (codes "linear") ∷ list 259 (word 260 (codes "goal") ∷ []) ∷ []) ∷ []) ∷ [])

abbrev pub written : Tree
written = list 1 (word 2 (codes "disel") ∷ number 8 (pos 1) ∷ nodes_tree ∷ sort_tree ∷ protocol_tree ∷ label_tree ∷ first_world_tree ∷ second_world_tree ∷ invariant_tree ∷ deployment_tree ∷ proof_tree ∷ [])

-- ---- the file

abbrev pub bit : Sort
bit = record { low = pos 0; high = pos 1 }

abbrev pub protocol : Protocol
protocol = record {
  sym = 22;
  fields = record { sym = 24; row = false; sort = bit; first = Word 20 (pos 0) } ∷ [];
  tags = record { sym = 23; args = []; send = record { guard = True; updates = record { field = 0; index = None; value = Num (pos 1) } ∷ [] }; receive = None } ∷ [];
  coherence = None;
}

abbrev pub decls : Decls
decls = record {
  inst = record { nodes = 1; protocols = protocol ∷ []; of = 0 ∷ [] };
  labels = 25 ∷ [];
  hooks = [];
  worlds = record { sym = 26; labels = 0 ∷ []; hooks = [] } ∷ record { sym = 27; labels = 0 ∷ []; hooks = [] } ∷ [];
  invariants = record { sym = 28; world = 1; formula = All 29 (Le (Word 20 (pos 0)) (Field (At 0) 0 (Var 29))) } ∷ [];
  procs = [];
  deploy = Some (record { world = 1; programs = [] });
}

abbrev pub proof : Proof
proof = record {
  duty = InitInvariant 0;
  names = [];
  script = record { rule = Open 30 (record { rule = Linear (Use 8) None; place = column 251 }); place = column 243 };
  place = column 219;
}

abbrev pub texts : List Text
texts = reserved ++ (codes "a" ∷ codes "s" ∷ codes "z" ∷ codes "o" ∷ codes "p" ∷ codes "t" ∷ codes "n" ∷ codes "c" ∷ codes "w" ∷ codes "v" ∷ codes "i" ∷ codes "x" ∷ codes "k" ∷ [])

abbrev pub file : File
file = record {
  names = texts;
  decls = decls;
  proofs = proof ∷ [];
  items =
      record { kind = kind.Sort; at = 0; place = column 20 } ∷
      record { kind = kind.Protocol; at = 0; place = column 40 } ∷
      record { kind = kind.Label; at = 0; place = column 100 } ∷
      record { kind = kind.World; at = 0; place = column 112 } ∷
      record { kind = kind.World; at = 1; place = column 141 } ∷
      record { kind = kind.Invariant; at = 0; place = column 165 } ∷
      record { kind = kind.Deploy; at = 0; place = column 208 } ∷
      record { kind = kind.Proof; at = 0; place = column 219 } ∷ [];
  tree = written;
}

-- the texts of the names, and the sort that the file declares
abbrev pub table : NameTable
table = record { texts = texts; sorts = record { sym = 19; sort = bit; values = 20 ∷ 21 ∷ [] } ∷ []; marks = replicate (length texts) unmarked }
