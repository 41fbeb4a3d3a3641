-- What the reader has read of the tokens. Only the crate's private clauses cite it.
use Rattle.std.specs.Prelude.{◌≡◌, Bool, false, ℕ, ◌+◌, ◌≤◌, ◌<◌, List, [], ◌∷◌, ◌++◌, max}
use Rattle.dl_tree.specs.declared.tree.Place.{Place}
use Rattle.dl_tree.specs.declared.tree.Tree.{Tree}
use Rattle.dl_tree.specs.declared.reader.TreeFault.{TreeFault}
use Rattle.dl_tree.specs.declared.cursor.Lexeme.{Lexeme}
use Rattle.dl_tree.specs.declared.cursor.Lexeme.TheVariants.{Open}
use Rattle.dl_tree.specs.Lexeme.{token_of}
use Rattle.dl_tree.specs.Text.{Token}
use Rattle.dl_tree.specs.Faults.{first_fault, IsFault}
use Rattle.dl_tree.specs.Spelling.{IsSpelled, IsList, close_at, nesting}

-- the parts of a list, one after another
abbrev pub ArePartsOf : List Token → List Tree → Type 0
ArePartsOf all [] = all ≡ []
ArePartsOf all (part ∷ parts) = (front back : List Token) × (all ≡ front ++ back) × IsSpelled front part × ArePartsOf back parts

abbrev pub deepest : List Tree → ℕ
deepest [] = 0
deepest (part ∷ parts) = max (nesting part) (deepest parts)

-- the tokens before begin with those of the tree, in which so many lists at most stand inside one another
pub record ReadsPart (depth : ℕ) (before after : List Token) (tree : Tree) : Type 0 where
  pub tokens : List Token
  pub whole : before ≡ tokens ++ after
  pub spelled : IsSpelled tokens tree
  pub shallow : nesting tree + depth ≤ 200

-- the tokens before begin with those of the parts
pub record ReadsParts (depth : ℕ) (before after : List Token) (parts : List Tree) : Type 0 where
  pub tokens : List Token
  pub whole : before ≡ tokens ++ after
  pub spelled : ArePartsOf tokens parts
  pub shallow : deepest parts + depth ≤ 200

-- the tokens before begin with those of the parts and a `)`
pub record ReadsItems (depth : ℕ) (before after : List Token) (parts : List Tree) : Type 0 where
  pub place : Place
  pub reads : ReadsParts depth before (close_at place ∷ after) parts

-- the fault is the first one of these tokens
abbrev pub IsFirst : ℕ → List Token → Place → TreeFault → Type 0
IsFirst depth all end fault = IsFault (first_fault false depth all end) fault

-- a word that is the tree's only token
abbrev pub IsLeaf : List ℕ → Place → Tree → Type 0
IsLeaf word place tree = IsSpelled (record { word = word; place = place } ∷ []) tree × (nesting tree ≡ 0)

-- the fault is the first one, wherever the word stands first inside lists
abbrev pub IsFirstAtWord : List ℕ → Place → TreeFault → Type 0
IsFirstAtWord word place fault = (depth : ℕ) (all : List Token) (end : Place) → 0 < depth → IsFirst depth (record { word = word; place = place } ∷ all) end fault

-- the fault is the first one where the token stands outside the one list, also as the text's first one unless it is a `(`
abbrev pub IsOutside : Lexeme → Place → TreeFault → Type 0
IsOutside lexeme place fault = (first : Bool) (all : List Token) (end : Place) → (lexeme ≡ Open → first ≡ false) → IsFault (first_fault first 0 (token_of lexeme place ∷ all) end) fault

-- the tokens are those of the one list
pub record IsOneList (all : List Token) (tree : Tree) : Type 0 where
  pub spelled : IsSpelled all tree
  pub list : IsList tree
  pub depth : nesting tree ≤ 200
