-- What a text spells.
use Rattle.std.specs.Prelude.{◌≡◌, ℕ, ℤ, ◌+◌, ◌≤◌, max, Bool, true, false, ◌||◌, ◌==◌, List, [], ◌∷◌, ◌++◌, ◌⊎◌}
use Rattle.dl_tree.specs.declared.tree.Place.{Place}
use Rattle.dl_tree.specs.declared.tree.Tree.{Tree, Num, Sym, List', Row_of-Tree, end_of-Tree, more_of-Tree}
use Rattle.dl_tree.specs.Text.{Token, in_comment, is_blank, is_parenthesis, in_run, begins_run, place_after, start}
use Rattle.dl_tree.specs.Word.{is_number, value_of, fits_i64, is_symbol}

-- ---- tokens in a text

-- blanks and comments, of which the last one is closed by its LF
abbrev pub IsGap : Bool → List ℕ → Type 0
IsGap comment [] = comment ≡ false
IsGap comment (byte ∷ bytes) = ((comment || is_blank byte || byte == 59) ≡ true) × IsGap (in_comment comment byte) bytes

-- blanks and comments at the end of a text
abbrev pub IsLastGap : Bool → List ℕ → Type 0
IsLastGap comment [] = Unit {0}
IsLastGap comment (byte ∷ bytes) = ((comment || is_blank byte || byte == 59) ≡ true) × IsLastGap (in_comment comment byte) bytes

abbrev pub IsRun : List ℕ → Type 0
IsRun [] = Unit {0}
IsRun (byte ∷ bytes) = (in_run byte ≡ true) × IsRun bytes

-- a parenthesis, or a run that isn't empty and that no byte of a run follows
abbrev pub IsTokenBefore : List ℕ → List ℕ → Type 0
IsTokenBefore rest [] = ⊥
IsTokenBefore rest (byte ∷ bytes) = ((is_parenthesis byte ≡ true) × (bytes ≡ [])) ⊎ (IsRun (byte ∷ bytes) × (begins_run rest ≡ false))

-- the text has these tokens, with blanks and comments around them
abbrev pub Lays : Place → List ℕ → List Token → Type 0
Lays place text [] = IsLastGap false text
Lays place text (token ∷ later) = (gap rest : List ℕ) × (text ≡ gap ++ (token.word ++ rest)) × IsGap false gap × (token.place ≡ place_after place gap) × IsTokenBefore rest token.word × Lays (place_after token.place token.word) rest later

-- ---- the tokens of a tree

abbrev pub open_at : Place → Token
open_at place = record { word = 40 ∷ []; place = place }

abbrev pub close_at : Place → Token
close_at place = record { word = 41 ∷ []; place = place }

abbrev pub SpellsNumber : List Token → ℤ → Place → Type 0
SpellsNumber tokens value place = (word : List ℕ) × (tokens ≡ record { word = word; place = place } ∷ []) × (is_number word ≡ true) × (value_of word ≡ value) × (fits_i64 value ≡ true)

abbrev pub SpellsSymbol : List Token → List ℕ → Place → Type 0
SpellsSymbol tokens name place = (tokens ≡ record { word = name; place = place } ∷ []) × (is_number name ≡ false) × (is_symbol name ≡ true)

abbrev mutual
  -- these tokens spell the tree
  pub IsSpelled : List Token → Tree → Type 0
  IsSpelled tokens (Num value place) = SpellsNumber tokens value place
  IsSpelled tokens (Sym name place) = SpellsSymbol tokens name place
  IsSpelled tokens (List' shape parts place) = (inner : List Token) × (close : Place) × (tokens ≡ open_at place ∷ (inner ++ (close_at close ∷ []))) × AreSpelled inner parts

  -- and these the parts of a list, one after another
  pub AreSpelled : List Token → {m : _} → Row_of-Tree m → Type 0
  AreSpelled tokens end_of-Tree = tokens ≡ []
  AreSpelled tokens (more_of-Tree part parts) = (front back : List Token) × (tokens ≡ front ++ back) × IsSpelled front part × AreSpelled back parts

abbrev mutual
  -- how deep lists stand inside one another
  pub nesting : Tree → ℕ
  nesting (Num value place) = 0
  nesting (Sym name place) = 0
  nesting (List' shape parts place) = nestings parts + 1

  pub nestings : {m : _} → Row_of-Tree m → ℕ
  nestings end_of-Tree = 0
  nestings (more_of-Tree part parts) = max (nesting part) (nestings parts)

abbrev pub IsList : Tree → Type 0
IsList (List' shape parts place) = Unit {0}
IsList _ = ⊥

-- The text spells one list.
pub record Spells (text : List ℕ) (tree : Tree) : Type 0 where
  pub tokens : List Token
  pub laid : Lays start text tokens
  pub spelled : IsSpelled tokens tree
  pub list : IsList tree
  pub depth : nesting tree ≤ 200
