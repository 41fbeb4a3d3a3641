-- What the reader's tokens stand for.
use Rattle.std.specs.Prelude.{◌≡◌, true, [], ◌∷◌}
use Rattle.dl_tree.specs.declared.tree.Place.{Place}
use Rattle.dl_tree.specs.declared.cursor.Lexeme.{Lexeme}
use Rattle.dl_tree.specs.declared.cursor.Lexeme.TheVariants.{Open, Close, Word}
use Rattle.dl_tree.specs.Text.{Token, begins_run}

abbrev pub token_of : Lexeme → Place → Token
token_of Open place = record { word = 40 ∷ []; place = place }
token_of Close place = record { word = 41 ∷ []; place = place }
token_of (Word word) place = record { word = word.now; place = place }

-- a word begins with a byte of a run, so it is no parenthesis
abbrev pub IsLexeme : Lexeme → Type 0
IsLexeme (Word word) = begins_run word.now ≡ true
IsLexeme _ = Unit {0}

-- what a part of a list begins with
abbrev pub IsPart : Lexeme → Type 0
IsPart Close = ⊥
IsPart _ = Unit {0}
