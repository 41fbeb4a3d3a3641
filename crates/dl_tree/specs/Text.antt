-- The bytes of a text, its places and its tokens.
use Rattle.std.specs.Prelude.{ℕ, ◌+◌, Bool, true, false, not, ◌||◌, ◌&&◌, ◌==◌, nat_le, if◌then◌else◌, List, [], ◌∷◌, Option, Some, None}
use Rattle.dl_tree.specs.declared.tree.Place.{Place}
use Rattle.dl_tree.specs.declared.cursor.Class.{Class}
use Rattle.dl_tree.specs.declared.cursor.Class.TheVariants.{Blank, Semicolon, Parenthesis, Run}

-- tab, LF, CR or space
abbrev pub is_blank : ℕ → Bool
is_blank byte = byte == 9 || byte == 10 || byte == 13 || byte == 32

abbrev pub is_parenthesis : ℕ → Bool
is_parenthesis byte = byte == 40 || byte == 41

-- what a byte outside comments is
unfoldable pub class_of : ℕ → Class
class_of byte = if is_blank byte then Blank else (if byte == 59 then Semicolon else (if is_parenthesis byte then Parenthesis else Run))

-- whether a byte may stand outside comments
abbrev pub is_allowed : ℕ → Bool
is_allowed byte = is_blank byte || (nat_le 33 byte && nat_le byte 126)

-- whether a comment goes on behind a byte: `;` begins one, and LF ends it
unfoldable pub in_comment : Bool → ℕ → Bool
in_comment comment byte = if comment then not (byte == 10) else byte == 59

-- the place behind a byte, which may be an LF
abbrev pub place_behind : Bool → Place → Place
place_behind true place = record { line = place.line + 1; col = 1 }
place_behind false place = record { line = place.line; col = place.col + 1 }

unfoldable pub next_place : Place → ℕ → Place
next_place place byte = place_behind (byte == 10) place

-- the place behind bytes
abbrev pub place_after : Place → List ℕ → Place
place_after place [] = place
place_after place (byte ∷ bytes) = place_after (next_place place byte) bytes

abbrev pub start : Place
start = record { line = 1; col = 1 }

-- the place of the first byte outside comments that isn't allowed
abbrev pub bad_byte : Bool → Place → List ℕ → Option Place
bad_byte comment place [] = None
bad_byte comment place (byte ∷ bytes) = if comment || is_allowed byte then bad_byte (in_comment comment byte) (next_place place byte) bytes else Some place

-- a token: its bytes, and the place of the first of them
pub record Token : Type 0 where
  pub word : List ℕ
  pub place : Place

abbrev pub is_run : Class → Bool
is_run Run = true
is_run _ = false

abbrev pub in_run : ℕ → Bool
in_run byte = is_run (class_of byte)

abbrev pub begins_run : List ℕ → Bool
begins_run [] = false
begins_run (byte ∷ bytes) = in_run byte

-- puts a byte of a run before the tokens behind it: into the first of them, if the run goes on
abbrev pub joined : Bool → Place → ℕ → List Token → List Token
joined true place byte (token ∷ behind) = record { word = byte ∷ token.word; place = place } ∷ behind
joined _ place byte behind = record { word = byte ∷ []; place = place } ∷ behind

abbrev pub with_byte : Bool → Class → Place → ℕ → Bool → List Token → List Token
with_byte true class place byte more behind = behind
with_byte false Blank place byte more behind = behind
with_byte false Semicolon place byte more behind = behind
with_byte false Parenthesis place byte more behind = record { word = byte ∷ []; place = place } ∷ behind
with_byte false Run place byte more behind = joined more place byte behind

-- the tokens of bytes, which stand in a comment at first or don't
abbrev pub tokens : Bool → Place → List ℕ → List Token
tokens comment place [] = []
tokens comment place (byte ∷ bytes) = with_byte comment (class_of byte) place byte (begins_run bytes) (tokens (in_comment comment byte) (next_place place byte) bytes)

-- what is left of a text, and its place
pub record Rest : Type 0 where
  pub bytes : List ℕ
  pub place : Place

abbrev pub tokens_of : Rest → List Token
tokens_of rest = tokens false rest.place rest.bytes

abbrev pub end_of : Rest → Place
end_of rest = place_after rest.place rest.bytes

-- nothing is left, or a token comes next
abbrev pub is_token : Class → Bool
is_token Run = true
is_token Parenthesis = true
is_token _ = false

abbrev pub begins_token : List ℕ → Bool
begins_token [] = true
begins_token (byte ∷ bytes) = is_token (class_of byte)
