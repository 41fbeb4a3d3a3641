-- The words of a line, read one after the other. The private calls of the reader give these.
use Rattle.std.specs.Prelude.{ℕ, zero, suc, ◌^◌, ℤ, pos, nat_lt, bytes_eq, Bool, true, false, not, ◌&&◌, ◌==◌, codes, if◌then◌else◌, Option, Some, None, List, [], ◌∷◌, map, length, slice_get}
use Rattle.std.specs.Option.{option_map, option_and_then}
use Rattle.std.specs.Str.Parse.{digits_value}
use Rattle.dl_tree.specs.Word.{is_natural, is_number, value_of, fits_i64}
use Rattle.dl_model.specs.declared.history.Args.{Args}
use Rattle.dl_model.specs.declared.history.Call.{Call}
use Rattle.dl_model.specs.declared.history.Call.TheVariants as call
use Rattle.dl_model.specs.declared.history.Reply.{Reply}
use Rattle.dl_model.specs.declared.history.Reply.TheVariants.{Sent, Got, Miss, Value}
use Rattle.dl_model.specs.declared.history.Entry.{Entry}
use Rattle.dl_model.specs.declared.history.Order.{Order}
use Rattle.dl_model.specs.declared.history.Order.TheVariants.{Oldest, Newest, Seed}
use Rattle.dl_model.specs.declared.history.End.{End}
use Rattle.dl_model.specs.declared.history.End.TheVariants.{Ended, Stopped, Spent, Waiting}
use Rattle.dl_model.specs.declared.protocol.Tag.{Tag}
use Rattle.dl_model.specs.declared.protocol.FieldDecl.{FieldDecl}
use Rattle.dl_model.specs.declared.file.Decls.{Decls}
use Rattle.dl_model.specs.Sorts.{is_node}
use Rattle.dl_model.specs.Lookup.{protocol_at, tag_at}
use Rattle.dl_model.specs.Machine.{packed}
use Rattle.dl_report.specs.declared.call.Kind.{Kind}
use Rattle.dl_report.specs.declared.call.Kind.TheVariants as kind
use Rattle.dl_report.specs.Layout.{Text, Ending, name_at, node_word}

-- ---- pieces

-- what stands before the first byte of this kind and behind it
abbrev pub cut : ℕ → Text → Option (Text × Text)
cut byte [] = None
cut byte (b ∷ bs) = if b == byte then Some ([], bs) else option_map (λ parts. (b ∷ parts.0, parts.1)) (cut byte bs)

abbrev pub is_other : ℕ → ℕ → Bool
is_other byte b = not (b == byte)

-- goes on with what was read and the words behind it
abbrev pub behind : {X Y : Type 0} → Option (X × List Text) → (X → List Text → Option Y) → Option Y
behind (Some found) next = next found.0 found.1
behind None next = None

abbrev pub with_rest : {X : Type 0} → Option X → List Text → Option (X × List Text)
with_rest (Some x) words = Some (x, words)
with_rest None words = None

-- one word
abbrev pub word_from : {X : Type 0} → (Text → Option X) → List Text → Option (X × List Text)
word_from read [] = None
word_from read (word ∷ words) = with_rest (read word) words

abbrev pub is_next : Text → List Text → Bool
is_next word [] = false
is_next word (next ∷ words) = bytes_eq next word

abbrev pub rest_of : List Text → List Text
rest_of [] = []
rest_of (word ∷ words) = words

abbrev pub at_end : {X : Type 0} → X → List Text → Option X
at_end x [] = Some x
at_end x (word ∷ words) = None

-- ---- numbers

abbrev pub natural_in : Text → Option ℕ
natural_in word = if is_natural word && nat_lt (digits_value 10 word) (2 ^ 64) then Some (digits_value 10 word) else None

abbrev pub if_small : ℕ → Option ℕ
if_small n = if nat_lt n (2 ^ 32) then Some n else None

abbrev pub small_in : Text → Option ℕ
small_in word = option_and_then if_small (natural_in word)

abbrev pub integer_in : Text → Option ℤ
integer_in word = if is_number word && fits_i64 (value_of word) then Some (value_of word) else None

abbrev pub integers_from : ℕ → List Text → Option (List ℤ × List Text)
integers_from zero words = Some ([], words)
integers_from (suc count) words =
    behind (word_from integer_in words) (λ v rest. behind (integers_from count rest) (λ vs last. Some (v ∷ vs, last)))

abbrev pub args_from : ℕ → List Text → Option (Args × List Text)
args_from count words = behind (integers_from count words) (λ vs rest. Some (packed vs, rest))

-- ---- names

abbrev pub node_from : List Text → Text → ℕ → ℕ → Option ℕ
node_from names word node zero = None
node_from names word node (suc count) = if bytes_eq (node_word names node) word then Some node else node_from names word (suc node) count

-- the node of this name
abbrev pub node_in : List Text → Decls → Text → Option ℕ
node_in names decls word = node_from names word 0 decls.inst.nodes

-- the place of the first number that has this text
abbrev pub place_in : List Text → Text → List ℕ → Option ℕ
place_in names word [] = None
place_in names word (sym ∷ syms) = if bytes_eq (name_at names sym) word then Some 0 else option_map (λ at. suc at) (place_in names word syms)

abbrev pub tag_in : List Text → Decls → ℕ → Text → Option ℕ
tag_in names decls label word = place_in names word (map (λ (t : Tag). t.sym) (protocol_at decls.inst label).tags)

abbrev pub row_of : ℕ → Option FieldDecl → Option (ℕ × Bool)
row_of at (Some field) = Some (at, field.row)
row_of at None = None

abbrev pub with_row : List FieldDecl → Option ℕ → Option (ℕ × Bool)
with_row fields (Some at) = row_of at (slice_get fields at)
with_row fields None = None

-- the first field that has this text, and whether it is a row
abbrev pub field_in : List Text → Decls → ℕ → Text → Option (ℕ × Bool)
field_in names decls label word =
    with_row (protocol_at decls.inst label).fields (place_in names word (map (λ (f : FieldDecl). f.sym) (protocol_at decls.inst label).fields))

-- the label that stands before the dot, and what stands behind it
abbrev pub label_in : List Text → Decls → Text → Option (ℕ × Text)
label_in names decls word =
    option_and_then (λ parts. option_map (λ label. (label, parts.1)) (place_in names parts.0 decls.labels)) (cut 46 word)

-- a number that is no node
abbrev pub if_no_node : Decls → ℤ → Option ℤ
if_no_node decls v = if is_node decls.inst.nodes v then None else Some v

abbrev pub addressee_of : Decls → Text → Option ℕ → Option ℤ
addressee_of decls word (Some node) = Some (pos node)
addressee_of decls word None = option_and_then (if_no_node decls) (integer_in word)

abbrev pub addressee_in : List Text → Decls → Text → Option ℤ
addressee_in names decls word = addressee_of decls word (node_in names decls word)

-- ---- calls

abbrev pub kind_in : Text → Option Kind
kind_in word =
    if bytes_eq word (codes "send") then Some kind.Send
    else (if bytes_eq word (codes "poll") then Some kind.Poll
    else (if bytes_eq word (codes "await") then Some kind.Await
    else (if bytes_eq word (codes "read") then Some kind.Read else None)))

-- how many arguments a tag has
abbrev pub args_of : Decls → ℕ → ℕ → ℕ
args_of decls label tag = length (tag_at decls.inst label tag).args

abbrev pub send_from : List Text → Decls → ℕ → ℕ → List Text → Option (Call × List Text)
send_from names decls label tag words =
    behind (word_from (addressee_in names decls) words) (λ to rest.
    behind (args_from (args_of decls label tag) rest) (λ args last. Some (call.Send label tag to args, last)))

-- with an index exactly where the field is a row
abbrev pub read_from : ℕ → ℕ → Bool → List Text → Option (Call × List Text)
read_from label field true words = behind (word_from integer_in words) (λ index rest. Some (call.Read label field (Some index), rest))
read_from label field false words = Some (call.Read label field None, words)

abbrev pub call_of : List Text → Decls → Kind → ℕ → Text → List Text → Option (Call × List Text)
call_of names decls kind.Send label word words = option_and_then (λ tag. send_from names decls label tag words) (tag_in names decls label word)
call_of names decls kind.Poll label word words = option_map (λ tag. (call.Poll label tag, words)) (tag_in names decls label word)
call_of names decls kind.Await label word words = option_map (λ tag. (call.Await label tag, words)) (tag_in names decls label word)
call_of names decls kind.Read label word words = option_and_then (λ (found : ℕ × Bool). read_from label found.0 found.1 words) (field_in names decls label word)

abbrev pub call_from : List Text → Decls → List Text → Option (Call × List Text)
call_from names decls words =
    behind (word_from kind_in words) (λ which rest.
    behind (word_from (label_in names decls) rest) (λ place last. call_of names decls which place.0 place.1 last))

-- ---- replies

abbrev pub got_by : List Text → Decls → ℕ → ℕ → List Text → Option (Reply × List Text)
got_by names decls count id words =
    behind (word_from (node_in names decls) words) (λ from rest.
    behind (args_from count rest) (λ args last. Some (Got id from args, last)))

abbrev pub got_behind : List Text → Decls → ℕ → ℕ → List Text → Option (Reply × List Text)
got_behind names decls count id words = if is_next (codes "from") words then got_by names decls count id (rest_of words) else None

abbrev pub got_from : List Text → Decls → ℕ → List Text → Option (Reply × List Text)
got_from names decls count words = behind (word_from small_in words) (λ id rest. got_behind names decls count id rest)

abbrev pub polled_from : List Text → Decls → ℕ → List Text → Option (Reply × List Text)
polled_from names decls count [] = None
polled_from names decls count (word ∷ words) =
    if bytes_eq word (codes "miss") then Some (Miss, words) else behind (with_rest (small_in word) words) (λ id rest. got_behind names decls count id rest)

abbrev pub reply_from : List Text → Decls → Call → List Text → Option (Reply × List Text)
reply_from names decls (call.Send label tag to args) words = behind (word_from small_in words) (λ id rest. Some (Sent id, rest))
reply_from names decls (call.Poll label tag) words = polled_from names decls (args_of decls label tag) words
reply_from names decls (call.Await label tag) words = got_from names decls (args_of decls label tag) words
reply_from names decls (call.Read label field index) words = behind (word_from integer_in words) (λ v rest. Some (Value v, rest))

-- ---- lines

-- what stands behind the call of an entry
abbrev pub entry_behind : List Text → Decls → ℕ → ℕ → Call → List Text → Option Entry
entry_behind names decls node ticks made words =
    if is_next (codes "->") words
    then behind (reply_from names decls made (rest_of words)) (λ reply last. at_end (record { node = node; ticks = ticks; call = made; reply = reply }) last)
    else None

-- what stands behind the number of an entry
abbrev pub entry_by : List Text → Decls → List Text → Option Entry
entry_by names decls words =
    behind (word_from (node_in names decls) words) (λ node rest.
    behind (word_from small_in rest) (λ ticks more.
    behind (call_from names decls more) (λ made last. entry_behind names decls node ticks made last)))

abbrev pub entry_in : List Text → Decls → ℕ → List Text → Option Entry
entry_in names decls number words = behind (word_from natural_in words) (λ n rest. if n == number then entry_by names decls rest else None)

abbrev pub state_from : List Text → Option (End × List Text)
state_from [] = None
state_from (word ∷ words) =
    if bytes_eq word (codes "ended") then behind (word_from integer_in words) (λ v rest. Some (Ended v, rest))
    else (if bytes_eq word (codes "stopped") then Some (Stopped, words)
    else (if bytes_eq word (codes "spent") then Some (Spent, words)
    else (if bytes_eq word (codes "waiting") then Some (Waiting, words) else None)))

-- what stands behind the state of an end
abbrev pub ending_behind : ℕ → End → List Text → Option Ending
ending_behind node end words =
    if is_next (codes "units") words then behind (word_from small_in (rest_of words)) (λ units last. at_end (node, end, units) last) else None

abbrev pub ending_by : List Text → Decls → List Text → Option Ending
ending_by names decls words =
    behind (word_from (node_in names decls) words) (λ node rest. behind (state_from rest) (λ end last. ending_behind node end last))

abbrev pub ending_in : List Text → Decls → List Text → Option Ending
ending_in names decls words = if is_next (codes "end") words then ending_by names decls (rest_of words) else None

-- an order of delivery
abbrev pub seed_of : Option (Text × Text) → Option Order
seed_of (Some parts) = if bytes_eq parts.0 (codes "seed") then option_map (λ seed. Seed seed) (natural_in parts.1) else None
seed_of None = None

abbrev pub order_in : Text → Option Order
order_in word =
    if bytes_eq word (codes "oldest") then Some Oldest
    else (if bytes_eq word (codes "newest") then Some Newest else seed_of (cut 58 word))

abbrev pub head_behind : ℕ → List Text → Option (ℕ × Order)
head_behind budget words =
    if is_next (codes "order") words then behind (word_from order_in (rest_of words)) (λ order last. at_end (budget, order) last) else None

abbrev pub head_by : List Text → Option (ℕ × Order)
head_by words =
    if is_next (codes "budget") words then behind (word_from small_in (rest_of words)) (λ budget last. head_behind budget last) else None

abbrev pub head_in : List Text → Option (ℕ × Order)
head_in words = if is_next (codes "run") words then head_by (rest_of words) else None
