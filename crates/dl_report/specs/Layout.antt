-- What a report says: lines of words.
use Rattle.std.specs.Prelude.{ℕ, suc, ◌+◌, ℤ, pos, negsuc, nat_lt, decimal, codes, if◌then◌else◌, Option, Some, None, List, [], ◌∷◌, ◌++◌, map, slice_get, unwrap_or}
use Rattle.std.specs.List.{concat, join_with_byte}
use Rattle.std.specs.Fmt.{signed_decimal}
use Rattle.dl_model.specs.declared.history.Call.{Call}
use Rattle.dl_model.specs.declared.history.Call.TheVariants as call
use Rattle.dl_model.specs.declared.history.Reply.{Reply}
use Rattle.dl_model.specs.declared.history.Reply.TheVariants.{Sent, Got, Miss, Value}
use Rattle.dl_model.specs.declared.history.Entry.{Entry}
use Rattle.dl_model.specs.declared.history.Order.{Order}
use Rattle.dl_model.specs.declared.history.Order.TheVariants.{Oldest, Newest, Seed}
use Rattle.dl_model.specs.declared.history.End.{End}
use Rattle.dl_model.specs.declared.history.End.TheVariants.{Ended, Stopped, Spent, Waiting}
use Rattle.dl_model.specs.declared.protocol.Tag.{Tag}
use Rattle.dl_model.specs.declared.protocol.FieldDecl.{FieldDecl}
use Rattle.dl_model.specs.declared.file.Decls.{Decls}
use Rattle.dl_model.specs.Lookup.{protocol_at}
use Rattle.dl_model.specs.Machine.{listed}
use Rattle.dl_model.specs.Words.{first_name}

abbrev pub Text : Type 0
Text = List ℕ

-- how the program of a node ended, with its units
abbrev pub Ending : Type 0
Ending = record { 0 : ℕ; 1 : End; 2 : ℕ }

-- a line: words with a blank between two of them, and LF
abbrev pub line_of : List Text → Text
line_of words = join_with_byte 32 words ++ (10 ∷ [])

-- the text of a name's number; nothing where there is none
abbrev pub name_at : List Text → ℕ → Text
name_at names sym = unwrap_or (slice_get names sym) []

abbrev pub name_of : {X : Type 0} → List Text → (X → ℕ) → Option X → Text
name_of names sym (Some x) = name_at names (sym x)
name_of names sym None = []

-- ---- the first line

abbrev pub order_word : Order → Text
order_word Oldest = codes "oldest"
order_word Newest = codes "newest"
order_word (Seed seed) = codes "seed:" ++ decimal seed

abbrev pub head_words : ℕ → Order → List Text
head_words budget order = codes "run" ∷ codes "budget" ∷ decimal budget ∷ codes "order" ∷ order_word order ∷ []

-- ---- words that name nodes, labels, tags and fields, and numbers

abbrev pub node_word : List Text → ℕ → Text
node_word names node = name_at names (first_name + node)

abbrev pub label_word : List Text → Decls → ℕ → Text
label_word names decls label = name_of names (λ sym. sym) (slice_get decls.labels label)

-- a label and a tag of its protocol
abbrev pub tag_word : List Text → Decls → ℕ → ℕ → Text
tag_word names decls label tag =
    label_word names decls label ++ (46 ∷ name_of names (λ (t : Tag). t.sym) (slice_get (protocol_at decls.inst label).tags tag))

-- a label and a field of its protocol
abbrev pub field_word : List Text → Decls → ℕ → ℕ → Text
field_word names decls label field =
    label_word names decls label ++ (46 ∷ name_of names (λ (f : FieldDecl). f.sym) (slice_get (protocol_at decls.inst label).fields field))

-- an addressee: the name of a node, or the number where it is no node
abbrev pub addressee_word : List Text → Decls → ℤ → Text
addressee_word names decls (pos n) = if nat_lt n decls.inst.nodes then node_word names n else decimal n
addressee_word names decls (negsuc n) = signed_decimal (negsuc n)

abbrev pub index_words : Option ℤ → List Text
index_words (Some index) = signed_decimal index ∷ []
index_words None = []

-- ---- entries and ends

abbrev pub call_words : List Text → Decls → Call → List Text
call_words names decls (call.Send label tag to args) =
    codes "send" ∷ tag_word names decls label tag ∷ addressee_word names decls to ∷ map signed_decimal (listed args)
call_words names decls (call.Poll label tag) = codes "poll" ∷ tag_word names decls label tag ∷ []
call_words names decls (call.Await label tag) = codes "await" ∷ tag_word names decls label tag ∷ []
call_words names decls (call.Read label field index) = codes "read" ∷ field_word names decls label field ∷ index_words index

abbrev pub reply_words : List Text → Reply → List Text
reply_words names (Sent id) = decimal id ∷ []
reply_words names (Got id from args) = decimal id ∷ codes "from" ∷ node_word names from ∷ map signed_decimal (listed args)
reply_words names Miss = codes "miss" ∷ []
reply_words names (Value v) = signed_decimal v ∷ []

abbrev pub entry_words : List Text → Decls → ℕ → Entry → List Text
entry_words names decls number entry =
    decimal number ∷ node_word names entry.node ∷ decimal entry.ticks ∷
    (call_words names decls entry.call ++ (codes "->" ∷ reply_words names entry.reply))

abbrev pub end_words : End → List Text
end_words (Ended v) = codes "ended" ∷ signed_decimal v ∷ []
end_words Stopped = codes "stopped" ∷ []
end_words Spent = codes "spent" ∷ []
end_words Waiting = codes "waiting" ∷ []

abbrev pub ending_words : List Text → Ending → List Text
ending_words names ending =
    codes "end" ∷ node_word names ending.0 ∷ (end_words ending.1 ++ (codes "units" ∷ decimal ending.2 ∷ []))

-- ---- the report

-- the lines of entries, which are numbered on
abbrev pub entry_lines : List Text → Decls → ℕ → List Entry → List Text
entry_lines names decls number [] = []
entry_lines names decls number (entry ∷ entries) = line_of (entry_words names decls number entry) ∷ entry_lines names decls (suc number) entries

abbrev pub end_lines : List Text → List Ending → List Text
end_lines names ends = map (λ ending. line_of (ending_words names ending)) ends

-- the first line, a line for each entry, from number 1 on, and a line for each end
abbrev pub report_lines : List Text → Decls → ℕ → Order → List Entry → List Ending → List Text
report_lines names decls budget order entries ends =
    line_of (head_words budget order) ∷ (entry_lines names decls 1 entries ++ end_lines names ends)

abbrev pub report_of : List Text → Decls → ℕ → Order → List Entry → List Ending → Text
report_of names decls budget order entries ends = concat (report_lines names decls budget order entries ends)
