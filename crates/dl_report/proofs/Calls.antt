-- Calls and replies: what is written is read again, and only that.
use Rattle.std.proofs.Common.{◌≡◌, ℕ, zero, suc, ◌+◌, ◌-◌, ◌≤◌, ◌<◌, ◌^◌, ℤ, pos, Bool, true, false, not, ◌&&◌, ◌++◌, List, [], ◌∷◌, map, length, take, Option, Some, None, slice_get, is_some, bytes_eq, codes, refl, sym, ap, ◌∙◌, subst, arith, decimal, append-nil, append_assoc, ◌⊎◌, inl, inr}
use Rattle.std.specs.Prelude.{replicate, if◌then◌else◌}
use Rattle.std.proofs.lemmas.Bool.Decides.{nat_tests}
use Rattle.std.proofs.lemmas.Option.{option_and_then_some, some_pair_parts, same_Some, slice_get_within}
use Rattle.std.specs.Fmt.{signed_decimal}
use Rattle.std.specs.List.{list_all, AllByRecursion as Each}
use Rattle.std.specs.Option.{option_map, option_and_then}
use Rattle.dl_tree.specs.Word.{is_name}
use Rattle.dl_model.specs.declared.history.Args.{Args}
use Rattle.dl_model.specs.declared.history.Call.{Call}
use Rattle.dl_model.specs.declared.history.Call.TheVariants as call
use Rattle.dl_model.specs.declared.history.Reply.{Reply}
use Rattle.dl_model.specs.declared.history.Reply.TheVariants.{Sent, Got, Miss, Value}
use Rattle.dl_model.specs.declared.protocol.Tag.{Tag}
use Rattle.dl_model.specs.declared.protocol.FieldDecl.{FieldDecl}
use Rattle.dl_model.specs.declared.file.Decls.{Decls}
use Rattle.dl_model.specs.Sorts.{is_i64, all_i64}
use Rattle.dl_model.specs.Lookup.{protocol_at, tag_at}
use Rattle.dl_model.specs.Scopes.{is_field, is_field_with}
use Rattle.dl_model.specs.Machine.{listed, packed}
use Rattle.dl_report.specs.declared.call.Kind.{Kind}
use Rattle.dl_report.specs.declared.call.Kind.TheVariants as kind
use Rattle.dl_report.specs.Layout.{Text, name_at, name_of, node_word, label_word, tag_word, field_word, addressee_word, index_words, call_words, reply_words}
use Rattle.dl_report.specs.Fitting.{NamesAreKnown, IsTag, ArgsFit, IndexFits, ReadFits, SendFits, GotFits, CallFits, ReplyFits}
use Rattle.dl_report.specs.Small.{IsSmall}
use Rattle.dl_report.specs.Ready.{IsReady}
use Rattle.dl_report.specs.Reading.{behind, with_rest, word_from, is_next, rest_of, small_in, integer_in, integers_from, args_from, node_in, place_in, tag_in, row_of, with_row, field_in, label_in, addressee_in, kind_in, args_of, send_from, read_from, call_of, call_from, got_by, got_behind, got_from, polled_from, reply_from}
use Rattle.dl_report.proofs.Pieces.{decide, negated, and_parts, and_both, is_above, IsPlain, plain-append}
use Rattle.dl_report.proofs.Numbers.{natural_read, small_read, small_written, integer_read, integer_written, decimal_plain, signed_plain}
use Rattle.dl_report.proofs.NameWords.{text_is, node_read, node_written, node_plain, addressee_read, addressee_written, addressee_plain, there, named_read, named_written, named_plain, label_read, label_written, label_plain}
use Rattle.dl_report.proofs.Chain.{behind_found, rest_found, word_found, if_found, next_found, mapped_found, choice}

-- ---- arguments

integers_read : (count : ℕ) (vs : List ℤ) (rest : List Text) → length vs ≡ count → all_i64 vs ≡ true → integers_from count (map signed_decimal vs ++ rest) ≡ Some (vs, rest)
integers_read zero [] rest many good = refl
integers_read zero (v ∷ vs) rest many good = absurd (omega arith)
integers_read (suc count) [] rest many good = absurd (omega arith)
integers_read (suc count) (v ∷ vs) rest many good =
    let parts = and_parts (is_i64 v) (list_all is_i64 vs) good in
    rw (integer_read v parts.0, integers_read count vs rest (omega arith) parts.1) refl

-- as many numbers as were to be read, and what stands behind them
record Integers (count : ℕ) (words : List Text) (vs : List ℤ) (rest : List Text) : Type 0 where
  text : words ≡ map signed_decimal vs ++ rest
  many : length vs ≡ count
  good : all_i64 vs ≡ true

integers_written : (count : ℕ) (words : List Text) (vs : List ℤ) (rest : List Text) → integers_from count words ≡ Some (vs, rest) → Integers count words vs rest
integers_written zero words vs rest e =
    let parts = some_pair_parts [] vs words rest e in
    subst (λ (l : List ℤ). Integers zero words l rest) parts.0 (record { text = parts.1; many = refl; good = refl })
integers_written (suc count) words vs rest e =
    let first = behind_found (word_from integer_in words) (λ v more. behind (integers_from count more) (λ vs last. Some (v ∷ vs, last))) (vs, rest) e in
    let word = word_found integer_in words first.0 first.1 first.2 in
    let others = behind_found (integers_from count first.1) (λ vs last. Some (first.0 ∷ vs, last)) (vs, rest) first.3 in
    let parts = some_pair_parts (first.0 ∷ others.0) vs others.1 rest others.3 in
    let number = integer_written word.0 first.0 word.2 in
    let more = integers_written count first.1 others.0 others.1 others.2 in
    subst (λ (l : List ℤ). Integers (suc count) words l rest) parts.0 (record {
      text = word.1 ∙ (ap (λ w. w ∷ first.1) (sym number.0) ∙ ap (λ l. signed_decimal first.0 ∷ l) (more.text ∙ ap (λ l. map signed_decimal others.0 ++ l) parts.1));
      many = ap suc more.many;
      good = and_both (is_i64 first.0) (list_all is_i64 others.0) number.1 more.good;
    })

take_front : (vs ws : List ℤ) → take (length vs) (vs ++ ws) ≡ vs
take_front [] ws = refl
take_front (v ∷ vs) ws = ap (λ l. v ∷ l) (take_front vs ws)

listed_packed : (vs : List ℤ) → listed (packed vs) ≡ vs
listed_packed vs = take_front vs (replicate (8 - length vs) (pos 0))

args_read : (decls : Decls) (label tag : ℕ) (args : Args) (rest : List Text) → ArgsFit decls label tag args →
    args_from (args_of decls label tag) (map signed_decimal (listed args) ++ rest) ≡ Some (args, rest)
args_read decls label tag args rest fits =
    ap (λ found. behind found (λ (vs : List ℤ) (last : List Text). Some (packed vs, last))) (integers_read (args_of decls label tag) (listed args) rest fits.many fits.numbers)
    ∙ ap (λ (a : Args). Some (a, rest)) (sym fits.filled)

args_written : (decls : Decls) (label tag : ℕ) (words : List Text) (args : Args) (rest : List Text) → args_from (args_of decls label tag) words ≡ Some (args, rest) →
    (words ≡ map signed_decimal (listed args) ++ rest) × ArgsFit decls label tag args
args_written decls label tag words args rest e =
    let found = behind_found (integers_from (args_of decls label tag) words) (λ vs last. Some (packed vs, last)) (args, rest) e in
    let parts = some_pair_parts (packed found.0) args found.1 rest found.3 in
    let all = integers_written (args_of decls label tag) words found.0 found.1 found.2 in
    let list = listed_packed found.0 in
    subst (λ (a : Args). (words ≡ map signed_decimal (listed a) ++ rest) × ArgsFit decls label tag a) parts.0 (
      all.text ∙ (ap (λ l. map signed_decimal found.0 ++ l) parts.1 ∙ ap (λ l. map signed_decimal l ++ rest) (sym list)),
      record { filled = ap packed (sym list); many = ap length list ∙ all.many; numbers = ap all_i64 list ∙ all.good },
    )

numbers_plain : (vs : List ℤ) → all_i64 vs ≡ true → Each IsPlain (map signed_decimal vs)
numbers_plain [] good = tt
numbers_plain (v ∷ vs) good =
    let parts = and_parts (is_i64 v) (list_all is_i64 vs) good in
    (signed_plain v parts.0, numbers_plain vs parts.1)

-- ---- calls

module _ (names : List Text) (decls : Decls) (ready : IsReady names decls) where
  abbrev tag_name : ℕ → ℕ → Text
  tag_name label tag = name_of names (λ (t : Tag). t.sym) (slice_get (protocol_at decls.inst label).tags tag)

  abbrev field_name : ℕ → ℕ → Text
  field_name label field = name_of names (λ (f : FieldDecl). f.sym) (slice_get (protocol_at decls.inst label).fields field)

  tag_read : (label tag : ℕ) → IsTag decls label tag → tag_in names decls label (tag_name label tag) ≡ Some tag
  tag_read label tag is =
      let tags = (protocol_at decls.inst label).tags in
      let found = there tags tag is.has_tag in
      named_read names decls ready.known (λ (t : Tag). t.sym) tags tag found.0 found.1 (ready.tags label) (ready.known.tags label)

  tag_written : (label tag : ℕ) (w : Text) → tag_in names decls label w ≡ Some tag → (tag_name label tag ≡ w) × (tag < length (protocol_at decls.inst label).tags)
  tag_written label tag w e =
      let tags = (protocol_at decls.inst label).tags in
      let found = named_written names (λ (t : Tag). t.sym) w tags tag e in
      (found.2, slice_get_within tags tag found.0 found.1)

  tag_plain : (label tag : ℕ) → IsTag decls label tag → IsPlain (tag_word names decls label tag)
  tag_plain label tag is =
      let tags = (protocol_at decls.inst label).tags in
      let found = there tags tag is.has_tag in
      plain-append (label_word names decls label) (46 ∷ tag_name label tag) (label_plain names decls ready.known label is.has_label)
      (and_both true (list_all is_above (tag_name label tag)) refl (named_plain names (λ (t : Tag). t.sym) tags tag found.0 found.1 (ready.known.tags label)).0)

  -- the field, with its row
  is_row : (found : Option FieldDecl) (row : Bool) → is_field_with found row ≡ true → (f : FieldDecl) × (found ≡ Some f) × (f.row ≡ row)
  is_row None row e = cc
  is_row (Some f) true e = (f, refl, e)
  is_row (Some f) false e = (f, refl, negated f.row e)

  row_is : (f : FieldDecl) (row : Bool) → f.row ≡ row → is_field_with (Some f) row ≡ true
  row_is f true e = e
  row_is f false e = rw e refl

  field_read : (label field : ℕ) (row : Bool) → is_field (Some (protocol_at decls.inst label)) field row ≡ true → field_in names decls label (field_name label field) ≡ Some (field, row)
  field_read label field row e =
      let fields = (protocol_at decls.inst label).fields in
      let found = is_row (slice_get fields field) row e in
      ap (with_row fields) (named_read names decls ready.known (λ (f : FieldDecl). f.sym) fields field found.0 found.1 (ready.fields label) (ready.known.fields label))
      ∙ (ap (row_of field) found.1 ∙ ap (λ (b : Bool). Some (field, b)) found.2)

  row_found : (at : ℕ) (found : Option FieldDecl) (field : ℕ) (row : Bool) → row_of at found ≡ Some (field, row) → (at ≡ field) × (is_field_with found row ≡ true)
  row_found at None field row e = cc
  row_found at (Some f) field row e =
      let parts = some_pair_parts at field f.row row e in
      (parts.0, row_is f row parts.1)

  place_found : (fields : List FieldDecl) (place : Option ℕ) (field : ℕ) (row : Bool) → with_row fields place ≡ Some (field, row) →
      (place ≡ Some field) × (is_field_with (slice_get fields field) row ≡ true)
  place_found fields None field row e = cc
  place_found fields (Some at) field row e =
      let found = row_found at (slice_get fields at) field row e in
      (ap Some found.0, subst (λ k. is_field_with (slice_get fields k) row ≡ true) found.0 found.1)

  field_written : (label field : ℕ) (row : Bool) (w : Text) → field_in names decls label w ≡ Some (field, row) →
      (field_name label field ≡ w) × (is_field (Some (protocol_at decls.inst label)) field row ≡ true)
  field_written label field row w e =
      let fields = (protocol_at decls.inst label).fields in
      let found = place_found fields (place_in names w (map (λ (f : FieldDecl). f.sym) fields)) field row e in
      ((named_written names (λ (f : FieldDecl). f.sym) w fields field found.0).2, found.1)

  field_plain : (label field : ℕ) (row : Bool) → label < length decls.labels → is_field (Some (protocol_at decls.inst label)) field row ≡ true → IsPlain (field_word names decls label field)
  field_plain label field row lt e =
      let fields = (protocol_at decls.inst label).fields in
      let found = is_row (slice_get fields field) row e in
      plain-append (label_word names decls label) (46 ∷ field_name label field) (label_plain names decls ready.known label lt)
      (and_both true (list_all is_above (field_name label field)) refl (named_plain names (λ (f : FieldDecl). f.sym) fields field found.0 found.1 (ready.known.fields label)).0)

  -- what is read behind the word of a call's kind
  at_label : (label : ℕ) (back : Text) (k : Kind) (rest : List Text) → label < length decls.labels →
      behind (word_from (label_in names decls) ((label_word names decls label ++ (46 ∷ back)) ∷ rest)) (λ place last. call_of names decls k place.0 place.1 last) ≡ call_of names decls k label back rest
  at_label label back k rest lt =
      ap (λ found. behind (with_rest found rest) (λ (place : ℕ × Text) (last : List Text). call_of names decls k place.0 place.1 last)) (label_read names decls ready.known ready.labels label back lt)

  send_read : (label tag : ℕ) (to : ℤ) (args : Args) (rest : List Text) → SendFits decls label tag to args →
      send_from names decls label tag (addressee_word names decls to ∷ (map signed_decimal (listed args) ++ rest)) ≡ Some (call.Send label tag to args, rest)
  send_read label tag to args rest fits =
      ap (λ found. behind (with_rest found (map signed_decimal (listed args) ++ rest))
      (λ (to : ℤ) (words : List Text). behind (args_from (args_of decls label tag) words) (λ args last. Some (call.Send label tag to args, last)))) (addressee_read names decls ready.known to fits.range)
      ∙ ap (λ found. behind found (λ (args : Args) (last : List Text). Some (call.Send label tag to args, last))) (args_read decls label tag args rest fits.args_fit)

  index_read : (label field : ℕ) (index : Option ℤ) (rest : List Text) → IndexFits index → read_from label field (is_some index) (index_words index ++ rest) ≡ Some (call.Read label field index, rest)
  index_read label field (Some index) rest fits =
      ap (λ found. behind (with_rest found rest) (λ (index : ℤ) (last : List Text). Some (call.Read label field (Some index), last))) (integer_read index fits)
  index_read label field None rest fits = refl

  pub call_read : (c : Call) (rest : List Text) → CallFits decls c → call_from names decls (call_words names decls c ++ rest) ≡ Some (c, rest)
  call_read (call.Send label tag to args) rest fits =
      let words = addressee_word names decls to ∷ (map signed_decimal (listed args) ++ rest) in
      at_label label (tag_name label tag) kind.Send words fits.known.has_label
      ∙ (ap (option_and_then (λ (t : ℕ). send_from names decls label t words)) (tag_read label tag fits.known) ∙ send_read label tag to args rest fits)
  call_read (call.Poll label tag) rest fits =
      at_label label (tag_name label tag) kind.Poll rest fits.has_label ∙ ap (option_map (λ (t : ℕ). (call.Poll label t, rest))) (tag_read label tag fits)
  call_read (call.Await label tag) rest fits =
      at_label label (tag_name label tag) kind.Await rest fits.has_label ∙ ap (option_map (λ (t : ℕ). (call.Await label t, rest))) (tag_read label tag fits)
  call_read (call.Read label field index) rest fits =
      let words = index_words index ++ rest in
      at_label label (field_name label field) kind.Read words fits.has_label
      ∙ (ap (option_and_then (λ (found : ℕ × Bool). read_from label found.0 found.1 words)) (field_read label field (is_some index) fits.has_field) ∙ index_read label field index rest fits.index_fits)

  pub call_plain : (c : Call) → CallFits decls c → Each IsPlain (call_words names decls c)
  call_plain (call.Send label tag to args) fits =
      (refl, (tag_plain label tag fits.known, (addressee_plain names decls ready.known to fits.range, numbers_plain (listed args) fits.args_fit.numbers)))
  call_plain (call.Poll label tag) fits = (refl, (tag_plain label tag fits, tt))
  call_plain (call.Await label tag) fits = (refl, (tag_plain label tag fits, tt))
  call_plain (call.Read label field (Some index)) fits = (refl, (field_plain label field true fits.has_label fits.has_field, (signed_plain index fits.index_fits, tt)))
  call_plain (call.Read label field None) fits = (refl, (field_plain label field false fits.has_label fits.has_field, tt))

  -- what a call was read from
  abbrev IsCall : List Text → Call → List Text → Type 0
  IsCall words c rest = (words ≡ call_words names decls c ++ rest) × CallFits decls c

  -- the word of a kind
  abbrev kind_word : Kind → Text
  kind_word kind.Send = codes "send"
  kind_word kind.Poll = codes "poll"
  kind_word kind.Await = codes "await"
  kind_word kind.Read = codes "read"

  abbrev after_await : Text → Option Kind
  after_await w = if bytes_eq w (codes "read") then Some kind.Read else None

  abbrev after_poll : Text → Option Kind
  after_poll w = if bytes_eq w (codes "await") then Some kind.Await else after_await w

  abbrev after_send : Text → Option Kind
  after_send w = if bytes_eq w (codes "poll") then Some kind.Poll else after_poll w

  kind_written : (w : Text) (k : Kind) → kind_in w ≡ Some k → w ≡ kind_word k
  kind_written w k e = elim (choice (bytes_eq w (codes "send")) kind.Send k (after_send w) e) [
    | inl is ↦ text_is w (codes "send") is.0 ∙ ap kind_word is.1
    | inr not_so ↦ elim (choice (bytes_eq w (codes "poll")) kind.Poll k (after_poll w) not_so.1) [
      | inl is ↦ text_is w (codes "poll") is.0 ∙ ap kind_word is.1
      | inr not_so ↦ elim (choice (bytes_eq w (codes "await")) kind.Await k (after_await w) not_so.1) [
        | inl is ↦ text_is w (codes "await") is.0 ∙ ap kind_word is.1
        | inr not_so ↦
            (let last = if_found (bytes_eq w (codes "read")) (Some kind.Read) k not_so.1 in
            text_is w (codes "read") last.0 ∙ ap kind_word (same_Some kind.Read k last.1))
      ]
    ]
  ]

  -- the words of a call with this label, and what stands behind it
  abbrev begun : Kind → ℕ → Text → List Text → List Text
  begun k label back last = kind_word k ∷ (label_word names decls label ++ (46 ∷ back)) ∷ last

  tagged : (k : Kind) (make : ℕ → Call) (label : ℕ) (back : Text) (last : List Text) (c : Call) (rest : List Text) → label < length decls.labels →
      ((tag : ℕ) → call_words names decls (make tag) ≡ kind_word k ∷ tag_word names decls label tag ∷ []) → ((tag : ℕ) → IsTag decls label tag → CallFits decls (make tag)) →
      option_map {U = Call × List Text} (λ (t : ℕ). (make t, last)) (tag_in names decls label back) ≡ Some (c, rest) → IsCall (begun k label back last) c rest
  tagged k make label back last c rest lt words fits e =
      let found = mapped_found {Y = Call × List Text} (λ (t : ℕ). (make t, last)) (tag_in names decls label back) (c, rest) e in
      let tag = tag_written label found.0 back found.1 in
      let same : make found.0 ≡ c = ap (λ (p : Call × List Text). p.0) found.2 in
      let behind : last ≡ rest = ap (λ (p : Call × List Text). p.1) found.2 in
      subst (λ (d : Call). IsCall (begun k label back last) d rest) same (
        ap (λ b. begun k label b last) (sym tag.0) ∙ (ap (begun k label (tag_name label found.0)) behind ∙ ap (λ l. l ++ rest) (sym (words found.0))),
        fits found.0 (record { has_label = lt; has_tag = tag.1 }),
      )

  sent : (label tag : ℕ) (back : Text) (last : List Text) (c : Call) (rest : List Text) → IsTag decls label tag → tag_name label tag ≡ back →
      send_from names decls label tag last ≡ Some (c, rest) → IsCall (begun kind.Send label back last) c rest
  sent label tag back last c rest is name e =
      let to = behind_found (word_from (addressee_in names decls) last)
      (λ (to : ℤ) (more : List Text). behind (args_from (args_of decls label tag) more) (λ args last. Some (call.Send label tag to args, last))) (c, rest) e in
      let word = word_found (addressee_in names decls) last to.0 to.1 to.2 in
      let args = behind_found (args_from (args_of decls label tag) to.1) (λ args last. Some (call.Send label tag to.0 args, last)) (c, rest) to.3 in
      let same : call.Send label tag to.0 args.0 ≡ c = ap (λ (p : Call × List Text). p.0) (same_Some (call.Send label tag to.0 args.0, args.1) (c, rest) args.3) in
      let behind : args.1 ≡ rest = ap (λ (p : Call × List Text). p.1) (same_Some (call.Send label tag to.0 args.0, args.1) (c, rest) args.3) in
      let addressee = addressee_written names decls ready.small word.0 to.0 word.2 in
      let all = args_written decls label tag to.1 args.0 args.1 args.2 in
      subst (λ (d : Call). IsCall (begun kind.Send label back last) d rest) same (
        ap (λ b. begun kind.Send label b last) (sym name) ∙ ap (begun kind.Send label (tag_name label tag))
            (word.1 ∙ (ap (λ w. w ∷ to.1) (sym addressee.0) ∙ ap (λ l. addressee_word names decls to.0 ∷ l) (all.0 ∙ ap (λ l. map signed_decimal (listed args.0) ++ l) behind))),
        record { known = is; range = addressee.1; args_fit = all.1 },
      )

  indexed : (label field : ℕ) (row : Bool) (back : Text) (last : List Text) (c : Call) (rest : List Text) → label < length decls.labels → field_name label field ≡ back →
      is_field (Some (protocol_at decls.inst label)) field row ≡ true → read_from label field row last ≡ Some (c, rest) → IsCall (begun kind.Read label back last) c rest
  indexed label field true back last c rest lt name is e =
      let index = behind_found (word_from integer_in last) (λ index rest. Some (call.Read label field (Some index), rest)) (c, rest) e in
      let word = word_found integer_in last index.0 index.1 index.2 in
      let whole = same_Some (call.Read label field (Some index.0), index.1) (c, rest) index.3 in
      let same : call.Read label field (Some index.0) ≡ c = ap (λ (p : Call × List Text). p.0) whole in
      let behind : index.1 ≡ rest = ap (λ (p : Call × List Text). p.1) whole in
      let number = integer_written word.0 index.0 word.2 in
      subst (λ (d : Call). IsCall (begun kind.Read label back last) d rest) same (
        ap (λ b. begun kind.Read label b last) (sym name) ∙ ap (begun kind.Read label (field_name label field))
            (word.1 ∙ (ap (λ w. w ∷ index.1) (sym number.0) ∙ ap (λ l. signed_decimal index.0 ∷ l) behind)),
        record { has_label = lt; has_field = is; index_fits = number.1 },
      )
  indexed label field false back last c rest lt name is e =
      let whole = same_Some (call.Read label field None, last) (c, rest) e in
      let same : call.Read label field None ≡ c = ap (λ (p : Call × List Text). p.0) whole in
      let behind : last ≡ rest = ap (λ (p : Call × List Text). p.1) whole in
      subst (λ (d : Call). IsCall (begun kind.Read label back last) d rest) same (
        ap (λ b. begun kind.Read label b last) (sym name) ∙ ap (begun kind.Read label (field_name label field)) behind,
        record { has_label = lt; has_field = is; index_fits = tt },
      )

  by_kind : (k : Kind) (label : ℕ) (back : Text) (last : List Text) (c : Call) (rest : List Text) → label < length decls.labels →
      call_of names decls k label back last ≡ Some (c, rest) → IsCall (begun k label back last) c rest
  by_kind kind.Send label back last c rest lt e =
      option_and_then_some (λ (tag : ℕ). send_from names decls label tag last) (tag_in names decls label back) (c, rest) e (λ tag found more.
      let written = tag_written label tag back found in
      sent label tag back last c rest (record { has_label = lt; has_tag = written.1 }) written.0 more)
  by_kind kind.Poll label back last c rest lt e = tagged kind.Poll (call.Poll label) label back last c rest lt (λ tag. refl) (λ tag is. is) e
  by_kind kind.Await label back last c rest lt e = tagged kind.Await (call.Await label) label back last c rest lt (λ tag. refl) (λ tag is. is) e
  by_kind kind.Read label back last c rest lt e =
      option_and_then_some (λ (found : ℕ × Bool). read_from label found.0 found.1 last) (field_in names decls label back) (c, rest) e (λ field found more.
      let written = field_written label field.0 field.1 back found in
      indexed label field.0 field.1 back last c rest lt written.0 written.1 more)

  pub call_written : (words : List Text) (c : Call) (rest : List Text) → call_from names decls words ≡ Some (c, rest) → IsCall words c rest
  call_written words c rest e =
      let first = behind_found (word_from kind_in words) (λ which more. behind (word_from (label_in names decls) more) (λ place last. call_of names decls which place.0 place.1 last)) (c, rest) e in
      let word = word_found kind_in words first.0 first.1 first.2 in
      let second = behind_found (word_from (label_in names decls) first.1) (λ place last. call_of names decls first.0 place.0 place.1 last) (c, rest) first.3 in
      let place = word_found (label_in names decls) first.1 second.0 second.1 second.2 in
      let label = label_written names decls place.0 second.0.0 second.0.1 place.2 in
      let made = by_kind first.0 second.0.0 second.0.1 second.1 c rest label.1 second.3 in
      (word.1 ∙ (ap (λ w. w ∷ first.1) (kind_written word.0 first.0 word.2) ∙ (ap (λ l. kind_word first.0 ∷ l) (place.1 ∙ ap (λ w. w ∷ second.1) label.0) ∙ made.0)), made.1)

  -- ---- replies

  got_read : (label tag id from : ℕ) (args : Args) (rest : List Text) → GotFits decls label tag id from args →
      got_by names decls (args_of decls label tag) id (node_word names from ∷ (map signed_decimal (listed args) ++ rest)) ≡ Some (Got id from args, rest)
  got_read label tag id from args rest fits =
      ap (λ found. behind (with_rest found (map signed_decimal (listed args) ++ rest))
      (λ (from : ℕ) (more : List Text). behind (args_from (args_of decls label tag) more) (λ args last. Some (Got id from args, last)))) (node_read names decls ready.known from fits.node)
      ∙ ap (λ found. behind found (λ (args : Args) (last : List Text). Some (Got id from args, last))) (args_read decls label tag args rest fits.args_fit)

  message_read : (label tag id from : ℕ) (args : Args) (rest : List Text) → GotFits decls label tag id from args →
      behind (with_rest (small_in (decimal id)) (codes "from" ∷ node_word names from ∷ (map signed_decimal (listed args) ++ rest))) (λ id words. got_behind names decls (args_of decls label tag) id words)
      ≡ Some (Got id from args, rest)
  message_read label tag id from args rest fits =
      ap (λ found. behind (with_rest found (codes "from" ∷ node_word names from ∷ (map signed_decimal (listed args) ++ rest)))
      (λ (id : ℕ) (words : List Text). got_behind names decls (args_of decls label tag) id words)) (small_read id fits.small)
      ∙ got_read label tag id from args rest fits

  -- a number isn't the word of a miss
  no_miss : (id : ℕ) → id < 2 ^ 32 → bytes_eq (decimal id) (codes "miss") ≡ false
  no_miss id lt = elim (decide (bytes_eq (decimal id) (codes "miss"))) [
    | inl is ↦
        (let text = text_is (decimal id) (codes "miss") is in
        let read : small_in (codes "miss") ≡ Some id = subst (λ w. small_in w ≡ Some id) text (small_read id lt) in
        cc)
    | inr not_so ↦ not_so
  ]

  pub reply_read : (c : Call) (r : Reply) (rest : List Text) → ReplyFits decls c r → reply_from names decls c (reply_words names r ++ rest) ≡ Some (r, rest)
  reply_read (call.Send label tag to args) (Sent id) rest fits = ap (λ found. behind (with_rest found rest) (λ (id : ℕ) (last : List Text). Some (Sent id, last))) (small_read id fits)
  reply_read (call.Poll label tag) (Got id from args) rest fits =
      let words = codes "from" ∷ node_word names from ∷ (map signed_decimal (listed args) ++ rest) in
      ap (λ b. if b then Some (Miss, words) else behind (with_rest (small_in (decimal id)) words) (λ id more. got_behind names decls (args_of decls label tag) id more)) (no_miss id fits.small)
      ∙ message_read label tag id from args rest fits
  reply_read (call.Poll label tag) Miss rest fits = refl
  reply_read (call.Await label tag) (Got id from args) rest fits = message_read label tag id from args rest fits
  reply_read (call.Read label field index) (Value v) rest fits = ap (λ found. behind (with_rest found rest) (λ (v : ℤ) (last : List Text). Some (Value v, last))) (integer_read v fits)
  reply_read (call.Send label tag to args) (Got id from us) rest fits = absurd fits
  reply_read (call.Send label tag to args) Miss rest fits = absurd fits
  reply_read (call.Send label tag to args) (Value v) rest fits = absurd fits
  reply_read (call.Poll label tag) (Sent id) rest fits = absurd fits
  reply_read (call.Poll label tag) (Value v) rest fits = absurd fits
  reply_read (call.Await label tag) (Sent id) rest fits = absurd fits
  reply_read (call.Await label tag) Miss rest fits = absurd fits
  reply_read (call.Await label tag) (Value v) rest fits = absurd fits
  reply_read (call.Read label field index) (Sent id) rest fits = absurd fits
  reply_read (call.Read label field index) (Got id from us) rest fits = absurd fits
  reply_read (call.Read label field index) Miss rest fits = absurd fits

  got_plain : (label tag id from : ℕ) (args : Args) → GotFits decls label tag id from args → Each IsPlain (reply_words names (Got id from args))
  got_plain label tag id from args fits =
      (decimal_plain id (omega (arith, fits.small)), (refl, (node_plain names decls ready.known from fits.node, numbers_plain (listed args) fits.args_fit.numbers)))

  pub reply_plain : (c : Call) (r : Reply) → ReplyFits decls c r → Each IsPlain (reply_words names r)
  reply_plain (call.Send label tag to args) (Sent id) fits = (decimal_plain id (omega (arith, fits)), tt)
  reply_plain (call.Poll label tag) (Got id from args) fits = got_plain label tag id from args fits
  reply_plain (call.Poll label tag) Miss fits = (refl, tt)
  reply_plain (call.Await label tag) (Got id from args) fits = got_plain label tag id from args fits
  reply_plain (call.Read label field index) (Value v) fits = (signed_plain v fits, tt)
  reply_plain (call.Send label tag to args) (Got id from us) fits = absurd fits
  reply_plain (call.Send label tag to args) Miss fits = absurd fits
  reply_plain (call.Send label tag to args) (Value v) fits = absurd fits
  reply_plain (call.Poll label tag) (Sent id) fits = absurd fits
  reply_plain (call.Poll label tag) (Value v) fits = absurd fits
  reply_plain (call.Await label tag) (Sent id) fits = absurd fits
  reply_plain (call.Await label tag) Miss fits = absurd fits
  reply_plain (call.Await label tag) (Value v) fits = absurd fits
  reply_plain (call.Read label field index) (Sent id) fits = absurd fits
  reply_plain (call.Read label field index) (Got id from us) fits = absurd fits
  reply_plain (call.Read label field index) Miss fits = absurd fits

  -- what a reply was read from
  abbrev IsReply : Call → List Text → Reply → List Text → Type 0
  IsReply c words r rest = (words ≡ reply_words names r ++ rest) × ReplyFits decls c r

  -- and a message
  abbrev IsMessage : ℕ → ℕ → ℕ → List Text → Reply → List Text → Type 0
  IsMessage label tag id words r rest = (from : ℕ) × (args : Args) × (r ≡ Got id from args) × GotFits decls label tag id from args
      × (words ≡ codes "from" ∷ node_word names from ∷ (map signed_decimal (listed args) ++ rest))

  message_written : (label tag id : ℕ) (words : List Text) (r : Reply) (rest : List Text) → id < 2 ^ 32 → got_behind names decls (args_of decls label tag) id words ≡ Some (r, rest) →
      IsMessage label tag id words r rest
  message_written label tag id words r rest lt e =
      let next = if_found (is_next (codes "from") words) (got_by names decls (args_of decls label tag) id (rest_of words)) (r, rest) e in
      let from = behind_found (word_from (node_in names decls) (rest_of words)) (λ from more. behind (args_from (args_of decls label tag) more) (λ args last. Some (Got id from args, last))) (r, rest) next.1 in
      let word = word_found (node_in names decls) (rest_of words) from.0 from.1 from.2 in
      let args = behind_found (args_from (args_of decls label tag) from.1) (λ args last. Some (Got id from.0 args, last)) (r, rest) from.3 in
      let whole = same_Some (Got id from.0 args.0, args.1) (r, rest) args.3 in
      let behind : args.1 ≡ rest = ap (λ (p : Reply × List Text). p.1) whole in
      let node = node_written names decls word.0 from.0 word.2 in
      let all = args_written decls label tag from.1 args.0 args.1 args.2 in (
        from.0,
        args.0,
        sym (ap (λ (p : Reply × List Text). p.0) whole),
        record { small = lt; node = node.1; args_fit = all.1 },
        next_found (codes "from") words next.0 ∙ ap (λ l. codes "from" ∷ l)
            (word.1 ∙ (ap (λ w. w ∷ from.1) (sym node.0) ∙ ap (λ l. node_word names from.0 ∷ l) (all.0 ∙ ap (λ l. map signed_decimal (listed args.0) ++ l) behind))),
      )

  got_written : (label tag : ℕ) (w : Text) (words : List Text) (r : Reply) (rest : List Text) →
      behind (with_rest (small_in w) words) (λ id more. got_behind names decls (args_of decls label tag) id more) ≡ Some (r, rest) →
      (id : ℕ) × (from : ℕ) × (args : Args) × (r ≡ Got id from args) × GotFits decls label tag id from args × (w ∷ words ≡ reply_words names (Got id from args) ++ rest)
  got_written label tag w words r rest e =
      let id = behind_found (with_rest (small_in w) words) (λ id more. got_behind names decls (args_of decls label tag) id more) (r, rest) e in
      let found = rest_found (small_in w) words id.0 id.1 id.2 in
      let number = small_written w id.0 found.0 in
      let message = message_written label tag id.0 id.1 r rest number.1 id.3 in
      (id.0, message.0, message.1, message.2, message.3, ap (λ v. v ∷ words) (sym number.0) ∙ ap (λ l. decimal id.0 ∷ l) (found.1 ∙ message.4))

  pub reply_written : (c : Call) (words : List Text) (r : Reply) (rest : List Text) → reply_from names decls c words ≡ Some (r, rest) → IsReply c words r rest
  reply_written (call.Send label tag to args) words r rest e =
      let id = behind_found (word_from small_in words) (λ id last. Some (Sent id, last)) (r, rest) e in
      let word = word_found small_in words id.0 id.1 id.2 in
      let whole = same_Some (Sent id.0, id.1) (r, rest) id.3 in
      let number = small_written word.0 id.0 word.2 in
      subst (λ (q : Reply). IsReply (call.Send label tag to args) words q rest) (ap (λ (p : Reply × List Text). p.0) whole)
      (word.1 ∙ (ap (λ w. w ∷ id.1) (sym number.0) ∙ ap (λ l. decimal id.0 ∷ l) (ap (λ (p : Reply × List Text). p.1) whole)), number.1)
  reply_written (call.Read label field index) words r rest e =
      let v = behind_found (word_from integer_in words) (λ v last. Some (Value v, last)) (r, rest) e in
      let word = word_found integer_in words v.0 v.1 v.2 in
      let whole = same_Some (Value v.0, v.1) (r, rest) v.3 in
      let number = integer_written word.0 v.0 word.2 in
      subst (λ (q : Reply). IsReply (call.Read label field index) words q rest) (ap (λ (p : Reply × List Text). p.0) whole)
      (word.1 ∙ (ap (λ w. w ∷ v.1) (sym number.0) ∙ ap (λ l. signed_decimal v.0 ∷ l) (ap (λ (p : Reply × List Text). p.1) whole)), number.1)
  reply_written (call.Await label tag) [] r rest e = cc
  reply_written (call.Await label tag) (w ∷ words) r rest e =
      let got = got_written label tag w words r rest e in
      subst (λ (q : Reply). IsReply (call.Await label tag) (w ∷ words) q rest) (sym got.3) (got.5, got.4)
  reply_written (call.Poll label tag) [] r rest e = cc
  reply_written (call.Poll label tag) (w ∷ words) r rest e =
      elim (choice (bytes_eq w (codes "miss")) (Miss, words) (r, rest) (behind (with_rest (small_in w) words) (λ id more. got_behind names decls (args_of decls label tag) id more)) e) [
        | inl is ↦ subst (λ (q : Reply). IsReply (call.Poll label tag) (w ∷ words) q rest) (ap (λ (p : Reply × List Text). p.0) is.1)
            (ap (λ v. v ∷ words) (text_is w (codes "miss") is.0) ∙ ap (λ l. codes "miss" ∷ l) (ap (λ (p : Reply × List Text). p.1) is.1), tt)
        | inr not_so ↦
            (let got = got_written label tag w words r rest not_so.1 in
            subst (λ (q : Reply). IsReply (call.Poll label tag) (w ∷ words) q rest) (sym got.3) (got.5, got.4))
      ]
