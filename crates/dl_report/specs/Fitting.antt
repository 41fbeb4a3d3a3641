-- Which entries and ends a report may have, and the names that it needs.
use Rattle.std.specs.Prelude.{◌≡◌, ℕ, ◌<◌, ◌^◌, ℤ, Bool, true, Option, Some, None, is_some, List, length}
use Rattle.std.specs.List.{AllByRecursion as Each}
use Rattle.dl_tree.specs.Word.{is_name}
use Rattle.dl_model.specs.declared.history.Args.{Args}
use Rattle.dl_model.specs.declared.history.Call.{Call}
use Rattle.dl_model.specs.declared.history.Call.TheVariants as call
use Rattle.dl_model.specs.declared.history.Reply.{Reply}
use Rattle.dl_model.specs.declared.history.Reply.TheVariants.{Sent, Got, Miss, Value}
use Rattle.dl_model.specs.declared.history.Entry.{Entry}
use Rattle.dl_model.specs.declared.history.Order.{Order}
use Rattle.dl_model.specs.declared.history.Order.TheVariants.{Oldest, Newest, Seed}
use Rattle.dl_model.specs.declared.history.End.{End}
use Rattle.dl_model.specs.declared.history.End.TheVariants.{Ended, Stopped, Spent, Waiting}
use Rattle.dl_model.specs.declared.protocol.Tag.{Tag}
use Rattle.dl_model.specs.declared.protocol.FieldDecl.{FieldDecl}
use Rattle.dl_model.specs.declared.file.Decls.{Decls}
use Rattle.dl_model.specs.Sorts.{is_i64, all_i64}
use Rattle.dl_model.specs.Lookup.{protocol_at, tag_at}
use Rattle.dl_model.specs.Scopes.{is_field}
use Rattle.dl_model.specs.Machine.{listed, packed}
use Rattle.dl_report.specs.Layout.{Text, Ending, name_at, node_word}

-- ---- names

-- Nodes, labels, tags and fields have texts that begin with a letter, and no two names have the same text.
pub record NamesAreKnown (names : List Text) (decls : Decls) : Type 0 where
  pub nodes : (node : ℕ) → node < decls.inst.nodes → is_name (node_word names node) ≡ true
  pub labels : Each (λ sym. is_name (name_at names sym) ≡ true) decls.labels
  pub tags : (label : ℕ) → Each (λ (tag : Tag). is_name (name_at names tag.sym) ≡ true) (protocol_at decls.inst label).tags
  pub fields : (label : ℕ) → Each (λ (field : FieldDecl). is_name (name_at names field.sym) ≡ true) (protocol_at decls.inst label).fields
  pub distinct : (a b : ℕ) → is_name (name_at names a) ≡ true → name_at names a ≡ name_at names b → a ≡ b

-- ---- entries

-- The label exists, and its protocol has the tag.
pub record IsTag (decls : Decls) (label tag : ℕ) : Type 0 where
  pub has_label : label < length decls.labels
  pub has_tag : tag < length (protocol_at decls.inst label).tags

-- as many numbers as the tag has arguments
pub record ArgsFit (decls : Decls) (label tag : ℕ) (args : Args) : Type 0 where
  pub filled : args ≡ packed (listed args)
  pub many : length (listed args) ≡ length (tag_at decls.inst label tag).args
  pub numbers : all_i64 (listed args) ≡ true

abbrev pub IndexFits : Option ℤ → Type 0
IndexFits (Some index) = is_i64 index ≡ true
IndexFits None = Unit {0}

-- The label exists, and its protocol has the field, with an index exactly where it is a row.
pub record ReadFits (decls : Decls) (label field : ℕ) (index : Option ℤ) : Type 0 where
  pub has_label : label < length decls.labels
  pub has_field : is_field (Some (protocol_at decls.inst label)) field (is_some index) ≡ true
  pub index_fits : IndexFits index

pub record SendFits (decls : Decls) (label tag : ℕ) (to : ℤ) (args : Args) : Type 0 where
  pub known : IsTag decls label tag
  pub range : is_i64 to ≡ true
  pub args_fit : ArgsFit decls label tag args

pub record GotFits (decls : Decls) (label tag id from : ℕ) (args : Args) : Type 0 where
  pub small : id < 2 ^ 32
  pub node : from < decls.inst.nodes
  pub args_fit : ArgsFit decls label tag args

abbrev pub CallFits : Decls → Call → Type 0
CallFits decls (call.Send label tag to args) = SendFits decls label tag to args
CallFits decls (call.Poll label tag) = IsTag decls label tag
CallFits decls (call.Await label tag) = IsTag decls label tag
CallFits decls (call.Read label field index) = ReadFits decls label field index

-- The reply is of the call's kind, and no wait: an await has a message.
abbrev pub ReplyFits : Decls → Call → Reply → Type 0
ReplyFits decls (call.Send label tag to args) (Sent id) = id < 2 ^ 32
ReplyFits decls (call.Poll label tag) (Got id from args) = GotFits decls label tag id from args
ReplyFits decls (call.Poll label tag) Miss = Unit {0}
ReplyFits decls (call.Await label tag) (Got id from args) = GotFits decls label tag id from args
ReplyFits decls (call.Read label field index) (Value v) = is_i64 v ≡ true
ReplyFits decls _ _ = ⊥

pub record EntryFits (decls : Decls) (entry : Entry) : Type 0 where
  pub node : entry.node < decls.inst.nodes
  pub ticks : entry.ticks < 2 ^ 32
  pub call_fits : CallFits decls entry.call
  pub reply_fits : ReplyFits decls entry.call entry.reply

-- ---- ends and the first line

abbrev pub EndFits : End → Type 0
EndFits (Ended v) = is_i64 v ≡ true
EndFits _ = Unit {0}

pub record EndingFits (decls : Decls) (ending : Ending) : Type 0 where
  pub node : ending.0 < decls.inst.nodes
  pub end : EndFits ending.1
  pub units : ending.2 < 2 ^ 32

abbrev pub OrderFits : Order → Type 0
OrderFits (Seed seed) = seed < 2 ^ 64
OrderFits _ = Unit {0}

-- A report may be written of these: what is named exists, arguments and replies fit their calls, and numbers are in range.
pub record Fits (decls : Decls) (budget : ℕ) (order : Order) (entries : List Entry) (ends : List Ending) : Type 0 where
  pub budget_fits : budget < 2 ^ 32
  pub order_fits : OrderFits order
  pub entries_fit : Each (EntryFits decls) entries
  pub ends_fit : Each (EndingFits decls) ends
