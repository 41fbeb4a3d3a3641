-- What the private calls of the reader take from the front of a text.
use Rattle.std.specs.Prelude.{◌≡◌, ℕ, suc, ◌+◌, ◌<◌, ◌^◌, ◌⊎◌, List, [], ◌∷◌, ◌++◌, length}
use Rattle.std.specs.List.{AllByRecursion as Each, concat}
use Rattle.dl_model.specs.declared.history.Entry.{Entry}
use Rattle.dl_model.specs.declared.history.Order.{Order}
use Rattle.dl_model.specs.declared.file.Decls.{Decls}
use Rattle.dl_report.specs.declared.types.Report.{Report}
use Rattle.dl_report.specs.declared.types.ReportFault.{ReportFault}
use Rattle.dl_report.specs.declared.types.ReportFault.TheVariants.{Line, Memory}
use Rattle.dl_report.specs.Layout.{Text, Ending, line_of, entry_words, ending_words, head_words, entry_lines, end_lines, report_of}
use Rattle.dl_report.specs.Fitting.{EntryFits, EndingFits, OrderFits, Fits}

-- no entry of this number stands at the front of the text
abbrev pub HasNoEntry : List Text → Decls → ℕ → Text → Type 0
HasNoEntry names decls number text = (entry : Entry) (rest : Text) → EntryFits decls entry → text ≡ line_of (entry_words names decls number entry) ++ rest → ⊥

-- no end does
abbrev pub HasNoEnding : List Text → Decls → Text → Type 0
HasNoEnding names decls text = (ending : Ending) (rest : Text) → EndingFits decls ending → text ≡ line_of (ending_words names ending) ++ rest → ⊥

-- no first line does
abbrev pub HasNoHead : Text → Type 0
HasNoHead text = (budget : ℕ) (order : Order) (rest : Text) → budget < 2 ^ 32 → OrderFits order → text ≡ line_of (head_words budget order) ++ rest → ⊥

-- the entry, and what stands behind its line
pub record TakesEntry (names : List Text) (decls : Decls) (number : ℕ) (text : Text) (entry : Entry) (rest : Text) : Type 0 where
  pub fits : EntryFits decls entry
  pub taken : text ≡ line_of (entry_words names decls number entry) ++ rest

pub record TakesEnding (names : List Text) (decls : Decls) (text : Text) (ending : Ending) (rest : Text) : Type 0 where
  pub fits : EndingFits decls ending
  pub taken : text ≡ line_of (ending_words names ending) ++ rest

pub record TakesHead (text : Text) (budget : ℕ) (order : Order) (rest : Text) : Type 0 where
  pub budget_fits : budget < 2 ^ 32
  pub order_fits : OrderFits order
  pub taken : text ≡ line_of (head_words budget order) ++ rest

-- all entries at the front of the text, from number 1 on
pub record TakesEntries (names : List Text) (decls : Decls) (text : Text) (entries : List Entry) (rest : Text) : Type 0 where
  pub fits : Each (EntryFits decls) entries
  pub taken : text ≡ concat (entry_lines names decls 1 entries) ++ rest
  pub last : HasNoEntry names decls (suc (length entries)) rest

-- all ends at the front of the text
pub record TakesEndings (names : List Text) (decls : Decls) (text : Text) (ends : List Ending) (rest : Text) : Type 0 where
  pub fits : Each (EndingFits decls) ends
  pub taken : text ≡ concat (end_lines names ends) ++ rest
  pub last : HasNoEnding names decls rest

-- What was read of a text, and what is left where no further line can be read.
pub record Stops (names : List Text) (decls : Decls) (text : Text) (line : ℕ) : Type 0 where
  pub budget : ℕ
  pub order : Order
  pub entries : List Entry
  pub ends : List Ending
  pub rest : Text
  pub fits : Fits decls budget order entries ends
  pub taken : text ≡ report_of names decls budget order entries ends ++ rest
  pub some : rest ≡ [] → ⊥
  pub no_entry : HasNoEntry names decls (suc (length entries)) (concat (end_lines names ends) ++ rest)
  pub no_ending : HasNoEnding names decls rest
  pub number : line ≡ (length entries + length ends) + 2

-- why the reader stops: no first line, a line that can't be read, or want of memory
abbrev pub IsStop : List Text → Decls → Text → ReportFault → Type 0
IsStop names decls text (Line line) = ((line ≡ 1) × HasNoHead text) ⊎ Stops names decls text line
IsStop names decls text Memory = Unit {0}
