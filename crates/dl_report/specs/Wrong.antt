-- Which texts are reports, and the first wrong line of one that is none.
use Rattle.std.specs.Prelude.{◌≡◌, ℕ, suc, ◌-◌, ◌≤◌, ◌==◌, if◌then◌else◌, Result, Ok, Err, List, [], ◌∷◌, ◌++◌, length, take, ◌⊎◌}
use Rattle.dl_model.specs.declared.history.Entry.{Entry}
use Rattle.dl_model.specs.declared.history.Order.{Order}
use Rattle.dl_model.specs.declared.file.Decls.{Decls}
use Rattle.dl_report.specs.declared.types.Report.{Report}
use Rattle.dl_report.specs.declared.types.ReportFault.{ReportFault}
use Rattle.dl_report.specs.declared.types.ReportFault.TheVariants.{Line, Memory}
use Rattle.dl_report.specs.Layout.{Text, Ending, report_lines, report_of}
use Rattle.dl_report.specs.Fitting.{Fits}

-- the text is this report
pub record IsReport (names : List Text) (decls : Decls) (text : Text) (report : Report) : Type 0 where
  pub fits : Fits decls report.budget report.order report.entries report.ends
  pub written : text ≡ report_of names decls report.budget report.order report.entries report.ends

-- ---- lines

abbrev pub with_first : ℕ → List Text → List Text
with_first byte [] = (byte ∷ []) ∷ []
with_first byte (line ∷ lines) = (byte ∷ line) ∷ lines

-- the lines of a text, each with its LF; what stands behind the last LF is a line without one
abbrev pub lines_of : Text → List Text
lines_of [] = []
lines_of (byte ∷ bytes) = if byte == 10 then (10 ∷ []) ∷ lines_of bytes else with_first byte (lines_of bytes)

-- some report begins with these lines
pub record BeginsReport (names : List Text) (decls : Decls) (lines : List Text) : Type 0 where
  pub report : Report
  pub fits : Fits decls report.budget report.order report.entries report.ends
  pub more : List Text
  pub begins : report_lines names decls report.budget report.order report.entries report.ends ≡ lines ++ more

-- some report begins with the lines before it and none with the lines up to it; or all lines begin one, and more are missing
pub record IsFirstWrong (names : List Text) (decls : Decls) (text : Text) (line : ℕ) : Type 0 where
  pub before : BeginsReport names decls (take (line - 1) (lines_of text))
  pub wrong : ((line ≤ length (lines_of text)) × (BeginsReport names decls (take line (lines_of text)) → ⊥))
      ⊎ ((line ≡ suc (length (lines_of text))) × ((report : Report) → IsReport names decls text report → ⊥))

-- why no report is read: the first wrong line, or want of memory
abbrev pub IsFault : List Text → Decls → Text → ReportFault → Type 0
IsFault names decls text (Line line) = IsFirstWrong names decls text line
IsFault names decls text Memory = Unit {0}

abbrev pub IsWant : ReportFault → Type 0
IsWant Memory = Unit {0}
IsWant (Line line) = ⊥

-- the report, or want of memory
abbrev pub IsReadAs : Report → Result Report ReportFault → Type 0
IsReadAs report (Ok read) = read ≡ report
IsReadAs report (Err fault) = IsWant fault
