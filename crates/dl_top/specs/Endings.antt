-- What a command did to its source and its sink.
use Rattle.std.specs.Prelude.{◌≡◌, ℕ, ◌≤◌, ◌<◌, ◌↔◌, ◌⊎◌, Bool, true, false, List, [], length, Option, Some, None, is_some}
use Rattle.std.specs.Io.KnownBytes.{Consumes, Appends, IsAtEnd}
use Rattle.dl_io.specs.Causes.{Rose}
use Rattle.dl_io.specs.Whole.{WritesFront}
use Rattle.dl_tree.specs.declared.tree.Place.{Place}
use Rattle.dl_tree.specs.declared.tree.Tree.{Tree}
use Rattle.dl_tree.specs.Layout.{layout}
use Rattle.dl_file.specs.declared.answer.Accepted.{Accepted}
use Rattle.dl_file.specs.declared.answer.Fault.{Fault}
use Rattle.dl_file.specs.declared.answer.Fault.TheVariants.{At, Memory}
use Rattle.dl_file.specs.declared.file.File.{File}
use Rattle.dl_check.specs.Answers.{IsAccepted, IsRefused}
use Rattle.dl_run.specs.Reports.{IsReported}
use Rattle.dl_top.specs.declared.request.Command.{Command}
use Rattle.dl_top.specs.declared.request.Command.TheVariants.{Check, Show, Run}
use Rattle.dl_top.specs.declared.status.Status.{Status}
use Rattle.dl_top.specs.declared.status.Status.TheVariants.{Done, Refused, Usage, ReadFault, WriteFault, NoMemory, Unended, TooLong}
use Rattle.dl_top.specs.Lines.{usage_line, read_fault_line, too_long_line, accepted_line, refusal_line}
use Rattle.dl_top.specs.Texts.{TextIsAccepted, TextIsRefused, IsFaultless, HasFault}

-- a text was read whole before this answer
abbrev pub IsOfWholeText : Status → Type 0
IsOfWholeText Done = Unit {0}
IsOfWholeText Refused = Unit {0}
IsOfWholeText WriteFault = Unit {0}
IsOfWholeText Unended = Unit {0}
IsOfWholeText _ = ⊥

-- something was being written when the status was answered
abbrev pub IsOfWriting : Status → Type 0
IsOfWriting Refused = Unit {0}
IsOfWriting Usage = Unit {0}
IsOfWriting ReadFault = Unit {0}
IsOfWriting WriteFault = Unit {0}
IsOfWriting TooLong = Unit {0}
IsOfWriting _ = ⊥

-- a write fault comes only where the sink's count rose, and where it became greater something was being written
pub record HasWriteFaultCause (before now : ℕ) (status : Status) : Type 0 where
  pub later : before ≤ now
  pub failed : status ≡ WriteFault → Rose before now
  pub risen : before < now → IsOfWriting status

-- a line was written whole, or a front of it where the sink's count rose
abbrev pub WritesLine : ℕ → ℕ → Option (List ℕ) → Option (List ℕ) → List ℕ → Type 0
WritesLine before now old new line = Appends old new line ⊎ (Rose before now × WritesFront old new line)

-- What a command writes of an accepted tree and its file, and whether each program that it ran returned: the counts of the file, the
-- tree in its one layout, or the report of the file's serial run.
abbrev pub IsOutput : Command → Tree → File → Accepted → List ℕ → Bool → Type 0
IsOutput Check tree file counts output ended = (output ≡ accepted_line counts) × (ended ≡ true)
IsOutput Show tree file counts output ended = (output ≡ layout tree) × (ended ≡ true)
IsOutput (Run serial budget order) tree file counts output ended = IsReported file budget order output ended

-- The text that a command writes of a text that is accepted, and whether each program that it ran returned.
abbrev pub IsTextOf : Option Command → List ℕ → List ℕ → Bool → Type 0
IsTextOf (Some command) text output ended =
    (tree : Tree) × (counts : Accepted) × (is : TextIsAccepted text tree counts) × IsOutput command tree is.known.file counts output ended
IsTextOf None text output ended = ⊥

-- the line of a text's first fault
abbrev pub IsRefusalOf : List ℕ → List ℕ → Type 0
IsRefusalOf text line = (rule : ℕ) × (place : Place) × (what : Option Tree) × TextIsRefused text rule place what × (line ≡ refusal_line rule place what)

-- What was written with each status: the text of the command, a front of it, a line of its own, or nothing. Of a text that was read
-- whole it is what the command writes where the text is accepted, or the line of its first fault. The whole text goes with 0 where
-- each program that was run returned, as where none was, and else with 6.
abbrev pub Writes : Option Command → List ℕ → ℕ → ℕ → Option (List ℕ) → Option (List ℕ) → Status → Type 0
Writes command text before now old new Done = (output : List ℕ) × IsTextOf command text output true × Appends old new output
Writes command text before now old new Unended = (output : List ℕ) × IsTextOf command text output false × Appends old new output
Writes command text before now old new WriteFault = (output : List ℕ) × (ended : Bool) × IsTextOf command text output ended × WritesFront old new output
Writes command text before now old new Refused = (line : List ℕ) × IsRefusalOf text line × WritesLine before now old new line
Writes command text before now old new Usage = WritesLine before now old new usage_line
Writes command text before now old new ReadFault = WritesLine before now old new read_fault_line
Writes command text before now old new TooLong = WritesLine before now old new too_long_line
Writes command text before now old new NoMemory = Appends old new []

-- a count stayed below a counter's last value and as it was
abbrev pub IsQuiet : ℕ → ℕ → Type 0
IsQuiet before now = Rose before now → ⊥

-- the text of the command was written whole, or memory was wanting
abbrev pub IsServed : Status → Type 0
IsServed Done = Unit {0}
IsServed Unended = Unit {0}
IsServed NoMemory = Unit {0}
IsServed _ = ⊥

-- The source gave some bytes in this call. They are the whole text where one is answered, and too many exactly where that is answered;
-- and what was written is what belongs to the command, to this text and to the status. A text that was read whole is refused exactly
-- where it has a fault. A text without a fault is accepted, unless it is too long, a count rose, or memory is wanting.
pub record Answers (command : Option Command) (limit : ℕ) (left left_behind : Option (List ℕ)) (reads_before reads_now : ℕ) (old new : Option (List ℕ)) (before now : ℕ) (status : Status) : Type 0 where
  pub text : List ℕ
  pub consumed : Consumes left left_behind text
  pub whole : IsOfWholeText status → (length text ≤ limit) × IsAtEnd left_behind
  pub too_long : (status ≡ TooLong) ↔ (limit < length text)
  pub written : Writes command text before now old new status
  pub refused : IsOfWholeText status → (status ≡ Refused) ↔ HasFault text
  pub complete : IsFaultless text → is_some command ≡ true → length text ≤ limit → IsQuiet reads_before reads_now → IsQuiet before now → IsServed status

-- ---- what private calls answer

-- the status belongs to a text that was read whole
abbrev pub IsAfterText : Status → Type 0
IsAfterText NoMemory = Unit {0}
IsAfterText Done = Unit {0}
IsAfterText Unended = Unit {0}
IsAfterText Refused = Unit {0}
IsAfterText WriteFault = Unit {0}
IsAfterText _ = ⊥

-- what a command writes of a tree
abbrev pub IsOutputOfTree : Command → Tree → List ℕ → Bool → Type 0
IsOutputOfTree command tree output ended = (counts : Accepted) × (is : IsAccepted tree counts) × IsOutput command tree is.file counts output ended

-- a tree's first fault, or want of memory
abbrev pub IsFaultOfTree : Tree → Fault → Type 0
IsFaultOfTree tree (At rule place what) = IsRefused tree rule place what
IsFaultOfTree tree Memory = Unit {0}

-- a text's first fault, or want of memory
abbrev pub IsFaultOf : List ℕ → Fault → Type 0
IsFaultOf text (At rule place what) = TextIsRefused text rule place what
IsFaultOf text Memory = Unit {0}
