-- What it is that a text is the report of a file's serial run.
use Rattle.std.specs.Prelude.{◌≡◌, ℕ, Bool, List}
use Rattle.std.specs.List.{list_all}
use Rattle.dl_model.specs.declared.file.Decls.{Decls}
use Rattle.dl_model.specs.declared.history.Order.{Order}
use Rattle.dl_model.specs.Runs.{Config, IsRun}
use Rattle.dl_file.specs.declared.file.File.{File}
use Rattle.dl_soup.specs.Kept.{IsKept}
use Rattle.dl_report.specs.Layout.{report_of}
use Rattle.dl_nodes.specs.declared.begin.Run.{Run}
use Rattle.dl_nodes.specs.Begun.{IsSerialRun}
use Rattle.dl_nodes.specs.Ended.{HaveEnded}
use Rattle.dl_nodes.specs.Traced.{IsTraced}
use Rattle.dl_run.specs.Ends.{endings_of, has_ended}

-- what is written of a run that is over
pub record IsWritten (file : File) (budget : ℕ) (order : Order) (run : Run) (text : List ℕ) (ended : Bool) : Type 0 where
  pub kept : IsKept run.soup
  pub text_is : text ≡ report_of file.names file.decls budget order run.soup.history (endings_of run.nodes.items)
  pub all_ended : ended ≡ list_all has_ended (endings_of run.nodes.items)

-- the history of the run is one of the file, to the run's state
abbrev pub IsRunOf : Decls → Run → Type 0
IsRunOf decls run = (after : Config) × IsRun decls run.soup.history after × (after.state ≡ run.soup.state)

-- The text is the report of the serial run of the file's programs, and tells whether each of them returned. The history is a
-- run of the file under the order of delivery and has no waits; each node with a program has an end, in the order of the node
-- list, which is exactly that of its machine in the last state within the budget, with its units.
pub record IsReported (file : File) (budget : ℕ) (order : Order) (text : List ℕ) (ended : Bool) : Type 0 where
  pub run : Run
  pub serial : IsSerialRun file.decls budget order run
  pub is_run : IsRunOf file.decls run
  pub traced : IsTraced file.decls budget order run
  pub have_ended : HaveEnded file.decls run
  pub written : IsWritten file budget order run text ended
