-- What is known of a serial run and its report.
use Rattle.std.proofs.Common.{◌≡◌, ℕ, Bool, List, Result, Ok, Err, IfOk, ap, ◌∙◌}
use Rattle.std.specs.List.{list_all}
use Rattle.std.specs.declared.alloc.AllocError.{AllocError}
use Rattle.dl_model.specs.declared.history.Entry.{Entry}
use Rattle.dl_model.specs.declared.history.Order.{Order}
use Rattle.dl_model.specs.Formed.{IsFormed}
use Rattle.dl_model.specs.Worlds.{KeepsWorlds}
use Rattle.dl_file.specs.declared.file.File.{File}
use Rattle.dl_history.proofs.Histories.{soup-run}
use Rattle.dl_soup.specs.Kept.{IsKept}
use Rattle.dl_report.specs.Layout.{Ending, Text, report_of}
use Rattle.dl_nodes.specs.declared.begin.Run.{Run}
use Rattle.dl_nodes.specs.Begun.{IsSerialRun}
use Rattle.dl_nodes.proofs.EndedLemmas.{serial-ended}
use Rattle.dl_nodes.proofs.TraceLemmas.{serial-traced}
use Rattle.dl_nodes.proofs.WorldLemmas.{serial-runs}
use Rattle.dl_run.specs.Ends.{endings_of, has_ended}
use Rattle.dl_run.specs.Reports.{IsReported, IsWritten}

pub run-reported : (file : File) (budget : ℕ) (order : Order) (run : Run) (text : List ℕ) (ended : Bool) → IsFormed file.decls → KeepsWorlds file.decls → IsSerialRun file.decls budget order run
    → IsWritten file budget order run text ended → IsReported file budget order text ended
run-reported file budget order run text ended formed worlds serial written =
    let traced = serial-traced file.decls budget order run formed serial written.kept in
    record {
      run = run;
      serial = serial;
      is_run = soup-run file.decls run.soup.history run.soup.state traced.entries (serial-runs file.decls budget order run formed worlds serial written.kept);
      traced = traced;
      have_ended = serial-ended file.decls budget order run serial;
      written = written;
    }

-- want of memory may come in its place
pub answer-reported : {V : Type 0} (items : V → List ℕ) (ended : V → Bool) (file : File) (budget : ℕ) (order : Order) (run : Run) (r : Result V AllocError) → IsFormed file.decls → KeepsWorlds file.decls
    → IsSerialRun file.decls budget order run → IfOk r (λ v. IsWritten file budget order run (items v) (ended v)) → IfOk r (λ v. IsReported file budget order (items v) (ended v))
answer-reported items ended file budget order run (Ok v) formed worlds serial h = run-reported file budget order run (items v) (ended v) formed worlds serial h
answer-reported items ended file budget order run (Err e) formed worlds serial h = tt

-- what the writer of reports was given
pub written-of : (file : File) (budget : ℕ) (order : Order) (run : Run) (names : List Text) (entries : List Entry) (ends : List Ending) (text : Text) (ended : Bool) → names ≡ file.names → entries ≡ run.soup.history
    → ends ≡ endings_of run.nodes.items → IsKept run.soup → text ≡ report_of names file.decls budget order entries ends → ended ≡ list_all has_ended ends → IsWritten file budget order run text ended
written-of file budget order run names entries ends text ended same_names same_entries same_ends kept told all = record {
  kept = kept;
  text_is = told ∙ (λ i. report_of (same_names i) file.decls budget order (same_entries i) (same_ends i));
  all_ended = all ∙ ap (list_all has_ended) same_ends;
}
