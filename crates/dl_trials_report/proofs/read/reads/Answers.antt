use Rattle.std.proofs.Common.{◌≡◌, ◌∙◌, ap, length, arith}
use Rattle.dl_trials_report.specs.Bare.{bare_names}
use Rattle.dl_trials_report.proofs.BareLemmas.{bare_is_formed, names_are_known}
use Rattle.dl_trials_report.proofs.read.reads.Goals as goal

pub read_report-requires : goal.read_report-requires
read_report-requires c =
    let names : c.as_slice.result.now ≡ bare_names = c.as_slice.ensures ∙ c.in-Ok.ensures in
    record {
      short = rw c.as_bytes.ensures.value c.requires;
      formed = rw c.one_node-decls.ensures bare_is_formed;
      names = rw (c.one_node-decls.ensures, names) names_are_known;
    }
