-- Sources and sinks in memory, which fail and cut short by a script.
use Rattle.std.specs.Prelude.{ℕ, min, ◌==◌, if◌then◌else◌, List, ◌++◌, take, drop, slice_index}
use Rattle.dl_io.specs.Causes.{counted}

-- the bytes that are left; the most bytes of each call, and the numbers of the calls that fail; how many calls were made, and how many failed
pub record SourceScript : Type 0 where
  pub bytes : List ℕ
  pub pieces : List ℕ
  pub fails : List ℕ
  pub calls : ℕ
  pub failed : ℕ

-- the bytes that were written, and for how many there is room; the rest as in a source
pub record SinkScript : Type 0 where
  pub bytes : List ℕ
  pub room : ℕ
  pub pieces : List ℕ
  pub fails : List ℕ
  pub calls : ℕ
  pub failed : ℕ

-- how many bytes a call gives or takes, of the most that could be: no more than its piece, where it has one that isn't 0
abbrev pub piece_of : List ℕ → ℕ → ℕ → ℕ
piece_of pieces call most = if slice_index pieces call == 0 then most else min (slice_index pieces call) most

-- a source after a read that gave so many bytes, and after one that failed
abbrev pub after_read : SourceScript → ℕ → SourceScript
after_read source count = record source { bytes = drop count source.bytes; calls = counted source.calls }

abbrev pub after_failed_read : SourceScript → SourceScript
after_failed_read source = record source { calls = counted source.calls; failed = counted source.failed }

-- a sink after a write that took so many of these bytes, and after one that failed
abbrev pub after_write : SinkScript → List ℕ → ℕ → SinkScript
after_write sink bytes count = record sink { bytes = sink.bytes ++ take count bytes; calls = counted sink.calls }

abbrev pub after_failed_write : SinkScript → SinkScript
after_failed_write sink = record sink { calls = counted sink.calls; failed = counted sink.failed }
