-- What is reported of the segments of a log.
use Rattle.std.specs.Prelude.{◌≡◌, ℕ, Bool, List, [], take, Option}
use Rattle.rw_wal_format.specs.Pieces.{entries, fault}
use Rattle.rw_log_read.specs.Logs.{AreRows, ReadsFirst, fault_in, log_in}
use Rattle.rw_inspect.specs.Counting.{log_counts}
use Rattle.rw_inspect.specs.Troubles.{not_rising, troubles_of}
use Rattle.rw_inspect.specs.declared.report.LogFindings.{LogFindings}

-- the report of a log with these segments, which may have Snappy blocks or has none
pub record IsInspectionOf (compresses : Bool) (texts : List (List ℕ)) (r : LogFindings) : Type 0 where
  pub rows_are : AreRows compresses [] texts r.segments.items
  pub counts_are : r.counts ≡ log_counts (entries (log_in compresses texts))
  pub first_are : r.first_not_rising.items
      ≡ take 10 (not_rising (troubles_of (entries (log_in compresses texts))))
  pub fault_is : fault_in r.damage ≡ fault (log_in compresses texts)
  pub compresses_is : r.may_compress ≡ compresses

-- The report of the first segments of these sources, up to the end of one with a fault, or of all
-- if there is no fault.
pub record IsReportOfFirst (compresses : Bool) (lefts : List (Option (List ℕ))) (r : LogFindings) : Type 0 where
  pub texts : List (List ℕ)
  pub read : ReadsFirst lefts texts (fault (log_in compresses texts))
  pub report : IsInspectionOf compresses texts r
