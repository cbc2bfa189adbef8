-- How a log is opened after a crash.
use Rattle.std.specs.Prelude.{◌≡◌, ℕ, ◌+◌, ◌<◌, ◌≤◌, List, [], length, drop, get_or}
use Rattle.rw_kept_log.specs.Journal.{Segments}
use Rattle.rw_kept_log.specs.Torn.{end_of_page}
use Rattle.rw_wal_format.specs.Pieces.{page_size}
use Rattle.rw_wal_tail.specs.Places.{stop_offset}
use Rattle.rw_kept_log.specs.Logs.{entries_of, IsCleanCut}
use Rattle.rw_kept_log.specs.TornLogs.{last_of}
use Rattle.rw_kept_log.specs.Reading.{HasFault, greatest_after}
use Rattle.rw_kept_log.specs.Records.{IsRecordAt, FollowsFault}
use Rattle.rw_kept_log.specs.declared.error.KeptLogDamage.{KeptLogDamage}
use Rattle.rw_kept_log.specs.declared.error.ReopenError.{ReopenError}
use Rattle.rw_kept_log.specs.declared.error.ReopenError.TheVariants.{OutOfMemory, Failed, Damaged}
use Rattle.rw_kept_log.specs.declared.log_reading.ReadEnd.{ReadEnd}

-- A segment is cut there: it keeps all its entries, and ends between two records. It is cut before
-- its end only if it ends within the page in which reading stops.
pub record IsSegmentCut (text : List ℕ) (at : ℕ) : Type 0 where
  pub clean : IsCleanCut page_size text at
  pub in_page : at < length text → length text ≤ end_of_page page_size (stop_offset page_size text)

-- A segment of the log has this fault, there. If it is the last one it goes on after the page in
-- which reading stops, so no crash left it.
pub record IsDamage (segments : Segments) (d : KeptLogDamage) : Type 0 where
  pub within : d.place.segment < length segments
  pub has : HasFault (get_or segments d.place.segment []) d.fault d.place.offset
  pub goes_on : d.place.segment + 1 ≡ length segments → end_of_page page_size d.place.offset < length (get_or segments d.place.segment [])

-- the log is said to be damaged only if it has that damage
abbrev pub HasDamage : Segments → ReopenError → Type 0
HasDamage segments OutOfMemory = Unit {0}
HasDamage segments Failed = Unit {0}
HasDamage segments (Damaged d) = IsDamage segments d

-- The last segment has this fault, there, and a whole record begins after it.
pub record HasRecordAfter (segments : Segments) (d : KeptLogDamage) (at : ℕ) : Type 0 where
  pub last : d.place.segment + 1 ≡ length segments
  pub has : HasFault (last_of segments) d.fault d.place.offset
  pub after : d.place.offset < at
  pub record_at : IsRecordAt (last_of segments) at

-- how a log ends: where its last segment is cut, what is cut off, whether a whole record follows
-- the fault at which reading stops, and its greatest reference
pub record IsEnd (segments : Segments) (end : ReadEnd) : Type 0 where
  pub cut : IsSegmentCut (last_of segments) end.whole
  pub torn : end.torn.items ≡ drop end.whole (last_of segments)
  pub follows : FollowsFault (last_of segments) end.follows
  pub greatest : end.greatest ≡ greatest_after 0 (entries_of page_size segments)
