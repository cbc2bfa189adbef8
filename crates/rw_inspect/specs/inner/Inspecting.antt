-- Inner definitions beside those of Inspecting.antt: only invariants, private functions and
-- proofs use them.
use Rattle.std.specs.Prelude.{◌≡◌, Bool, List, take, Option}
use Rattle.rw_types.specs.declared.entry.Entry.{Entry}
use Rattle.rw_wal_tail.specs.declared.place.Damage.{Damage}
use Rattle.rw_log_read.specs.declared.log_read.Segment.{Segment}
use Rattle.rw_inspect.specs.Counting.{log_counts}
use Rattle.rw_inspect.specs.Troubles.{not_rising, troubles_of}
use Rattle.rw_inspect.specs.declared.report.LogFindings.{LogFindings}

-- a report says what was read, whether it may have Snappy blocks, and what is counted of these
-- entries
pub record Reports (compresses : Bool) (taken : List Entry) (rows : List Segment) (damage : Option Damage) (r : LogFindings) : Type 0 where
  pub rows_are : r.segments.items ≡ rows
  pub counts_are : r.counts ≡ log_counts taken
  pub first_are : r.first_not_rising.items ≡ take 10 (not_rising (troubles_of taken))
  pub damage_is : r.damage ≡ damage
  pub compresses_is : r.may_compress ≡ compresses
