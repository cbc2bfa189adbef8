-- What becomes of a sample of a log: it is dropped, or its series is one that the rules drop, or it
-- is sent in its series.
use Rattle.std.specs.Prelude.{ℕ, ℤ, Bool, true, false, List}
use Rattle.rw_types.specs.Labels.{Labels, label_fault_number}
use Rattle.rw_types.specs.declared.entry.Entry.{Entry}
use Rattle.rw_ledger.specs.declared.ledger.Reason.{Reason}
use Rattle.rw_ledger.specs.declared.ledger.Reason.TheVariants.{BadLabels, NoSeries, NotRising}
use Rattle.rw_relabel.specs.declared.choice.Choice.{Choice}
use Rattle.rw_series_cache.specs.Known.{Standing, Unknown, Bad, Filtered, Kept, known}
use Rattle.rw_series_cache.specs.Rising.{rises}

pub data Fate : Type 0 where
  Drops : (reason : Reason) → Fate
  Filters : Fate
  Sends : (labels : List (List ℕ × List ℕ)) → Fate

-- a sample of a kept series is sent if it rises, and dropped if it does not
abbrev pub kept_fate : Bool → Labels → Fate
kept_fate true l = Sends l
kept_fate false l = Drops NotRising

-- by what is known of its reference after the entries before it
abbrev pub fate_by : Choice → List Entry → ℤ → Standing → Fate
fate_by choice before t Unknown = Drops NoSeries
fate_by choice before t (Bad f) = Drops (BadLabels (label_fault_number f))
fate_by choice before t Filtered = Filters
fate_by choice before t (Kept l) = kept_fate (rises choice before l t) l

abbrev pub fate : Choice → List Entry → ℕ → ℤ → Fate
fate choice before reference t = fate_by choice before t (known choice before reference)
