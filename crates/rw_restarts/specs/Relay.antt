-- A second receiver, to which the log is sent that a first receiver keeps of what it holds.
use Rattle.std.specs.Prelude.{◌≡◌, ℕ, true, false, List, [], map, Some, slice_get}
use Rattle.std.specs.Ordering.{nat_cmp}
use Rattle.std.specs.FinMap.{FinMap}
use Rattle.rw_types.specs.Beginnings.{Begins}
use Rattle.rw_types.specs.Labels.{Labels}
use Rattle.rw_types.specs.declared.entry.Entry.{Entry}
use Rattle.rw_wal_format.specs.Pieces.{page_size}
use Rattle.rw_relabel.specs.declared.choice.Choice.{Choice}
use Rattle.rw_series_cache.specs.Points.{is_kept}
use Rattle.rw_kept_log.specs.Journal.{Segments}
use Rattle.rw_kept_log.specs.Logs.{entries_of}
use Rattle.rw_kept_log.specs.Additions.{samples_of_labels}
use Rattle.rw_ledger.specs.declared.ledger.Reason.{Reason}
use Rattle.rw_head.specs.Order.{Point}
use Rattle.rw_head.specs.Store.{Store, list_of}
use Rattle.rw_machine.specs.Promises.{LoggedPoint, owed, pair_of}
use Rattle.rw_restarts.specs.Owed.{owed_of}
use Rattle.rw_restarts.specs.Runs.{SenderRun, acknowledged_in}
use Rattle.rw_restarts.specs.Logs.{SendsOwed}

-- A run that read these segments from the first one on, up to some place: of each label set it read
-- a prefix of the samples that they have.
pub record ReadsSegments (choice : Choice) (segments : Segments) (run : SenderRun) : Type 0 where
  pub read : List Entry
  pub prefix : (l : Labels)
      → Begins (samples_of_labels read l) (samples_of_labels (entries_of page_size segments) l)
  pub whole : (l : Labels) → run.earlier l ≡ []
  pub sends : SendsOwed choice read run.sent

abbrev pub AllReadSegments : Choice → Segments → List SenderRun → Type 0
AllReadSegments choice segments runs =
    (i : ℕ) (run : SenderRun) → slice_get runs i ≡ Some run → ReadsSegments choice segments run

-- Of the label set the second receiver holds a prefix of what the first one holds, and nothing if
-- the rules of its sender drop it. Else it holds all samples of the entries whose samples were all
-- acknowledged in a run (`complete`); and if these are all entries of the log, all that the first
-- receiver holds (`whole`).
pub record IsRelayed (choice : Choice) (segments : Segments) (runs : List SenderRun)
    (first second : Store) (l : Labels) : Type 0 where
  pub prefix : Begins (list_of second l) (list_of first l)
  pub dropped : is_kept choice l ≡ false → list_of second l ≡ []
  pub complete : (i : ℕ) (run : SenderRun) (entries : List Entry)
      → slice_get runs i ≡ Some run → is_kept choice l ≡ true
      → Begins (samples_of_labels entries l) (samples_of_labels (entries_of page_size segments) l)
      → acknowledged_in l run.sent ≡ owed_of choice entries l
      → Begins (samples_of_labels entries l) (list_of second l)
  pub whole : (i : ℕ) (run : SenderRun) → slice_get runs i ≡ Some run → is_kept choice l ≡ true
      → acknowledged_in l run.sent ≡ owed_of choice (entries_of page_size segments) l
      → list_of second l ≡ list_of first l

-- The second list has the samples of the first one, in order, each once, less those at positions of
-- the log that are named.
pub record IsLessNamed (names : FinMap nat_cmp Reason) (first second : List Point) : Type 0 where
  pub logged : List LoggedPoint
  pub first_is : first ≡ map pair_of logged
  pub second_is : second ≡ map pair_of (owed names logged)

-- What the report of one run says that began with an empty receiver: the samples of a label set
-- that it read are a prefix of what the first receiver holds, and the second one holds these, less
-- those that the report names.
pub record IsRelayedLess (names : FinMap nat_cmp Reason) (read : List Entry) (first second : Store)
    (l : Labels) : Type 0 where
  pub prefix : Begins (samples_of_labels read l) (list_of first l)
  pub less : IsLessNamed names (samples_of_labels read l) (list_of second l)
