-- Inner definitions beside those of Feeders.antt: only invariants, private functions and
-- proofs use them.
use Rattle.std.specs.Prelude.{◌≡◌, ℕ, ◌≤◌, List, ◌++◌, length, None}
use Rattle.std.specs.Ordering.{nat_cmp}
use Rattle.std.specs.FinMap.{FinMap, get}
use Rattle.rw_types.specs.Labels.{Labels}
use Rattle.rw_types.specs.declared.entry.Entry.{Entry}
use Rattle.rw_external_labels.specs.External.{labelled}
use Rattle.rw_ledger.specs.declared.ledger.Reason.{Reason}
use Rattle.rw_series_cache.specs.Routing.{Routing, Knows}
use Rattle.rw_wal_tail.specs.Fed.{Fed}
pub use Rattle.rw_wal_tail.specs.Taking.{HasTaken}
use Rattle.rw_sender.specs.Logs.{named, dropped, filtered}

-- what a feeder keeps, by the entries of the log as they are there: those that were placed, and
-- those in hand
pub record IsFeeder (labels : Labels) (tail : Fed) (router : Routing) (names : FinMap nat_cmp Reason) (count : ℕ) (placed hand : List Entry) : Type 0 where
  pub taken : HasTaken tail (placed ++ hand)
  pub counted : count ≡ length placed
  pub knows : Knows (labelled labels placed) router.cache
  pub names_are : names ≡ named (dropped router.cache.choice (labelled labels placed))
  pub below : (p : ℕ) → count ≤ p → get names p ≡ None
  pub filter_counted : router.filtered ≡ length (filtered router.cache.choice (labelled labels placed))
  pub filter_within : router.filtered ≤ count
