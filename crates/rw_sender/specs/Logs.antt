-- What becomes of the samples of a log: each is sent in its series, or is dropped for its labels,
-- because it has no series, or because it does not rise in its series, or its series is one that
-- the rules drop.
use Rattle.std.specs.Prelude.{ℕ, ℤ, List, [], ◌∷◌, length, fold}
use Rattle.std.specs.Ordering.{nat_cmp}
use Rattle.std.specs.FinMap.{FinMap, empty, insert}
use Rattle.rw_types.specs.Labels.{Labels}
use Rattle.rw_types.specs.declared.entry.Entry.{Entry}
use Rattle.rw_types.specs.declared.entry.Entry.TheVariants.{Def, Sample}
use Rattle.rw_types.specs.Gathering.{gather}
use Rattle.rw_ledger.specs.declared.ledger.Reason.{Reason}
use Rattle.rw_relabel.specs.declared.choice.Choice.{Choice}
use Rattle.rw_series_cache.specs.Numbers.{series_of, number_of}
use Rattle.rw_series_cache.specs.Fates.{Fate, Drops, Filters, Sends, fate}

-- a sample that is sent: its position in the log, the number of its series, its time and value, and
-- its labels
pub record Sent : Type 0 where
  pub pos : ℕ
  pub series : ℕ
  pub t : ℤ
  pub word : ℕ
  pub labels : Labels

-- a kept sample that comes after these entries
abbrev pub kept_sample : Choice → List Entry → ℤ → ℕ → Labels → Sent
kept_sample choice before t word l = record { pos = length before; series = number_of (series_of choice before) l; t = t; word = word; labels = l }

-- a sample by its fate
abbrev pub sent_by_fate : Choice → List Entry → ℤ → ℕ → Fate → List Sent
sent_by_fate choice before t word (Sends l) = kept_sample choice before t word l ∷ []
sent_by_fate choice before t word (Drops reason) = []
sent_by_fate choice before t word Filters = []

abbrev pub sent_of : Choice → List Entry → Entry → List Sent
sent_of choice before (Def reference labels) = []
sent_of choice before (Sample reference t word) = sent_by_fate choice before t word (fate choice before reference t)

-- the samples that are sent, by position
abbrev pub sent : Choice → List Entry → List Sent
sent choice es = gather (sent_of choice) es

abbrev pub dropped_by_fate : ℕ → Fate → List (ℕ × Reason)
dropped_by_fate pos (Drops reason) = (pos, reason) ∷ []
dropped_by_fate pos Filters = []
dropped_by_fate pos (Sends l) = []

abbrev pub dropped_of : Choice → List Entry → Entry → List (ℕ × Reason)
dropped_of choice before (Def reference labels) = []
dropped_of choice before (Sample reference t word) = dropped_by_fate (length before) (fate choice before reference t)

-- the positions of the samples that have no series, or one whose labels are not a label set, or
-- that do not rise in their series
abbrev pub dropped : Choice → List Entry → List (ℕ × Reason)
dropped choice es = gather (dropped_of choice) es

abbrev pub with_name : FinMap nat_cmp Reason → ℕ × Reason → FinMap nat_cmp Reason
with_name names d = insert names d.0 d.1

-- each named with its reason
abbrev pub named : List (ℕ × Reason) → FinMap nat_cmp Reason
named ds = fold with_name empty ds

abbrev pub filtered_by_fate : ℕ → Fate → List ℕ
filtered_by_fate pos Filters = pos ∷ []
filtered_by_fate pos (Drops reason) = []
filtered_by_fate pos (Sends l) = []

abbrev pub filtered_of : Choice → List Entry → Entry → List ℕ
filtered_of choice before (Def reference labels) = []
filtered_of choice before (Sample reference t word) = filtered_by_fate (length before) (fate choice before reference t)

-- the positions of the samples whose series the rules drop
abbrev pub filtered : Choice → List Entry → List ℕ
filtered choice es = gather (filtered_of choice) es
