-- What a server writes in place of the oldest segments of its log.
use Rattle.std.specs.Prelude.{◌≡◌, ℤ, true, List, []}
use Rattle.std.specs.List.{AllByRecursion}
use Rattle.rw_types.specs.Labels.{Labels}
use Rattle.rw_types.specs.declared.entry.Entry.{Entry}
use Rattle.rw_wal_format.specs.Series.{samples_after}
use Rattle.rw_head.specs.Order.{Point}
use Rattle.rw_kept_log.specs.Checkpoints.{SaySame}
use Rattle.rw_restarts.specs.Owed.{pairs_of, is_from, those_from}

-- `cp` is a checkpoint of the entries `full`, which the entries `later` follow: it says of each
-- reference that is used there what `full` says, and has of the label set the samples from a time
-- on, which may be another time for each label set
pub record IsCheckpointFor (floor : ℤ) (l : Labels) (full cp later : List Entry) : Type 0 where
  pub labels : SaySame full cp later
  pub samples : pairs_of (samples_after l [] cp)
      ≡ those_from floor (pairs_of (samples_after l [] full))

-- no sample of the label set in `later` is earlier than that time
abbrev pub IsInTime : ℤ → Labels → List Entry → List Entry → Type 0
IsInTime floor l full later =
    AllByRecursion (λ (p : Point). is_from floor p ≡ true) (pairs_of (samples_after l full later))
