-- What a head with given limits may hold, and the logs that it takes.
use Rattle.std.specs.Prelude.{◌≡◌, ◌<◌, ◌^◌, ◌-◌, ℕ, suc, List, length, min, take, true, None}
use Rattle.rw_types.specs.Labels.{Labels}
use Rattle.rw_types.specs.Rising.{Rises}
use Rattle.rw_types.specs.declared.entry.Entry.{Entry}
use Rattle.rw_wal_format.specs.Pieces.{page_size}
use Rattle.rw_head.specs.declared.limits.Limits.{Limits}
use Rattle.rw_head.specs.Lists.{IsEarlier, has_samples}
use Rattle.rw_head.specs.Order.{Point}
use Rattle.rw_head.specs.Verdicts.{LabelLimits, refusal}
use Rattle.rw_kept_log.specs.Journal.{Segments}
use Rattle.rw_kept_log.specs.Logs.{entries_of}
use Rattle.rw_kept_log.specs.Additions.{samples_of_labels}

-- the limits on label sets
abbrev pub label_limits : Limits → LabelLimits
label_limits limits = record { names = limits.names; max_labels = limits.max_labels; max_label_bytes = limits.max_label_bytes }

-- A head with these limits may hold these samples of each label set: their timestamps rise, and no
-- label set that has samples is refused.
pub record MayHold (limits : LabelLimits) (lists : Labels → List Point) : Type 0 where
  pub rises : (l : Labels) → Rises IsEarlier (lists l)
  pub within : (l : Labels) → has_samples (lists l) ≡ true → refusal limits l ≡ None

-- a head with these limits may hold the samples of this log
abbrev pub IsAdmitted : LabelLimits → Segments → Type 0
IsAdmitted limits segments = MayHold limits (samples_of_labels (entries_of page_size segments))

-- The first entry that is refused: a head with these limits may hold the samples of the entries
-- before it, and none may hold those with it.
pub record IsFirstRefused (limits : LabelLimits) (es : List Entry) (n : ℕ) : Type 0 where
  pub within : n < length es
  pub before : MayHold limits (samples_of_labels (take n es))
  pub with_it : MayHold limits (samples_of_labels (take (suc n) es)) → ⊥

-- the position of the first entry that is refused; it is counted to the greatest number of 64 bits
abbrev pub IsRefusedAt : LabelLimits → List Entry → ℕ → Type 0
IsRefusedAt limits es at = (n : ℕ) × (at ≡ min n (2 ^ 64 - 1)) × IsFirstRefused limits es n
