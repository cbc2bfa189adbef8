-- How the log of a head is opened.
use Rattle.std.specs.Prelude.{◌≡◌, ◌≤◌, ◌^◌}
use Rattle.rw_kept_log.specs.Journal.{Segments}
use Rattle.rw_wal_format.specs.Pieces.{page_size}
use Rattle.rw_kept_log.specs.Logs.{entries_of}
use Rattle.rw_kept_log.specs.declared.error.ReopenError.TheVariants.{OutOfMemory, Failed, Damaged}
use Rattle.rw_kept_log.specs.Reading.{greatest_after}
use Rattle.rw_kept_log.specs.Reopening.{IsDamage}
use Rattle.rw_head.specs.Verdicts.{LabelLimits}
use Rattle.rw_kept_head.specs.Admitted.{IsAdmitted, IsRefusedAt}
use Rattle.rw_kept_head.specs.declared.open_error.OpenError.{OpenError}
use Rattle.rw_kept_head.specs.declared.open_error.OpenError.TheVariants.{Log, Foreign, NoReferenceLeft}

-- the log is said to be damaged only if it has that damage, and a log that is refused is as it was
abbrev pub IsRefusedRightly : Segments → Segments → OpenError → Type 0
IsRefusedRightly old new (Log OutOfMemory) = Unit {0}
IsRefusedRightly old new (Log Failed) = Unit {0}
IsRefusedRightly old new (Log (Damaged d)) = IsDamage old d × (new ≡ old)
IsRefusedRightly old new (Foreign at) = new ≡ old
IsRefusedRightly old new NoReferenceLeft = new ≡ old

-- a log is said to be foreign only if no head with these limits holds its samples, and to have no
-- reference left only if it has one from 2^63 on
abbrev pub HasOpeningCause : LabelLimits → Segments → OpenError → Type 0
HasOpeningCause limits segments (Log e) = Unit {0}
HasOpeningCause limits segments (Foreign at) = IsAdmitted limits segments → ⊥
HasOpeningCause limits segments NoReferenceLeft = 2 ^ 63 ≤ greatest_after 0 (entries_of page_size segments)

-- a log is said to be foreign at the first entry that is refused
abbrev pub HasForeignPlace : LabelLimits → Segments → OpenError → Type 0
HasForeignPlace limits segments (Log e) = Unit {0}
HasForeignPlace limits segments (Foreign at) = IsRefusedAt limits (entries_of page_size segments) at
HasForeignPlace limits segments NoReferenceLeft = Unit {0}

-- these segments have the same entries
abbrev pub HasSameEntries : Segments → Segments → Type 0
HasSameEntries segments left = entries_of page_size left ≡ entries_of page_size segments
