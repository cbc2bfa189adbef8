-- The totals of entries of a log.
use Rattle.std.specs.Prelude.{◌+◌, ℤ, List, Option, None, Some, fold, int_lt, if◌then◌else◌}
use Rattle.rw_types.specs.declared.entry.Entry.{Entry}
use Rattle.rw_types.specs.declared.entry.Entry.TheVariants.{Def, Sample}
use Rattle.rw_log_read.specs.declared.sums.Sums.{Sums}

-- the earlier one of a timestamp and those before, and the later one
abbrev pub sooner : Option ℤ → ℤ → Option ℤ
sooner None t = Some t
sooner (Some earliest) t = if int_lt earliest t then Some earliest else Some t

abbrev pub later : Option ℤ → ℤ → Option ℤ
later None t = Some t
later (Some latest) t = if int_lt t latest then Some latest else Some t

-- the totals of an empty log
abbrev pub no_sums : Sums
no_sums = record { entries = 0; series = 0; samples = 0; earliest = None; latest = None }

-- one more entry
abbrev pub sums_with_entry : Sums → Entry → Sums
sums_with_entry s (Def reference labels) = record s { entries = s.entries + 1; series = s.series + 1 }
sums_with_entry s (Sample reference t word) = record s { entries = s.entries + 1; samples = s.samples + 1; earliest = sooner s.earliest t; latest = later s.latest t }

-- the totals of entries
unfoldable pub sums_of : List Entry → Sums
sums_of entries = fold sums_with_entry no_sums entries
