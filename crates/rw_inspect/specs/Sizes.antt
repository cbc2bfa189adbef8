-- How large segments are.
use Rattle.std.specs.Prelude.{ℕ, ◌+◌, ◌/◌, ◌%◌, ◌==◌, List, fold, if◌then◌else◌}
use Rattle.rw_log_read.specs.declared.log_read.Segment.{Segment}
use Rattle.rw_inspect.specs.declared.sizes.Sizes.{Sizes}

-- how many pages this many bytes take
abbrev pub pages_of : ℕ → ℕ
pages_of n = if n % 32768 == 0 then n / 32768 else n / 32768 + 1

-- how large a segment is, and all segments are
abbrev pub sizes_of : Segment → Sizes
sizes_of s = record { bytes = s.bytes; pages = pages_of s.bytes; passed = s.passed }

abbrev pub with_segment : Sizes → Segment → Sizes
with_segment t s = record { bytes = t.bytes + s.bytes; pages = t.pages + pages_of s.bytes; passed = t.passed + s.passed }

abbrev pub sizes_in : List Segment → Sizes
sizes_in segments = fold with_segment (record { bytes = 0; pages = 0; passed = 0 }) segments
