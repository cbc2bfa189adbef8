-- The files of a log in a folder.
use Rattle.std.specs.Prelude.{Bool, string_len}
use Rattle.std.specs.Ordering.{is_lt, nat_cmp, ordering_then}
use Rattle.rw_log_folder.specs.declared.files.SegmentName.{SegmentName}

-- by number, and of two names of one number the shorter first
abbrev pub comes_before : SegmentName → SegmentName → Bool
comes_before x y = is_lt (ordering_then (nat_cmp x.number y.number) (nat_cmp (string_len x.name) (string_len y.name)))
