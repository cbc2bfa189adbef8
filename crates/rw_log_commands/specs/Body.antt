-- The body of a log segment: the message of its samples that have a label set, in its canonical
-- spelling.
use Rattle.std.specs.Prelude.{ℕ, Bool, List, [], ◌∷◌}
use Rattle.rw_wal_format.specs.Pieces.{entries}
use Rattle.rw_write_request.specs.Canon.{canon}
use Rattle.rw_batch.specs.Grouping.{message}
use Rattle.rw_log_read.specs.Logs.{log_in}
use Rattle.rw_log_commands.specs.Labelled.{labelled_samples}

-- the body of a segment, which may have Snappy blocks or has none
abbrev pub body_of_segment : Bool → List ℕ → List ℕ
body_of_segment compresses segment = canon (message (labelled_samples (entries (log_in compresses (segment ∷ [])))))
