-- Lines of progress: the words of the code's tables, with their numbers.
use Rattle.std.specs.Prelude.{ℕ, List, [], ◌∷◌, ◌++◌, ◌-◌, ◌*◌, ◌/◌, ◌==◌, false, min, if◌then◌else◌, Option, None, Some, codes, decimal}
use Rattle.rw_metrics.specs.Rows.{Shape, Table, table, texts, rows_text, statuses_text}
use Rattle.rw_metrics.specs.SendCounts.{by_reason, by_type}
use Rattle.rw_metrics.specs.declared.lines.TheConstants.{SENT, RECEIVED, LOG, DROPPED, SKIPPED}
use Rattle.rw_metrics.specs.declared.receive_numbers.KeptNumbers.{KeptNumbers}
use Rattle.rw_metrics.specs.declared.receive_numbers.ReceiveNumbers.{ReceiveNumbers}
use Rattle.rw_metrics.specs.declared.rows.Shown.{Shown}
use Rattle.rw_metrics.specs.declared.rows.Shown.TheVariants as shown
use Rattle.rw_metrics.specs.declared.send_numbers.Drops.{Drops}
use Rattle.rw_metrics.specs.declared.send_numbers.SendNumbers.{SendNumbers}
use Rattle.rw_metrics.specs.declared.send_numbers.Skipped.{Skipped}
use Rattle.rw_metrics.specs.declared.send_numbers.TheConstants.{TYPES}

-- ` WORD N`
abbrev pub words : Shape
words = record { start = codes " "; between = codes " "; end = []; zeros = false }

-- a line: its first word, the others and the statuses, each with its number
unfoldable pub line_text : Table → (first : ℕ) → List Shown → (counts : List (ℕ × ℕ)) → List ℕ
line_text t first numbers counts =
    t.0 ++ codes " " ++ decimal first ++ rows_text words t.1 numbers ++ statuses_text words t.2 counts

-- how many hundredths of the bytes were read, if there are any
abbrev pub percent : (bytes all : ℕ) → Option ℕ
percent bytes all = if all == 0 then None else Some (min (bytes * 100 / all) 100)

-- by how many seconds the newest acknowledged sample is older than the newest one that was read, if
-- a sample was acknowledged
abbrev pub lag : (read acknowledged : ℕ) → Option ℕ
lag read acknowledged = if acknowledged == 0 then None else Some (read - acknowledged)

-- of a sender
abbrev pub send_line : SendNumbers → List ℕ
send_line n =
    line_text (table SENT) n.entries
    (shown.Count n.read ∷ shown.Count n.acknowledged ∷ shown.Count n.drops.all
    ∷ shown.Count n.filtered ∷ shown.Count n.in_flight
    ∷ shown.Known (lag n.newest_read n.newest_acknowledged) ∷ shown.Count n.shards
    ∷ shown.Count n.attempts ∷ shown.Count n.failures.all ∷ shown.Last n.failures.last
    ∷ shown.Count n.segment ∷ shown.Count n.segment_bytes ∷ shown.IfAny n.newest_segment
    ∷ shown.Known (percent n.bytes n.folder_bytes) ∷ []) []

-- what a receiver wrote to the log of a folder
unfoldable pub log_words : KeptNumbers → List ℕ
log_words n =
    rows_text words (texts LOG)
    (shown.Count n.bytes ∷ shown.Count n.syncs ∷ shown.Count n.segments ∷ shown.Count n.failed ∷ [])

-- the same, if it has such a log
unfoldable pub kept_words : Option KeptNumbers → List ℕ
kept_words None = []
kept_words (Some n) = log_words n

-- of a receiver
abbrev pub receive_line : ReceiveNumbers → List ℕ
receive_line n =
    line_text (table RECEIVED) n.connections
    (shown.Count n.accepted ∷ shown.Count n.samples ∷ []) n.statuses.items
    ++ kept_words n.kept

-- how many samples a sender has dropped, by reason
abbrev pub drops_line : Drops → List ℕ
drops_line d = line_text (table DROPPED) d.all (by_reason d) d.refused.items

-- which records of the log a sender has skipped
abbrev pub skipped_line : Skipped → List ℕ
skipped_line s = SKIPPED.now ++ rows_text words (texts TYPES) (by_type s)
