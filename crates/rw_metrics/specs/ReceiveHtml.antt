-- The page of a receiver for people: the tables of the code, with their numbers.
use Rattle.std.specs.Prelude.{ℕ, List, [], ◌∷◌, ◌++◌, ◌/◌, if◌then◌else◌, Option, None, Some, codes}
use Rattle.rw_metrics.specs.Html.{page_start, page_end, table_text}
use Rattle.rw_metrics.specs.ReceiveCounts.{is_skipping}
use Rattle.rw_metrics.specs.Rows.{table}
use Rattle.rw_metrics.specs.declared.receive_numbers.KeptNumbers.{KeptNumbers}
use Rattle.rw_metrics.specs.declared.receive_numbers.MemoryNumbers.{MemoryNumbers}
use Rattle.rw_metrics.specs.declared.receive_numbers.ReceiveNumbers.{ReceiveNumbers}
use Rattle.rw_metrics.specs.declared.receiver_html.TheConstants.{HELD, MEMORY, CONNECTIONS, ANSWERS, SKIPPED, LOG}
use Rattle.rw_metrics.specs.declared.rows.Shown.TheVariants as shown
use Rattle.rw_metrics.specs.declared.skipped_parts.SkippedParts.{SkippedParts}

-- what is held, and how much may be
abbrev pub held_table : ReceiveNumbers → List ℕ
held_table n =
    table_text (table HELD)
    (shown.Count n.samples ∷ shown.Count n.label_sets ∷ shown.IfAny n.max_samples
    ∷ shown.IfAny n.max_label_sets ∷ []) []

-- what is in memory
unfoldable pub memory_table : MemoryNumbers → List ℕ
memory_table n = table_text (table MEMORY) (shown.Count n.samples ∷ shown.Count n.asked ∷ []) []

-- the same, if only the latest samples are in memory
unfoldable pub recent_table : Option MemoryNumbers → List ℕ
recent_table None = []
recent_table (Some n) = memory_table n

-- the connections
abbrev pub connections_table : ReceiveNumbers → List ℕ
connections_table n =
    table_text (table CONNECTIONS)
    (shown.Count n.connections ∷ shown.Count n.accepted ∷ shown.Count n.refused ∷ []) []

-- the requests that were answered, by status
abbrev pub answers_table : ReceiveNumbers → List ℕ
answers_table n = table_text (table ANSWERS) [] n.statuses.items

-- what acknowledged requests had that is not held, if there is any of it
unfoldable pub skipped_table : SkippedParts → List ℕ
skipped_table s =
    if is_skipping s
    then table_text (table SKIPPED)
    (shown.IfAny s.histograms ∷ shown.IfAny s.exemplars ∷ shown.IfAny s.metadata ∷ []) []
    else []

-- what was written to the log of a folder
unfoldable pub log_table : KeptNumbers → List ℕ
log_table n =
    table_text (table LOG)
    (shown.Count n.found ∷ shown.Count n.read ∷ shown.Count n.bytes ∷ shown.Count n.syncs
    ∷ shown.Count (n.sync_micros / 1000) ∷ shown.Count n.segments ∷ shown.Count n.failed ∷ []) []

-- the same, if the receiver has such a log
unfoldable pub kept_table : Option KeptNumbers → List ℕ
kept_table None = []
kept_table (Some n) = log_table n

abbrev pub receive_html : ReceiveNumbers → List ℕ
receive_html n =
    page_start (codes "rwship receive")
    ++ held_table n
    ++ recent_table n.memory
    ++ connections_table n
    ++ answers_table n
    ++ skipped_table n.skipped
    ++ kept_table n.kept
    ++ page_end
