-- The page of a receiver: the metrics of the code's tables, with their numbers.
use Rattle.std.specs.Prelude.{ℕ, List, [], ◌∷◌, ◌++◌, Option, None, Some, map}
use Rattle.rw_metrics.specs.Exposition.{metric, family, metrics_text, family_text}
use Rattle.rw_metrics.specs.ReceiveCounts.{by_kind, by_refusal}
use Rattle.rw_metrics.specs.Rows.{texts}
use Rattle.rw_metrics.specs.declared.receive_numbers.KeptNumbers.{KeptNumbers}
use Rattle.rw_metrics.specs.declared.receive_numbers.MemoryNumbers.{MemoryNumbers}
use Rattle.rw_metrics.specs.declared.receive_numbers.ReceiveNumbers.{ReceiveNumbers}
use Rattle.rw_metrics.specs.declared.receiver_page.TheConstants.{CONNECTIONS, REQUESTS, REFUSED, SKIPPED, HELD, MEMORY, LOG}
use Rattle.rw_metrics.specs.declared.refusals.RefusedSamples.{RefusedSamples}
use Rattle.rw_metrics.specs.declared.refusals.TheConstants.{REFUSALS}
use Rattle.rw_metrics.specs.declared.rows.Shown.TheVariants as shown
use Rattle.rw_metrics.specs.declared.skipped_parts.SkippedParts.{SkippedParts}
use Rattle.rw_metrics.specs.declared.skipped_parts.TheConstants.{KINDS}

-- the connections
abbrev pub connections_page : ReceiveNumbers → List ℕ
connections_page n =
    metrics_text (map metric CONNECTIONS)
    (shown.Count n.connections ∷ shown.Count n.accepted ∷ shown.Count n.refused ∷ [])

-- the requests that were answered, by status
abbrev pub requests_page : ReceiveNumbers → List ℕ
requests_page n = family_text (family REQUESTS) [] [] n.statuses.items

-- the samples of refused requests, by reason
abbrev pub refused_page : RefusedSamples → List ℕ
refused_page r = family_text (family REFUSED) (texts REFUSALS) (by_refusal r) []

-- what acknowledged requests had that is not held, by kind
abbrev pub skipped_page : SkippedParts → List ℕ
skipped_page s = family_text (family SKIPPED) (texts KINDS) (by_kind s) []

-- what is held
abbrev pub held_page : ReceiveNumbers → List ℕ
held_page n =
    metrics_text (map metric HELD)
    (shown.Count n.samples ∷ shown.Count n.label_sets ∷ shown.Count n.max_samples
    ∷ shown.Count n.max_label_sets ∷ [])

-- what is in memory
unfoldable pub memory_page : MemoryNumbers → List ℕ
memory_page n = metrics_text (map metric MEMORY) (shown.Count n.samples ∷ shown.Count n.asked ∷ [])

-- the same, if only the latest samples are in memory
unfoldable pub recent_page : Option MemoryNumbers → List ℕ
recent_page None = []
recent_page (Some n) = memory_page n

-- how far the log of a folder was read at the start, and what was written to it
unfoldable pub log_page : KeptNumbers → List ℕ
log_page n =
    metrics_text (map metric LOG)
    (shown.Count n.found ∷ shown.Count n.read ∷ shown.Count n.opening_bytes ∷ shown.Count n.bytes
    ∷ shown.Count n.syncs ∷ shown.Micros n.sync_micros ∷ shown.Count n.segments ∷ shown.Count n.failed ∷ [])

-- the same, if the receiver has such a log
unfoldable pub kept_page : Option KeptNumbers → List ℕ
kept_page None = []
kept_page (Some n) = log_page n

abbrev pub receive_page : ReceiveNumbers → List ℕ
receive_page n =
    connections_page n ++ requests_page n ++ refused_page n.refused_samples ++ skipped_page n.skipped
    ++ held_page n ++ recent_page n.memory ++ kept_page n.kept
