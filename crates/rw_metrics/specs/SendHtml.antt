-- The page of a sender for people: the tables of the code, with their numbers.
use Rattle.std.specs.Prelude.{ℕ, List, [], ◌∷◌, ◌++◌, ◌==◌, if◌then◌else◌, codes}
use Rattle.rw_metrics.specs.Html.{page_start, page_end, table_text}
use Rattle.rw_metrics.specs.Lines.{lag, percent}
use Rattle.rw_metrics.specs.Rows.{table}
use Rattle.rw_metrics.specs.SendCounts.{by_reason, by_cause}
use Rattle.rw_metrics.specs.declared.rows.Shown.TheVariants as shown
use Rattle.rw_metrics.specs.declared.send_numbers.Drops.{Drops}
use Rattle.rw_metrics.specs.declared.send_numbers.SendNumbers.{SendNumbers}
use Rattle.rw_metrics.specs.declared.sender_html.TheConstants.{SAMPLES, DROPPED, ATTEMPTS, LOG}

-- what the sender is doing
unfoldable pub state : SendNumbers → List ℕ
state n =
    if n.failures.in_a_row == 0
    then (if n.in_flight == 0
    then codes "<p>Reading the log. No sample is in flight.</p>\n"
    else codes "<p>Sending. Samples are in flight.</p>\n")
    else codes "<p class=\"bad\">Waiting for the receiver: attempts to send fail.</p>\n"

-- how far the samples have come
abbrev pub samples_table : SendNumbers → List ℕ
samples_table n =
    table_text (table SAMPLES)
    (shown.Count n.read ∷ shown.Count n.acknowledged ∷ shown.Count n.drops.all
    ∷ shown.Count n.filtered ∷ shown.Count n.in_flight
    ∷ shown.Known (lag n.newest_read n.newest_acknowledged) ∷ []) []

-- the dropped samples, by reason
abbrev pub drops_table : Drops → List ℕ
drops_table d = table_text (table DROPPED) (shown.Count d.all ∷ by_reason d) d.refused.items

-- the attempts, and those that failed, by cause
abbrev pub attempts_table : SendNumbers → List ℕ
attempts_table n =
    table_text (table ATTEMPTS)
    (shown.Count n.attempts ∷ shown.Count n.failures.all ∷ shown.Count n.failures.in_a_row
    ∷ shown.Last n.failures.last ∷ by_cause n.failures) n.failures.statuses.items

-- how far the log is read, and which of its records may hold samples, and so are lost
abbrev pub reading_table : SendNumbers → List ℕ
reading_table n =
    table_text (table LOG)
    (shown.Count n.segment ∷ shown.Count n.newest_segment ∷ shown.Count n.entries
    ∷ shown.Count n.bytes ∷ shown.Known (percent n.bytes n.folder_bytes)
    ∷ shown.IfAny n.skipped.histograms ∷ shown.IfAny n.skipped.float_histograms
    ∷ shown.IfAny n.skipped.custom_histograms ∷ shown.IfAny n.skipped.custom_float_histograms
    ∷ shown.IfAny n.skipped.unknown ∷ shown.Count n.shards ∷ []) []

abbrev pub send_html : SendNumbers → List ℕ
send_html n =
    page_start (codes "rwship send")
    ++ state n
    ++ samples_table n
    ++ drops_table n.drops
    ++ attempts_table n
    ++ reading_table n
    ++ page_end
