-- The page of a sender: the metrics of the code's tables, with their numbers.
use Rattle.std.specs.Prelude.{List, ℕ, [], ◌∷◌, ◌++◌, map}
use Rattle.rw_metrics.specs.Exposition.{metric, family, metrics_text, family_text}
use Rattle.rw_metrics.specs.Rows.{texts}
use Rattle.rw_metrics.specs.SendCounts.{by_reason, by_type, by_cause}
use Rattle.rw_metrics.specs.declared.rows.Shown.{Shown}
use Rattle.rw_metrics.specs.declared.rows.Shown.TheVariants as shown
use Rattle.rw_metrics.specs.declared.send_numbers.Drops.{Drops}
use Rattle.rw_metrics.specs.declared.send_numbers.SendNumbers.{SendNumbers}
use Rattle.rw_metrics.specs.declared.send_numbers.Skipped.{Skipped}
use Rattle.rw_metrics.specs.declared.send_numbers.TheConstants.{REASONS, TYPES, CAUSES}
use Rattle.rw_metrics.specs.declared.sender_page.TheConstants.{PROGRESS, ATTEMPTS, DROPPED, SKIPPED, FAILED}

-- how far the log is read, how far behind the sender is, and how far the samples have come
abbrev pub progress : SendNumbers → List Shown
progress n =
    shown.Count n.entries ∷ shown.Count n.bytes ∷ shown.Count n.folder_bytes
    ∷ shown.Count n.segment ∷ shown.Count n.segment_bytes ∷ shown.Count n.newest_segment
    ∷ shown.Count n.newest_read ∷ shown.Count n.newest_acknowledged ∷ shown.Count n.read
    ∷ shown.Count n.acknowledged ∷ shown.Count n.filtered ∷ shown.Count n.in_flight
    ∷ shown.Count n.placed ∷ shown.Count n.resolved ∷ shown.Count n.waiting
    ∷ shown.Count n.shards ∷ []

unfoldable pub progress_page : SendNumbers → List ℕ
progress_page n = metrics_text (map metric PROGRESS) (progress n)

-- the dropped samples, by reason
abbrev pub drops_page : Drops → List ℕ
drops_page d = family_text (family DROPPED) (texts REASONS) (by_reason d) d.refused.items

-- the records that were skipped, by type
abbrev pub skipped_page : Skipped → List ℕ
skipped_page s = family_text (family SKIPPED) (texts TYPES) (by_type s) []

-- the attempts, and those that failed, by cause
abbrev pub attempts_page : SendNumbers → List ℕ
attempts_page n =
    metrics_text (map metric ATTEMPTS) (shown.Count n.unsure ∷ shown.Count n.attempts ∷ [])
    ++ family_text (family FAILED) (texts CAUSES) (by_cause n.failures) n.failures.statuses.items

abbrev pub send_page : SendNumbers → List ℕ
send_page n = progress_page n ++ drops_page n.drops ++ skipped_page n.skipped ++ attempts_page n
