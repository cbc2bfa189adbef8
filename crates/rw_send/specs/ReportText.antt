-- What is printed of a report.
use Rattle.std.specs.Prelude.{◌≡◌, ℕ, ◌≤◌, List, length, take, Option, Some}
use Rattle.std.specs.Io.KnownBytes.{Appends}
use Rattle.std.specs.List.Sorted.{IsPermutation, IsNonDecreasing, IsNonDecreasingBy}
use Rattle.rw_ledger.specs.declared.ledger.Reason.{Reason}
use Rattle.rw_shard_core.specs.declared.outcome.Outcome.{Outcome}
use Rattle.rw_shard_core.specs.declared.outcome.Outcome.TheVariants as outcome
use Rattle.rw_shard_core.specs.Endings.{Ending, Complete, Abandoned, Damaged}
use Rattle.rw_report_text.specs.StateText.{work_text}
use Rattle.rw_fleet.specs.Stopped.{names_in_parts}
use Rattle.rw_sender.specs.Reports.{parts_of}
use Rattle.rw_sender.specs.declared.report.Report.{Report}

-- the same dropped samples, by position
abbrev pub AreByPosition : List (ℕ × Reason) → List (ℕ × Reason) → Type 0
AreByPosition names sorted = IsPermutation names sorted × IsNonDecreasingBy (λ (name : ℕ × Reason). name.0) sorted

-- the end that an outcome is, with the samples that are not resolved by position
abbrev pub IsEnding : Outcome → Ending → Type 0
IsEnding (outcome.Complete end) ending = ending ≡ Complete end
IsEnding (outcome.Abandoned placed samples) ending =
    (sorted : List ℕ) × IsPermutation samples.items sorted × IsNonDecreasing sorted × (ending ≡ Abandoned placed sorted)
IsEnding (outcome.Damaged fault) ending = ending ≡ Damaged fault

-- the dropped samples by position, how many the rules have filtered, and the end
pub record IsTextOf {T : Type 0} (r : Report T) (text : List ℕ) : Type 0 where
  pub names : List (ℕ × Reason)
  pub by_position : AreByPosition (names_in_parts (parts_of r)) names
  pub ending : Ending
  pub ends : IsEnding r.outcome ending
  pub text_is : text ≡ work_text names r.filtered (Some ending)

-- a prefix of the text was written
pub record WritesReportPart {T : Type 0} (r : Report T) (before after : Option (List ℕ)) : Type 0 where
  pub text : List ℕ
  pub text_of : IsTextOf r text
  pub count : ℕ
  pub within : count ≤ length text
  pub written : Appends before after (take count text)
