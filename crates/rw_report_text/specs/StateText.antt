-- The state of a sender and a receiver as text, one fact a line.
use Rattle.std.specs.Prelude.{ℕ, List, [], ◌∷◌, ◌++◌, flat_map, Option, Some, None, codes, decimal}
use Rattle.std.specs.Fmt.{signed_decimal}
use Rattle.rw_types.specs.Labels.{Labels}
use Rattle.rw_wal_format.specs.Faults.{log_fault_number}
use Rattle.rw_text.specs.LabelText.{labels_text}
use Rattle.rw_text.specs.ValueText.{value_text}
use Rattle.rw_ledger.specs.declared.ledger.Reason.{Reason}
use Rattle.rw_ledger.specs.declared.ledger.Reason.TheVariants.{Status, BadLabels, NoSeries, NotRising}
use Rattle.rw_head.specs.Order.{Point}
use Rattle.rw_head.specs.Store.{Store, list_of, label_sets}
use Rattle.rw_shard_core.specs.Endings.{Ending, Complete, Abandoned, Damaged}

-- ` T=VALUE`
abbrev pub point_text : Point → List ℕ
point_text p = 32 ∷ signed_decimal p.0 ++ 61 ∷ value_text p.1

-- `received LABELS` and the samples, or no line without samples
abbrev pub received_text : Labels → List Point → List ℕ
received_text l [] = []
received_text l (p ∷ ps) = codes "received " ++ labels_text l ++ flat_map point_text (p ∷ ps) ++ 10 ∷ []

-- what a receiver holds, by byte order of the label sets' lists of (name, value)
abbrev pub store_text : Store → List ℕ
store_text store = flat_map (λ l. received_text l (list_of store l)) (label_sets store)

abbrev pub reason_text : Reason → List ℕ
reason_text (Status status) = codes "status " ++ decimal status
reason_text (BadLabels fault) = codes "labels " ++ decimal fault
reason_text NoSeries = codes "noseries"
reason_text NotRising = codes "notrising"

-- `dropped POS REASON`
abbrev pub dropped_text : ℕ × Reason → List ℕ
dropped_text name = codes "dropped " ++ decimal name.0 ++ 32 ∷ reason_text name.1 ++ 10 ∷ []

abbrev pub filtered_text : ℕ → List ℕ
filtered_text count = codes "filtered " ++ decimal count ++ 10 ∷ []

abbrev pub abandoned_text : ℕ → List ℕ
abandoned_text pos = codes "abandoned " ++ decimal pos ++ 10 ∷ []

-- the end: an `abandoned` line for each sample that was put and not resolved, and the report
abbrev pub ending_text : Option Ending → List ℕ
ending_text None = codes "report running\n"
ending_text (Some (Complete end)) = codes "report complete " ++ decimal end ++ 10 ∷ []
ending_text (Some (Abandoned placed samples)) = flat_map abandoned_text samples ++ codes "report abandoned " ++ decimal placed ++ 10 ∷ []
ending_text (Some (Damaged fault)) = codes "report damaged " ++ decimal (log_fault_number fault) ++ 10 ∷ []

-- what a sender reports of its work: the dropped samples by position, how many the rules have
-- filtered, and its end
abbrev pub work_text : List (ℕ × Reason) → ℕ → Option Ending → List ℕ
work_text names filtered ending = flat_map dropped_text names ++ filtered_text filtered ++ ending_text ending
