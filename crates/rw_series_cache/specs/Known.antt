-- What is known of a reference after some entries of a log.
use Rattle.std.specs.Prelude.{ℕ, List, length, filter, Bool, true, false, Option, Some, None, if◌then◌else◌}
use Rattle.rw_types.specs.Labels.{Labels, label_fault}
use Rattle.rw_types.specs.declared.entry.Entry.{Entry}
use Rattle.rw_types.specs.declared.entry.Entry.TheVariants.{Def, Sample}
use Rattle.rw_types.specs.declared.label_fault.LabelFault.{LabelFault}
use Rattle.rw_wal_format.specs.Series.{labels_of}
use Rattle.rw_relabel.specs.Rules.{keeps}
use Rattle.rw_relabel.specs.declared.choice.Choice.{Choice}

-- nothing, labels that are not a label set, a label set that the rules drop, or one that they keep
pub data Standing : Type 0 where
  Unknown : Standing
  Bad : (fault : LabelFault) → Standing
  Filtered : Standing
  Kept : (labels : List (List ℕ × List ℕ)) → Standing

-- a label set is kept or dropped by the rules
abbrev pub standing_of_set : Bool → Labels → Standing
standing_of_set is_kept l = if is_kept then Kept l else Filtered

abbrev pub standing_by : Choice → Labels → Option LabelFault → Standing
standing_by choice l None = standing_of_set (keeps choice.rules l) l
standing_by choice l (Some fault) = Bad fault

-- the labels are judged before the rules are evaluated
abbrev pub standing_of : Choice → Option Labels → Standing
standing_of choice None = Unknown
standing_of choice (Some l) = standing_by choice l (label_fault choice.names l)

-- what is known of a reference: the last definition of it among these entries, judged
unfoldable pub known : Choice → List Entry → ℕ → Standing
known choice entries reference = standing_of choice (labels_of entries reference (length entries))

abbrev pub is_definition : Entry → Bool
is_definition (Def reference labels) = true
is_definition (Sample reference t word) = false

-- the definitions among entries
abbrev pub definitions_of : List Entry → List Entry
definitions_of entries = filter is_definition entries
