-- The labels that are added to each series: the table `send.labels`.
use Rattle.std.specs.Prelude.{ℕ, List, fold, map, ◌&&◌, Option, Some, None, Bool, codes, if◌then◌else◌}
use Rattle.toml.specs.Data.{Data, as_str, as_table, Members, get_member}
use Rattle.rw_types.specs.Labels.{Label, Labels, is_filled, is_well_named}
use Rattle.rw_types.specs.declared.names.Names.{Names}
use Rattle.rw_types.specs.declared.label_fault.LabelFault.{LabelFault}
use Rattle.rw_types.specs.declared.label_fault.LabelFault.TheVariants as label
use Rattle.rw_settings.specs.Faults.{lesser}
use Rattle.rw_settings.specs.Keys.{external_labels, names_setting}
use Rattle.rw_settings.specs.SentFields.{member_names, fields_of, part_at}
use Rattle.rw_settings.specs.declared.fault.SettingsFault.{SettingsFault}
use Rattle.rw_settings.specs.declared.fault.SettingsFault.TheVariants.{OutOfMemory, WrongType, OutOfRange}

-- a label set may have this label, if such names are accepted
abbrev pub can_be_label : Names → Label → Bool
can_be_label names l = is_filled l.0 && is_filled l.1 && is_well_named names l

-- what is wrong with a label: its value is no text, or no label set has it
abbrev pub label_text_fault : Names → List ℕ → Option (List ℕ) → Option SettingsFault
label_text_fault names name None = Some WrongType
label_text_fault names name (Some text) = if can_be_label names (name, text) then None else Some OutOfRange

abbrev pub label_value_fault : Names → List ℕ → Option Data → Option SettingsFault
label_value_fault names name None = None
label_value_fault names name (Some value) = label_text_fault names name (as_str value)

abbrev pub label_fault : Names → Members → List ℕ → Option SettingsFault
label_fault names table name = label_value_fault names name (get_member name table)

-- the least fault of the labels
abbrev pub labels_fault : Names → Option Members → Option SettingsFault
labels_fault names None = Some WrongType
labels_fault names (Some table) = fold lesser None (map (label_fault names table) (member_names table))

abbrev pub labels_value_fault : Names → Option Data → Option SettingsFault
labels_value_fault names None = None
labels_value_fault names (Some value) = labels_fault names (as_table value)

-- what is wrong with the labels of a table `send`, whose naming scheme they have
abbrev pub external_fault : Members → Option SettingsFault
external_fault send = labels_value_fault (names_setting send) (get_member external_labels.0 send)

-- what a fault of the labels as a whole is
abbrev pub fault_of_set : LabelFault → SettingsFault
fault_of_set label.OutOfMemory = OutOfMemory
fault_of_set _ = OutOfRange

-- the labels that a document sets, in the order of their names
abbrev pub sent_labels : Members → Labels
sent_labels document = fields_of (part_at (part_at document (codes "send")) (codes "labels"))
