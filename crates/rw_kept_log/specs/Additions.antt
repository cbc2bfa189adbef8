-- What a message adds to a log.
use Rattle.std.specs.Prelude.{◌≡◌, ℕ, ℤ, List, [], ◌∷◌, ◌++◌, length, map, Some, if◌then◌else◌}
use Rattle.rw_types.specs.Labels.{Labels}
use Rattle.rw_types.specs.LabelOrder.{labels_eq}
use Rattle.rw_types.specs.declared.entry.Entry.{Entry}
use Rattle.rw_types.specs.declared.entry.Entry.TheVariants.{Def, Sample}
use Rattle.rw_wal_format.specs.Series.{labels_of, samples_after}

-- a sample of a known series: its timestamp and the 64-bit word of its value
abbrev pub Point : Type 0
Point = ℤ × ℕ

-- a sample without its position
abbrev pub without_position : ℕ × ℤ × ℕ → Point
without_position s = (s.1, s.2)

-- the samples of a label set among the entries of a log, in their order
abbrev pub samples_of_labels : List Entry → Labels → List Point
samples_of_labels es l = map without_position (samples_after l [] es)

-- the entry of a definition: a reference and its labels
abbrev pub definition_entry : ℕ × Labels → Entry
definition_entry d = Def d.0 d.1

-- what is added of one label set: the reference that it has in the log, and its new samples
pub record Addition : Type 0 where
  pub reference : ℕ
  pub labels : List (List ℕ × List ℕ)
  pub samples : List Point

abbrev pub entries_with : ℕ → List Point → List Entry
entries_with reference [] = []
entries_with reference (p ∷ ps) = Sample reference p.0 p.1 ∷ entries_with reference ps

-- the samples of all of them, as entries
abbrev pub added_entries : List Addition → List Entry
added_entries [] = []
added_entries (a ∷ rest) = entries_with a.reference a.samples ++ added_entries rest

-- the new samples of a label set
abbrev pub samples_of_additions : Labels → List Addition → List Point
samples_of_additions l [] = []
samples_of_additions l (a ∷ rest) = (if labels_eq a.labels l then a.samples else []) ++ samples_of_additions l rest

-- after these entries, the reference of each addition stands for its label set
abbrev pub AreNamed : List Entry → List Addition → Type 0
AreNamed es [] = Unit {0}
AreNamed es (a ∷ rest) = (labels_of es a.reference (length es) ≡ Some a.labels) × AreNamed es rest
