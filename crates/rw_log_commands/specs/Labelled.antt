-- The samples of a log that have a label set.
use Rattle.std.specs.Prelude.{ℕ, List, [], ◌∷◌, ◌++◌, length, Option, Some, None}
use Rattle.rw_types.specs.Labels.{Labels, label_fault}
use Rattle.rw_types.specs.declared.names.Names.TheVariants.{Legacy}
use Rattle.rw_types.specs.declared.label_fault.LabelFault.{LabelFault}
use Rattle.rw_types.specs.declared.entry.Entry.{Entry}
use Rattle.rw_types.specs.declared.entry.Entry.TheVariants.{Def, Sample}
use Rattle.rw_wal_format.specs.Series.{labels_of}
use Rattle.rw_write_request.specs.Message as message_specs
use Rattle.rw_batch.specs.Grouping.{LabelledSample}

-- the labels, unless a fault keeps them from being a label set
abbrev pub unless_bad_labels : Option LabelFault → Labels → Option Labels
unless_bad_labels None l = Some l
unless_bad_labels (Some f) l = None

-- labels, if they are a label set with legacy names
abbrev pub if_label_set : Option Labels → Option Labels
if_label_set None = None
if_label_set (Some l) = unless_bad_labels (label_fault Legacy l) l

-- the label set that the last definition of a reference gives, after some entries
unfoldable pub label_set_of : List Entry → ℕ → Option Labels
label_set_of before reference = if_label_set (labels_of before reference (length before))

-- a sample of the series with these labels, if there are any
abbrev pub labelled_by : Option Labels → message_specs.Sample → List LabelledSample
labelled_by None s = []
labelled_by (Some l) s = record { labels = l; sample = s } ∷ []

-- the sample that an entry gives, after those before
abbrev pub labelled_of : List Entry → Entry → List LabelledSample
labelled_of before (Def reference labels) = []
labelled_of before (Sample reference t word) = labelled_by (label_set_of before reference) (word, t)

-- the samples of entries, after those before
abbrev pub labelled_after : List Entry → List Entry → List LabelledSample
labelled_after before [] = []
labelled_after before (e ∷ es) = labelled_of before e ++ labelled_after (before ++ e ∷ []) es

-- the samples that have a label set, in order, each with the labels of the last definition of its
-- reference before it
unfoldable pub labelled_samples : List Entry → List LabelledSample
labelled_samples es = labelled_after [] es
