-- The series plan of a log: what becomes of each definition, and of how many samples.
use Rattle.std.specs.Prelude.{ℕ, List, [], ◌∷◌, ◌++◌, Bool, true, false, count_by, codes, decimal, Some}
use Rattle.rw_external_labels.specs.External.{labelled}
use Rattle.rw_types.specs.Labels.{Labels, label_fault_number}
use Rattle.rw_types.specs.declared.entry.Entry.{Entry}
use Rattle.rw_types.specs.declared.entry.Entry.TheVariants.{Def, Sample}
use Rattle.rw_types.specs.declared.label_fault.LabelFault.{LabelFault}
use Rattle.rw_wal_format.specs.Pieces.{entries}
use Rattle.rw_log_read.specs.Logs.{log_in}
use Rattle.rw_relabel.specs.declared.choice.Choice.{Choice}
use Rattle.rw_series_cache.specs.Known.{Standing, Unknown, Bad, Filtered, Kept, standing_of, known}
use Rattle.rw_series_cache.specs.Numbers.{series_of, number_of}
use Rattle.rw_text.specs.LabelText.{labels_text}
use Rattle.rw_log_commands.specs.declared.counts.SampleCounts.{SampleCounts}
use Rattle.rw_types.specs.Gathering.{gather}

-- `REF bad FAULT`, `REF filtered LABELS` and `REF kept NUMBER LABELS`, each with a newline
abbrev pub bad_text : ℕ → LabelFault → List ℕ
bad_text reference f = decimal reference ++ codes " bad " ++ decimal (label_fault_number f) ++ codes "\n"

abbrev pub filtered_line : ℕ → Labels → List ℕ
filtered_line reference l = decimal reference ++ codes " filtered " ++ labels_text l ++ codes "\n"

abbrev pub kept_text : ℕ → ℕ → Labels → List ℕ
kept_text reference number l = decimal reference ++ codes " kept " ++ decimal number ++ codes " " ++ labels_text l ++ codes "\n"

-- the line of a definition with these labels, if the series are these
abbrev pub definition_text : List Labels → ℕ → Labels → Standing → List ℕ
definition_text series reference labels Unknown = []
definition_text series reference labels (Bad f) = bad_text reference f
definition_text series reference labels Filtered = filtered_line reference labels
definition_text series reference labels (Kept l) = kept_text reference (number_of series l) l

-- the line that an entry gives, after those before
abbrev pub plan_line : Choice → List Entry → Entry → List ℕ
plan_line choice before (Sample reference t word) = []
plan_line choice before (Def reference labels) =
    definition_text (series_of choice (before ++ Def reference labels ∷ [])) reference labels (standing_of choice (Some labels))

-- what is known of the reference of a sample, after the entries before it
abbrev pub standing_at : Choice → List Entry → Entry → List Standing
standing_at choice before (Sample reference t word) = known choice before reference ∷ []
standing_at choice before (Def reference labels) = []

-- the lines of the definitions
unfoldable pub plan_lines : Choice → List Entry → List ℕ
plan_lines choice es = gather (plan_line choice) es

-- what is known of the samples, in order
unfoldable pub standings : Choice → List Entry → List Standing
standings choice es = gather (standing_at choice) es

abbrev pub is_kept_standing : Standing → Bool
is_kept_standing (Kept l) = true
is_kept_standing _ = false

abbrev pub is_filtered : Standing → Bool
is_filtered Filtered = true
is_filtered _ = false

abbrev pub is_bad : Standing → Bool
is_bad (Bad f) = true
is_bad _ = false

abbrev pub is_unknown : Standing → Bool
is_unknown Unknown = true
is_unknown _ = false

-- how many samples there are of each kind
unfoldable pub counts_of : List Standing → SampleCounts
counts_of standings = record {
  kept = count_by is_kept_standing standings;
  filtered = count_by is_filtered standings;
  bad = count_by is_bad standings;
  noseries = count_by is_unknown standings;
}

-- a count after its word
unfoldable pub count_text : List ℕ → ℕ → List ℕ
count_text word n = word ++ decimal n

-- the last line
abbrev pub counts_text : SampleCounts → List ℕ
counts_text c =
    count_text (codes "samples kept ") c.kept ++ count_text (codes " filtered ") c.filtered ++ count_text (codes " bad ") c.bad
    ++ count_text (codes " noseries ") c.noseries ++ codes "\n"

-- the plan of some entries
unfoldable pub plan_text : Choice → List Entry → List ℕ
plan_text choice es = plan_lines choice es ++ counts_text (counts_of (standings choice es))

-- the plan of a segment whose series have external labels, too; it may have Snappy blocks or has
-- none
abbrev pub plan_of : Choice → Labels → Bool → List ℕ → List ℕ
plan_of choice external compresses segment = plan_text choice (labelled external (entries (log_in compresses (segment ∷ []))))
