-- The references that are noted as a log is opened.
use Rattle.std.specs.Prelude.{◌≡◌, ◌≢◌, ◌<◌, ℕ, List, [], ◌∷◌, length, Option, Some, None, nat_eq}
use Rattle.std.specs.List.{AllByRecursion, IsDistinct}
use Rattle.std.specs.Map.{keys_of, lookup}
use Rattle.rw_types.specs.declared.entry.Entry.{Entry}
use Rattle.rw_types.specs.declared.names.Names.TheVariants.{Utf8}
use Rattle.rw_wal_format.specs.Series.{labels_of}
use Rattle.rw_write_request.specs.Message.{TimeSeries}
use Rattle.rw_kept_log.specs.References.{ReferenceTable, with_pair}
use Rattle.rw_kept_head.specs.inner.Restoring.{StandsFor}

-- what is noted of each reference stands for the labels that the entries give it
pub record AreNames (taken : List Entry) (series : List (ℕ × Option TimeSeries)) : Type 0 where
  pub apart : IsDistinct nat_eq (keys_of series)
  pub known : (r : ℕ) → StandsFor Utf8 (lookup (nat_eq r) series) (labels_of taken r (length taken))

-- a log that has no reference from this one on, of which nothing is noted
abbrev pub no_references : ℕ → ReferenceTable
no_references next = record { known = []; next = next; fresh = [] }

abbrev pub note_one : ReferenceTable → ℕ → Option TimeSeries → ReferenceTable
note_one n r None = n
note_one n r (Some s) = with_pair (r, s.labels) n

-- the references of these series, of each label set the first one
abbrev pub noted_from : ReferenceTable → List (ℕ × Option TimeSeries) → ReferenceTable
noted_from n [] = n
noted_from n (e ∷ es) = noted_from (note_one n e.0 e.1) es

-- the reference of a series is a new one
abbrev pub CanNoteOne : ReferenceTable → ℕ → Option TimeSeries → Type 0
CanNoteOne n r None = Unit {0}
CanNoteOne n r (Some s) = (n.fresh ≡ []) × (r < n.next) × AllByRecursion (λ p. p.0 ≢ r) n.known

abbrev pub CanNote : ReferenceTable → List (ℕ × Option TimeSeries) → Type 0
CanNote n [] = Unit {0}
CanNote n (e ∷ es) = CanNoteOne n e.0 e.1 × CanNote (note_one n e.0 e.1) es
