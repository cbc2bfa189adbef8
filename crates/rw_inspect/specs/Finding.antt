-- The entries of a log at given positions, as text.
use Rattle.std.specs.Prelude.{◌≡◌, ℕ, ◌-◌, zero, suc, ℤ, List, [], ◌∷◌, ◌++◌, flat_map, count_by, codes, decimal, nat_lt, Bool, not, is_some, if◌then◌else◌, Option, None, Some, string_bytes}
use Rattle.std.specs.Fmt.{signed_decimal}
use Rattle.rw_types.specs.Labels.{Labels, label_fault, label_fault_number}
use Rattle.rw_types.specs.declared.entry.Entry.{Entry}
use Rattle.rw_types.specs.declared.entry.Entry.TheVariants.{Def, Sample}
use Rattle.rw_types.specs.declared.label_fault.LabelFault.{LabelFault}
use Rattle.rw_types.specs.declared.names.Names.TheVariants.{Utf8}
use Rattle.rw_wal_format.specs.Pieces.{entries, fault}
use Rattle.rw_relabel.specs.declared.choice.Choice.{Choice}
use Rattle.rw_series_cache.specs.Known.{Standing, Unknown, Bad, Filtered, Kept, known}
use Rattle.rw_text.specs.LabelText.{labels_text}
use Rattle.rw_text.specs.ValueText.{value_text}
use Rattle.rw_log_read.specs.Logs.{AreRows, ReadsFirst, fault_in, log_in}
use Rattle.rw_inspect.specs.declared.found.Found.{Found}
use Rattle.rw_log_read.specs.declared.log_read.Segment.{Segment}

-- all label sets, with any UTF-8 names
abbrev pub any_names : Choice
any_names = record { names = Utf8; rules = [] }

-- `bad FAULT`
unfoldable pub label_fault_text : LabelFault → List ℕ
label_fault_text f = codes "bad " ++ decimal (label_fault_number f)

-- labels, or their fault
abbrev pub labels_or : Option LabelFault → Labels → List ℕ
labels_or None labels = labels_text labels
labels_or (Some f) labels = label_fault_text f

abbrev pub set_text : Labels → List ℕ
set_text labels = labels_or (label_fault Utf8 labels) labels

-- what a reference stands for
abbrev pub standing_text : Standing → List ℕ
standing_text Unknown = codes "noseries"
standing_text (Bad f) = label_fault_text f
standing_text Filtered = codes "filtered"
standing_text (Kept labels) = labels_text labels

-- `series REF LABELS`, and `sample REF T VALUE LABELS`
unfoldable pub series_text : ℕ → Labels → List ℕ
series_text reference labels = codes "series " ++ decimal reference ++ codes " " ++ set_text labels

unfoldable pub sample_text : ℕ → ℤ → ℕ → Standing → List ℕ
sample_text reference t word standing =
    codes "sample " ++ decimal reference ++ codes " " ++ signed_decimal t ++ codes " " ++ value_text word ++ codes " " ++ standing_text standing

-- an entry, after these
abbrev pub entry_text : List Entry → Entry → List ℕ
entry_text before (Def reference labels) = series_text reference labels
entry_text before (Sample reference t word) = sample_text reference t word (known any_names before reference)

-- the entry at a position among entries that are after others, if there is one
abbrev pub text_from : List Entry → List Entry → ℕ → Option (List ℕ)
text_from before [] n = None
text_from before (e ∷ es) zero = Some (entry_text before e)
text_from before (e ∷ es) (suc n) = text_from (before ++ e ∷ []) es n

abbrev pub entry_text_at : List Entry → ℕ → Option (List ℕ)
entry_text_at es position = text_from [] es position

-- the name of the segment in which a position is
abbrev pub name_at : List Segment → ℕ → List ℕ
name_at [] position = []
name_at (s ∷ segments) position = if nat_lt position s.sums.entries then string_bytes s.name else name_at segments (position - s.sums.entries)

-- the line of a position that exists, by the name of its segment and the text of its entry, and of
-- one that does not
unfoldable pub there_text : ℕ → List ℕ → List ℕ → List ℕ
there_text position name text = decimal position ++ codes " " ++ name ++ codes " " ++ text ++ codes "\n"

unfoldable pub not_there_text : ℕ → List ℕ
not_there_text position = decimal position ++ codes " has no entry\n"

abbrev pub finding_line : List Segment → ℕ → Option (List ℕ) → List ℕ
finding_line segments position None = not_there_text position
finding_line segments position (Some text) = there_text position (name_at segments position) text

abbrev pub position_text : List Segment → List Entry → ℕ → List ℕ
position_text segments es position = finding_line segments position (entry_text_at es position)

abbrev pub is_missing : List Entry → ℕ → Bool
is_missing es position = not (is_some (entry_text_at es position))

-- what was found at positions of a log, which may have Snappy blocks or has none, in their order
pub record Finds (compresses : Bool) (lefts : List (Option (List ℕ))) (positions : List ℕ) (r : Found) : Type 0 where
  pub texts : List (List ℕ)
  pub read : ReadsFirst lefts texts (fault (log_in compresses texts))
  pub segments : List Segment
  pub segments_are : AreRows compresses [] texts segments
  pub text_is : r.text.items ≡ flat_map (position_text segments (entries (log_in compresses texts))) positions
  pub missing_is : r.missing ≡ count_by (is_missing (entries (log_in compresses texts))) positions
  pub fault_is : fault_in r.damage ≡ fault (log_in compresses texts)
