-- A log in segments, and where its last one may be cut.
use Rattle.std.specs.Prelude.{◌≡◌, ℕ, ◌≤◌, List, [], ◌∷◌, length, take}
use Rattle.rw_kept_log.specs.Journal.{Segments}
use Rattle.rw_types.specs.declared.entry.Entry.{Entry}
use Rattle.rw_wal_format.specs.Segments.{between, segment}
use Rattle.rw_wal_format.specs.Pieces.{Piece, bytes, next_segment, reading}

-- segments as the pieces that a reader is given
abbrev pub log_of : Segments → List Piece
log_of [] = []
log_of (s ∷ []) = bytes s ∷ []
log_of (s ∷ t ∷ ss) = bytes s ∷ next_segment ∷ log_of (t ∷ ss)

-- the entries of a log of these segments, in pages of `page` bytes
abbrev pub entries_of : ℕ → Segments → List Entry
entries_of page segments = (reading page (log_of segments)).entries

-- a segment ends between two records, so that a next one may be begun
abbrev pub IsWholeText : ℕ → List ℕ → Type 0
IsWholeText page text = (segment page text).stop ≡ between

-- a segment may be cut there: it keeps all its entries, and ends between two records
pub record IsCleanCut (page : ℕ) (text : List ℕ) (at : ℕ) : Type 0 where
  pub within : at ≤ length text
  pub keeps : (segment page (take at text)).entries ≡ (segment page text).entries
  pub whole : IsWholeText page (take at text)
