-- Inner definitions of how the headers of a segment are followed: only private functions and
-- proofs use them.
use Rattle.std.specs.Prelude.{◌≡◌, ℕ, ◌+◌, List, length, Bool, true, false}
use Rattle.rw_wal_format.specs.Segments.{Kind, full, last, zeros, fragment, item_at}
use Rattle.rw_kept_log.specs.declared.whole_records.Header.{Header}

-- whether a record ends with a fragment of this type
abbrev pub ends_with : Kind → Bool
ends_with full = true
ends_with last = true
ends_with _ = false

-- The header is that of the item at the front of these bytes, if that is a fragment, or the zeros
-- to the end of a page.
pub record IsHeaderOf (left : ℕ) (bytes : List ℕ) (h : Header) : Type 0 where
  pub zeros_len : item_at left bytes ≡ zeros → h.len ≡ left
  pub zeros_end : item_at left bytes ≡ zeros → h.ends_record ≡ false
  pub fragment_len : (kind : Kind) (d : List ℕ) → item_at left bytes ≡ fragment kind d → h.len ≡ 7 + length d
  pub fragment_end : (kind : Kind) (d : List ℕ) → item_at left bytes ≡ fragment kind d → h.ends_record ≡ ends_with kind
