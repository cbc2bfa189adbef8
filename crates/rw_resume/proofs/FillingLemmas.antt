-- A record that readers of samples pass over, and that is one fragment.
use Rattle.std.proofs.Common.{◌≡◌, ℕ, zero, suc, ◌+◌, ◌%◌, ◌<◌, ◌≤◌, List, [], ◌∷◌, ◌++◌, length, replicate, get_or, Bool, true, false, Option, Some, None, refl, sym, ap, ◌∙◌, subst, arith, append-nil, lit<}
use Rattle.std.proofs.lemmas.List.{length-replicate}
use Rattle.rw_codes.specs.Varint.{AreBytes}
use Rattle.rw_types.specs.declared.entry.Entry.{Entry}
use Rattle.rw_wal_format.specs.Pieces.{page_size}
use Rattle.rw_wal_format.specs.Records.{record_entries}
use Rattle.rw_wal_format.specs.Segments.{full, fragment, item_at, item_in, between, left_after, Reading, stopped, with_entries, with_record, read_from, segment_in}
use Rattle.rw_wal_format.specs.Writing.{frame}
use Rattle.rw_wal_format.proofs.shared.Items.{read_fragment}
use Rattle.rw_wal_format.proofs.shared.Written.{frame_item, length-frame, drop-frame}
use Rattle.rw_wal_tail.specs.Places.{closes, opens, count_after, read_count, stop_offset_in}
use Rattle.rw_wal_tail.proofs.shared.PlaceLaws.{count_item}
use Rattle.rw_resume.specs.Goings.{EndsRecord, IsInPlaceOf}

-- the data of a record of tombstones
abbrev pub data_of : ℕ → List ℕ
data_of n = 3 ∷ replicate n 0

abbrev zeros_of : ℕ → List ℕ
zeros_of n = replicate n 0

-- the header and the data, one after the other
module _ (n : ℕ) (items seen first_seen header_bytes start begun all : List ℕ) where
  pub written : items ≡ data_of n → first_seen ≡ items → seen ≡ items → header_bytes ++ first_seen ≡ frame full first_seen
      → start ≡ [] → begun ≡ start ++ header_bytes → all ≡ begun ++ seen → all ≡ frame full (data_of n)
  written is first same framed none begins ends =
      ends ∙ ap (λ (t : List ℕ). t ++ seen) (begins ∙ ap (λ (t : List ℕ). t ++ header_bytes) none)
      ∙ ap (λ (t : List ℕ). header_bytes ++ t) (same ∙ sym first) ∙ framed ∙ ap (frame full) (first ∙ is)

zeros_at : (n i : ℕ) → get_or (zeros_of n) i 0 ≡ zero
zeros_at zero i = refl
zeros_at (suc n) zero = refl
zeros_at (suc n) (suc i) = zeros_at n i

are_bytes : (n : ℕ) → AreBytes (data_of n)
are_bytes n zero = lit< tt
are_bytes n (suc i) = omega (arith, zeros_at n i)

no_entries : (n : ℕ) → record_entries (data_of n) ≡ Some []
unfolding record_entries
no_entries n = refl

plain_item : (c : Bool) (d : List ℕ) → item_in c page_size (frame full d ++ []) ≡ item_at page_size (frame full d ++ [])
unfolding frame
plain_item false d = refl
plain_item true d = refl

module _ (c : Bool) (n : ℕ) (small : n ≤ 32_753) where
  text : List ℕ
  text = frame full (data_of n) ++ []

  size : length (data_of n) ≡ 1 + n
  size = omega (arith, length-replicate n zero)

  page : 0 < page_size
  page = lit< tt

  item : item_in c page_size (frame full (data_of n) ++ []) ≡ fragment full (data_of n)
  item =
      plain_item c (data_of n)
      ∙ frame_item full page_size (data_of n) [] tt (omega (arith, size)) (omega (arith, size)) (are_bytes n)

  reads : segment_in c page_size (frame full (data_of n) ++ []) ≡ with_entries (data_of n) (Some []) (stopped between)
  unfolding segment_in
  reads =
      read_fragment c page_size page_size (frame full (data_of n) ++ []) page page None full (data_of n) item
      ∙ ap (λ (t : List ℕ). with_record (false, data_of n) (read_from c page_size (left_after page_size page_size (7 + length (data_of n))) None t)) (drop-frame full (data_of n) [])
      ∙ ap (λ (es : Option (List Entry)). with_entries (data_of n) es (stopped between)) (no_entries n)

  counts : stop_offset_in c page_size (frame full (data_of n) ++ []) ≡ length (frame full (data_of n) ++ [])
  unfolding stop_offset_in
  counts =
      let left = left_after page_size page_size (7 + length (data_of n)) in
      let open_none : opens None full (data_of n) ≡ Some None = ap closes (no_entries n) in
      let count : read_count c page_size page_size None (frame full (data_of n) ++ []) ≡ 7 + length (data_of n) + 0 =
      count_item c page_size page_size None (frame full (data_of n) ++ []) (fragment full (data_of n)) page page item
      ∙ ap (count_after page_size page_size (7 + length (data_of n)) (frame full (data_of n) ++ []) (λ m r t. read_count c page_size m r t)) open_none
      ∙ ap (λ (t : List ℕ). 7 + length (data_of n) + read_count c page_size left None t) (drop-frame full (data_of n) []) in
      let len : length (frame full (data_of n) ++ []) ≡ 7 + length (data_of n) = ap length (append-nil (frame full (data_of n))) ∙ length-frame full (data_of n) in
      omega (arith, count, len)

  pub filler_ends : EndsRecord c page_size (frame full (data_of n))
  filler_ends = subst (EndsRecord c page_size) (append-nil (frame full (data_of n))) (record { stop = ap (λ (r : Reading). r.stop) reads; all = counts })

  pub filler_none : (segment_in c page_size (frame full (data_of n))).entries ≡ []
  filler_none = ap (λ (t : List ℕ). (segment_in c page_size t).entries) (sym (append-nil (frame full (data_of n)))) ∙ ap (λ (r : Reading). r.entries) reads

nothing_read : (c : Bool) → segment_in c page_size [] ≡ stopped between
unfolding segment_in
nothing_read c = refl

nothing_counted : (c : Bool) → stop_offset_in c page_size [] ≡ 0
unfolding stop_offset_in
nothing_counted c = refl

-- at the beginning of a page nothing is read in place of the bytes before it
pub nothing_in_place : (count : ℕ) → count % page_size ≡ 0 → IsInPlaceOf count []
nothing_in_place count whole = record {
  ends = λ c. record { stop = ap (λ (r : Reading). r.stop) (nothing_read c); all = nothing_counted c };
  none = λ c. ap (λ (r : Reading). r.entries) (nothing_read c);
  place = sym whole;
}
