-- The one premise on checksums, and the segments of a log that a crash tore.
use Rattle.std.specs.Prelude.{◌≡◌, ◌⊎◌, ℕ, zero, suc, ◌+◌, ◌<◌, List, [], ◌∷◌, length, drop}
use Rattle.rw_kept_log.specs.Journal.{Segments}
use Rattle.rw_kept_log.specs.Torn.{left_at, end_of_page}
use Rattle.rw_wal_format.specs.Segments.{Kind, last, Item, nothing, begun, zeros, fragment, wrong, item_at}

-- what is at an offset of a segment's text
abbrev pub item_of : ℕ → List ℕ → ℕ → Item
item_of page text offset = item_at (left_at page offset) (drop offset text)

-- where a reader goes on after an item; it stops at one that is no fragment and no zeros
abbrev pub after_item : ℕ → ℕ → Item → ℕ
after_item page offset nothing = offset
after_item page offset begun = offset
after_item page offset zeros = end_of_page page offset
after_item page offset (fragment kind d) = offset + (7 + length d)
after_item page offset (wrong f) = offset

-- the offset at which a reader of a segment's text is after n items
abbrev pub place_of : ℕ → List ℕ → ℕ → ℕ
place_of page text zero = 0
place_of page text (suc n) = after_item page (place_of page text n) (item_of page text (place_of page text n))

-- A fragment is the last one that is read of a text, it has no data, and it ends no open record.
-- The CRC-32C of no data is 0, so a type byte with six zeros after it is a fragment with the right
-- checksum: a crash leaves one if it cuts a header after that byte, and zeros follow.
pub record IsEmptyEnd (page : ℕ) (text : List ℕ) (n : ℕ) (kind : Kind) (d : List ℕ) : Type 0 where
  pub empty : d ≡ []
  pub ends_none : kind ≡ last → ⊥
  pub final : (m : ℕ) (k : Kind) (e : List ℕ) → n < m → item_of page text (place_of page text m) ≡ fragment k e → ⊥

-- The premise on CRC-32C, about one crash: no checksum is right by chance. Each fragment that a
-- reader reads of what the crash left was written there, or it is an empty one at the end.
abbrev pub NoChance : ℕ → List ℕ → List ℕ → Type 0
NoChance page written left =
    (n : ℕ) (kind : Kind) (d : List ℕ) → item_of page left (place_of page left n) ≡ fragment kind d
    → (item_of page written (place_of page left n) ≡ fragment kind d) ⊎ IsEmptyEnd page left n kind d

-- the last segment, if there is one
abbrev pub last_of : Segments → List ℕ
last_of [] = []
last_of (s ∷ []) = s
last_of (s ∷ t ∷ ss) = last_of (t ∷ ss)

-- each segment but the last
abbrev pub AllBefore : (List ℕ → Type 0) → Segments → Type 0
AllBefore P [] = Unit {0}
AllBefore P (s ∷ []) = Unit {0}
AllBefore P (s ∷ t ∷ ss) = P s × AllBefore P (t ∷ ss)
