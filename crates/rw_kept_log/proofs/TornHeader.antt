-- The premise on checksums, by computation, of a crash that cut the header of a fragment after its
-- type byte and left zeros after it, in pages of 64 bytes.
use Rattle.std.proofs.Common.{◌≡◌, inr, inl, ℕ, pos, zero, suc, ◌+◌, ◌<◌, List, [], ◌∷◌, ◌++◌, take, replicate, refl, ap, ◌∙◌, sym, arith, lit<}
use Rattle.rw_codes.specs.Varint.{groups, number_in_groups}
use Rattle.rw_codes.specs.Crc.{crc_bits}
use Rattle.rw_types.specs.Beginnings.{Begins}
use Rattle.rw_types.specs.Labels.{Labels}
use Rattle.rw_wal_format.specs.Records.{series_record, sample_record}
use Rattle.rw_wal_format.specs.Segments.{Kind, first, last, Item, nothing, zeros, fragment, item_at, segment}
use Rattle.rw_wal_format.specs.Writing.{frame, log_bytes}
use Rattle.rw_wal_format.specs.Laws.{log_all}
use Rattle.rw_kept_log.specs.Torn.{end_of_page, IsTorn}
use Rattle.rw_kept_log.specs.TornLogs.{item_of, after_item, place_of, NoChance}
use Rattle.rw_kept_log.proofs.TornLemmas.{torn_begins}

-- ---- the premise: first a fragment that was written, then a cut header, zeros, and the end

zeros_are_none : (x : Item) (kind : Kind) (d : List ℕ) → x ≡ zeros → x ≡ fragment kind d → ⊥
zeros_are_none x kind d e f = cc

nothing_is_none : (x : Item) (kind : Kind) (d : List ℕ) → x ≡ nothing → x ≡ fragment kind d → ⊥
nothing_is_none x kind d e f = cc

empty_first : (x : Item) (kind : Kind) (d : List ℕ) → x ≡ fragment first [] → x ≡ fragment kind d → (d ≡ []) × (kind ≡ first)
empty_first x kind d e f = (cc, cc)

first_is_not_last : (kind : Kind) → kind ≡ first → kind ≡ last → ⊥
first_is_not_last kind e f = cc

module _ (page : ℕ) (written left : List ℕ) (a b c : ℕ) (same : item_of page left 0 ≡ item_of page written 0) (to_a : after_item page 0 (item_of page left 0) ≡ a) (cut : item_of page left a ≡ fragment first [])
    (to_b : a + 7 ≡ b) (blank : item_of page left b ≡ zeros) (to_c : end_of_page page b ≡ c) (end : item_of page left c ≡ nothing) where
  goes : (o o' : ℕ) (x : Item) → o ≡ o' → item_of page left o' ≡ x → after_item page o (item_of page left o) ≡ after_item page o' x
  goes o o' x e is = ap (λ (k : ℕ). after_item page k (item_of page left k)) e ∙ ap (after_item page o') is

  third_place : place_of page left 2 ≡ b
  third_place = goes (place_of page left 1) a (fragment first []) to_a cut ∙ to_b

  last_place : (n : ℕ) → place_of page left (suc (suc (suc n))) ≡ c
  last_place zero = goes (place_of page left 2) b zeros third_place blank ∙ to_c
  last_place (suc n) = goes (place_of page left (suc (suc (suc n)))) c nothing (last_place n) end

  none_after : (m : ℕ) (kind : Kind) (d : List ℕ) → 1 < m → item_of page left (place_of page left m) ≡ fragment kind d → ⊥
  none_after zero kind d later e = absurd (omega arith)
  none_after (suc zero) kind d later e = absurd (omega arith)
  none_after (suc (suc zero)) kind d later e = zeros_are_none (item_of page left (place_of page left 2)) kind d (ap (item_of page left) third_place ∙ blank) e
  none_after (suc (suc (suc m))) kind d later e = nothing_is_none (item_of page left (place_of page left (suc (suc (suc m))))) kind d (ap (item_of page left) (last_place m) ∙ end) e

  no_chance : NoChance page written left
  no_chance zero kind d e = inl (sym same ∙ e)
  no_chance (suc zero) kind d e =
      let is = empty_first (item_of page left (place_of page left 1)) kind d (ap (item_of page left) to_a ∙ cut) e in
      inr (record { empty = is.0; ends_none = first_is_not_last kind is.1; final = none_after })
  no_chance (suc (suc n)) kind d e = absurd (none_after (suc (suc n)) kind d (omega arith) e)

-- ---- such a segment

-- {__name__="up"}
abbrev up : Labels
up = ((95 ∷ 95 ∷ 110 ∷ 97 ∷ 109 ∷ 101 ∷ 95 ∷ 95 ∷ []), (117 ∷ 112 ∷ [])) ∷ []

-- the definition, and two samples in a record that goes on in the second page
abbrev written : List ℕ
written = log_all 64 0 (series_record 1 up ∷ sample_record ((1, pos 1000, 0x3ff0000000000000) ∷ (1, pos 2000, 0x3ff0000000000000) ∷ []) ∷ [])

-- the first 29 bytes, which hold the definition, were synced; of what was written then the type
-- byte 2 of the first fragment is left, and zeros after it
abbrev left : List ℕ
left = take 30 written ++ replicate 34 0

is_torn : IsTorn 64 29 written left
unfolding groups frame log_bytes number_in_groups crc_bits
is_torn = record { known = lit< tt; front = refl; within = lit< tt }

first_item : item_of 64 left 0 ≡ item_of 64 written 0
unfolding groups frame log_bytes item_at number_in_groups crc_bits
first_item = refl

first_end : after_item 64 0 (item_of 64 left 0) ≡ 29
unfolding groups frame log_bytes item_at number_in_groups crc_bits
first_end = refl

-- the type byte with the zeros after it is an empty fragment with the right checksum
cut_header : item_of 64 left 29 ≡ fragment first []
unfolding groups frame log_bytes item_at number_in_groups crc_bits
cut_header = refl

rest_of_page : item_of 64 left 36 ≡ zeros
unfolding groups frame log_bytes item_at number_in_groups crc_bits
rest_of_page = refl

end_of_left : item_of 64 left 64 ≡ nothing
unfolding groups frame log_bytes item_at number_in_groups crc_bits
end_of_left = refl

-- so the premise holds, and what is read of it is a prefix of what was written
left_begins : Begins (segment 64 left).entries (segment 64 written).entries
left_begins = torn_begins 64 29 written left (lit< tt) is_torn (no_chance 64 written left 29 36 64 first_item first_end cut_header refl rest_of_page refl end_of_left)

-- the empty fragment was not written there
not_written : item_of 64 written 29 ≡ fragment first [] → ⊥
unfolding groups frame log_bytes item_at number_in_groups crc_bits
not_written e = cc
