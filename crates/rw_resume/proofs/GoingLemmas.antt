-- How a segment is read on after whole records.
use Rattle.std.proofs.Common.{◌≡◌, ℕ, zero, suc, ◌+◌, ◌-◌, ◌%◌, ◌<◌, ◌≤◌, List, [], ◌∷◌, ◌++◌, length, drop, Bool, true, false, Option, Some, None, refl, sym, ap, ◌∙◌, subst, arith, length-drop, append_assoc, le_refl}
use Rattle.rw_types.specs.declared.entry.Entry.{Entry}
use Rattle.rw_wal_format.specs.Records.{◌then◌, record_entries}
use Rattle.rw_wal_format.specs.Segments.{Kind, Item, nothing, begun, zeros, fragment, wrong, item_at, item_in, Stop, between, left_after, Reading, Record, stopped, with_entries, text_of, with_text, Joined, still_open, complete, out_of_sequence, joined, from_joined, end_of, read_from, segment_in}
use Rattle.rw_wal_format.specs.Skipped.{skips_of}
use Rattle.rw_wal_format.specs.declared.skipped_type.SkippedType.{SkippedType}
use Rattle.rw_wal_format.specs.Pieces.{then_after, then_next}
use Rattle.rw_wal_format.proofs.shared.Growing.{Stays, item_in-stays}
use Rattle.rw_wal_format.proofs.shared.Items.{read_zeros, read_nothing, read_fragment}
use Rattle.rw_wal_format.proofs.shared.Tailing.{fragment_stays_at, zeros_stay_at}
use Rattle.rw_wal_tail.specs.Places.{closes, open_after, opens, count_after, read_count, stop_offset_in}
use Rattle.rw_wal_tail.proofs.shared.PlaceLaws.{count_item}
use Rattle.rw_kept_log.specs.Torn.{left_at}
use Rattle.rw_kept_log.proofs.shared.PageLemmas.{left_pos, left_moves, left_full, left_first}
use Rattle.rw_resume.specs.Goings.{EndsRecord}

-- what is read of the rest of a segment, from an offset on at which no record is open
abbrev pub reading_at : Bool → ℕ → ℕ → List ℕ → Reading
reading_at c page offset rest = read_from c page (left_at page offset) None rest

-- how many bytes of it come before the item at which reading stops
abbrev pub count_at : Bool → ℕ → ℕ → List ℕ → ℕ
count_at c page offset rest = read_count c page (left_at page offset) None rest

-- ---- a fragment, and then more

-- what a record holds comes first, also of all that comes later
adds_then : (d : List ℕ) (es : List Entry) (r more : Reading) → with_entries d (Some es) (then_after between r more) ≡ then_after between (with_entries d (Some es) r) more
adds_then d es r more =
    ap (λ (l : List Entry). record { entries = l; skipped = skips_of d ++ (r.skipped ++ more.skipped); stop = more.stop }) (sym (append_assoc es r.entries more.entries))
    ∙ ap (λ (n : List SkippedType). record { entries = (es ++ r.entries) ++ more.entries; skipped = n; stop = more.stop }) (sym (append_assoc (skips_of d) r.skipped more.skipped))

module _ (next next' : Option Record → Reading) (more : Reading) (o : Option Record) (ih : (next o).stop ≡ between → next' o ≡ then_after between (next o) more) where
  entries_then : (d : List ℕ) (found : Option (List Entry)) → closes found ≡ Some o → (with_entries d found (next None)).stop ≡ between
      → with_entries d found (next' None) ≡ then_after between (with_entries d found (next None)) more
  entries_then d None h e = absurd cc
  entries_then d (Some es) h e =
      let q : o ≡ None = cc in
      let ih' : next' None ≡ then_after between (next None) more = subst (λ (x : Option Record). (next x).stop ≡ between → next' x ≡ then_after between (next x) more) q ih e in
      ap (with_entries d (Some es)) ih' ∙ adds_then d es (next None) more

  text_then : (found : Option (List ℕ)) → closes (found then λ d. record_entries d) ≡ Some o → (with_text found (next None)).stop ≡ between
      → with_text found (next' None) ≡ then_after between (with_text found (next None)) more
  text_then None h e = absurd cc
  text_then (Some d) h e = entries_then d (record_entries d) h e

  joined_then : (j : Joined) → open_after j ≡ Some o → (from_joined next j).stop ≡ between → from_joined next' j ≡ then_after between (from_joined next j) more
  joined_then (still_open d) h e =
      let q : o ≡ Some d = cc in
      subst (λ (x : Option Record). (next x).stop ≡ between → next' x ≡ then_after between (next x) more) q ih e
  joined_then (complete d) h e = text_then (text_of d) h e
  joined_then out_of_sequence h e = absurd cc

entries_stop : (d : List ℕ) (found : Option (List Entry)) (next : Option Record → Reading) (o : Option Record) → closes found ≡ Some o → (next o).stop ≡ (with_entries d found (next None)).stop
entries_stop d None next o h = absurd cc
entries_stop d (Some es) next o h = let q : o ≡ None = cc in ap (λ (x : Option Record). (next x).stop) q

text_stop : (found : Option (List ℕ)) (next : Option Record → Reading) (o : Option Record) → closes (found then λ d. record_entries d) ≡ Some o → (next o).stop ≡ (with_text found (next None)).stop
text_stop None next o h = absurd cc
text_stop (Some d) next o h = entries_stop d (record_entries d) next o h

joined_stops : (next : Option Record → Reading) (j : Joined) (o : Option Record) → open_after j ≡ Some o → (next o).stop ≡ (from_joined next j).stop
joined_stops next (still_open d) o h = let q : o ≡ Some d = cc in ap (λ (x : Option Record). (next x).stop) q
joined_stops next (complete d) o h = text_stop (text_of d) next o h
joined_stops next out_of_sequence o h = absurd cc

-- ---- an item that is whole

zeros_whole : (c : Bool) (left : ℕ) (text : List ℕ) → item_in c left text ≡ zeros → left ≤ length text
unfolding Stays
zeros_whole c left text e =
    let s : Stays left (length text) zeros (item_in c left (text ++ [])) = subst (λ (x : Item). Stays left (length text) x (item_in c left (text ++ []))) e (item_in-stays c left text []) in
    s.0

fragment_whole : (c : Bool) (left : ℕ) (text : List ℕ) (kind : Kind) (d : List ℕ) → item_in c left text ≡ fragment kind d → (7 + length d ≤ length text) × (7 + length d ≤ left)
unfolding Stays
fragment_whole c left text kind d e =
    let s : Stays left (length text) (fragment kind d) (item_in c left (text ++ [])) = subst (λ (x : Item). Stays left (length text) x (item_in c left (text ++ []))) e (item_in-stays c left text []) in
    (s.0, s.1)

-- ---- whole records, and then the rest

-- no record is open at the end of the text
abbrev Ends : Bool → ℕ → ℕ → Option Record → List ℕ → Type 0
Ends c page left o text = ((read_from c page left o text).stop ≡ between) × (read_count c page left o text ≡ length text)

-- after the text, from an offset on, the rest is read as if it began there
pub record GoesOn (c : Bool) (page offset : ℕ) (o : Option Record) (text rest : List ℕ) : Type 0 where
  pub reads : read_from c page (left_at page offset) o (text ++ rest) ≡ then_after between (read_from c page (left_at page offset) o text) (reading_at c page (offset + length text) rest)
  pub counts : read_count c page (left_at page offset) o (text ++ rest) ≡ length text + count_at c page (offset + length text) rest

none_item : (c : Bool) (left : ℕ) → item_in c left [] ≡ nothing
unfolding item_at
none_item false left = refl
none_item true left = refl

closed : (o : Option Record) → end_of o between ≡ between → o ≡ None
closed None e = refl
closed (Some d) e = absurd cc

module _ (c : Bool) (page : ℕ) (rest : List ℕ) (p : 0 < page) where
  nothing_then : (offset : ℕ) (o : Option Record) → Ends c page (left_at page offset) o [] → GoesOn c page offset o [] rest
  nothing_then offset o ends =
      let left = left_at page offset in
      let r : read_from c page left o [] ≡ stopped (end_of o between) = read_nothing c page left [] p (left_pos page offset p) o (none_item c left) in
      let q : o ≡ None = closed o (sym (ap (λ (x : Reading). x.stop) r) ∙ ends.0) in
      let at : offset ≡ offset + 0 = omega arith in
      let s : read_from c page left o [] ≡ stopped between = r ∙ ap (λ (x : Option Record). stopped (end_of x between)) q in
      record {
        reads = ap (λ (x : Option Record). read_from c page left x rest) q
            ∙ ap (λ (n : ℕ). reading_at c page n rest) at
            ∙ ap (λ (x : Reading). then_after between x (reading_at c page (offset + 0) rest)) (sym s);
        counts = ap (λ (x : Option Record). read_count c page left x rest) q
            ∙ ap (λ (n : ℕ). count_at c page n rest) at
            ∙ (omega arith);
      }

  -- the same of what comes later in the text
  abbrev Later : List ℕ → Type 0
  Later text = (offset : ℕ) (o : Option Record) (text' : List ℕ) → length text' < length text → Ends c page (left_at page offset) o text' → GoesOn c page offset o text' rest

  module _ (offset : ℕ) (o : Option Record) (text : List ℕ) (some : 0 < length text) (ends : Ends c page (left_at page offset) o text) (ih : Later text) where
    zeros_then : item_in c (left_at page offset) text ≡ zeros → GoesOn c page offset o text rest
    zeros_then e =
        let left = left_at page offset in
        let l : 0 < left_at page offset = left_pos page offset p in
        let w : left_at page offset ≤ length text = zeros_whole c left text e in
        let z = zeros_stay_at c left text rest e in
        let later = drop left text in
        let full : page ≡ left_at page (offset + left_at page offset) = sym (left_full page offset p) in
        let read : read_from c page left o text ≡ read_from c page (left_at page (offset + left)) o later =
        read_zeros c page left text p l o e ∙ ap (λ (n : ℕ). read_from c page n o later) full in
        let read_more : read_from c page left o (text ++ rest) ≡ read_from c page (left_at page (offset + left)) o (later ++ rest) =
        read_zeros c page left (text ++ rest) p l o z.0 ∙ ap (read_from c page page o) z.1 ∙ ap (λ (n : ℕ). read_from c page n o (later ++ rest)) full in
        let count : read_count c page left o text ≡ left + read_count c page (left_at page (offset + left)) o later =
        count_item c page left o text zeros p l e ∙ ap (λ (n : ℕ). left + read_count c page n o later) full in
        let count_more : read_count c page left o (text ++ rest) ≡ left + read_count c page (left_at page (offset + left)) o (later ++ rest) =
        count_item c page left o (text ++ rest) zeros p l z.0 ∙ ap (λ (t : List ℕ). left + read_count c page page o t) z.1 ∙ ap (λ (n : ℕ). left + read_count c page n o (later ++ rest)) full in
        let size : length (drop (left_at page offset) text) ≡ length text - left_at page offset = length-drop left text in
        let g = ih (offset + left) o later (omega arith) (sym (ap (λ (x : Reading). x.stop) read) ∙ ends.0, omega (arith, sym count ∙ ends.1)) in
        let at : offset + left + length later ≡ offset + length text = omega arith in
        let sum : left + (length later + count_at c page (offset + length text) rest) ≡ length text + count_at c page (offset + length text) rest = omega arith in
        record {
          reads = read_more ∙ g.reads
              ∙ ap (λ (x : Reading). then_after between x (reading_at c page (offset + left + length later) rest)) (sym read)
              ∙ ap (λ (n : ℕ). then_after between (read_from c page left o text) (reading_at c page n rest)) at;
          counts = count_more ∙ ap (λ (n : ℕ). left + n) g.counts
              ∙ ap (λ (n : ℕ). left + (length later + count_at c page n rest)) at
              ∙ sum;
        }

    module _ (kind : Kind) (d : List ℕ) (e : item_in c (left_at page offset) text ≡ fragment kind d) where
      stuck : opens o kind d ≡ None → GoesOn c page offset o text rest
      stuck h =
          let left = left_at page offset in
          let none : read_count c page left o text ≡ 0 =
          count_item c page left o text (fragment kind d) p (left_pos page offset p) e ∙ ap (count_after page left (7 + length d) text (λ m r t. read_count c page m r t)) h in
          absurd (omega (arith, sym none ∙ ends.1))

      fragment_then : (o' : Option Record) → opens o kind d ≡ Some o' → GoesOn c page offset o text rest
      fragment_then o' h =
          let left = left_at page offset in
          let n = 7 + length d in
          let l : 0 < left_at page offset = left_pos page offset p in
          let w : 7 + length d ≤ length text = (fragment_whole c left text kind d e).0 in
          let z = fragment_stays_at c left text rest kind d e in
          let later = drop n text in
          let moved : left_after page left n ≡ left_at page (offset + n) = left_moves page offset n p (fragment_whole c left text kind d e).1 in
          let next = λ (x : Option Record). read_from c page (left_at page (offset + n)) x later in
          let next' = λ (x : Option Record). read_from c page (left_at page (offset + n)) x (later ++ rest) in
          let read : read_from c page left o text ≡ from_joined next (joined o kind d) =
          read_fragment c page left text p l o kind d e ∙ ap (λ (m : ℕ). from_joined (λ x. read_from c page m x later) (joined o kind d)) moved in
          let read_more : read_from c page left o (text ++ rest) ≡ from_joined next' (joined o kind d) =
          read_fragment c page left (text ++ rest) p l o kind d z.0
          ∙ ap (λ (m : ℕ). from_joined (λ x. read_from c page m x (drop n (text ++ rest))) (joined o kind d)) moved
          ∙ ap (λ (t : List ℕ). from_joined (λ x. read_from c page (left_at page (offset + n)) x t) (joined o kind d)) z.1 in
          let count : read_count c page left o text ≡ n + read_count c page (left_at page (offset + n)) o' later =
          count_item c page left o text (fragment kind d) p l e ∙ ap (count_after page left n text (λ m r t. read_count c page m r t)) h
          ∙ ap (λ (m : ℕ). n + read_count c page m o' later) moved in
          let count_more : read_count c page left o (text ++ rest) ≡ n + read_count c page (left_at page (offset + n)) o' (later ++ rest) =
          count_item c page left o (text ++ rest) (fragment kind d) p l z.0 ∙ ap (count_after page left n (text ++ rest) (λ m r t. read_count c page m r t)) h
          ∙ ap (λ (m : ℕ). n + read_count c page m o' (drop n (text ++ rest))) moved
          ∙ ap (λ (t : List ℕ). n + read_count c page (left_at page (offset + n)) o' t) z.1 in
          let size : length (drop (7 + length d) text) ≡ length text - (7 + length d) = length-drop n text in
          let all : read_count c page (left_at page (offset + n)) o' later ≡ length later = omega (arith, sym count ∙ ends.1) in
          let at : offset + n + length later ≡ offset + length text = omega arith in
          let sum : n + (length later + count_at c page (offset + length text) rest) ≡ length text + count_at c page (offset + length text) rest = omega arith in
          let stop : (from_joined next (joined o kind d)).stop ≡ between = sym (ap (λ (x : Reading). x.stop) read) ∙ ends.0 in
          let on : (next o').stop ≡ between → GoesOn c page (offset + n) o' later rest = λ s. ih (offset + n) o' later (omega arith) (s, all) in
          record {
            reads = read_more
                ∙ joined_then next next' (reading_at c page (offset + n + length later) rest) o' (λ s. (on s).reads) (joined o kind d) h stop
                ∙ ap (λ (x : Reading). then_after between x (reading_at c page (offset + n + length later) rest)) (sym read)
                ∙ ap (λ (m : ℕ). then_after between (read_from c page left o text) (reading_at c page m rest)) at;
            counts = count_more
                ∙ ap (λ (m : ℕ). n + m) (on (joined_stops next (joined o kind d) o' h ∙ stop)).counts
                ∙ ap (λ (m : ℕ). n + (length later + count_at c page m rest)) at
                ∙ sum;
          }

      fragment_cases : (oo : Option (Option Record)) → opens o kind d ≡ oo → GoesOn c page offset o text rest
      fragment_cases None h = stuck h
      fragment_cases (Some o') h = fragment_then o' h

    by_item : (x : Item) → item_in c (left_at page offset) text ≡ x → GoesOn c page offset o text rest
    by_item nothing e = absurd (omega (arith, sym (count_item c page (left_at page offset) o text nothing p (left_pos page offset p) e) ∙ ends.1))
    by_item begun e = absurd (omega (arith, sym (count_item c page (left_at page offset) o text begun p (left_pos page offset p) e) ∙ ends.1))
    by_item zeros e = zeros_then e
    by_item (fragment kind d) e = fragment_cases kind d e (opens o kind d) refl
    by_item (wrong f) e = absurd (omega (arith, sym (count_item c page (left_at page offset) o text (wrong f) p (left_pos page offset p) e) ∙ ends.1))

  goes_on : (k offset : ℕ) (o : Option Record) (text : List ℕ) → length text ≤ k → Ends c page (left_at page offset) o text → GoesOn c page offset o text rest
  goes_on k offset o [] h ends = nothing_then offset o ends
  goes_on zero offset o (b ∷ bs) h ends = absurd (omega arith)
  goes_on (suc k) offset o (b ∷ bs) h ends =
      by_item offset o (b ∷ bs) (omega arith) ends (λ m x text short on. goes_on k m x text (omega arith) on) (item_in c (left_at page offset) (b ∷ bs)) refl

-- ---- a segment

-- after whole records a segment is read on from their end
pub segment_goes_on : (c : Bool) (page : ℕ) (text rest : List ℕ) → 0 < page → EndsRecord c page text
    → (segment_in c page (text ++ rest) ≡ then_next (segment_in c page text) (reading_at c page (length text) rest))
    × (stop_offset_in c page (text ++ rest) ≡ length text + count_at c page (length text) rest)
unfolding segment_in stop_offset_in
segment_goes_on c page text rest p ends =
    let first : left_at page 0 ≡ page = left_first page p in
    let at : 0 + length text ≡ length text = omega arith in
    let on : Ends c page (left_at page 0) None text = subst (λ (left : ℕ). Ends c page left None text) (sym first) (ends.stop, ends.all) in
    let g = goes_on c page rest p (length text) 0 None text (le_refl (length text)) on in (
      ap (λ (left : ℕ). read_from c page left None (text ++ rest)) (sym first)
          ∙ g.reads
          ∙ ap (λ (left : ℕ). then_after between (read_from c page left None text) (reading_at c page (0 + length text) rest)) first
          ∙ ap (λ (n : ℕ). then_after between (read_from c page page None text) (reading_at c page n rest)) at
          ∙ ap (λ (s : Stop). then_after s (read_from c page page None text) (reading_at c page (length text) rest)) (sym ends.stop),
      ap (λ (left : ℕ). read_count c page left None (text ++ rest)) (sym first)
          ∙ g.counts
          ∙ ap (λ (n : ℕ). length text + count_at c page n rest) at,
    )

-- it makes no difference which whole records come before, if the rest is at the same place of its
-- page
pub read_alike : (c : Bool) (page : ℕ) (text front rest : List ℕ) → 0 < page → EndsRecord c page text → EndsRecord c page front → length text % page ≡ length front % page
    → (more : Reading) × (segment_in c page (text ++ rest) ≡ then_next (segment_in c page text) more) × (segment_in c page (front ++ rest) ≡ then_next (segment_in c page front) more)
read_alike c page text front rest p t f same = (
  reading_at c page (length text) rest,
  (segment_goes_on c page text rest p t).0,
  (segment_goes_on c page front rest p f).0
      ∙ ap (λ (n : ℕ). then_next (segment_in c page front) (read_from c page (page - n) None rest)) (sym same),
)

pub stops_alike : (c : Bool) (page : ℕ) (text front rest : List ℕ) → 0 < page → EndsRecord c page text → EndsRecord c page front → length text % page ≡ length front % page
    → (n : ℕ) × (stop_offset_in c page (text ++ rest) ≡ length text + n) × (stop_offset_in c page (front ++ rest) ≡ length front + n)
stops_alike c page text front rest p t f same = (
  count_at c page (length text) rest,
  (segment_goes_on c page text rest p t).1,
  (segment_goes_on c page front rest p f).1
      ∙ ap (λ (n : ℕ). length front + read_count c page (page - n) None rest) (sym same),
)
