-- A torn segment: its fragments are a prefix of those that were being written, but for an empty one
-- at its end, and its entries are a prefix of those that were being written.
use Rattle.std.proofs.Common.{◌≡◌, ℕ, zero, suc, ◌+◌, ◌*◌, ◌/◌, ◌<◌, ◌≤◌, List, [], ◌∷◌, ◌++◌, length, take, drop, Option, Some, None, true, false, refl, sym, ap, ◌∙◌, subst, ◌⊎◌, inl, inr, arith, le_refl, append_assoc, length-drop, take-append-drop, div-add-mod', mod-lt}
use Rattle.std.proofs.lemmas.Bool.{cases_lt}
use Rattle.std.proofs.lemmas.List.{drop-drop, drop_all, drop-take, take-take}
use Rattle.std.proofs.lemmas.Nat.{mul-le, div_below}
use Rattle.rw_types.specs.Beginnings.{Begins}
use Rattle.rw_types.specs.declared.entry.Entry.{Entry}
use Rattle.rw_wal_format.specs.Records.{record_entries}
use Rattle.rw_wal_format.specs.Segments.{Kind, full, first, middle, last, Item, nothing, begun, zeros, fragment, wrong, item_at, Stop, Layout, with_fragment, from_item, Reading, Record, text_of, with_text, with_entries, snappy, IsPlain, Joined, still_open, complete, out_of_sequence, joined, from_joined, reading_of, segment, segment_in}
use Rattle.rw_wal_format.proofs.shared.Growing.{segment_grows, kind_plain}
use Rattle.rw_wal_format.proofs.shared.Items.{layout_from, layout_step, read_step}
use Rattle.rw_kept_log.specs.Torn.{left_at, end_of_page, IsTorn}
use Rattle.rw_kept_log.specs.TornLogs.{item_of, after_item, place_of, NoChance}
use Rattle.rw_kept_log.proofs.shared.PageLemmas.{left_pos, left_moves, left_full, left_first}
use Rattle.rw_kept_log.proofs.shared.Zeros.{fragment_fits, zeros_fit, zeros_same}

-- ---- places in pages

page_end_is : (page offset : ℕ) → 0 < page → end_of_page page offset ≡ offset / page * page + page
page_end_is page offset p = omega (arith, div-add-mod' offset page, mod-lt offset p)

-- an offset before the end of a page is on that page or an earlier one
page_end_le : (page at offset : ℕ) → 0 < page → at < end_of_page page offset → end_of_page page at ≤ end_of_page page offset
page_end_le page at offset p h =
    let q = offset / page in
    let next : (offset / page + 1) * page ≡ offset / page * page + page = omega arith in
    let below : at / page < offset / page + 1 = div_below at page (offset / page + 1) p (omega (arith, next, page_end_is page offset p)) in
    let le : at / page * page ≤ offset / page * page = mul-le (at / page) page (offset / page) page (omega arith) (le_refl page) in
    omega (arith, le, page_end_is page offset p, page_end_is page at p)

-- ---- what is read at a place

read_as : (page left : ℕ) (bs : List ℕ) (x : Item) → 0 < page → 0 < left → item_at left bs ≡ x → layout_from false page left bs ≡ from_item page left bs (layout_from false page) x
read_as page left bs x p l e = layout_step false page left bs p l ∙ ap (from_item page left bs (layout_from false page)) e

-- The first fragments are a prefix of the second ones, and some that add no entry.
record BeginsBut (ls ms : List (Kind × List ℕ)) : Type 0 where
  same : List (Kind × List ℕ)
  extra : List (Kind × List ℕ)
  more : List (Kind × List ℕ)
  left_is : ls ≡ same ++ extra
  written_is : ms ≡ same ++ more
  adds_none : (so_far : Option Record) (s : Stop) → (reading_of so_far extra s).entries ≡ []

none_begins : (l m : Layout) → l.fragments ≡ [] → BeginsBut l.fragments m.fragments
none_begins l m e = record { same = []; extra = []; more = m.fragments; left_is = e; written_is = refl; adds_none = λ so_far s. refl }

cons_begins : (kind : Kind) (d : List ℕ) (l l' m m' : Layout) → l ≡ with_fragment kind d l' → m ≡ with_fragment kind d m' → BeginsBut l'.fragments m'.fragments → BeginsBut l.fragments m.fragments
cons_begins kind d l l' m m' el em b = record {
  same = (kind, d) ∷ b.same;
  extra = b.extra;
  more = b.more;
  left_is = ap (λ (x : Layout). x.fragments) el ∙ ap (λ (fs : List (Kind × List ℕ)). (kind, d) ∷ fs) b.left_is;
  written_is = ap (λ (x : Layout). x.fragments) em ∙ ap (λ (fs : List (Kind × List ℕ)). (kind, d) ∷ fs) b.written_is;
  adds_none = b.adds_none;
}

same_begins : (l l' m m' : Layout) → l ≡ l' → m ≡ m' → BeginsBut l'.fragments m'.fragments → BeginsBut l.fragments m.fragments
same_begins l l' m m' el em b = record {
  same = b.same;
  extra = b.extra;
  more = b.more;
  left_is = ap (λ (x : Layout). x.fragments) el ∙ b.left_is;
  written_is = ap (λ (x : Layout). x.fragments) em ∙ b.written_is;
  adds_none = b.adds_none;
}

-- an empty fragment that ends no open record adds no entry
empty_adds_none : (kind : Kind) → IsPlain kind → (kind ≡ last → ⊥) → (so_far : Option Record) (s : Stop) → (reading_of so_far ((kind, []) ∷ []) s).entries ≡ []
unfolding record_entries
empty_adds_none (snappy kind) plain ends_none so_far s = absurd plain
empty_adds_none last plain ends_none so_far s = absurd (ends_none refl)
empty_adds_none full plain ends_none None s = refl
empty_adds_none first plain ends_none None s = refl
empty_adds_none middle plain ends_none None s = refl
empty_adds_none full plain ends_none (Some (false, o)) s = refl
empty_adds_none first plain ends_none (Some (false, o)) s = refl
empty_adds_none middle plain ends_none (Some (false, o)) s = refl
empty_adds_none full plain ends_none (Some (true, o)) s = refl
empty_adds_none first plain ends_none (Some (true, o)) s = refl
empty_adds_none middle plain ends_none (Some (true, o)) s = refl

end_begins : (kind : Kind) (d : List ℕ) (l l' m : Layout) → l ≡ with_fragment kind d l' → l'.fragments ≡ [] → d ≡ [] → IsPlain kind → (kind ≡ last → ⊥) → BeginsBut l.fragments m.fragments
end_begins kind d l l' m el none empty plain ends_none = record {
  same = [];
  extra = (kind, []) ∷ [];
  more = m.fragments;
  left_is = ap (λ (x : Layout). x.fragments) el ∙ ap (λ (fs : List (Kind × List ℕ)). (kind, d) ∷ fs) none ∙ ap (λ (x : List ℕ). (kind, x) ∷ []) empty;
  written_is = refl;
  adds_none = empty_adds_none kind plain ends_none;
}

empty_layout : (page : ℕ) → 0 < page → (layout_from false page page []).fragments ≡ []
unfolding item_at
empty_layout page p = ap (λ (x : Layout). x.fragments) (read_as page page [] nothing p p refl)

-- ---- the fragments of a torn segment

-- the layout of a text from an offset on
layout_at : ℕ → List ℕ → ℕ → Layout
layout_at page text offset = layout_from false page (left_at page offset) (drop offset text)

module _ (page : ℕ) (text : List ℕ) (p : 0 < page) where
  at_item : (offset : ℕ) (x : Item) → item_of page text offset ≡ x → layout_at page text offset ≡ from_item page (left_at page offset) (drop offset text) (layout_from false page) x
  unfolding layout_at
  at_item offset x e = read_as page (left_at page offset) (drop offset text) x p (left_pos page offset p) e

  at_fragment : (offset : ℕ) (kind : Kind) (d : List ℕ) → 7 + length d ≤ left_at page offset → item_of page text offset ≡ fragment kind d → layout_at page text offset ≡ with_fragment kind d (layout_at page text (offset + (7 + length d)))
  unfolding layout_at
  at_fragment offset kind d fits e =
      at_item offset (fragment kind d) e
      ∙ ap (λ (k : ℕ). with_fragment kind d (layout_from false page k (drop (7 + length d) (drop offset text)))) (left_moves page offset (7 + length d) p fits)
      ∙ ap (λ (bs : List ℕ). with_fragment kind d (layout_from false page (left_at page (offset + (7 + length d))) bs)) (drop-drop (7 + length d) offset text)

  at_zeros : (offset : ℕ) → item_of page text offset ≡ zeros → layout_at page text offset ≡ layout_at page text (end_of_page page offset)
  unfolding layout_at
  at_zeros offset e =
      at_item offset zeros e
      ∙ ap (layout_from false page page) (drop-drop (left_at page offset) offset text)
      ∙ ap (λ (k : ℕ). layout_from false page k (drop (end_of_page page offset) text)) (sym (left_full page offset p))

  -- where no fragment is read from a place on, the layout has none
  none_step : (offset : ℕ) (x : Item) → item_of page text offset ≡ x → ((kind : Kind) (d : List ℕ) → x ≡ fragment kind d → ⊥)
      → (offset < after_item page offset x → after_item page offset x ≤ offset + length (drop offset text) → (layout_at page text (after_item page offset x)).fragments ≡ [])
      → (layout_at page text offset).fragments ≡ []
  none_step offset nothing e never ih = ap (λ (x : Layout). x.fragments) (at_item offset nothing e)
  none_step offset begun e never ih = ap (λ (x : Layout). x.fragments) (at_item offset begun e)
  none_step offset (wrong f) e never ih = ap (λ (x : Layout). x.fragments) (at_item offset (wrong f) e)
  none_step offset (fragment kind d) e never ih = absurd (never kind d refl)
  none_step offset zeros e never ih =
      ap (λ (x : Layout). x.fragments) (at_zeros offset e)
      ∙ ih (omega (arith, left_pos page offset p)) (omega (arith, zeros_fit (left_at page offset) (drop offset text) e))

  none_from : (k n : ℕ) → length (drop (place_of page text n) text) ≤ k → ((m : ℕ) (kind : Kind) (d : List ℕ) → n ≤ m → item_of page text (place_of page text m) ≡ fragment kind d → ⊥)
      → (layout_at page text (place_of page text n)).fragments ≡ []
  none_from zero n h never = none_step (place_of page text n) (item_of page text (place_of page text n)) refl (λ kind d e. never n kind d (le_refl n) e) (λ further fits. absurd (omega arith))
  none_from (suc k) n h never = none_step (place_of page text n) (item_of page text (place_of page text n)) refl (λ kind d e. never n kind d (le_refl n) e)
      (λ further fits. none_from k (suc n) (omega (arith, length-drop (place_of page text n) text, length-drop (place_of page text (suc n)) text)) (λ m kind d le. never m kind d (omega arith)))

module _ (page synced : ℕ) (written left : List ℕ) (p : 0 < page) (torn : IsTorn page synced written left) (chance : NoChance page written left) where
  -- the fragments of the torn segment from an offset on begin those that were being written
  BeginsAt : ℕ → Type 0
  BeginsAt offset = BeginsBut (layout_at page left offset).fragments (layout_at page written offset).fragments

  -- zeros that are left are followed by nothing, or they were written
  zeros_step : (offset : ℕ) → item_of page left offset ≡ zeros → (left_at page offset ≤ length (drop offset left) → BeginsAt (end_of_page page offset)) → BeginsAt offset
  unfolding BeginsAt layout_at
  zeros_step offset e ih =
      let fit : left_at page offset ≤ length (drop offset left) = zeros_fit (left_at page offset) (drop offset left) e in
      let pos = left_pos page offset p in
      elim (cases_lt synced (offset + left_at page offset)) [
        | inl l ↦
            (let gone : drop (offset + left_at page offset) left ≡ [] = drop_all (offset + left_at page offset) left (omega (arith, torn.within, page_end_le page synced offset p l)) in
            none_begins (layout_at page left offset) (layout_at page written offset) (ap (λ (x : Layout). x.fragments) (at_zeros page left p offset e ∙ ap (layout_from false page (left_at page (end_of_page page offset))) gone)
            ∙ ap (λ (k : ℕ). (layout_from false page k []).fragments) (left_full page offset p) ∙ empty_layout page p))
        | inr g ↦
            (let same : take (left_at page offset) (drop offset left) ≡ take (left_at page offset) (drop offset written) =
            sym (drop-take offset (left_at page offset) left)
            ∙ ap (drop offset) (sym (take-take (offset + left_at page offset) synced left g) ∙ ap (take (offset + left_at page offset)) torn.front ∙ take-take (offset + left_at page offset) synced written g)
            ∙ drop-take offset (left_at page offset) written in
            let long : left_at page offset ≤ length (drop offset written) = omega (arith, torn.known, length-drop offset written) in
            let zero_there = zeros_same (left_at page offset) (drop offset left) (drop offset written) e same long pos in
            same_begins (layout_at page left offset) (layout_at page left (end_of_page page offset)) (layout_at page written offset) (layout_at page written (end_of_page page offset))
            (at_zeros page left p offset e) (at_zeros page written p offset zero_there) (ih fit))
      ]

  -- the fragment that is left at a place was written there, or it is an empty one at the end
  Explained : ℕ → Item → Type 0
  Explained offset x = (kind : Kind) (d : List ℕ) → x ≡ fragment kind d
      → (item_of page written offset ≡ fragment kind d) ⊎ ((d ≡ []) × (kind ≡ last → ⊥) × ((layout_at page left (offset + (7 + length d))).fragments ≡ []))

  fragment_step : (offset : ℕ) (kind : Kind) (d : List ℕ) → item_of page left offset ≡ fragment kind d → Explained offset (fragment kind d) → (7 + length d ≤ length (drop offset left) → BeginsAt (offset + (7 + length d))) → BeginsAt offset
  unfolding BeginsAt Explained
  fragment_step offset kind d e why ih =
      let fits = fragment_fits (left_at page offset) (drop offset left) kind d e in
      let here = at_fragment page left p offset kind d fits.1 e in
      elim (why kind d refl) [
        | inl was ↦ cons_begins kind d (layout_at page left offset) (layout_at page left (offset + (7 + length d))) (layout_at page written offset) (layout_at page written (offset + (7 + length d)))
            here (at_fragment page written p offset kind d fits.1 was) (ih fits.0)
        | inr end ↦ end_begins kind d (layout_at page left offset) (layout_at page left (offset + (7 + length d))) (layout_at page written offset) here end.2 end.0 (kind_plain (left_at page offset) (drop offset left) kind d e) end.1
      ]

  step : (offset : ℕ) (x : Item) → item_of page left offset ≡ x → Explained offset x
      → (offset < after_item page offset x → after_item page offset x ≤ offset + length (drop offset left) → BeginsAt (after_item page offset x))
      → BeginsAt offset
  unfolding BeginsAt
  step offset nothing e why ih = none_begins (layout_at page left offset) (layout_at page written offset) (ap (λ (x : Layout). x.fragments) (at_item page left p offset nothing e))
  step offset begun e why ih = none_begins (layout_at page left offset) (layout_at page written offset) (ap (λ (x : Layout). x.fragments) (at_item page left p offset begun e))
  step offset (wrong f) e why ih = none_begins (layout_at page left offset) (layout_at page written offset) (ap (λ (x : Layout). x.fragments) (at_item page left p offset (wrong f) e))
  step offset (fragment kind d) e why ih = fragment_step offset kind d e why (λ fits. ih (omega arith) (omega arith))
  step offset zeros e why ih = zeros_step offset e (λ fits. ih (omega (arith, left_pos page offset p)) (omega arith))

  explained : (n : ℕ) → Explained (place_of page left n) (item_of page left (place_of page left n))
  unfolding Explained
  explained n kind d e = elim (chance n kind d e) [
    | inl was ↦ inl was
    | inr end ↦
        (let next : place_of page left (suc n) ≡ place_of page left n + (7 + length d) = ap (after_item page (place_of page left n)) e in
        let none = none_from page left p (length (drop (place_of page left (suc n)) left)) (suc n) (le_refl (length (drop (place_of page left (suc n)) left))) (λ m k f le. end.final m k f (omega arith)) in
        inr (end.empty, end.ends_none, subst (λ (o : ℕ). (layout_at page left o).fragments ≡ []) next none))
  ]

  fragments_begin : (k n : ℕ) → length (drop (place_of page left n) left) ≤ k → BeginsAt (place_of page left n)
  fragments_begin zero n h = step (place_of page left n) (item_of page left (place_of page left n)) refl (explained n) (λ further fits. absurd (omega arith))
  fragments_begin (suc k) n h = step (place_of page left n) (item_of page left (place_of page left n)) refl (explained n)
      (λ further fits. fragments_begin k (suc n) (omega (arith, length-drop (place_of page left n) left, length-drop (place_of page left (suc n)) left)))

-- ---- the entries

with_begin : (d : List ℕ) (found : Option (List Entry)) (r s : Reading) → Begins r.entries s.entries → Begins (with_entries d found r).entries (with_entries d found s).entries
with_begin d None r s b = ([], refl)
with_begin d (Some es) r s b = (b.0, ap (λ (l : List Entry). es ++ l) b.1 ∙ sym (append_assoc es r.entries b.0))

text_begin : (found : Option (List ℕ)) (r s : Reading) → Begins r.entries s.entries → Begins (with_text found r).entries (with_text found s).entries
text_begin None r s b = ([], refl)
text_begin (Some d) r s b = with_begin d (record_entries d) r s b

joined_begin : (next next' : Option Record → Reading) (j : Joined) → ((o : Option Record) → Begins (next o).entries (next' o).entries) → Begins (from_joined next j).entries (from_joined next' j).entries
joined_begin next next' (still_open d) h = h (Some d)
joined_begin next next' (complete d) h = text_begin (text_of d) _ _ (h None)
joined_begin next next' out_of_sequence h = ([], refl)

module _ (extra more : List (Kind × List ℕ)) (s s' : Stop) (adds_none : (so_far : Option Record) (t : Stop) → (reading_of so_far extra t).entries ≡ []) where
  entries_begin : (so_far : Option Record) (fs : List (Kind × List ℕ)) → Begins (reading_of so_far (fs ++ extra) s).entries (reading_of so_far (fs ++ more) s').entries
  entries_begin so_far [] = ((reading_of so_far more s').entries, ap (λ (es : List Entry). es ++ (reading_of so_far more s').entries) (sym (adds_none so_far s)))
  entries_begin so_far ((kind, d) ∷ fs) = joined_begin (λ o. reading_of o (fs ++ extra) s) (λ o. reading_of o (fs ++ more) s') (joined so_far kind d) (λ o. entries_begin o fs)

layouts_begin : (l m : Layout) → BeginsBut l.fragments m.fragments → Begins (reading_of None l.fragments l.stop).entries (reading_of None m.fragments m.stop).entries
layouts_begin l m b =
    subst (λ (fs : List (Kind × List ℕ)). Begins (reading_of None fs l.stop).entries (reading_of None m.fragments m.stop).entries) (sym b.left_is)
    (subst (λ (fs : List (Kind × List ℕ)). Begins (reading_of None (b.same ++ b.extra) l.stop).entries (reading_of None fs m.stop).entries) (sym b.written_is)
    (entries_begin b.extra b.more l.stop m.stop b.adds_none None b.same))

-- a segment is read by its layout
segment_is : (page : ℕ) (text : List ℕ) → 0 < page → segment page text ≡ reading_of None (layout_from false page page text).fragments (layout_from false page page text).stop
unfolding segment_in
segment_is page text p =
    read_step false page page None text (item_at page text) p p refl
    ∙ ap (λ (l : Layout). reading_of None l.fragments l.stop) (sym (layout_step false page page text p p))

pub torn_begins : (page synced : ℕ) (written left : List ℕ) → 0 < page → IsTorn page synced written left → NoChance page written left
    → Begins (segment page left).entries (segment page written).entries
unfolding BeginsAt layout_at
torn_begins page synced written left p torn chance =
    let all = fragments_begin page synced written left p torn chance (length left) 0 (le_refl (length left)) in
    let both = layouts_begin (layout_from false page page left) (layout_from false page page written)
    (subst (λ (k : ℕ). BeginsBut (layout_from false page k left).fragments (layout_from false page k written).fragments) (left_first page p) all) in
    (both.0, ap (λ (r : Reading). r.entries) (segment_is page written p) ∙ both.1 ∙ ap (λ (r : Reading). r.entries ++ both.0) (sym (segment_is page left p)))

pub synced_stays : (page synced : ℕ) (written left : List ℕ) → 0 < page → IsTorn page synced written left
    → Begins (segment page (take synced written)).entries (segment page left).entries
synced_stays page synced written left p torn =
    let whole : take synced written ++ drop synced left ≡ left = ap (λ (bs : List ℕ). bs ++ drop synced left) (sym torn.front) ∙ take-append-drop synced left in
    let grown = segment_grows false page (take synced written) (drop synced left) p in
    subst (λ (bs : List ℕ). Begins (segment page (take synced written)).entries (segment page bs).entries) whole (grown.more, grown.entries)
