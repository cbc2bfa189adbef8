-- The items of a segment, followed up to where reading stops: where its last whole record ends.
use Rattle.std.proofs.Common.{◌≡◌, ◌⊎◌, ℕ, ◌+◌, ◌-◌, ◌<◌, ◌≤◌, List, [], ◌∷◌, ◌++◌, length, take, drop, Option, Some, None, Bool, true, false, refl, sym, ap, ◌∙◌, subst, inl, inr, arith, le_refl, length-drop, length-take, take_all, append_assoc, append-nil}
use Rattle.std.proofs.lemmas.List.{drop-drop, drop_all, drop-take, take-take}
use Rattle.std.proofs.Math.Seq.{take-length}
use Rattle.rw_types.specs.declared.entry.Entry.{Entry}
use Rattle.rw_wal_format.specs.Records.{◌then◌, record_entries}
use Rattle.rw_wal_format.specs.Segments.{Kind, full, first, middle, last, Item, nothing, begun, zeros, fragment, wrong, item_at, between, left_after, snappy, Reading, Record, text_of, with_text, with_entries, Joined, still_open, complete, out_of_sequence, joined, from_joined, read_from, segment, segment_in}
use Rattle.rw_wal_format.proofs.shared.Growing.{kind_plain}
use Rattle.rw_wal_format.proofs.shared.Items.{read_zeros, read_nothing, read_begun, read_wrong, read_fragment}
use Rattle.rw_wal_tail.specs.Places.{closes, open_after, opens, count_after, count_from, read_count, stop_offset, stop_offset_in}
use Rattle.rw_wal_tail.proofs.shared.PlaceLaws.{count_item, empty_count}
use Rattle.rw_kept_log.specs.Logs.{IsCleanCut}
use Rattle.rw_kept_log.specs.Torn.{left_at}
use Rattle.rw_kept_log.specs.TornLogs.{item_of}
use Rattle.rw_kept_log.proofs.shared.ClosingLemmas.{nothing_read}
use Rattle.rw_kept_log.proofs.shared.PageLemmas.{left_pos, left_moves, left_full, left_first}
use Rattle.rw_kept_log.proofs.shared.Zeros.{fragment_fits, zeros_fit, zeros_same}
use Rattle.rw_kept_log.specs.inner.Walking.{ends_with, IsHeaderOf}
use Rattle.rw_kept_log.specs.declared.whole_records.Header.{Header}
use Rattle.rw_kept_log.proofs.HeaderLemmas.{item_cut, take_in}

-- ---- one fragment

-- what a fragment adds, if the reader goes on after it
record Adds (page left : ℕ) (so_far : Option Record) (kind : Kind) (d : List ℕ) (o' : Option Record) : Type 0 where
  es : List Entry
  entries : (bs : List ℕ) → item_at left bs ≡ fragment kind d → (read_from false page left so_far bs).entries ≡ es ++ (read_from false page (left_after page left (7 + length d)) o' (drop (7 + length d) bs)).entries
  stop : (bs : List ℕ) → item_at left bs ≡ fragment kind d → (read_from false page left so_far bs).stop ≡ (read_from false page (left_after page left (7 + length d)) o' (drop (7 + length d) bs)).stop
  ended : ends_with kind ≡ true → o' ≡ None
  quiet : ends_with kind ≡ false → es ≡ []

closed_by : (found : Option (List Entry)) (o' : Option Record) → closes found ≡ Some o' → (es : List Entry) × (found ≡ Some es) × (None ≡ o')
closed_by None o' h = absurd (cc)
closed_by (Some es) o' h = (es, refl, cc)

adds-end : (page left : ℕ) (so_far : Option Record) (kind : Kind) (d whole : List ℕ) (o' : Option Record) → ends_with kind ≡ true → closes (record_entries whole) ≡ Some o'
    → ((bs : List ℕ) → item_at left bs ≡ fragment kind d → read_from false page left so_far bs ≡ with_entries whole (record_entries whole) (read_from false page (left_after page left (7 + length d)) None (drop (7 + length d) bs)))
    → Adds page left so_far kind d o'
adds-end page left so_far kind d whole o' end h reads =
    let c = closed_by (record_entries whole) o' h in
    let next = λ (o : Option Record) (bs : List ℕ). read_from false page (left_after page left (7 + length d)) o (drop (7 + length d) bs) in
    record {
      es = c.0;
      entries = λ bs e. ap (λ (r : Reading). r.entries) (reads bs e ∙ ap (λ (f : Option (List Entry)). with_entries whole f (next None bs)) c.1) ∙ ap (λ (o : Option Record). c.0 ++ (next o bs).entries) c.2;
      stop = λ bs e. ap (λ (r : Reading). r.stop) (reads bs e ∙ ap (λ (f : Option (List Entry)). with_entries whole f (next None bs)) c.1) ∙ ap (λ (o : Option Record). (next o bs).stop) c.2;
      ended = λ t. sym c.2;
      quiet = λ f. absurd (both (ends_with kind) end f);
    }
  where
    both : (b : Bool) → b ≡ true → b ≡ false → ⊥
    both b t f = cc

adds-more : (page left : ℕ) (so_far : Option Record) (kind : Kind) (d : List ℕ) (o o' : Option Record) → ends_with kind ≡ false → o ≡ o'
    → ((bs : List ℕ) → item_at left bs ≡ fragment kind d → read_from false page left so_far bs ≡ read_from false page (left_after page left (7 + length d)) o (drop (7 + length d) bs))
    → Adds page left so_far kind d o'
adds-more page left so_far kind d o o' goes_on is reads =
    let next = λ (x : Option Record) (bs : List ℕ). read_from false page (left_after page left (7 + length d)) x (drop (7 + length d) bs) in
    record {
      es = [];
      entries = λ bs e. ap (λ (r : Reading). r.entries) (reads bs e) ∙ ap (λ (x : Option Record). (next x bs).entries) is;
      stop = λ bs e. ap (λ (r : Reading). r.stop) (reads bs e) ∙ ap (λ (x : Option Record). (next x bs).stop) is;
      ended = λ t. absurd (both (ends_with kind) t goes_on);
      quiet = λ f. refl;
    }
  where
    both : (b : Bool) → b ≡ true → b ≡ false → ⊥
    both b t f = cc

true_false : (b : Bool) → b ≡ true → b ≡ false → ⊥
true_false b t f = cc

same_some : (o o' : Option Record) → Some o ≡ Some o' → o ≡ o'
same_some o o' h = cc

adds : (page left : ℕ) (so_far : Option Record) (kind : Kind) (d : List ℕ) (o' : Option Record) → 0 < page → 0 < left → opens so_far kind d ≡ Some o' → Adds page left so_far kind d o'
adds page left None full d o' p l h = adds-end page left None full d d o' refl h (λ bs e. read_fragment false page left bs p l None full d e)
adds page left None first d o' p l h = adds-more page left None first d (Some (false, d)) o' refl (same_some (Some (false, d)) o' h) (λ bs e. read_fragment false page left bs p l None first d e)
adds page left None middle d o' p l h = absurd (cc)
adds page left None last d o' p l h = absurd (cc)
adds page left (Some (false, o)) full d o' p l h = absurd (cc)
adds page left (Some (false, o)) first d o' p l h = absurd (cc)
adds page left (Some (false, o)) middle d o' p l h = adds-more page left (Some (false, o)) middle d (Some (false, o ++ d)) o' refl (same_some (Some (false, o ++ d)) o' h) (λ bs e. read_fragment false page left bs p l (Some (false, o)) middle d e)
adds page left (Some (false, o)) last d o' p l h = adds-end page left (Some (false, o)) last d (o ++ d) o' refl h (λ bs e. read_fragment false page left bs p l (Some (false, o)) last d e)
adds page left (Some (true, o)) full d o' p l h = absurd (cc)
adds page left (Some (true, o)) first d o' p l h = absurd (cc)
adds page left (Some (true, o)) middle d o' p l h = absurd (cc)
adds page left (Some (true, o)) last d o' p l h = absurd (cc)
adds page left so_far (snappy kind) d o' p l h = record {
  es = [];
  entries = λ bs e. absurd (kind_plain left bs (snappy kind) d e);
  stop = λ bs e. absurd (kind_plain left bs (snappy kind) d e);
  ended = λ t. absurd (true_false false t refl);
  quiet = λ f. refl;
}

-- ---- nothing more is read

not_closed : (found : Option (List Entry)) → closes found ≡ None → found ≡ None
not_closed None h = refl
not_closed (Some es) h = absurd (cc)

stuck : (d : List ℕ) (r : Reading) → closes (record_entries d) ≡ None → (with_entries d (record_entries d) r).entries ≡ []
stuck d r h = ap (λ (f : Option (List Entry)). (with_entries d f r).entries) (not_closed (record_entries d) h)

stuck_text : (found : Option (List ℕ)) (r : Reading) → closes (found then λ d. record_entries d) ≡ None → (with_text found r).entries ≡ []
stuck_text None r h = refl
stuck_text (Some d) r h = stuck d r h

stuck_joined : (next : Option Record → Reading) (j : Joined) → open_after j ≡ None → (from_joined next j).entries ≡ []
stuck_joined next (still_open d) h = absurd (cc)
stuck_joined next (complete d) h = stuck_text (text_of d) (next None) h
stuck_joined next out_of_sequence h = refl

module _ (page left : ℕ) (so_far : Option Record) (bs : List ℕ) (p : 0 < page) (l : 0 < left) where
  counted : (x : Item) → item_at left bs ≡ x → read_count false page left so_far bs ≡ count_from page left so_far bs (λ m r rest. read_count false page m r rest) x
  counted x e = count_item false page left so_far bs x p l e

  none_after : (kind : Kind) (d : List ℕ) (oo : Option (Option Record)) → item_at left bs ≡ fragment kind d → opens so_far kind d ≡ oo → read_count false page left so_far bs ≡ 0 → (read_from false page left so_far bs).entries ≡ []
  none_after kind d None e h none = ap (λ (r : Reading). r.entries) (read_fragment false page left bs p l so_far kind d e) ∙ stuck_joined (λ o. read_from false page (left_after page left (7 + length d)) o (drop (7 + length d) bs)) (joined so_far kind d) h
  none_after kind d (Some o') e h none =
      let c = counted (fragment kind d) e ∙ ap (count_after page left (7 + length d) bs (λ m r rest. read_count false page m r rest)) h in
      absurd (omega (arith, c, none))

  none_from : (x : Item) → item_at left bs ≡ x → read_count false page left so_far bs ≡ 0 → (read_from false page left so_far bs).entries ≡ []
  none_from nothing e none = ap (λ (r : Reading). r.entries) (read_nothing false page left bs p l so_far e)
  none_from begun e none = ap (λ (r : Reading). r.entries) (read_begun false page left bs p l so_far e)
  none_from (wrong f) e none = ap (λ (r : Reading). r.entries) (read_wrong false page left bs p l so_far f e)
  none_from zeros e none = let c = counted zeros e in absurd (omega (arith, c, none, l))
  none_from (fragment kind d) e none = none_after kind d (opens so_far kind d) e refl none

  -- what comes before the place at which reading stops
  Further : Type 0
  Further = (item_at left bs ≡ zeros) ⊎ ((kind : Kind) × (d : List ℕ) × (o' : Option Record) × (item_at left bs ≡ fragment kind d) × (opens so_far kind d ≡ Some o'))

  further_after : (kind : Kind) (d : List ℕ) (oo : Option (Option Record)) → item_at left bs ≡ fragment kind d → opens so_far kind d ≡ oo → 0 < read_count false page left so_far bs → Further
  unfolding Further
  further_after kind d None e h some =
      let c = counted (fragment kind d) e ∙ ap (count_after page left (7 + length d) bs (λ m r rest. read_count false page m r rest)) h in
      absurd (omega (arith, c, some))
  further_after kind d (Some o') e h some = inr (kind, d, o', e, h)

  further_from : (x : Item) → item_at left bs ≡ x → 0 < read_count false page left so_far bs → Further
  unfolding Further
  further_from nothing e some = let c = counted nothing e in absurd (omega (arith, c, some))
  further_from begun e some = let c = counted begun e in absurd (omega (arith, c, some))
  further_from (wrong f) e some = let c = counted (wrong f) e in absurd (omega (arith, c, some))
  further_from zeros e some = inl e
  further_from (fragment kind d) e some = further_after kind d (opens so_far kind d) e refl some

-- ---- the items up to a place

-- The items of a text up to a place were followed: these entries come before it, and a record is
-- open there, if one is. It is so of each text that has these bytes in front.
pub record IsAt (page : ℕ) (text : List ℕ) (at : ℕ) (so_far : Option Record) (es : List Entry) : Type 0 where
  pub stops : stop_offset page text ≡ at + read_count false page (left_at page at) so_far (drop at text)
  pub entries : (n : ℕ) → at ≤ n → (segment page (take n text)).entries ≡ es ++ (read_from false page (left_at page at) so_far (drop at (take n text))).entries
  pub stop : (n : ℕ) → at ≤ n → (segment page (take n text)).stop ≡ (read_from false page (left_at page at) so_far (drop at (take n text))).stop

-- the last whole record before that place ends here
pub record IsWalked (page : ℕ) (text : List ℕ) (at whole : ℕ) : Type 0 where
  pub so_far : Option Record
  pub es : List Entry
  pub here : IsAt page text at so_far es
  pub front : (segment page (take whole text)).entries ≡ es
  pub ended : (segment page (take whole text)).stop ≡ between

take_none : (bs : List ℕ) → take 0 bs ≡ []
take_none [] = refl
take_none (b ∷ bs) = refl

nothing_between : (page : ℕ) → (segment page []).stop ≡ between
unfolding segment_in
nothing_between page = refl

none_read : (page left : ℕ) → (read_from false page left None []).entries ≡ []
none_read page left = refl

none_stops : (page left : ℕ) → (read_from false page left None []).stop ≡ between
none_stops page left = refl

module _ (page : ℕ) (text : List ℕ) (p : 0 < page) where
  all_from : (n : ℕ) → segment page (take n text) ≡ read_from false page (left_at page 0) None (take n text)
  unfolding segment_in
  all_from n = ap (λ (l : ℕ). read_from false page l None (take n text)) (sym (left_first page p))

  all_stops : stop_offset page text ≡ read_count false page (left_at page 0) None text
  unfolding stop_offset_in
  all_stops = ap (λ (l : ℕ). read_count false page l None text) (sym (left_first page p))

  pub walked-none : IsWalked page text 0 0
  walked-none = record {
    so_far = None;
    es = [];
    here = record {
      stops = omega (arith, all_stops);
      entries = λ n le. ap (λ (r : Reading). r.entries) (all_from n);
      stop = λ n le. ap (λ (r : Reading). r.stop) (all_from n);
    };
    front = ap (λ (t : List ℕ). (segment page t).entries) (take_none text) ∙ nothing_read page;
    ended = ap (λ (t : List ℕ). (segment page t).stop) (take_none text) ∙ nothing_between page;
  }

  -- the same place, as it is counted after an item
  moved : (at s : ℕ) (so_far : Option Record) (t : List ℕ) → s ≤ left_at page at
      → read_from false page (left_after page (left_at page at) s) so_far (drop s (drop at t)) ≡ read_from false page (left_at page (at + s)) so_far (drop (at + s) t)
  moved at s so_far t fits =
      ap (λ (l : ℕ). read_from false page l so_far (drop s (drop at t))) (left_moves page at s p fits)
      ∙ ap (read_from false page (left_at page (at + s)) so_far) (drop-drop s at t)

  moved_count : (at s : ℕ) (so_far : Option Record) → s ≤ left_at page at
      → read_count false page (left_after page (left_at page at) s) so_far (drop s (drop at text)) ≡ read_count false page (left_at page (at + s)) so_far (drop (at + s) text)
  moved_count at s so_far fits =
      ap (λ (l : ℕ). read_count false page l so_far (drop s (drop at text))) (left_moves page at s p fits)
      ∙ ap (read_count false page (left_at page (at + s)) so_far) (drop-drop s at text)

  new_page : (at : ℕ) → left_after page (left_at page at) (left_at page at) ≡ page
  new_page at = left_moves page at (left_at page at) p (le_refl (left_at page at)) ∙ left_full page at p

  at-zeros : (at : ℕ) (so_far : Option Record) (es : List Entry) → IsAt page text at so_far es → item_of page text at ≡ zeros → IsAt page text (at + left_at page at) so_far es
  at-zeros at so_far es here e =
      let l = left_at page at in
      let pos = left_pos page at p in
      let fit = zeros_fit (left_at page at) (drop at text) e in
      let all = le_refl (left_at page at) in
      let there = λ (n : ℕ) (le : at + left_at page at ≤ n).
      zeros_same (left_at page at) (drop at text) (drop at (take n text)) e
      (sym (drop-take at (left_at page at) text) ∙ ap (drop at) (sym (take-take (at + left_at page at) n text le)) ∙ drop-take at (left_at page at) (take n text))
      (omega (arith, le, fit, length-drop at (take n text), length-take n text, length-drop at text)) pos in
      let goes = λ (n : ℕ) (le : at + left_at page at ≤ n).
      read_zeros false page (left_at page at) (drop at (take n text)) p pos so_far (there n le)
      ∙ ap (λ (k : ℕ). read_from false page k so_far (drop (left_at page at) (drop at (take n text)))) (sym (new_page at))
      ∙ moved at (left_at page at) so_far (take n text) all in
      let count : read_count false page (left_at page at) so_far (drop at text) ≡ left_at page at + read_count false page (left_at page (at + left_at page at)) so_far (drop (at + left_at page at) text) =
      count_item false page (left_at page at) so_far (drop at text) zeros p pos e
      ∙ ap (λ (k : ℕ). left_at page at + read_count false page k so_far (drop (left_at page at) (drop at text))) (sym (new_page at))
      ∙ ap (λ (k : ℕ). left_at page at + k) (moved_count at (left_at page at) so_far all) in
      record {
        stops = omega (arith, here.stops, count);
        entries = λ n le. here.entries n (omega (arith, le)) ∙ ap (λ (r : Reading). es ++ r.entries) (goes n le);
        stop = λ n le. here.stop n (omega (arith, le)) ∙ ap (λ (r : Reading). r.stop) (goes n le);
      }

  at-fragment : (at : ℕ) (so_far o' : Option Record) (es : List Entry) (kind : Kind) (d : List ℕ) → IsAt page text at so_far es → item_of page text at ≡ fragment kind d → opens so_far kind d ≡ Some o'
      → (a : Adds page (left_at page at) so_far kind d o') → IsAt page text (at + (7 + length d)) o' (es ++ a.es)
  at-fragment at so_far o' es kind d here e h a =
      let pos = left_pos page at p in
      let fit = fragment_fits (left_at page at) (drop at text) kind d e in
      let there = λ (n : ℕ) (le : at + (7 + length d) ≤ n).
      ap (item_at (left_at page at)) (take_in at n text (omega (arith, le))) ∙ item_cut (left_at page at) (n - at) (drop at text) kind d e (omega (arith, le)) in
      let count : read_count false page (left_at page at) so_far (drop at text) ≡ 7 + length d + read_count false page (left_at page (at + (7 + length d))) o' (drop (at + (7 + length d)) text) =
      count_item false page (left_at page at) so_far (drop at text) (fragment kind d) p pos e
      ∙ ap (count_after page (left_at page at) (7 + length d) (drop at text) (λ m r rest. read_count false page m r rest)) h
      ∙ ap (λ (k : ℕ). 7 + length d + k) (moved_count at (7 + length d) o' fit.1) in
      record {
        stops = omega (arith, here.stops, count);
        entries = λ n le. here.entries n (omega (arith, le)) ∙ ap (λ (x : List Entry). es ++ x) (a.entries (drop at (take n text)) (there n le) ∙ ap (λ (r : Reading). a.es ++ r.entries) (moved at (7 + length d) o' (take n text) fit.1))
            ∙ sym (append_assoc es a.es (read_from false page (left_at page (at + (7 + length d))) o' (drop (at + (7 + length d)) (take n text))).entries);
        stop = λ n le. here.stop n (omega (arith, le)) ∙ a.stop (drop at (take n text)) (there n le) ∙ ap (λ (r : Reading). r.stop) (moved at (7 + length d) o' (take n text) fit.1);
      }

  -- a record ends here
  ends_here : (at : ℕ) (es : List Entry) → IsAt page text at None es → IsWalked page text at at
  ends_here at es here =
      let none : drop at (take at text) ≡ [] = drop_all at (take at text) (omega (arith, length-take at text)) in
      record {
        so_far = None;
        es = es;
        here = here;
        front = here.entries at (le_refl at) ∙ ap (λ (bs : List ℕ). es ++ (read_from false page (left_at page at) None bs).entries) none ∙ append-nil es;
        ended = here.stop at (le_refl at) ∙ ap (λ (bs : List ℕ). (read_from false page (left_at page at) None bs).stop) none;
      }

  pub walked-zeros : (at whole : ℕ) → IsWalked page text at whole → item_of page text at ≡ zeros → IsWalked page text (at + left_at page at) whole
  walked-zeros at whole w e = record { so_far = w.so_far; es = w.es; here = at-zeros at w.so_far w.es w.here e; front = w.front; ended = w.ended }

  pub walked-more : (at whole : ℕ) (w : IsWalked page text at whole) (kind : Kind) (d : List ℕ) (o' : Option Record) → item_of page text at ≡ fragment kind d → opens w.so_far kind d ≡ Some o' → ends_with kind ≡ false
      → IsWalked page text (at + (7 + length d)) whole
  walked-more at whole w kind d o' e h more =
      let a = adds page (left_at page at) w.so_far kind d o' p (left_pos page at p) h in
      record {
        so_far = o';
        es = w.es ++ a.es;
        here = at-fragment at w.so_far o' w.es kind d w.here e h a;
        front = w.front ∙ sym (append-nil w.es) ∙ ap (λ (x : List Entry). w.es ++ x) (sym (a.quiet more));
        ended = w.ended;
      }

  pub walked-end : (at whole : ℕ) (w : IsWalked page text at whole) (kind : Kind) (d : List ℕ) (o' : Option Record) → item_of page text at ≡ fragment kind d → opens w.so_far kind d ≡ Some o' → ends_with kind ≡ true
      → IsWalked page text (at + (7 + length d)) (at + (7 + length d))
  walked-end at whole w kind d o' e h end =
      let a = adds page (left_at page at) w.so_far kind d o' p (left_pos page at p) h in
      ends_here (at + (7 + length d)) (w.es ++ a.es) (subst (λ (o : Option Record). IsAt page text (at + (7 + length d)) o (w.es ++ a.es)) (a.ended end) (at-fragment at w.so_far o' w.es kind d w.here e h a))

  -- before the place at which reading stops there is an item
  pub goes_further : (at whole : ℕ) (w : IsWalked page text at whole) → at < stop_offset page text
      → (item_of page text at ≡ zeros) ⊎ ((kind : Kind) × (d : List ℕ) × (o' : Option Record) × (item_of page text at ≡ fragment kind d) × (opens w.so_far kind d ≡ Some o'))
  unfolding Further
  goes_further at whole w lt =
      further_from page (left_at page at) w.so_far (drop at text) p (left_pos page at p) (item_of page text at) refl (omega (arith, lt, w.here.stops))

  -- at that place the walk has found the end of the last whole record
  pub clean_there : (at whole : ℕ) → IsWalked page text at whole → at ≤ length text → whole ≤ length text → (stop_offset page text ≤ at) ⊎ (length text ≤ at) → IsCleanCut page text whole
  clean_there at whole w within le end =
      let none : read_count false page (left_at page at) w.so_far (drop at text) ≡ 0 = elim end [
        | inl s ↦ omega (arith, s, w.here.stops)
        | inr s ↦ ap (read_count false page (left_at page at) w.so_far) (drop_all at text s) ∙ empty_count false page 0 (left_at page at) w.so_far
      ] in
      let rest : (read_from false page (left_at page at) w.so_far (drop at text)).entries ≡ [] = none_from page (left_at page at) w.so_far (drop at text) p (left_pos page at p) (item_of page text at) refl none in
      let all : (segment page text).entries ≡ w.es =
      ap (λ (t : List ℕ). (segment page t).entries) (sym (take-length text)) ∙ w.here.entries (length text) within
      ∙ ap (λ (t : List ℕ). w.es ++ (read_from false page (left_at page at) w.so_far (drop at t)).entries) (take-length text) ∙ ap (λ (x : List Entry). w.es ++ x) rest ∙ append-nil w.es in
      record { within = le; keeps = w.front ∙ sym all; whole = w.ended }

-- ---- what a header says of the next item

-- the walk goes on by the length in a header
pub record GoesBy (page : ℕ) (text : List ℕ) (at whole : ℕ) (h : Header) : Type 0 where
  pub fits : h.len ≤ length text - at
  pub ends : h.ends_record ≡ true → IsWalked page text (at + h.len) (at + h.len)
  pub more : h.ends_record ≡ false → IsWalked page text (at + h.len) whole

pub goes_by : (page : ℕ) (text : List ℕ) (at whole : ℕ) (h : Header) → 0 < page → IsWalked page text at whole → at < stop_offset page text
    → IsHeaderOf (left_at page at) (take (length text - at) (drop at text)) h → GoesBy page text at whole h
goes_by page text at whole h p w lt is =
    let slice : take (length text - at) (drop at text) ≡ drop at text = take_all (length text - at) (drop at text) (omega (arith, length-drop at text)) in
    let is' : IsHeaderOf (left_at page at) (drop at text) h = subst (λ (bs : List ℕ). IsHeaderOf (left_at page at) bs h) slice is in
    elim (goes_further page text p at whole w lt) [
      | inl z ↦
          (let len = is'.zeros_len z in
          record {
            fits = omega (arith, len, zeros_fit (left_at page at) (drop at text) z, length-drop at text);
            ends = λ t. absurd (true_false h.ends_record t (is'.zeros_end z));
            more = λ f. subst (λ (n : ℕ). IsWalked page text (at + n) whole) (sym len) (walked-zeros page text p at whole w z);
          })
      | inr f ↦
          (let len = is'.fragment_len f.0 f.1 f.3 in
          let fit = fragment_fits (left_at page at) (drop at text) f.0 f.1 f.3 in
          record {
            fits = omega (arith, len, fit.0, length-drop at text);
            ends = λ t. subst (λ (n : ℕ). IsWalked page text (at + n) (at + n)) (sym len) (walked-end page text p at whole w f.0 f.1 f.2 f.3 f.4 (sym (is'.fragment_end f.0 f.1 f.3) ∙ t));
            more = λ t. subst (λ (n : ℕ). IsWalked page text (at + n) whole) (sym len) (walked-more page text p at whole w f.0 f.1 f.2 f.3 f.4 (sym (is'.fragment_end f.0 f.1 f.3) ∙ t));
          })
    ]
