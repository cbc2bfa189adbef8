-- Feeding, placing, sending, resolving and restarting keep the invariant.
use Rattle.std.proofs.Common.{◌≡◌, ℕ, suc, ◌+◌, ◌%◌, nat_eq, ◌<◌, ◌≤◌, ◌==◌, Bool, true, false, cond, List, [], ◌∷◌, ◌++◌, length, map, take, Option, Some, None, is_none, is_some, slice_get, refl, sym, ap, ◌∙◌, subst, ℤ, ◌||◌, append-nil, append_assoc, length-append, length-take-le, arith, inl, inr, ◌⊎◌, ◌&&◌}
use Rattle.std.specs.List.{AllByRecursion, list_any}
use Rattle.std.proofs.lemmas.Bool.{cases_eq, true≢false, or_right, cond-false, cond-true, ne_eqb}
use Rattle.std.proofs.lemmas.Bool.Decides.{Decides-eqb}
use Rattle.std.proofs.lemmas.List.{take-append-le, map-append}
use Rattle.std.proofs.lemmas.List.Elements.{filter-append}
use Rattle.rw_types.proofs.shared.AllLemmas.{AllByRecursion-left, AllByRecursion-weaker}
use Rattle.rw_machine.proofs.shared.Steps.{each_change, same_is, is_same}
use Rattle.rw_machine.proofs.shared.Others.{entries_grow, known_kept, pending_parts, pending_put}
use Rattle.rw_machine.proofs.shared.Names.{ledger_insert, name_batch}
use Rattle.rw_machine.proofs.shared.Places.{at_change, Numbered, numbered_more, numbered_push, numbered_all, length_change, points_more, take_next, get_below, number_more, get_changed, get_others, of_append}
use Rattle.rw_machine.proofs.Invariant.{Inv, as_points, waits, home, id_at, Past, SampleOk, ShardOk, GotOk, DoneOk, IsOpen, InStore, RequestOk, AnswersOpen, AnswerOk, past_change, by_bool}
use Rattle.std.specs.FinMap.{FinMap, get, insert}
use Rattle.std.specs.Ordering.{nat_cmp}
use Rattle.std.proofs.lemmas.Option.{same_Some}
use Rattle.rw_wal_format.specs.Pieces.{entries}
use Rattle.rw_wal_tail.specs.Fed.{piece_of}
use Rattle.rw_wal_tail.specs.declared.piece.Piece.{Piece}
use Rattle.rw_series_cache.proofs.shared.KnownLemmas.{definitions_of-sample, known-definition, known-definitions_of}
use Rattle.rw_batch.specs.declared.batch.BatchId.{BatchId}
use Rattle.rw_ledger.specs.declared.ledger.Reason.{Reason}
use Rattle.rw_ledger.specs.declared.ledger.Reason.TheVariants.{BadLabels, NoSeries, NotRising, Status}
use Rattle.rw_head.specs.Store.{list_of}
use Rattle.rw_machine.proofs.shared.Views.{IsKept, Ledger, is_let_in, is_of, named_at, of, owed_by, pairs, point_of, points}
use Rattle.rw_machine.specs.Promises.{LoggedPoint, pair_of}
use Rattle.rw_machine.specs.Shards.{Shard, has_room, pending_in_shard, samples_waiting, shard_put}
use Rattle.rw_machine.specs.Steps.{change, feed, next_sample, place, place_entry, place_kept, place_sample, put_if_room, shard_of_labels}
use Rattle.rw_machine.specs.Worlds.{Reply, Request, Setup, World, log}
use Rattle.rw_series_cache.specs.Known.{Bad, Filtered, Kept, Standing, Unknown, known, standing_of}
use Rattle.rw_series_cache.specs.Rising.{rises}
use Rattle.rw_series_cache.specs.Numbers.{number_of, with_series}
use Rattle.rw_plain_queue.specs.Items.{Placed}
use Rattle.rw_types.specs.LabelOrder.{labels_eq}
use Rattle.rw_types.specs.Labels.{Labels, label_fault_number}
use Rattle.rw_types.specs.declared.entry.Entry.{Entry}
use Rattle.rw_types.specs.declared.entry.Entry.TheVariants.{Def, Sample}
use Rattle.rw_types.proofs.shared.Booleans.{either}

-- the ledger
pub named_other : (p q : ℕ) (r : Reason) (ledger : Ledger) → (p ≡ q → ⊥) → named_at p r ledger q ≡ ledger q
named_other p q r ledger h = cond-false (p == q) (Some r) (ledger q) (ne_eqb p q h)

pub name_all_other : (status : ℕ) (xs : List Placed) (ledger : Ledger) (p : ℕ) → AllByRecursion (λ (x : Placed). x.place.pos ≡ p → ⊥) xs → name_batch status xs ledger p ≡ ledger p
name_all_other status [] ledger p h = refl
name_all_other status (x ∷ xs) ledger p h = name_all_other status xs (named_at x.place.pos (Status status) ledger) p h.1 ∙ named_other x.place.pos p (Status status) ledger h.0

names_stay : (status : ℕ) (xs : List Placed) (ledger : Ledger) (p : ℕ) → is_none (ledger p) ≡ false → is_none (name_batch status xs ledger p) ≡ false
names_stay status [] ledger p h = h
names_stay status (x ∷ xs) ledger p h = names_stay status xs (named_at x.place.pos (Status status) ledger) p (either (λ o. is_none o ≡ false) (x.place.pos == p) (Some (Status status)) (ledger p) (λ _. refl) (λ _. h))

pub names_own : (status : ℕ) (xs : List Placed) (ledger : Ledger) → AllByRecursion (λ (x : Placed). is_none (name_batch status xs ledger x.place.pos) ≡ false) xs
names_own status [] ledger = tt
names_own status (x ∷ xs) ledger = (
  names_stay status xs (named_at x.place.pos (Status status) ledger) x.place.pos (ap is_none (cond-true (x.place.pos == x.place.pos) (Some (Status status)) (ledger x.place.pos) ((Decides-eqb x.place.pos x.place.pos).1 refl))),
  names_own status xs (named_at x.place.pos (Status status) ledger),
)

pub owed_same : (new old : Ledger) (ps : List LoggedPoint) → AllByRecursion (λ (q : LoggedPoint). new q.0 ≡ old q.0) ps → owed_by new ps ≡ owed_by old ps
owed_same new old [] h = refl
owed_same new old (q ∷ ps) h = (λ i. cond (is_none (h.0 i)) (q ∷ owed_by new ps) (owed_by new ps)) ∙ ap (λ rest. cond (is_none (old q.0)) (q ∷ rest) rest) (owed_same new old ps h.1)

pub owed_all : (ledger : Ledger) (ps : List LoggedPoint) → AllByRecursion (λ (q : LoggedPoint). ledger q.0 ≡ None) ps → owed_by ledger ps ≡ ps
owed_all ledger [] h = refl
owed_all ledger (q ∷ ps) h = cond-true (is_none (ledger q.0)) (q ∷ owed_by ledger ps) (owed_by ledger ps) (ap is_none h.0) ∙ ap (λ rest. q ∷ rest) (owed_all ledger ps h.1)

pub owed_none : (ledger : Ledger) (ps : List LoggedPoint) → AllByRecursion (λ (q : LoggedPoint). is_none (ledger q.0) ≡ false) ps → owed_by ledger ps ≡ []
owed_none ledger [] h = refl
owed_none ledger (q ∷ ps) h = cond-false (is_none (ledger q.0)) (q ∷ owed_by ledger ps) (owed_by ledger ps) h.0 ∙ owed_none ledger ps h.1

pub owed_append : (ledger : Ledger) (xs ys : List LoggedPoint) → owed_by ledger (xs ++ ys) ≡ owed_by ledger xs ++ owed_by ledger ys
owed_append ledger xs ys = filter-append (λ (q : LoggedPoint). is_none (ledger q.0)) xs ys

pub pairs_of_points : (xs : List Placed) → map pair_of (as_points xs) ≡ pairs xs
pairs_of_points [] = refl
pairs_of_points (x ∷ xs) = ap (λ rest. (x.t, x.word) ∷ rest) (pairs_of_points xs)

pub of_none : (l : Labels) (xs : List Placed) → AllByRecursion (λ (x : Placed). labels_eq l x.labels ≡ false) xs → of l xs ≡ []
of_none l [] h = refl
of_none l (x ∷ xs) h = cond-false (labels_eq l x.labels) (x ∷ of l xs) (of l xs) h.0 ∙ of_none l xs h.1

-- new entries leave those placed
pub feed_keeps : (c : Setup) (w : World) (piece : Piece) → Inv c w → Inv c (feed w piece)
feed_keeps c w piece at = either (Inv c) (is_some w.closed) w (record w { pieces = w.pieces ++ piece_of piece ∷ [] }) (λ _. at) (λ _.
    let grown = entries_grow w.pieces (piece_of piece ∷ []) in
    let same : take w.placed (entries (w.pieces ++ piece_of piece ∷ [])) ≡ take w.placed (log w) = ap (take w.placed) grown.1 ∙ take-append-le w.placed (log w) grown.0 at.placed_in in
    record {
      width = at.width;
      ident = at.ident;
      done = at.done;
      got = at.got;
      limited = at.limited;
      wide = at.wide;
      placed_in = (let e : length (entries (w.pieces ++ piece_of piece ∷ [])) ≡ length (log w) + length grown.0 = ap length grown.1 ∙ length-append (log w) grown.0 in let le : w.placed ≤ length (log w) = at.placed_in in omega arith);
      series_in = λ r l h. at.series_in r l (ap (λ s. known c.choice s r) (sym same) ∙ h);
      shards_ok = at.shards_ok;
      got_ok = at.got_ok;
      mine = λ l k. ap (points c l) same ∙ at.mine l k;
      stored = at.stored;
      done_ok = at.done_ok;
      fresh = at.fresh;
      requests_ok = at.requests_ok;
      answers_ok = at.answers_ok;
    })

-- a series that was not met has no pending sample
no_member : (c : Setup) (w : World) (at : Inv c w) (l : Labels) → list_any (labels_eq l) w.series ≡ false → (i : ℕ) (o : Option Shard) → slice_get w.shards i ≡ o → AllByRecursion (λ (x : Placed). labels_eq l x.labels ≡ false) (waits o)
no_member c w at l new i None e = tt
no_member c w at l new i (Some s) e = numbered_all (SampleOk c w.epoch w.placed at.width w.series (get w.names) at.ident i) (λ (x : Placed). labels_eq l x.labels ≡ false) (length s.core.resolved) (length s.core.resolved + length (pending_in_shard s)) (pending_in_shard s) refl
    (λ k x _ _ ok. by_bool (labels_eq l x.labels ≡ false) (labels_eq l x.labels) (λ h. absurd (true≢false (sym ok.member ∙ ap (λ m. list_any (labels_eq m) w.series) (sym (same_is l x.labels h)) ∙ new))) (λ h. h))
    ((at.shards_ok i s e).numbered)

got_of_none : (c : Setup) (l : Labels) (o : Option Shard) (got : List Placed) → GotOk c o got → AllByRecursion (λ (x : Placed). labels_eq l x.labels ≡ false) (waits o) → of l got ≡ []
got_of_none c l None got g h = ap (of l) g
got_of_none c l (Some s) got (inl g) h = ap (of l) g
got_of_none c l (Some s) got (inr g) h = ap (of l) g.0 ∙ of_none l s.core.batch (AllByRecursion-left (λ (x : Placed). labels_eq l x.labels ≡ false) s.core.batch (s.core.builder ++ samples_waiting s.queue) (subst (AllByRecursion (λ (x : Placed). labels_eq l x.labels ≡ false)) (pending_parts s) h))

-- an entry is placed that puts nothing
pub record Moves (c : Setup) (w : World) (e : Entry) (series : List Labels) (ledger : Ledger) : Type 0 where
  pub next : slice_get (log w) w.placed ≡ Some e
  pub stay : (l : Labels) → list_any (labels_eq l) w.series ≡ true → (list_any (labels_eq l) series ≡ true) × (number_of series l ≡ number_of w.series l)
  pub below : (p : ℕ) → p < w.placed → ledger p ≡ (get w.names) p
  pub above : (p : ℕ) → suc w.placed ≤ p → ledger p ≡ None
  pub no_point : (l : Labels) → IsKept c l → point_of c l (take w.placed (log w)) e ≡ []
  pub met : (r : ℕ) (l : Labels) → known c.choice (take w.placed (log w) ++ e ∷ []) r ≡ Kept l → list_any (labels_eq l) series ≡ true

pub moves_keeps : (c : Setup) (w : World) (e : Entry) (series : List Labels) (names : FinMap nat_cmp Reason) (filtered : ℕ) → Moves c w e series (get names) → Inv c w → Inv c (record w { series = series; names = names; filtered = filtered; placed = suc w.placed })
moves_keeps c w e series names filtered m at = record {
  width = at.width;
  ident = at.ident;
  done = at.done;
  got = at.got;
  limited = at.limited;
  wide = at.wide;
  placed_in = get_below (log w) w.placed e m.next;
  series_in = λ r l h. m.met r l (ap (λ s. known c.choice s r) (sym seen) ∙ h);
  shards_ok = λ i s at_i. let ok = at.shards_ok i s at_i in record { counted = ok.counted; numbered = numbered_more (SampleOk c w.epoch w.placed at.width w.series (get w.names) at.ident i) (SampleOk c w.epoch (suc w.placed) at.width series (get names) at.ident i) (length s.core.resolved) (pending_in_shard s) (λ k x _ x_ok. sample i k x x_ok) ok.numbered };
  got_ok = at.got_ok;
  mine = λ l k. ap (points c l) seen ∙ points_more c l (take w.placed (log w)) e ∙ ap (λ ps. points c l (take w.placed (log w)) ++ ps) (m.no_point l k) ∙ append-nil (points c l (take w.placed (log w))) ∙ at.mine l k ∙ ap (λ ps. at.done l ++ as_points ps) (same_wait l);
  stored = λ l k. at.stored l k ∙ (λ i. map pair_of (sym (same_owed l k) i) ++ pairs (same_got l i));
  done_ok = λ l k. AllByRecursion-weaker (DoneOk w.epoch w.shards w.placed at.ident) (DoneOk w.epoch w.shards (suc w.placed) at.ident) (λ q ok. (ok.0, let lt : q.0 < w.placed = ok.1 in omega arith)) (at.done l) (at.done_ok l k);
  fresh = m.above;
  requests_ok = at.requests_ok;
  answers_ok = at.answers_ok;
}
  where
    seen : take (suc w.placed) (log w) ≡ take w.placed (log w) ++ e ∷ []
    seen = take_next (log w) w.placed e m.next

    sample : (i k : ℕ) (x : Placed) → SampleOk c w.epoch w.placed at.width w.series (get w.names) at.ident i k x → SampleOk c w.epoch (suc w.placed) at.width series (get names) at.ident i k x
    sample i k x ok = record {
      epoch_is = ok.epoch_is;
      shard_is = ok.shard_is;
      seq_is = ok.seq_is;
      ident_is = ok.ident_is;
      below = (let lt : x.place.pos < w.placed = ok.below in omega arith);
      unnamed = m.below x.place.pos ok.below ∙ ok.unnamed;
      kept = ok.kept;
      member = (m.stay x.labels ok.member).0;
      home_is = ap (λ n. n % at.width) ((m.stay x.labels ok.member).1) ∙ ok.home_is;
    }

    same_home : (l : Labels) → list_any (labels_eq l) w.series ≡ true → home at.width w.series l ≡ home at.width series l
    same_home l h = ap (λ n. n % at.width) (sym ((m.stay l h).1))

    same_wait : (l : Labels) → of l (waits (slice_get w.shards (home at.width w.series l))) ≡ of l (waits (slice_get w.shards (home at.width series l)))
    same_wait l = by_bool _ (list_any (labels_eq l) w.series)
        (λ h. ap (λ i. of l (waits (slice_get w.shards i))) (same_home l h))
        (λ h. of_none l (waits (slice_get w.shards (home at.width w.series l))) (no_member c w at l h (home at.width w.series l) (slice_get w.shards (home at.width w.series l)) refl) ∙ sym (of_none l (waits (slice_get w.shards (home at.width series l))) (no_member c w at l h (home at.width series l) (slice_get w.shards (home at.width series l)) refl)))

    none_got : (l : Labels) → list_any (labels_eq l) w.series ≡ false → (i : ℕ) → of l (at.got i) ≡ []
    none_got l h i = got_of_none c l (slice_get w.shards i) (at.got i) (at.got_ok i) (no_member c w at l h i (slice_get w.shards i) refl)

    same_got : (l : Labels) → of l (at.got (home at.width w.series l)) ≡ of l (at.got (home at.width series l))
    same_got l = by_bool _ (list_any (labels_eq l) w.series)
        (λ h. ap (λ i. of l (at.got i)) (same_home l h))
        (λ h. none_got l h (home at.width w.series l) ∙ sym (none_got l h (home at.width series l)))

    same_owed : (l : Labels) → IsKept c l → owed_by (get names) (at.done l) ≡ owed_by (get w.names) (at.done l)
    same_owed l k = owed_same (get names) (get w.names) (at.done l) (AllByRecursion-weaker (DoneOk w.epoch w.shards w.placed at.ident) (λ (q : LoggedPoint). get names q.0 ≡ get w.names q.0) (λ q ok. m.below q.0 ok.1) (at.done l) (at.done_ok l k))

pub of_is : (l : Labels) (k : Standing) → is_of l k ≡ true → k ≡ Kept l
of_is l Unknown h = absurd (true≢false (sym h))
of_is l (Bad f) h = absurd (true≢false (sym h))
of_is l Filtered h = absurd (true≢false (sym h))
of_is l (Kept m) h = ap Kept (sym (same_is l m h))

-- no point of a series: another's, or one that does not rise
no_point_by : (c : Setup) (l : Labels) (seen : List Entry) (r : ℕ) (t : ℤ) (word : ℕ) → (is_of l (known c.choice seen r) ≡ true → rises c.choice seen l t ≡ false) → point_of c l seen (Sample r t word) ≡ []
no_point_by c l seen r t word h = by_test (is_of l (known c.choice seen r)) h
  where
    by_test : (b : Bool) → (b ≡ true → rises c.choice seen l t ≡ false) → cond {A = List LoggedPoint} (b && rises c.choice seen l t) ((length seen, t, word) ∷ []) [] ≡ []
    by_test true h = cond-false (rises c.choice seen l t) ((length seen, t, word) ∷ []) [] (h refl)
    by_test false h = refl

no_point_fallen : (c : Setup) (l m : Labels) (seen : List Entry) (r : ℕ) (t : ℤ) (word : ℕ) → known c.choice seen r ≡ Kept m → rises c.choice seen m t ≡ false → point_of c l seen (Sample r t word) ≡ []
no_point_fallen c l m seen r t word is_known falls = no_point_by c l seen r t word (λ h. ap (λ (n : Labels). rises c.choice seen n t) (kept_same (sym (of_is l (known c.choice seen r) h) ∙ is_known)) ∙ falls)
  where
    kept_same : Kept l ≡ Kept m → l ≡ m
    kept_same z = cc

no_point_at : (c : Setup) (l : Labels) (seen : List Entry) (r : ℕ) (t : ℤ) (word : ℕ) → (known c.choice seen r ≡ Kept l → ⊥) → point_of c l seen (Sample r t word) ≡ []
no_point_at c l seen r t word never = no_point_by c l seen r t word (λ h. absurd (never (of_is l (known c.choice seen r) h)))

-- a sample changes nothing of what is known
pub known_sample : (c : Setup) (seen : List Entry) (q : ℕ) (t : ℤ) (word r : ℕ) → known c.choice (seen ++ Sample q t word ∷ []) r ≡ known c.choice seen r
known_sample c seen q t word r = sym (known-definitions_of c.choice (seen ++ Sample q t word ∷ []) r) ∙ ap (λ d. known c.choice d r) (definitions_of-sample seen q t word) ∙ known-definitions_of c.choice seen r

or_more : (b x y : Bool) → (x ≡ true → y ≡ true) → (b || x) ≡ true → (b || y) ≡ true
or_more true x y more h = refl
or_more false x y more h = more h

any_more : (l m : Labels) (xs : List Labels) → list_any (labels_eq l) xs ≡ true → list_any (labels_eq l) (xs ++ m ∷ []) ≡ true
any_more l m [] h = absurd (true≢false (sym h))
any_more l m (x ∷ xs) h = or_more (labels_eq l x) (list_any (labels_eq l) xs) (list_any (labels_eq l) (xs ++ m ∷ [])) (any_more l m xs) h

any_own : (l : Labels) (xs : List Labels) → list_any (labels_eq l) (xs ++ l ∷ []) ≡ true
any_own l [] = ap (λ b. b || false) (is_same l l refl)
any_own l (x ∷ xs) = or_right (labels_eq l x) (list_any (labels_eq l) (xs ++ l ∷ [])) (any_own l xs)

grows : (k : Standing) (series : List Labels) (l : Labels) → list_any (labels_eq l) series ≡ true → (list_any (labels_eq l) (with_series series k) ≡ true) × (number_of (with_series series k) l ≡ number_of series l)
grows (Kept m) series l h = either (λ xs. (list_any (labels_eq l) xs ≡ true) × (number_of xs l ≡ number_of series l)) (list_any (labels_eq m) series) series (series ++ m ∷ []) (λ _. (h, refl)) (λ _. (any_more l m series h, number_more series l m h))
grows (Bad f) series l h = (h, refl)
grows Filtered series l h = (h, refl)
grows Unknown series l h = (h, refl)

adds : (k : Standing) (series : List Labels) (l : Labels) → k ≡ Kept l → list_any (labels_eq l) (with_series series k) ≡ true
adds k series l e = subst (λ (k : Standing). list_any (labels_eq l) (with_series series k) ≡ true) (sym e) (either (λ xs. list_any (labels_eq l) xs ≡ true) (list_any (labels_eq l) series) series (series ++ l ∷ []) (λ h. h) (λ _. any_own l series))

def_moves : (c : Setup) (w : World) (q : ℕ) (m : Labels) → slice_get (log w) w.placed ≡ Some (Def q m) → Inv c w → Moves c w (Def q m) (with_series w.series (standing_of c.choice (Some m))) (get w.names)
def_moves c w q m e at = record {
  next = e;
  stay = grows (standing_of c.choice (Some m)) w.series;
  below = λ p _. refl;
  above = λ p le. at.fresh p (omega arith);
  no_point = λ l _. refl;
  met = λ r l h. by_reference r l (nat_eq q r) (sym (known-definition c.choice seen q m r) ∙ h);
}
  where
    seen : List Entry
    seen = take w.placed (log w)

    by_reference : (r : ℕ) (l : Labels) (b : Bool) → cond b (standing_of c.choice (Some m)) (known c.choice seen r) ≡ Kept l → list_any (labels_eq l) (with_series w.series (standing_of c.choice (Some m))) ≡ true
    by_reference r l true h = adds (standing_of c.choice (Some m)) w.series l h
    by_reference r l false h = (grows (standing_of c.choice (Some m)) w.series l (at.series_in r l h)).0

sample_moves : (c : Setup) (w : World) (r : ℕ) (t : ℤ) (word : ℕ) (ledger : Ledger) → slice_get (log w) w.placed ≡ Some (Sample r t word) → ((l : Labels) → point_of c l (take w.placed (log w)) (Sample r t word) ≡ []) → ((p : ℕ) → p < w.placed → ledger p ≡ (get w.names) p) → ((p : ℕ) → suc w.placed ≤ p → ledger p ≡ None) → Inv c w → Moves c w (Sample r t word) w.series ledger
sample_moves c w r t word ledger e none below above at = record {
  next = e;
  stay = λ l h. (h, refl);
  below = below;
  above = above;
  no_point = λ l k. none l;
  met = λ q l h. at.series_in q l (sym (known_sample c (take w.placed (log w)) r t word q) ∙ h);
}

named_below : (w : World) (reason : Reason) (p : ℕ) → p < w.placed → get (insert w.names w.placed reason) p ≡ get w.names p
named_below w reason p lt = ap (λ ledger. ledger p) (ledger_insert w.names w.placed reason) ∙ named_other w.placed p reason (get w.names) (λ e. omega arith)

named_above : (c : Setup) (w : World) (at : Inv c w) (reason : Reason) (p : ℕ) → suc w.placed ≤ p → get (insert w.names w.placed reason) p ≡ None
named_above c w at reason p le = ap (λ ledger. ledger p) (ledger_insert w.names w.placed reason) ∙ named_other w.placed p reason (get w.names) (λ e. omega arith) ∙ at.fresh p (omega arith)

-- a kept sample is put
put_keeps : (c : Setup) (w : World) (r : ℕ) (t : ℤ) (word : ℕ) (l : Labels) (i : ℕ) (s : Shard) → slice_get (log w) w.placed ≡ Some (Sample r t word) → known c.choice (take w.placed (log w)) r ≡ Kept l → rises c.choice (take w.placed (log w)) l t ≡ true → i ≡ shard_of_labels w l → slice_get w.shards i ≡ Some s → Inv c w → Inv c (record w { shards = change i (shard_put (next_sample w i l t word s)) w.shards; placed = suc w.placed })
put_keeps c w r t word l i s e is_known up i_is at_i at = record {
  width = at.width;
  ident = ident;
  done = at.done;
  got = at.got;
  limited = at.limited;
  wide = length_change i (shard_put x) w.shards ∙ at.wide;
  placed_in = get_below (log w) w.placed (Sample r t word) e;
  series_in = λ q m h. at.series_in q m (sym (ap (λ es. known c.choice es q) seen_more ∙ known_sample c seen r t word q) ∙ h);
  shards_ok = each_change (ShardOk c w.epoch (suc w.placed) at.width w.series (get w.names) ident) (shard_put x) i w.shards (λ j u at_j. older j u (at.shards_ok j u at_j))
      (λ u at_u _. let same : s ≡ u = same_Some _ _ (sym at_i ∙ at_u) in subst (λ (u : Shard). ShardOk c w.epoch (suc w.placed) at.width w.series (get w.names) ident i (shard_put x u)) same pushed);
  got_ok = λ j. at_change (λ o. GotOk c o (at.got j)) i j (shard_put x) w.shards (λ _ _ _ g. g) (at.got_ok j);
  mine = λ m k. ap (points c m) seen_more ∙ points_more c m seen (Sample r t word) ∙ by_home m k (cases_eq (home at.width w.series m) i);
  stored = at.stored;
  done_ok = λ m k. AllByRecursion-weaker (DoneOk w.epoch w.shards w.placed at.ident) (DoneOk w.epoch (change i (shard_put x) w.shards) (suc w.placed) ident) (λ q ok. (past (ident q.0) (subst (Past w.epoch w.shards) (sym (same_ident q.0 ok.1)) ok.0), let lt : q.0 < w.placed = ok.1 in omega arith)) (at.done m) (at.done_ok m k);
  fresh = λ p le. at.fresh p (omega arith);
  requests_ok = AllByRecursion-weaker (RequestOk c w.epoch w.shards (list_of w.head.store)) (RequestOk c w.epoch (change i (shard_put x) w.shards) (list_of w.head.store)) (λ q ok. record { id_is = ok.id_is; kept = ok.kept; fate = fate q ok.fate }) w.requests at.requests_ok;
  answers_ok = AllByRecursion-weaker (AnswerOk c w.epoch w.shards at.got) (AnswerOk c w.epoch (change i (shard_put x) w.shards) at.got) answer w.replies at.answers_ok;
}
  where
    x : Placed
    x = next_sample w i l t word s

    seen : List Entry
    seen = take w.placed (log w)

    seen_more : take (suc w.placed) (log w) ≡ seen ++ Sample r t word ∷ []
    seen_more = take_next (log w) w.placed (Sample r t word) e

    ident : ℕ → BatchId
    ident p = cond (w.placed == p) (id_at w.epoch i (length s.put)) (at.ident p)

    same_ident : (p : ℕ) → p < w.placed → ident p ≡ at.ident p
    same_ident p lt = cond-false (w.placed == p) (id_at w.epoch i (length s.put)) (at.ident p) (ne_eqb w.placed p (λ e. omega arith))

    kept : IsKept c l
    kept = known_kept c seen r l is_known

    home_l : home at.width w.series l ≡ i
    home_l = ap (λ n. number_of w.series l % n) (sym at.wide) ∙ sym i_is

    past : (id : BatchId) → Past w.epoch w.shards id → Past w.epoch (change i (shard_put x) w.shards) id
    past id h = past_change w.epoch i (shard_put x) w.shards (λ u. omega arith) id h

    sample : (j k : ℕ) (y : Placed) → SampleOk c w.epoch w.placed at.width w.series (get w.names) at.ident j k y → SampleOk c w.epoch (suc w.placed) at.width w.series (get w.names) ident j k y
    sample j k y ok = record { epoch_is = ok.epoch_is; shard_is = ok.shard_is; seq_is = ok.seq_is; ident_is = same_ident y.place.pos ok.below ∙ ok.ident_is; below = (let lt : y.place.pos < w.placed = ok.below in omega arith); unnamed = ok.unnamed; kept = ok.kept; member = ok.member; home_is = ok.home_is }

    older : (j : ℕ) (u : Shard) → ShardOk c w.epoch w.placed at.width w.series (get w.names) at.ident j u → ShardOk c w.epoch (suc w.placed) at.width w.series (get w.names) ident j u
    older j u ok = record { counted = ok.counted; numbered = numbered_more (SampleOk c w.epoch w.placed at.width w.series (get w.names) at.ident j) (SampleOk c w.epoch (suc w.placed) at.width w.series (get w.names) ident j) (length u.core.resolved) (pending_in_shard u) (λ k y _ y_ok. sample j k y y_ok) ok.numbered }

    new : SampleOk c w.epoch (suc w.placed) at.width w.series (get w.names) ident i (length s.put) x
    new = record { epoch_is = refl; shard_is = refl; seq_is = refl; ident_is = cond-true (w.placed == w.placed) (id_at w.epoch i (length s.put)) (at.ident w.placed) ((Decides-eqb w.placed w.placed).1 refl); below = omega arith; unnamed = at.fresh w.placed (omega arith); kept = kept; member = at.series_in r l is_known; home_is = home_l }

    pushed : ShardOk c w.epoch (suc w.placed) at.width w.series (get w.names) ident i (shard_put x s)
    pushed = let ok = older i s (at.shards_ok i s at_i) in record {
      counted = (let a : length (s.put ++ x ∷ []) ≡ length s.put + 1 = length-append s.put (x ∷ []) in let b : length (pending_in_shard (shard_put x s)) ≡ length (pending_in_shard s) + 1 = ap length (pending_put x s) ∙ length-append (pending_in_shard s) (x ∷ []) in let d : length s.put ≡ length s.core.resolved + length (pending_in_shard s) = ok.counted in omega arith);
      numbered = subst (Numbered (SampleOk c w.epoch (suc w.placed) at.width w.series (get w.names) ident i) (length s.core.resolved)) (sym (pending_put x s)) (numbered_push (SampleOk c w.epoch (suc w.placed) at.width w.series (get w.names) ident i) (length s.core.resolved) (length s.put) (pending_in_shard s) x ok.counted ok.numbered new);
    }

    before : (m : Labels) → List Placed
    before m = of m (waits (slice_get w.shards (home at.width w.series m)))

    -- the point of the entry is the sample's
    same_point : (m : Labels) → point_of c m seen (Sample r t word) ≡ as_points (of m (x ∷ []))
    same_point m = ap (λ k. cond (is_of m k && rises c.choice seen m t) ((length seen, t, word) ∷ []) []) is_known ∙ by_test (labels_eq m l) refl
      where
        long : length seen ≡ w.placed
        long = length-take-le w.placed (log w) at.placed_in

        by_test : (b : Bool) → labels_eq m l ≡ b → cond (b && rises c.choice seen m t) ((length seen, t, word) ∷ []) [] ≡ as_points (cond b (x ∷ []) [])
        by_test true same = cond-true (rises c.choice seen m t) ((length seen, t, word) ∷ []) [] (ap (λ (n : Labels). rises c.choice seen n t) (same_is m l same) ∙ up) ∙ ap (λ (n : ℕ). (n, t, word) ∷ []) long
        by_test false differs = refl

    by_home : (m : Labels) → IsKept c m → (home at.width w.series m ≡ i) ⊎ (home at.width w.series m ≡ i → ⊥) → points c m seen ++ point_of c m seen (Sample r t word) ≡ at.done m ++ as_points (of m (waits (slice_get (change i (shard_put x) w.shards) (home at.width w.series m))))
    by_home m k (inl h) =
        let here : slice_get (change i (shard_put x) w.shards) (home at.width w.series m) ≡ Some (shard_put x s) = ap (slice_get (change i (shard_put x) w.shards)) h ∙ get_changed i (shard_put x) w.shards s at_i in
        let was : slice_get w.shards (home at.width w.series m) ≡ Some s = ap (slice_get w.shards) h ∙ at_i in
        let mine : points c m seen ≡ at.done m ++ as_points (of m (pending_in_shard s)) = at.mine m k ∙ ap (λ o. at.done m ++ as_points (of m (waits o))) was in
        let joined : as_points (of m (pending_in_shard s)) ++ as_points (of m (x ∷ [])) ≡ as_points (of m (pending_in_shard (shard_put x s))) = sym (map-append _ (of m (pending_in_shard s)) (of m (x ∷ []))) ∙ ap as_points (sym (of_append m (pending_in_shard s) (x ∷ []))) ∙ ap (λ ps. as_points (of m ps)) (sym (pending_put x s)) in
        (λ j. mine j ++ same_point m j) ∙ append_assoc (at.done m) (as_points (of m (pending_in_shard s))) (as_points (of m (x ∷ []))) ∙ ap (λ ps. at.done m ++ ps) joined ∙ ap (λ o. at.done m ++ as_points (of m (waits o))) (sym here)
    by_home m k (inr h) =
        let differs : labels_eq m l ≡ false = by_bool _ (labels_eq m l) (λ z. absurd (h (ap (home at.width w.series) (same_is m l z) ∙ home_l))) (λ z. z) in
        let none : point_of c m seen (Sample r t word) ≡ [] = same_point m ∙ ap as_points (cond-false (labels_eq m l) (x ∷ []) [] differs) in
        ap (λ ps. points c m seen ++ ps) none ∙ append-nil (points c m seen) ∙ at.mine m k ∙ ap (λ o. at.done m ++ as_points (of m (waits o))) (sym (get_others i (home at.width w.series m) (shard_put x) w.shards (λ z. h (sym z))))

    fate : (q : Request) → ((Past w.epoch w.shards q.id × (is_let_in c q.batch ≡ true → AllByRecursion (InStore (list_of w.head.store)) q.batch)) ⊎ ((q.id.epoch ≡ w.epoch) × IsOpen (slice_get w.shards q.id.shard) q.batch)) → ((Past w.epoch (change i (shard_put x) w.shards) q.id × (is_let_in c q.batch ≡ true → AllByRecursion (InStore (list_of w.head.store)) q.batch)) ⊎ ((q.id.epoch ≡ w.epoch) × IsOpen (slice_get (change i (shard_put x) w.shards) q.id.shard) q.batch))
    fate q (inl h) = inl (past q.id h.0, h.1)
    fate q (inr h) = inr (h.0, at_change (λ o. IsOpen o q.batch) i q.id.shard (shard_put x) w.shards (λ _ _ _ z. z) h.1)

    answer : (a : Reply) → AnswerOk c w.epoch w.shards at.got a → AnswerOk c w.epoch (change i (shard_put x) w.shards) at.got a
    answer a (inl h) = inl (past a.id h)
    answer a (inr h) = inr (h.0, at_change (AnswersOpen c (at.got a.id.shard) a) i a.id.shard (shard_put x) w.shards (λ _ _ _ z. z) h.1)

pub place_keeps : (c : Setup) (w : World) → Inv c w → Inv c (place c w)
place_keeps c w at = either (Inv c) (is_some w.draining) w (place_entry c w (slice_get (log w) w.placed)) (λ _. at) (λ _. by_entry (slice_get (log w) w.placed) refl)
  where
    by_shard : (r : ℕ) (t : ℤ) (word : ℕ) (l : Labels) (o : Option Shard) → slice_get (log w) w.placed ≡ Some (Sample r t word) → known c.choice (take w.placed (log w)) r ≡ Kept l → rises c.choice (take w.placed (log w)) l t ≡ true → slice_get w.shards (shard_of_labels w l) ≡ o → Inv c (put_if_room c w (shard_of_labels w l) l t word o)
    by_shard r t word l None e is_known up at_i = at
    by_shard r t word l (Some s) e is_known up at_i = either (Inv c) (has_room c.capacity s) _ w (λ _. put_keeps c w r t word l (shard_of_labels w l) s e is_known up refl at_i at) (λ _. at)

    named : (r : ℕ) (t : ℤ) (word : ℕ) (reason : Reason) → slice_get (log w) w.placed ≡ Some (Sample r t word) → ((l : Labels) → point_of c l (take w.placed (log w)) (Sample r t word) ≡ []) → Inv c (record w { names = insert w.names w.placed reason; placed = suc w.placed })
    named r t word reason e none = moves_keeps c w (Sample r t word) w.series (insert w.names w.placed reason) w.filtered (sample_moves c w r t word (get (insert w.names w.placed reason)) e none (named_below w reason) (named_above c w at reason) at) at

    by_rising : (r : ℕ) (t : ℤ) (word : ℕ) (l : Labels) → slice_get (log w) w.placed ≡ Some (Sample r t word) → known c.choice (take w.placed (log w)) r ≡ Kept l → (b : Bool) → rises c.choice (take w.placed (log w)) l t ≡ b → Inv c (place_kept c w l t word b)
    by_rising r t word l e is_known true up = by_shard r t word l (slice_get w.shards (shard_of_labels w l)) e is_known up refl
    by_rising r t word l e is_known false falls = named r t word NotRising e (λ m. no_point_fallen c m l (take w.placed (log w)) r t word is_known falls)

    by_known : (r : ℕ) (t : ℤ) (word : ℕ) (k : Standing) → slice_get (log w) w.placed ≡ Some (Sample r t word) → known c.choice (take w.placed (log w)) r ≡ k → Inv c (place_sample c w t word k)
    by_known r t word Unknown e is_known = named r t word NoSeries e (λ l. no_point_at c l (take w.placed (log w)) r t word (λ h. let z : Unknown ≡ Kept l = sym is_known ∙ h in let never : Unknown ≡ Kept l → ⊥ = λ h. cc in never z))
    by_known r t word (Bad f) e is_known = named r t word (BadLabels (label_fault_number f)) e (λ l. no_point_at c l (take w.placed (log w)) r t word (λ h. let z : Bad f ≡ Kept l = sym is_known ∙ h in let never : Bad f ≡ Kept l → ⊥ = λ h. cc in never z))
    by_known r t word Filtered e is_known = moves_keeps c w (Sample r t word) w.series w.names (suc w.filtered) (sample_moves c w r t word (get w.names) e (λ l. no_point_at c l (take w.placed (log w)) r t word (λ h. let z : Filtered ≡ Kept l = sym is_known ∙ h in let never : Filtered ≡ Kept l → ⊥ = λ h. cc in never z)) (λ p _. refl) (λ p le. at.fresh p (omega arith)) at) at
    by_known r t word (Kept l) e is_known = by_rising r t word l e is_known (rises c.choice (take w.placed (log w)) l t) refl

    by_entry : (o : Option Entry) → slice_get (log w) w.placed ≡ o → Inv c (place_entry c w o)
    by_entry None e = at
    by_entry (Some (Def q m)) e = moves_keeps c w (Def q m) (with_series w.series (standing_of c.choice (Some m))) w.names w.filtered (def_moves c w q m e at) at
    by_entry (Some (Sample r t word)) e = by_known r t word (known c.choice (take w.placed (log w)) r) e refl
