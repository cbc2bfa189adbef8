-- The entries of an epoch are placed, and its workers work.
use Rattle.std.proofs.Common.{◌≡◌, ℕ, zero, suc, ◌+◌, ◌<◌, ◌≤◌, ◌==◌, Bool, true, false, cond, List, [], ◌∷◌, ◌++◌, map, length, take, Some, None, slice_get, refl, sym, ap, ◌∙◌, subst, append-nil, append_assoc, length-append, arith, ◌⊎◌, inl, inr}
use Rattle.std.proofs.lemmas.Option.{slice_get_within}
use Rattle.std.proofs.Math.Nat.{mod-lt}
use Rattle.std.proofs.Math.Seq.{take-append_seam}
use Rattle.std.specs.List.{AllByRecursion}
use Rattle.rw_types.proofs.shared.AllLemmas.{AllByRecursion-append}
use Rattle.std.proofs.lemmas.Bool.{lt-ltb, ne_eqb, eq-eqb}
use Rattle.std.proofs.lemmas.List.{map-append}
use Rattle.rw_types.specs.declared.entry.Entry.{Entry}
use Rattle.rw_types.specs.declared.entry.Entry.TheVariants.{Def, Sample}
use Rattle.rw_wal_format.specs.Pieces.{Piece, entries}
use Rattle.rw_relabel.specs.declared.choice.Choice.{Choice}
use Rattle.rw_plain_queue.specs.Items.{Placed, samples_in}
use Rattle.rw_plain_queue.specs.declared.item.Item.{Item}
use Rattle.rw_plain_queue.specs.declared.item.Item.TheVariants as item
use Rattle.rw_shard_core.specs.Shard.{placed}
use Rattle.rw_worker.specs.Transcript.{Exchange}
use Rattle.rw_worker.specs.Steps.{working, after, exchanges_of}
use Rattle.rw_series_cache.specs.Fates.{Fate, Drops, Filters, Sends, fate}
use Rattle.rw_sender.specs.Logs.{Sent, kept_sample, sent_by_fate, sent_of, filtered, filtered_of}
use Rattle.rw_types.proofs.shared.GatherLemmas.{gather-push}
use Rattle.rw_types.specs.Gathering.{gather_from}
use Rattle.rw_sender.specs.Placement.{as_sent, shard_of, of_shard}
use Rattle.rw_machine.specs.Shards.{Shard, has_room, shard_put}
use Rattle.rw_machine.specs.Worlds.{Setup, Request, World, log}
use Rattle.rw_machine.specs.Steps.{change, flush_shard, happens, unless_over}
use Rattle.rw_machine.specs.declared.event.Event.TheVariants as event
use Rattle.rw_machine.proofs.shared.Places.{length_change, get_some}
use Rattle.rw_simulation.specs.Freely.{Of, IsOwn, run_freely}
use Rattle.rw_simulation.specs.WorkerRuns.{IsIdOf, sent_bytes, request_in}
use Rattle.rw_simulation.specs.Tallies.{Past, IsTallied, requests_of}
use Rattle.rw_simulation.proofs.Entries.{IsBefore, HasRoomFor, placed_as, put_each, after_entry}
use Rattle.rw_simulation.specs.EpochRuns.{YetToCome, AreNext, IsReady, ShardFate, end_in, AreUnsent, IsOnTheWay, IsOnTheWayWith, IsUnderWay, Reaches}
use Rattle.rw_simulation.proofs.Changes.{change-is, change-get, change-twice, run-append, not-over}
use Rattle.rw_simulation.proofs.WorkerSteps.{moved}
use Rattle.rw_simulation.proofs.EntryRuns.{entry-run}
use Rattle.rw_simulation.proofs.Tallies.{Names, own-requests, other-requests, with_part, part-own, part-other, tallied-shard, tallied-entry}
use Rattle.rw_simulation.proofs.Eager.{GoesThrough, with_item, put-one, has-room}

pub stay : {quiet : Type 0} (c : Setup) (w : World) (P : World → Type 0) → P w → Reaches quiet c w P
stay c w P h = record { events = []; world = w; is = refl; holds = h; own = λ _. tt }

pub go-on : {quiet : Type 0} (c : Setup) (w : World) (P Q : World → Type 0) → Reaches quiet c w P → ((v : World) → P v → Reaches quiet c v Q) → Reaches quiet c w Q
go-on c w P Q r f = let q = f r.world r.holds in record {
  events = r.events ++ q.events;
  world = q.world;
  is = run-append c r.events q.events w ∙ ap (run_freely c q.events) r.is ∙ q.is;
  holds = q.holds;
  own = λ h. AllByRecursion-append IsOwn r.events q.events (r.own h) (q.own h);
}

-- whether or not it is quiet
pub aloud : {quiet : Type 0} (c : Setup) (w : World) (P : World → Type 0) → Reaches quiet c w P → Reaches ⊥ c w P
aloud c w P r = record { events = r.events; world = r.world; is = r.is; holds = r.holds; own = λ no. absurd no }

-- if nothing is sent on the way, nothing is sent by the steps that are to come
second_none : (xs ys : List (List ℕ)) → xs ++ ys ≡ [] → ys ≡ []
second_none [] ys e = e
second_none (x ∷ xs) ys e = let no : ⊥ = cc in absurd no

none_of_none : (es : List Exchange) → map request_in es ≡ [] → es ≡ []
none_of_none [] e = refl
none_of_none (x ∷ xs) e = let no : ⊥ = cc in absurd no

pub none-to-send : (c : Setup) (epoch k : ℕ) (requests : List Request) (s : Shard) (todo : List Sent) (f : ShardFate) → (way : IsOnTheWay c epoch k requests s todo f) → f.requests ≡ [] → exchanges_of way.coming.steps ≡ []
none-to-send c epoch k requests s todo f way none = none_of_none (exchanges_of way.coming.steps) (second_none (map sent_bytes (requests_of epoch k requests)) (map request_in (exchanges_of way.coming.steps)) (way.requests_are ∙ none))

-- a shard is changed, and what held of the others holds of them
pub each-update : (Q : ℕ → Shard → Type 0) (t : Shard) (k : ℕ) (ss : List Shard) → ((j : ℕ) (s : Shard) → slice_get ss j ≡ Some s → (j ≡ k → ⊥) → Q j s) → Q k t → (j : ℕ) (s : Shard) → slice_get (change k (λ _. t) ss) j ≡ Some s → Q j s
each-update Q t k [] others own j s e = let no : None ≡ Some s → ⊥ = λ h. cc in absurd (no e)
each-update Q t zero (x ∷ xs) others own zero s e = let same : t ≡ s = cc in subst (Q zero) same own
each-update Q t zero (x ∷ xs) others own (suc j) s e = others (suc j) s e (λ h. cc)
each-update Q t (suc k) (x ∷ xs) others own zero s e = others zero s e (λ h. cc)
each-update Q t (suc k) (x ∷ xs) others own (suc j) s e = each-update (λ j. Q (suc j)) t k xs (λ j s at differ. others (suc j) s at (λ h. differ (omega arith))) own j s e

get_seam : (xs : List Entry) (e : Entry) (ys : List Entry) → slice_get (xs ++ e ∷ ys) (length xs) ≡ Some e
get_seam [] e ys = refl
get_seam (x ∷ xs) e ys = get_seam xs e ys

same_placed : (y : Placed) (x : Sent) (epoch k n : ℕ) → as_sent y ≡ x → y.place.epoch ≡ epoch → y.place.shard ≡ k → y.place.seq ≡ n
    → y ≡ record { place = record { epoch = epoch; shard = k; seq = n; pos = x.pos; series = x.series }; t = x.t; word = x.word; labels = x.labels }
same_placed y x epoch k n h e s q = λ i. record { place = record { epoch = e i; shard = s i; seq = q i; pos = (h i).pos; series = (h i).series }; t = (h i).t; word = (h i).word; labels = (h i).labels }

-- an entry gives one sample at most
pub one_at_most : (choice : Choice) (before : List Entry) (e : Entry) → (sent_of choice before e ≡ []) ⊎ ((x : Sent) × (sent_of choice before e ≡ x ∷ []))
one_at_most choice before (Def r l) = inl refl
one_at_most choice before (Sample r t word) = by_fate (fate choice before r t)
  where
    by_fate : (f : Fate) → (sent_by_fate choice before t word f ≡ []) ⊎ ((x : Sent) × (sent_by_fate choice before t word f ≡ x ∷ []))
    by_fate (Drops reason) = inl refl
    by_fate Filters = inl refl
    by_fate (Sends l) = inr (kept_sample choice before t word l, refl)

-- a Flush is put
pub flush-run : (c : Setup) (w : World) (k : ℕ) (s : Shard) → w.killed ≡ false → w.closed ≡ None → w.draining ≡ None → slice_get w.shards k ≡ Some s → s.end_put ≡ false → length s.queue < c.capacity
    → happens c w (event.Flush k) ≡ record w { shards = change k (λ _. with_item s item.Flush) w.shards }
flush-run c w k s alive unclosed steady e unended lt =
    ap (unless_over c w (event.Flush k)) (not-over w k s e (alive, inl unclosed))
    ∙ ap (λ ss. record w { shards = ss }) (change-is (flush_shard c w) k w.shards s e ∙ ap (λ t. change k (λ _. t) w.shards) is_marked)
  where
    room : has_room c.capacity s ≡ true
    room = lt-ltb (length s.queue) c.capacity lt

    is_marked : flush_shard c w s ≡ with_item s item.Flush
    is_marked = rw (unended, room, unclosed, steady) refl

-- an item more was put, and the shard is on its way
unfoldable pub way-after : (c : Setup) (w : World) (epoch k : ℕ) (s : Shard) (x : Item) (puts : List Item) (d : YetToCome) (todo : List Sent) (f : ShardFate) → (g : GoesThrough c w k (with_item s x) d puts) → AreNext epoch k (length s.put) puts → map as_sent (samples_in puts) ≡ todo
    → s.put ++ samples_in puts ≡ f.put → end_in puts ≡ f.end → after (working s.core d.ledger) d.steps ≡ f.worker → d.left ≡ f.left
    → s.core.epoch ≡ epoch → map sent_bytes (requests_of epoch k w.requests) ++ map request_in (exchanges_of d.steps) ≡ f.requests → IsOnTheWay c epoch k (w.requests ++ g.more) g.shard todo f
way-after c w epoch k s x puts d todo f g next sent put end worker left epoch_is requests_are = record {
  coming = g.coming;
  ready = g.ready;
  next = subst (λ (ps : List Placed). AreNext epoch k (length ps) g.coming.puts) (sym g.put_is) (subst (AreNext epoch k (length s.put)) (sym g.puts_are) next);
  sent = ap (λ (ps : List Item). map as_sent (samples_in ps)) g.puts_are ∙ sent;
  put = ap (λ (ps : List Placed). ps ++ samples_in g.coming.puts) g.put_is ∙ ap (λ (ps : List Item). s.put ++ samples_in ps) g.puts_are ∙ put;
  end = ap end_in g.puts_are ∙ end;
  worker = g.worker_is ∙ worker;
  left = g.left_is ∙ left;
  epoch_is = g.epoch_is ∙ epoch_is;
  requests_are = ap (λ (rs : List Request). map sent_bytes rs ++ map request_in (exchanges_of g.coming.steps)) (own-requests epoch k w.requests g.more (subst (λ (e : ℕ). AllByRecursion (IsIdOf e k) g.more) epoch_is g.ids))
      ∙ ap (λ (bs : List (List ℕ)). bs ++ map request_in (exchanges_of g.coming.steps)) (map-append sent_bytes (requests_of epoch k w.requests) g.more)
      ∙ append_assoc (map sent_bytes (requests_of epoch k w.requests)) (map sent_bytes g.more) (map request_in (exchanges_of g.coming.steps))
      ∙ ap (λ (bs : List (List ℕ)). map sent_bytes (requests_of epoch k w.requests) ++ bs) g.sent_is
      ∙ requests_are;
}

-- another shard sent more
abbrev pub way_still : (c : Setup) (epoch j k : ℕ) (requests more : List Request) (s : Shard) (todo : List Sent) (f : ShardFate) → (j ≡ k → ⊥) → AllByRecursion (IsIdOf epoch k) more → IsOnTheWay c epoch j requests s todo f → IsOnTheWay c epoch j (requests ++ more) s todo f
way_still c epoch j k requests more s todo f differ ids way = record {
  coming = way.coming;
  ready = way.ready;
  next = way.next;
  sent = way.sent;
  put = way.put;
  end = way.end;
  worker = way.worker;
  left = way.left;
  epoch_is = way.epoch_is;
  requests_are = ap (λ (rs : List Request). map sent_bytes rs ++ map request_in (exchanges_of way.coming.steps)) (other-requests epoch j k requests more differ ids) ∙ way.requests_are;
}

-- a shard has moved on, and the others are as they were
pub moved-shards : (c : Setup) (epoch k : ℕ) (requests more : List Request) (now : Names) (parts : ℕ → Names) (t : Shard) (ss : List Shard) (todo : ℕ → List Sent) (fates : ℕ → ShardFate) → AllByRecursion (IsIdOf epoch k) more
    → ((j : ℕ) (s : Shard) → slice_get ss j ≡ Some s → (j ≡ k → ⊥) → IsOnTheWayWith c epoch j requests (parts j) s (todo j) (fates j)) → (way : IsOnTheWay c epoch k (requests ++ more) t (todo k) (fates k)) → way.coming.ledger.names ≡ now
    → (j : ℕ) (s : Shard) → slice_get (change k (λ _. t) ss) j ≡ Some s → IsOnTheWayWith c epoch j (requests ++ more) (with_part k now parts j) s (todo j) (fates j)
moved-shards c epoch k requests more now parts t ss todo fates ids others way part = each-update (λ j s. IsOnTheWayWith c epoch j (requests ++ more) (with_part k now parts j) s (todo j) (fates j)) t k ss
    (λ j s e differ. with_others j s differ (others j s e differ))
    (record { way = way; part_is = part ∙ sym (part-own k now parts) })
  where
    with_others : (j : ℕ) (s : Shard) → (j ≡ k → ⊥) → IsOnTheWayWith c epoch j requests (parts j) s (todo j) (fates j) → IsOnTheWayWith c epoch j (requests ++ more) (with_part k now parts j) s (todo j) (fates j)
    with_others j s differ h = record { way = way_still c epoch j k requests more s (todo j) (fates j) differ ids h.way; part_is = h.part_is ∙ sym (part-other k now parts j differ) }

abbrev IsSample : Item → Type 0
IsSample (item.Sample place t word labels) = Unit {0}
IsSample item.Flush = ⊥
IsSample (item.End kind) = ⊥

none_left : (x : Sent) (xs : List Sent) → [] ≡ x ∷ xs → ⊥
none_left x xs e = cc

head_is : (x y : Sent) (xs ys : List Sent) → x ∷ xs ≡ y ∷ ys → x ≡ y
head_is x y xs ys e = cc

tail_is : (x y : Sent) (xs ys : List Sent) → x ∷ xs ≡ y ∷ ys → xs ≡ ys
tail_is x y xs ys e = cc

keep_if : (b : Bool) (x : Sent) (xs : List Sent) → b ≡ true → cond b (x ∷ xs) xs ≡ x ∷ xs
keep_if b x xs e = rw e refl

drop_if : (b : Bool) (x : Sent) (xs : List Sent) → b ≡ false → cond b (x ∷ xs) xs ≡ xs
drop_if b x xs e = rw e refl

module _ (c : Setup) (past : Past) (pieces : List Piece) (epoch n : ℕ) (fates : ℕ → ShardFate) (some : 1 ≤ c.capacity) where
  abbrev Quiet : Type 0
  Quiet = AreUnsent fates

  abbrev Todo : List Entry → List Entry → ℕ → List Sent
  Todo before es k = of_shard n k (gather_from (sent_of c.choice) before es)

  -- the next item of the shard is a sample
  record StandsAt (before es : List Entry) (k : ℕ) (v : World) : Type 0 where
    under : IsUnderWay c past pieces epoch n fates before es v
    s : Shard
    at : slice_get v.shards k ≡ Some s
    way : IsOnTheWay c epoch k v.requests s (Todo before es k) (fates k)
    part_is : way.coming.ledger.names ≡ under.parts k
    x : Item
    puts : List Item
    starts : way.coming.puts ≡ x ∷ puts
    sample : IsSample x

  -- the shard's marks are put, up to its next sample
  advance : (before es : List Entry) (k : ℕ) (ps : List Item) (w : World) (s : Shard) (first : Sent) (more : List Sent) → Todo before es k ≡ first ∷ more → (under : IsUnderWay c past pieces epoch n fates before es w) → slice_get w.shards k ≡ Some s
      → (way : IsOnTheWay c epoch k w.requests s (Todo before es k) (fates k)) → way.coming.ledger.names ≡ under.parts k → way.coming.puts ≡ ps → Reaches Quiet c w (StandsAt before es k)
  unfolding way-after
  advance before es k [] w s first more todo under at way part is = absurd (none_left first more (sym (ap (λ (xs : List Item). map as_sent (samples_in xs)) is) ∙ way.sent ∙ todo))
  advance before es k (item.Sample place t word labels ∷ ps) w s first more todo under at way part is = stay c w (StandsAt before es k) (record { under = under; s = s; at = at; way = way; part_is = part; x = item.Sample place t word labels; puts = ps; starts = is; sample = tt })
  advance before es k (item.End kind ∷ ps) w s first more todo under at way part is =
      let last : ps ≡ [] = subst (AreNext epoch k (length s.put)) is way.next in
      absurd (none_left first more (sym (ap (λ (xs : List Item). map as_sent (samples_in xs)) is ∙ ap (λ (xs : List Item). map as_sent (samples_in xs)) last) ∙ way.sent ∙ todo))
  advance before es k (item.Flush ∷ ps) w s first more todo under at way part is = go-on c w (λ v. v ≡ later) (StandsAt before es k) flushed (λ v same. subst (λ (u : World). Reaches Quiet c u (StandsAt before es k)) (sym same) (advance before es k ps later g.shard first more todo under_later (change-get g.shard k w.shards s at) way_later (sym (part-own k g.coming.ledger.names under.parts)) g.puts_are))
    where
      marked : World
      marked = record w { shards = change k (λ _. with_item s item.Flush) w.shards }

      g : GoesThrough c marked k (with_item s item.Flush) way.coming ps
      g = put-one c marked k s item.Flush ps way.coming is refl way.ready under.going.0 under.going.1 (change-get (with_item s item.Flush) k w.shards s at)

      later : World
      later = moved w k g.shard g.names (w.requests ++ g.more) g.replies

      runs : run_freely c (Of (event.Flush k) ∷ g.events) w ≡ later
      runs =
          ap (run_freely c g.events) (flush-run c w k s under.going.0 under.going.1 under.going.2 at way.ready.unended (has-room c k s item.Flush ps way.coming some is way.ready))
          ∙ g.is
          ∙ ap (λ ss. record later { shards = ss }) (change-twice (with_item s item.Flush) g.shard k w.shards)

      flushed : Reaches Quiet c w (λ v. v ≡ later)
      flushed = record { events = Of (event.Flush k) ∷ g.events; world = later; is = runs; holds = refl; own = λ quiet. (tt, g.own (none-to-send c epoch k w.requests s (Todo before es k) (fates k) way (quiet k))) }

      ids : AllByRecursion (IsIdOf epoch k) g.more
      ids = subst (λ (e : ℕ). AllByRecursion (IsIdOf e k) g.more) way.epoch_is g.ids

      way_later : IsOnTheWay c epoch k later.requests g.shard (Todo before es k) (fates k)
      way_later = way-after c marked epoch k s item.Flush ps way.coming (Todo before es k) (fates k) g
          (subst (AreNext epoch k (length s.put)) is way.next)
          (sym (ap (λ (xs : List Item). map as_sent (samples_in xs)) is) ∙ way.sent)
          (sym (ap (λ (xs : List Item). s.put ++ samples_in xs) is) ∙ way.put)
          (sym (ap end_in is) ∙ way.end)
          way.worker way.left way.epoch_is way.requests_are

      under_later : IsUnderWay c past pieces epoch n fates before es later
      under_later = record {
        going = under.going;
        pieces_are = under.pieces_are;
        epoch_is = under.epoch_is;
        count = length_change k (λ _. g.shard) w.shards ∙ under.count;
        placed = under.placed;
        rest = under.rest;
        begins = under.begins;
        series = under.series;
        counted = under.counted;
        parts = with_part k g.coming.ledger.names under.parts;
        tallied = tallied-shard c past epoch n before under.parts w later (Of (event.Flush k) ∷ g.events) k way.coming.ledger.names g.coming.ledger.names g.more under.tallied runs (subst (λ (m : ℕ). k < m) under.count (slice_get_within w.shards k s at)) part refl ids g.grow;
        shards = moved-shards c epoch k w.requests g.more g.coming.ledger.names under.parts g.shard w.shards (λ j. Todo before es j) fates ids (λ j t e _. under.shards j t e) way_later refl;
      }

  -- the entry is next in the log
  before-it : (before es : List Entry) (e : Entry) (v : World) → IsUnderWay c past pieces epoch n fates before (e ∷ es) v → IsBefore c v before e
  before-it before es e v under = record {
    going = under.going;
    placed = under.placed;
    begins = ap (λ (m : ℕ). take m (log v)) under.placed ∙ ap (take (length before)) same_log ∙ take-append_seam before (e ∷ (es ++ under.rest));
    next = ap (slice_get (log v)) under.placed ∙ ap (λ (xs : List Entry). slice_get xs (length before)) same_log ∙ get_seam before e (es ++ under.rest);
    series = under.series;
  }
    where
      same_log : log v ≡ before ++ (e ∷ (es ++ under.rest))
      same_log = ap entries under.pieces_are ∙ under.begins

  one_more : (before : List Entry) (e : Entry) (m : ℕ) → m ≡ length before → suc m ≡ length (before ++ e ∷ [])
  one_more before e m h = let l = length-append before (e ∷ []) in omega arith

  counted_more : (before : List Entry) (e : Entry) (m : ℕ) → m ≡ length (filtered c.choice before) → m + length (filtered_of c.choice before e) ≡ length (filtered c.choice (before ++ e ∷ []))
  counted_more before e m h =
      ap (λ (k : ℕ). k + length (filtered_of c.choice before e)) h
      ∙ sym (ap length (gather-push (filtered_of c.choice) before e) ∙ length-append (filtered c.choice before) (filtered_of c.choice before e))

  abbrev More : List Entry → Entry → List Entry → World → Type 0
  More before e es = IsUnderWay c past pieces epoch n fates (before ++ e ∷ []) es

  -- an entry that gives no sample
  place-none : (before es : List Entry) (e : Entry) (v : World) → sent_of c.choice before e ≡ [] → IsUnderWay c past pieces epoch n fates before (e ∷ es) v → Reaches Quiet c v (More before e es)
  place-none before es e v none under = record {
    events = Of event.Place ∷ [];
    world = later;
    is = runs;
    own = λ _. (tt, tt);
    holds = record {
      going = under.going;
      pieces_are = under.pieces_are;
      epoch_is = under.epoch_is;
      count = under.count;
      placed = one_more before e v.placed under.placed;
      rest = under.rest;
      begins = under.begins ∙ sym (append_assoc before (e ∷ []) (es ++ under.rest));
      series = refl;
      counted = counted_more before e v.filtered under.counted;
      parts = under.parts;
      tallied = tallied-entry c past epoch n before e under.parts v later (Of event.Place ∷ []) under.tallied runs refl refl;
      shards = λ k s at. subst (λ (xs : List Sent). IsOnTheWayWith c epoch k v.requests (under.parts k) s (of_shard n k (xs ++ gather_from (sent_of c.choice) (before ++ e ∷ []) es)) (fates k)) none (under.shards k s at);
    };
  }
    where
      later : World
      later = record (after_entry c v before e) { shards = v.shards }

      runs : run_freely c (Of event.Place ∷ []) v ≡ later
      runs = entry-run c v before e (before-it before es e v under) (λ x h. absurd (none_left x [] (sym none ∙ h)))
          ∙ ap (λ (xs : List Sent). record (after_entry c v before e) { shards = put_each v xs v.shards }) none

  -- an entry that gives a sample, which is next in its shard
  place-one : (before es : List Entry) (e : Entry) (x : Sent) (v : World) → sent_of c.choice before e ≡ x ∷ [] → StandsAt before (e ∷ es) (shard_of n x.series) v → Reaches Quiet c v (More before e es)
  unfolding way-after
  place-one before es e x v one st = by_item st.x st.starts st.sample
    where
      k : ℕ
      k = shard_of n x.series

      under : IsUnderWay c past pieces epoch n fates before (e ∷ es) v
      under = st.under

      rest_of : List Sent
      rest_of = gather_from (sent_of c.choice) (before ++ e ∷ []) es

      todo_is : (j : ℕ) → Todo before (e ∷ es) j ≡ of_shard n j (x ∷ rest_of)
      todo_is j = ap (λ (xs : List Sent). of_shard n j (xs ++ rest_of)) one

      own_todo : Todo before (e ∷ es) k ≡ x ∷ of_shard n k rest_of
      own_todo = todo_is k ∙ keep_if (k == k) x (of_shard n k rest_of) (eq-eqb k k refl)

      other_todo : (j : ℕ) → (j ≡ k → ⊥) → Todo before (e ∷ es) j ≡ of_shard n j rest_of
      other_todo j differ = todo_is j ∙ drop_if (k == j) x (of_shard n j rest_of) (ne_eqb k j (λ h. differ (sym h)))

      room : (d : Item) → st.way.coming.puts ≡ d ∷ st.puts → HasRoomFor c v before e
      room d starts y h = subst (λ (z : Sent). (s : Shard) × (slice_get v.shards (shard_of (length v.shards) z.series) ≡ Some s) × (has_room c.capacity s ≡ true)) (head_is x y [] [] (sym one ∙ h))
          (st.s, ap (λ (m : ℕ). slice_get v.shards (shard_of m x.series)) under.count ∙ st.at, lt-ltb (length st.s.queue) c.capacity (has-room c k st.s d st.puts st.way.coming some starts st.way.ready))

      by_item : (d : Item) → st.way.coming.puts ≡ d ∷ st.puts → IsSample d → Reaches Quiet c v (More before e es)
      by_item item.Flush starts sample = absurd sample
      by_item (item.End kind) starts sample = absurd sample
      by_item (item.Sample place t word labels) starts sample = record {
        events = Of event.Place ∷ g.events;
        own = λ quiet. (tt, g.own (none-to-send c epoch k v.requests st.s (Todo before (e ∷ es) k) (fates k) st.way (quiet k)));
        world = later;
        is = ap (run_freely c g.events) places ∙ works;
        holds = record {
          going = under.going;
          pieces_are = under.pieces_are;
          epoch_is = under.epoch_is;
          count = length_change k (λ _. g.shard) v.shards ∙ under.count;
          placed = one_more before e v.placed under.placed;
          rest = under.rest;
          begins = under.begins ∙ sym (append_assoc before (e ∷ []) (es ++ under.rest));
          series = refl;
          counted = counted_more before e v.filtered under.counted;
          parts = with_part k g.coming.ledger.names under.parts;
          tallied = tallied-shard c past epoch n (before ++ e ∷ []) under.parts placed_world later g.events k st.way.coming.ledger.names g.coming.ledger.names g.more placed_tallied works (subst (λ (m : ℕ). k < m) under.count (slice_get_within v.shards k st.s st.at)) st.part_is refl ids g.grow;
          shards = moved-shards c epoch k v.requests g.more g.coming.ledger.names under.parts g.shard v.shards (λ j. of_shard n j rest_of) fates ids
              (λ j u at differ. subst (λ (xs : List Sent). IsOnTheWayWith c epoch j v.requests (under.parts j) u xs (fates j)) (other_todo j differ) (under.shards j u at)) way_later refl;
        };
      }
        where
          y : Placed
          y = placed place t word labels.value

          it : Item
          it = item.Sample place t word labels

          -- the shard with the sample noted as put
          s : Shard
          s = record st.s { put = st.s.put ++ y ∷ [] }

          next : AreNext epoch k (length st.s.put) (it ∷ st.puts)
          next = subst (AreNext epoch k (length st.s.put)) starts st.way.next

          sent_is : as_sent y ∷ map as_sent (samples_in st.puts) ≡ x ∷ of_shard n k rest_of
          sent_is = sym (ap (λ (xs : List Item). map as_sent (samples_in xs)) starts) ∙ st.way.sent ∙ own_todo

          y_is : y ≡ placed_as v st.s x
          y_is = same_placed y x v.epoch (shard_of (length v.shards) x.series) (length st.s.put) (head_is (as_sent y) x (map as_sent (samples_in st.puts)) (of_shard n k rest_of) sent_is)
              (next.0 ∙ sym under.epoch_is) (next.1 ∙ ap (λ (m : ℕ). shard_of m x.series) (sym under.count)) next.2

          shards_are : put_each v (sent_of c.choice before e) v.shards ≡ change k (λ _. with_item s it) v.shards
          shards_are =
              ap (λ (xs : List Sent). put_each v xs v.shards) one
              ∙ ap (λ (m : ℕ). change (shard_of m x.series) (λ s. shard_put (placed_as v s x) s) v.shards) under.count
              ∙ change-is (λ s. shard_put (placed_as v s x) s) k v.shards st.s st.at
              ∙ ap (λ (z : Placed). change k (λ _. shard_put z st.s) v.shards) (sym y_is)

          placed_world : World
          placed_world = record (after_entry c v before e) { shards = change k (λ _. with_item s it) v.shards }

          r : IsReady c k st.s st.way.coming
          r = st.way.ready

          ready : IsReady c k s st.way.coming
          ready = record { numbered = r.numbered; allowed = r.allowed; split = r.split; eager = r.eager; starts = r.starts; within = r.within; unended = r.unended; running = r.running }

          g : GoesThrough c placed_world k (with_item s it) st.way.coming st.puts
          g = put-one c placed_world k s it st.puts st.way.coming starts refl ready under.going.0 under.going.1 (change-get (with_item s it) k v.shards st.s st.at)

          later : World
          later = record placed_world { shards = change k (λ _. g.shard) v.shards; names = g.names; requests = v.requests ++ g.more; replies = g.replies }

          places : run_freely c (Of event.Place ∷ []) v ≡ placed_world
          places = entry-run c v before e (before-it before es e v under) (room (item.Sample place t word labels) starts) ∙ ap (λ ss. record (after_entry c v before e) { shards = ss }) shards_are

          works : run_freely c g.events placed_world ≡ later
          works = g.is ∙ ap (λ ss. record later { shards = ss }) (change-twice (with_item s it) g.shard k v.shards)

          placed_tallied : IsTallied c past epoch n (before ++ e ∷ []) under.parts placed_world
          placed_tallied = tallied-entry c past epoch n before e under.parts v placed_world (Of event.Place ∷ []) under.tallied places refl refl

          ids : AllByRecursion (IsIdOf epoch k) g.more
          ids = subst (λ (e : ℕ). AllByRecursion (IsIdOf e k) g.more) st.way.epoch_is g.ids

          way_later : IsOnTheWay c epoch k later.requests g.shard (of_shard n k rest_of) (fates k)
          way_later = way-after c placed_world epoch k s it st.puts st.way.coming (of_shard n k rest_of) (fates k) g
              (subst (λ (m : ℕ). AreNext epoch k m st.puts) (one_put st.s.put y) next.3)
              (tail_is (as_sent y) x (map as_sent (samples_in st.puts)) (of_shard n k rest_of) sent_is)
              (append_assoc st.s.put (y ∷ []) (samples_in st.puts) ∙ sym (ap (λ (xs : List Item). st.s.put ++ samples_in xs) starts) ∙ st.way.put)
              (sym (ap end_in starts) ∙ st.way.end)
              st.way.worker st.way.left st.way.epoch_is st.way.requests_are
            where
              one_put : (xs : List Placed) (z : Placed) → suc (length xs) ≡ length (xs ++ z ∷ [])
              one_put xs z = let l = length-append xs (z ∷ []) in omega arith

  place-entry : (before es : List Entry) (e : Entry) (w : World) → 1 ≤ n → IsUnderWay c past pieces epoch n fates before (e ∷ es) w → Reaches Quiet c w (More before e es)
  place-entry before es e w shards under = by_sent (one_at_most c.choice before e)
    where
      by_sent : (sent_of c.choice before e ≡ []) ⊎ ((x : Sent) × (sent_of c.choice before e ≡ x ∷ [])) → Reaches Quiet c w (More before e es)
      by_sent (inl none) = place-none before es e w none under
      by_sent (inr (x, one)) = go-on c w (StandsAt before (e ∷ es) k) (More before e es)
          (advance before (e ∷ es) k (under.shards k found.0 found.1).way.coming.puts w found.0 x (of_shard n k (gather_from (sent_of c.choice) (before ++ e ∷ []) es)) own_todo under found.1 (under.shards k found.0 found.1).way (under.shards k found.0 found.1).part_is refl)
          (λ v st. place-one before es e x v one st)
        where
          k : ℕ
          k = shard_of n x.series

          found : (s : Shard) × (slice_get w.shards k ≡ Some s)
          found = get_some w.shards k (subst (λ (m : ℕ). k < m) (sym under.count) (mod-lt x.series shards))

          own_todo : Todo before (e ∷ es) k ≡ x ∷ of_shard n k (gather_from (sent_of c.choice) (before ++ e ∷ []) es)
          own_todo = ap (λ (xs : List Sent). of_shard n k (xs ++ gather_from (sent_of c.choice) (before ++ e ∷ []) es)) one ∙ keep_if (k == k) x (of_shard n k (gather_from (sent_of c.choice) (before ++ e ∷ []) es)) (eq-eqb k k refl)

  pub place-all : (before es : List Entry) (w : World) → 1 ≤ n → IsUnderWay c past pieces epoch n fates before es w → Reaches Quiet c w (IsUnderWay c past pieces epoch n fates (before ++ es) [])
  place-all before [] w shards under = stay c w (IsUnderWay c past pieces epoch n fates (before ++ []) []) (subst (λ (xs : List Entry). IsUnderWay c past pieces epoch n fates xs [] w) (sym (append-nil before)) under)
  place-all before (e ∷ es) w shards under = go-on c w (More before e es) (IsUnderWay c past pieces epoch n fates (before ++ e ∷ es) []) (place-entry before es e w shards under)
      (λ v next. subst (λ (xs : List Entry). Reaches Quiet c v (IsUnderWay c past pieces epoch n fates xs [])) (append_assoc before (e ∷ []) es) (place-all (before ++ e ∷ []) es v shards next))

-- all the entries are placed, each shard being put its samples and its worker making its steps
abbrev pub IsEpochRun : Setup → Past → Type 0
IsEpochRun c past =
    (pieces : List Piece) (epoch n : ℕ) (fates : ℕ → ShardFate) (before es : List Entry) (w : World) → 1 ≤ c.capacity → 1 ≤ n
    → IsUnderWay c past pieces epoch n fates before es w → Reaches (AreUnsent fates) c w (IsUnderWay c past pieces epoch n fates (before ++ es) [])

pub epoch-run : (c : Setup) (past : Past) → IsEpochRun c past
epoch-run c past pieces epoch n fates before es w some shards under = place-all c past pieces epoch n fates some before es w shards under
