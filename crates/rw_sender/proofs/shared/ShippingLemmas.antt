-- What a shipper keeps, with one entry more.
use Rattle.std.proofs.Common.{◌≡◌, inl, inr, ℕ, ℤ, zero, suc, ◌+◌, ◌<◌, ◌≤◌, List, [], ◌∷◌, ◌++◌, length, map, drop, Some, None, refl, sym, ap, ◌∙◌, subst, append_assoc, append-nil, Option, IfSome}
use Rattle.std.specs.Prelude.{◌%◌, Bool, true, false, set, slice_get, Option, Result, Ok, Err, OnOk, IfSome, is_err, is_some, IsSome}
use Rattle.std.proofs.lemmas.List.{length-set, map-append}
use Rattle.std.proofs.lemmas.Option.{same_Some}
use Rattle.rw_worker.specs.Transcript.{Exchange}
use Rattle.rw_sender.specs.declared.report.Report.{Report}
use Rattle.rw_types.specs.Beginnings.{Begins}
use Rattle.rw_types.specs.declared.entry.Entry.{Entry}
use Rattle.rw_types.specs.declared.entry.Entry.TheVariants as entry
use Rattle.rw_types.specs.declared.place.Place.{Place}
use Rattle.rw_relabel.specs.declared.choice.Choice.{Choice}
use Rattle.rw_plain_queue.specs.Items.{places_in}
use Rattle.rw_plain_queue.specs.declared.item.Kind.{Kind}
use Rattle.rw_plain_queue.specs.declared.item.Kind.TheVariants.{Reshard}
use Rattle.rw_fleet.specs.ShardHistories.{ShardHistory, put_into, AreFresh, AreSame, IsPut, marked, marks_of}
use Rattle.rw_fleet.specs.Work.{AreEndedBy, lane_of, put_by, finished_of, AreResolved, HasCut}
use Rattle.rw_fleet.specs.declared.running_shard.Fault.{Fault}
use Rattle.rw_fleet.specs.Fleets.{Shards, AreAll, EndBy, HasClosed}
use Rattle.rw_fleet.specs.declared.joined.Finished.{Finished}
use Rattle.rw_fleet.specs.declared.joined.StoppedShard.{StoppedShard}
use Rattle.rw_fleet.specs.declared.joined.Resolution.{Resolution}
use Rattle.rw_fleet.specs.declared.joined.Resolution.TheVariants.{All, NotAll}
use Rattle.rw_fleet.proofs.shared.LaneLemmas.{same_length}
use Rattle.rw_series_cache.specs.declared.sample.RoutedSample.{RoutedSample}
use Rattle.rw_sender.specs.Feeders.{Sorting, HasPlaced, HasReadAll, sent_by}
use Rattle.rw_series_cache.specs.Fates.{Fate, Drops, Filters, Sends, fate}
use Rattle.rw_sender.specs.Logs.{Sent, kept_sample, sent_by_fate, sent_of, sent}
use Rattle.rw_sender.specs.Placement.{shard_of, IsShardCount, IsPlacing, ArePlaced, AreKept}
use Rattle.rw_types.specs.Labels.{Labels}
use Rattle.rw_external_labels.specs.External.{labelled}
use Rattle.rw_wal_format.specs.Pieces.{Piece, begun_log, entries, fault, reading}
use Rattle.rw_wal_format.specs.Segments.{segment_in}
use Rattle.rw_wal_format.specs.declared.tail_fault.TailFault.{TailFault}
use Rattle.rw_shard_core.specs.declared.outcome.Outcome.{Outcome}
use Rattle.rw_shard_core.specs.declared.outcome.Outcome.TheVariants as outcome
use Rattle.rw_sender.specs.Reports.{abandoned_in, IsAbandoned, ListsCut}
use Rattle.rw_sender.specs.inner.Reports.{end_of, IsAbandonedAt}
use Rattle.rw_sender.specs.Shipping.{Shipping, PlacesAll, HasCompared, HasEndedAs, HasStopped}
use Rattle.rw_sender.specs.inner.Shipping.{IsReady, IsReckoned, IsRead, IsSince, IsTimed, GoesOn}
use Rattle.rw_sender.specs.Rooms.{Counting, AreUncounted}
use Rattle.rw_sender.specs.inner.Cutting.{AreCounted}
use Rattle.rw_sender.proofs.shared.PlacementLemmas.{placing_put, placing_closed, placing_whole, placing_opened, placing_begun, placing_same, kept_self, kept_on, kept_put}
use Rattle.rw_sender.proofs.CutLemmas.{kept_same, counted_fresh, counted_marked}
use Rattle.rw_sender.proofs.BelowLemmas.{placing_below}
use Rattle.rw_sender.proofs.TimeLemmas.{since_fresh, since_same}
use Rattle.rw_types.proofs.shared.GatherLemmas.{gather-push}

-- the samples with those of the entry that was placed
placed_samples : (old new : Sorting) (e : Entry) (samples : List Sent) → HasPlaced old new → old.hand ≡ e ∷ [] → sent_of old.choice old.placed e ≡ samples → sent new.choice new.placed ≡ sent old.choice old.placed ++ samples
placed_samples old new e samples placed hand is =
    ap (λ (s : Sorting). sent s.choice s.placed) placed
    ∙ ap (λ h. sent old.choice (old.placed ++ h)) hand
    ∙ gather-push (sent_of old.choice) old.placed e
    ∙ ap (λ l. sent old.choice old.placed ++ l) is

module _ {T : Type 0} where
  -- an entry was placed that is not sent
  pub places_none : (old new : Sorting) (fleet : Shards T) (e : Entry) → HasPlaced old new → old.hand ≡ e ∷ [] → sent_of old.choice old.placed e ≡ [] → PlacesAll old fleet → PlacesAll new fleet
  places_none old new fleet e placed hand is h =
      subst (λ s. IsPlacing fleet.epoch (map lane_of fleet.ended) fleet.current s) (sym (placed_samples old new e [] placed hand is ∙ append-nil (sent old.choice old.placed))) h

  -- a sample was put
  pub places_sent : (old held new : Sorting) (was now : Shards T) (e : Entry) (l : RoutedSample) (k m : ℕ) → held ≡ old → HasPlaced held new → old.hand ≡ e ∷ [] → sent_of old.choice old.placed e ≡ sent_by l ∷ [] → now ≡ record was { current = now.current }
      → IsPut k l was.current now.current → k ≡ l.series % m → m ≡ length was.current → PlacesAll old was → PlacesAll new now
  places_sent old held new was now e l k m same placed hand is rest put here len h =
      let after : HasPlaced old new = placed ∙ ap (λ (s : Sorting). record s { placed = s.placed ++ s.hand; hand = [] }) same in
      let at : k ≡ shard_of (length was.current) l.series = here ∙ ap (λ n. l.series % n) len in
      let next = placing_put was.epoch k (map lane_of was.ended) was.current now.current (sent old.choice old.placed) l (sent_by l) h put refl at in
      subst (λ (f : Shards T). PlacesAll new f) (sym rest) (subst (λ s. IsPlacing was.epoch (map lane_of was.ended) now.current s) (sym (placed_samples old new e (sent_by l ∷ []) after hand is)) next)

  -- the entries placed so far stay
  pub goes_same : (limit : Option ℕ) (old new : Sorting) (was : Shards T) → new ≡ old → GoesOn limit old new was was
  goes_same limit old new was same = record {
    choice = ap (λ (s : Sorting). s.choice) same;
    labels = ap (λ (s : Sorting). s.labels) same;
    pieces = ap (λ (s : Sorting). s.pieces) same;
    more = [];
    grown = ap (λ (s : Sorting). s.placed) same ∙ sym (append-nil old.placed);
    fleet = refl;
    len = refl;
    kept = kept_self was.current;
    marks = λ none. refl;
  }

  pub goes_placed : (limit : Option ℕ) (old held new : Sorting) (was now : Shards T) → held ≡ old → HasPlaced held new → now ≡ record was { current = now.current } → length now.current ≡ length was.current → AreKept was.current now.current
      → (limit ≡ None → map marks_of now.current ≡ map marks_of was.current) → GoesOn limit old new was now
  goes_placed limit old held new was now same placed rest len kept marks =
      let after : HasPlaced old new = placed ∙ ap (λ (s : Sorting). record s { placed = s.placed ++ s.hand; hand = [] }) same in record {
        choice = ap (λ (s : Sorting). s.choice) after;
        labels = ap (λ (s : Sorting). s.labels) after;
        pieces = ap (λ (s : Sorting). s.pieces) after;
        more = old.hand;
        grown = ap (λ (s : Sorting). s.placed) after;
        fleet = rest;
        len = len;
        kept = kept;
        marks = marks;
      }

  pub goes_on : (limit : Option ℕ) (a b c : Sorting) (x y z : Shards T) → GoesOn limit a b x y → GoesOn limit b c y z → GoesOn limit a c x z
  goes_on limit a b c x y z h g = record {
    choice = g.choice ∙ h.choice;
    labels = g.labels ∙ h.labels;
    pieces = g.pieces ∙ h.pieces;
    more = h.more ++ g.more;
    grown = g.grown ∙ ap (λ l. l ++ g.more) h.grown ∙ append_assoc a.placed h.more g.more;
    fleet = g.fleet ∙ ap (λ (s : Shards T). record s { current = z.current }) h.fleet;
    len = g.len ∙ h.len;
    kept = kept_on x.current y.current z.current h.kept g.kept;
    marks = λ none. g.marks none ∙ h.marks none;
  }

  pub goes_next : (limit same : Option ℕ) (a b c : Sorting) (x y z : Shards T) → same ≡ limit → GoesOn limit a b x y → GoesOn same b c y z → GoesOn limit a c x z
  goes_next limit same a b c x y z is h g = goes_on limit a b c x y z h (subst (λ m. GoesOn m b c y z) is g)

  -- an entry in hand changes nothing of the rest
  pub goes_read : (limit : Option ℕ) (old new : Sorting) (e : Entry) (was : Shards T) → new ≡ record old { hand = e ∷ [] } → GoesOn limit old new was was
  goes_read limit old new e was is = record {
    choice = ap (λ (s : Sorting). s.choice) is;
    labels = ap (λ (s : Sorting). s.labels) is;
    pieces = ap (λ (s : Sorting). s.pieces) is;
    more = [];
    grown = ap (λ (s : Sorting). s.placed) is ∙ sym (append-nil old.placed);
    fleet = refl;
    len = refl;
    kept = kept_self was.current;
    marks = λ none. refl;
  }

marks_set : (qs : List ShardHistory) (k : ℕ) (was now : ShardHistory) → slice_get qs k ≡ Some was → marks_of now ≡ marks_of was → map marks_of (set qs k now) ≡ map marks_of qs
marks_set [] k was now at same = refl
marks_set (q ∷ qs) zero was now at same = ap (λ ms. ms ∷ map marks_of qs) (same ∙ ap marks_of (sym (same_Some q was at)))
marks_set (q ∷ qs) (suc k) was now at same = ap (λ ms. marks_of q ∷ ms) (marks_set qs k was now at same)

put_length : (k : ℕ) (l : RoutedSample) (old new : List ShardHistory) → IsPut k l old new → length new ≡ length old
put_length k l old new put = ap length put.is ∙ length-set old k put.now

module _ {T : Type 0} where
  pub put_len : (k : ℕ) (l : RoutedSample) (was now : Shards T) → IsPut k l was.current now.current → length now.current ≡ length was.current
  put_len k l was now put = put_length k l was.current now.current put

  -- a sample more leaves those before it
  pub put_kept : (k : ℕ) (l : RoutedSample) (was now : Shards T) → IsPut k l was.current now.current → AreKept was.current now.current
  put_kept k l was now put = kept_put k l was.current now.current put

  -- a sample more leaves the marks
  pub put_marks : (k : ℕ) (l : RoutedSample) (was now : Shards T) → IsPut k l was.current now.current → map marks_of now.current ≡ map marks_of was.current
  put_marks k l was now put = ap (map marks_of) put.is ∙ marks_set was.current k put.was put.now put.at put.marks

module _ {T : Type 0} where
  -- a sample was put after a mark, if that was asked for
  pub goes_cut : (limit : Option ℕ) (k : ℕ) (l : RoutedSample) (old held new : Sorting) (was mid now : Shards T) → held ≡ old → HasPlaced held new → mid ≡ record was { current = mid.current } → now ≡ record mid { current = now.current } → AreSame was.current mid.current
      → (limit ≡ None → mid ≡ was) → IsPut k l mid.current now.current → GoesOn limit old new was now
  goes_cut limit k l old held new was mid now same placed rest next samples none put =
      goes_placed limit old held new was now same placed (next ∙ ap (λ (f : Shards T). record f { current = now.current }) rest) (put_len k l mid now put ∙ same_length was.current mid.current samples)
      (kept_on was.current mid.current now.current (kept_same was.current mid.current samples) (put_kept k l mid now put)) (λ no. put_marks k l mid now put ∙ ap (λ (f : Shards T). map marks_of f.current) (none no))

  -- nothing was placed and no sample was put, but a mark may have been
  pub goes_marked : (limit : Option ℕ) (old new : Sorting) (was now : Shards T) → new ≡ old → now ≡ record was { current = now.current } → AreSame was.current now.current → (limit ≡ None → now ≡ was) → GoesOn limit old new was now
  goes_marked limit old new was now same rest samples none = record {
    choice = ap (λ (s : Sorting). s.choice) same;
    labels = ap (λ (s : Sorting). s.labels) same;
    pieces = ap (λ (s : Sorting). s.pieces) same;
    more = [];
    grown = ap (λ (s : Sorting). s.placed) same ∙ sym (append-nil old.placed);
    fleet = rest;
    len = same_length was.current now.current samples;
    kept = kept_same was.current now.current samples;
    marks = λ no. ap (λ (f : Shards T). map marks_of f.current) (none no);
  }

sent_fate_pos : (choice : Choice) (before : List Entry) (t : ℤ) (word : ℕ) (f : Fate) (x : Sent) → sent_by_fate choice before t word f ≡ x ∷ [] → length before ≡ x.pos
sent_fate_pos choice before t word (Sends l) x is = ap (λ (y : Sent). y.pos) (first (kept_sample choice before t word l) x is)
  where
    first : (a b : Sent) → a ∷ [] ≡ b ∷ [] → a ≡ b
    first a b e = cc
sent_fate_pos choice before t word (Drops reason) x is = absurd (cc)
sent_fate_pos choice before t word Filters x is = absurd (cc)

sent_pos : (choice : Choice) (before : List Entry) (e : Entry) (x : Sent) → sent_of choice before e ≡ x ∷ [] → length before ≡ x.pos
sent_pos choice before (entry.Def reference labels) x is = absurd (cc)
sent_pos choice before (entry.Sample reference t word) x is = sent_fate_pos choice before t word (fate choice before reference t) x is

module _ {T : Type 0} where
  -- a sample is after all that were put before it
  pub stands_behind : (old : Sorting) (was : Shards T) (e : Entry) (l : RoutedSample) (j : ℕ) → PlacesAll old was → sent_of old.choice old.placed e ≡ sent_by l ∷ []
      → (lane : ShardHistory) (k : ℕ) (o : Place) → slice_get was.current j ≡ Some lane → slice_get (places_in lane.put) k ≡ Some o → o.pos < l.pos
  stands_behind old was e l j h is lane k o at there =
      subst (λ n. o.pos < n) (sent_pos old.choice old.placed e (sent_by l) is) (placing_below was.epoch (length old.placed) j (map lane_of was.ended) was.current old.choice old.placed lane h refl at k o there)

module _ {T : Type 0} where
  -- the shards after the first ones have ended so
  pub ends_behind : (kind : Kind) (xs ys : List (StoppedShard T)) → AreEndedBy kind (drop (length xs) (map put_by (map finished_of (xs ++ ys)))) → AreEndedBy kind (map put_into (map lane_of ys))
  ends_behind kind [] [] h = tt
  ends_behind kind [] (y ∷ ys) h = (h.0, ends_behind kind [] ys h.1)
  ends_behind kind (x ∷ xs) ys h = ends_behind kind xs ys h

  pub ends_last : (kind : Kind) (was : Shards T) (all : List (StoppedShard T)) → (ended : AreAll was all) → EndBy kind was (map finished_of all) → AreEndedBy kind (map put_into (map lane_of ended.0))
  ends_last kind was all ended by = ends_behind kind was.ended ended.0 (subst (λ (js : List (StoppedShard T)). EndBy kind was (map finished_of js)) ended.1 by)

  pub all_is : (was : Shards T) (all : List (StoppedShard T)) → (ended : AreAll was all) → map lane_of all ≡ map lane_of was.ended ++ map lane_of ended.0
  all_is was all ended = ap (map lane_of) ended.1 ∙ map-append lane_of was.ended ended.0

  -- all shards at work have ended
  pub places_whole : (log : Sorting) (was : Shards T) (all : List (StoppedShard T)) → PlacesAll log was → AreAll was all → ArePlaced (map lane_of all) (sent log.choice log.placed)
  places_whole log was all h ended = placing_whole was.epoch (map lane_of was.ended) was.current (map lane_of ended.0) (map lane_of all) (sent log.choice log.placed) h ended.2 (all_is was all ended)

  pub places_shut : (log : Sorting) (was closed : Shards T) → PlacesAll log was → IsShardCount (length was.current) → HasClosed was closed → PlacesAll log closed
  places_shut log was closed h number shut =
      subst (λ ls. IsPlacing closed.epoch (map lane_of closed.ended) ls (sent log.choice log.placed)) (sym shut.2)
      (placing_closed was.epoch closed.epoch (map lane_of was.ended) was.current (map lane_of shut.3.0) (map lane_of closed.ended) (sent log.choice log.placed) h shut.3.2 (all_is was closed.ended shut.3) number (ends_last Reshard was closed.ended shut.3 shut.4) shut.1)

  -- and the next ones are opened
  pub places_opened : (log : Sorting) (closed opened : Shards T) → PlacesAll log closed → closed.current ≡ [] → opened ≡ record closed { current = opened.current } → AreFresh opened.epoch opened.current → PlacesAll log opened
  places_opened log closed opened h none is fresh =
      let epoch : opened.epoch ≡ closed.epoch = ap (λ (s : Shards T). s.epoch) is in
      let before = subst (λ ls. IsPlacing closed.epoch (map lane_of closed.ended) ls (sent log.choice log.placed)) none h in
      let new = subst (λ e. AreFresh e opened.current) epoch fresh in
      subst (λ (f : Shards T). PlacesAll log f) (sym is) (placing_opened closed.epoch (map lane_of closed.ended) opened.current (sent log.choice log.placed) before new)

  -- nothing was placed yet
  pub places_begun : (log : Sorting) (closed opened : Shards T) → log.placed ≡ [] → closed.epoch ≡ 0 → closed.ended ≡ [] → closed.current ≡ [] → opened ≡ record closed { current = opened.current } → AreFresh opened.epoch opened.current → PlacesAll log opened
  places_begun log closed opened placed epoch ended none is fresh =
      let begun : IsPlacing 0 (map lane_of closed.ended) closed.current [] = placing_begun (map lane_of closed.ended) closed.current (ap (map lane_of) ended) none in
      let at : IsPlacing closed.epoch (map lane_of closed.ended) closed.current [] = subst (λ e. IsPlacing e (map lane_of closed.ended) closed.current []) (sym epoch) begun in
      places_opened log closed opened (subst (λ es. IsPlacing closed.epoch (map lane_of closed.ended) closed.current (sent log.choice es)) (sym placed) at) none is fresh

  -- marks leave the samples
  pub places_same : (log : Sorting) (was now : Shards T) → PlacesAll log was → now ≡ record was { current = now.current } → AreSame was.current now.current → PlacesAll log now
  places_same log was now h is same =
      subst (λ (f : Shards T). PlacesAll log f) (sym is) (placing_same was.epoch (map lane_of was.ended) was.current now.current (sent log.choice log.placed) h same)

  -- a shipper that had not failed has not failed with the next shards
  pub ready_next : (log : Sorting) (was now : Shards T) (f : Option Fault) (n : ℕ) → IsReady log was f → length now.current ≡ n → IsShardCount n → IsReady log now f
  ready_next log was now None n h len number = (h.0, subst IsShardCount (sym len) number)
  ready_next log was now (Some f) n h len number = tt

  -- what is counted if the next epoch begins, and after a mark in each queue
  pub reckoned_fresh : (cuts : Counting) (now : Shards T) (f : Option Fault) (n : ℕ) → AreUncounted cuts.limit cuts.rooms → length now.current ≡ n → n ≤ 1000 → AreFresh now.epoch now.current → IsReckoned cuts now f
  reckoned_fresh cuts now None n full len few fresh = counted_fresh cuts.limit cuts.rooms now.epoch n now.current full len few fresh
  reckoned_fresh cuts now (Some f) n full len few fresh = tt

  pub reckoned_marked : (old new : Counting) (was now : Shards T) (f : Option Fault) → IsReckoned old was f → new.limit ≡ old.limit → AreUncounted new.limit new.rooms → now.current ≡ map marked was.current → IsReckoned new now f
  reckoned_marked old new was now None h same full is = counted_marked new.limit old.rooms new.rooms was.current now.current (subst (λ m. AreCounted m old.rooms was.current) (sym same) h) full is
  reckoned_marked old new was now (Some f) h same full is = tt

  -- how many shards a shipper that has not failed has
  pub number_of : (log : Sorting) (was : Shards T) (f : Option Fault) → IsReady log was f → f ≡ None → IsShardCount (length was.current)
  number_of log was f ready none = (subst (IsReady log was) none ready).1

  pub ready_same : (log : Sorting) (was now : Shards T) (f : Option Fault) → IsReady log was f → AreSame was.current now.current → IsReady log now f
  ready_same log was now None h same = (h.0, subst IsShardCount (sym (same_length was.current now.current same)) h.1)
  ready_same log was now (Some f) h same = tt

module _ {T : Type 0} (tells : T → Type 0) (seen : T → List Exchange) (is_for : ℕ → ℕ → T → Type 0) where
  pub stopped_seen : (inside s : Shipping T) (r : Report T) → inside ≡ s → HasStopped tells seen is_for inside r → HasStopped tells seen is_for s r
  stopped_seen inside s r is h = subst (λ x. HasStopped tells seen is_for x r) is h

module _ {T : Type 0} where
  -- the earliest time of what was put, with the next shards, and after marks
  pub timed_fresh : (earliest : ℤ) (now : Shards T) (f : Option Fault) → AreFresh now.epoch now.current → IsTimed earliest now f
  timed_fresh earliest now None fresh = since_fresh earliest now.epoch now.current fresh
  timed_fresh earliest now (Some f) fresh = tt

  pub timed_same : (earliest : ℤ) (was now : Shards T) (f : Option Fault) → IsTimed earliest was f → AreSame was.current now.current → IsTimed earliest now f
  timed_same earliest was now None h same = since_same earliest was.current now.current same h
  timed_same earliest was now (Some f) h same = tt

  pub since_of : (earliest : ℤ) (was : Shards T) (f : Option Fault) → IsTimed earliest was f → f ≡ None → IsSince earliest was.current
  since_of earliest was f h none = subst (IsTimed earliest was) none h

-- what was handed over is as it was put
pub rest_as : {T : Type 0} (old now new : Shards T) → new ≡ now → now ≡ record old { current = now.current } → new ≡ record old { current = new.current }
rest_as {T} old now new e h = subst (λ (f : Shards T). f ≡ record old { current = f.current }) (sym e) h

module _ {T : Type 0} where
  pub kept_still : (s t : Shipping T) → s ≡ t → AreKept t.fleet.current s.fleet.current
  kept_still s t is = subst (λ (x : Shipping T). AreKept x.fleet.current s.fleet.current) is (kept_self s.fleet.current)

pub on_ok : {A E : Type 0} (r : Result A E) (P : Type 0) → is_err r ≡ false → OnOk r P → P
on_ok (Ok x) P e h = h
on_ok (Err x) P e h = absurd (cc)

-- nothing was fed yet
read_marked : (marked : Bool) → ◌≡◌ {A = List Entry} (entries (begun_log marked)) [] × (fault (begun_log marked) ≡ None)
unfolding reading segment_in
read_marked true = (refl, refl)
read_marked false = (refl, refl)

pub read_begun : (log : Sorting) (choice : Choice) (labels : Labels) (marked : Bool) (ps : List Piece) → ps ≡ begun_log marked → log ≡ record { choice = choice; labels = labels; pieces = ps; placed = []; hand = [] } → HasReadAll log None
read_begun log choice labels marked ps begun is =
    let none = read_marked marked in
    subst (λ (l : Sorting). HasReadAll l None) (sym is) (record {
      all = sym (ap (λ (qs : List Piece). labelled labels (entries qs)) begun ∙ ap (labelled labels) none.0);
      fault_is = ap fault begun ∙ none.1;
    })

pub read_of : (log : Sorting) (f : Option Fault) (damage : Option TailFault) → IsRead log f damage → f ≡ None → HasReadAll log damage
read_of log f damage h is = subst (λ (x : Option Fault). IsRead log x damage) is h

-- the entries placed so far stay, with a piece more
pub grown_fed : {T : Type 0} (limit : Option ℕ) (old fed new : Sorting) (was now : Shards T) (ps : List Piece) → fed ≡ record old { pieces = ps } → GoesOn limit fed new was now → (more : List Entry) × (new.placed ≡ old.placed ++ more)
grown_fed limit old fed new was now ps is h = (h.more, h.grown ∙ ap (λ (s : Sorting). s.placed ++ h.more) is)

pub grown_same : (old new : Sorting) → new ≡ old → (more : List Entry) × (new.placed ≡ old.placed ++ more)
grown_same old new is = ([], ap (λ (s : Sorting). s.placed) is ∙ sym (append-nil old.placed))

module _ {T : Type 0} where
  pub compared_shut : (was shut : Shards T) → HasClosed was shut → HasCompared was shut
  compared_shut was shut h = (h.3, h.4, inl h.2)

  pub compared_open : (was shut now : Shards T) → HasClosed was shut → now ≡ record shut { current = now.current } → AreResolved shut.ended → AreFresh now.epoch now.current → HasCompared was now
  compared_open was shut now h is resolved fresh =
      let ended : now.ended ≡ shut.ended = ap (λ (s : Shards T). s.ended) is in
      (subst (λ js. AreAll was js) (sym ended) h.3, subst (λ (js : List (StoppedShard T)). EndBy Reshard was (map finished_of js)) (sym ended) h.4, inr (subst (λ (js : List (StoppedShard T)). AreResolved js) (sym ended) resolved, fresh))

  abandons : (s : Shipping T) (js : List (StoppedShard T)) (placed : ℕ) (samples : List ℕ) (o : Outcome) → IsAbandonedAt placed samples o → placed ≡ length s.log.placed → samples ≡ abandoned_in js → HasEndedAs s js o
  abandons s js placed samples (outcome.Complete end) h a b = absurd h
  abandons s js placed samples (outcome.Abandoned p l) h a b = (h.0 ∙ a, h.1 ∙ b)
  abandons s js placed samples (outcome.Damaged f) h a b = absurd h

  ends_whole : (s : Shipping T) (js : List (StoppedShard T)) (placed : ℕ) (damage : Option TailFault) → placed ≡ length s.log.placed → HasReadAll s.log damage → AreResolved js → HasEndedAs s js (end_of placed damage)
  ends_whole s js placed None a read resolved = (a, read, resolved)
  ends_whole s js placed (Some f) a read resolved = (read, resolved)

  pub ends_so : (s : Shipping T) (js : List (StoppedShard T)) (is_hard : Bool) (resolution : Resolution) (placed : ℕ) (damage : Option TailFault) (samples : List ℕ) (o : Outcome) → placed ≡ length s.log.placed → samples ≡ abandoned_in js
      → (resolution ≡ All → AreResolved js) → (is_hard ≡ false → HasReadAll s.log damage)
      → (is_hard ≡ true → IsAbandonedAt placed samples o) → (resolution ≡ NotAll → IsAbandonedAt placed samples o) → (is_hard ≡ false → resolution ≡ All → o ≡ end_of placed damage) → HasEndedAs s js o
  ends_so s js true resolution placed damage samples o a b resolved read hard apart whole = abandons s js placed samples o (hard refl) a b
  ends_so s js false NotAll placed damage samples o a b resolved read hard apart whole = abandons s js placed samples o (apart refl) a b
  ends_so s js false All placed damage samples o a b resolved read hard apart whole =
      subst (HasEndedAs s js) (sym (whole refl refl)) (ends_whole s js placed damage a (read refl) (resolved refl))

pub is_abandoned : (placed : ℕ) (samples : List ℕ) (o : Outcome) → IsAbandonedAt placed samples o → IsAbandoned o
is_abandoned placed samples (outcome.Complete end) h = h
is_abandoned placed samples (outcome.Abandoned p l) h = tt
is_abandoned placed samples (outcome.Damaged f) h = h

pub if_some : {A : Type 0} (o : Option A) (P : Type 0) → (is_some o ≡ true → P) → IfSome o (λ _. P)
if_some None P h = tt
if_some (Some x) P h = h refl

ends_apart : (placed : ℕ) (damage : Option TailFault) → IsAbandoned (end_of placed damage) → ⊥
ends_apart placed None h = h
ends_apart placed (Some f) h = h

module _ {T : Type 0} where
  at_finished : (js : List (StoppedShard T)) (k : ℕ) (j : StoppedShard T) → slice_get js k ≡ Some j → slice_get (map finished_of js) k ≡ Some j.finished
  at_finished [] k j at = absurd (let at' : None ≡ Some j = at in cc)
  at_finished (x ∷ xs) zero j at = ap (λ (y : StoppedShard T). Some y.finished) (same_Some x j at)
  at_finished (x ∷ xs) (suc k) j at = at_finished xs k j at

  -- the work that was to end with all, and was abandoned, has a queue that was cut
  pub lists_cut : (js : List (StoppedShard T)) (fs : List (Finished T)) (resolution : Resolution) (placed : ℕ) (damage : Option TailFault) (o : Outcome) → fs ≡ map finished_of js → (resolution ≡ NotAll → HasCut js) → (resolution ≡ All → o ≡ end_of placed damage)
      → IsAbandoned o → ListsCut fs
  lists_cut js fs All placed damage o is cut whole left = absurd (ends_apart placed damage (subst IsAbandoned (whole refl) left))
  lists_cut js fs NotAll placed damage o is cut whole left =
      let c = cut refl in
      subst ListsCut (sym is) (c.0, c.1.finished, at_finished js c.0 c.1 c.2, c.3)

-- what is in hand was not placed
pub begins_less : {A : Type 0} (placed hand all : List A) → Begins (placed ++ hand) all → Begins placed all
begins_less placed hand all h = (hand ++ h.0, h.1 ∙ append_assoc placed hand h.0)

pub failed_so : (fault : Option Fault) (o : Outcome) → IfSome fault (λ f. IsAbandoned o) → IsSome fault → IsAbandoned o
failed_so None o failed some = absurd (cc)
failed_so (Some f) o failed some = failed
