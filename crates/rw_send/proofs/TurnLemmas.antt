-- What a turn does to a shipper.
use Rattle.std.proofs.Common.{◌≡◌, ◌⊎◌, inl, inr, ℕ, Bool, List, [], ◌∷◌, ◌++◌, ◌≤◌, length, map, take, None, Result, Ok, Err, IfErr, IfOk, OnOk, refl, sym, ap, ◌∙◌, subst, arith}
use Rattle.std.proofs.lemmas.List.{append-nil, length-take-le}
use Rattle.std.specs.Prelude.{IsSome, OnErr}
use Rattle.rw_wal_format.specs.Pieces.{Piece, bytes, fault, next_segment}
use Rattle.std.specs.Result.{IsErrAnd}
use Rattle.rw_fleet.specs.Fleets.{Shards}
use Rattle.rw_fleet.specs.Loads.{IsLoad}
use Rattle.rw_fleet.specs.declared.load.Load.{Load}
use Rattle.rw_fleet.specs.ShardHistories.{marked}
use Rattle.rw_fleet.specs.Work.{AreResolved}
use Rattle.rw_follow.specs.Meals.{Meal}
use Rattle.rw_follow.specs.Turns.{given_by}
use Rattle.rw_follow.specs.declared.follower.Turn.{Turn}
use Rattle.rw_follow.specs.declared.follower.Turn.TheVariants as turn
use Rattle.rw_sender.specs.Feeders.{Sorting, setup_of}
use Rattle.rw_sender.specs.Shipping.{FailsBy, Feeds, HasCompared, Joins, PlacesAll, Shipping}
use Rattle.rw_sender.specs.declared.shipper.FeedFault.{FeedFault}
use Rattle.rw_send.specs.FeedErrors.{feed_error_of}
use Rattle.rw_send.specs.Segments.{IsShortLog, AreSoundButLast, meal_of}
use Rattle.rw_send.specs.Steps.{HasBroken, HasPutAll, IsLap, IsSet, StaysOpen}
use Rattle.rw_send.specs.declared.feed_error.FeedError.{FeedError}
use Rattle.rw_send.specs.declared.feed_error.FeedError.TheVariants as error
use Rattle.rw_send.specs.declared.sharding.Sharding.{Sharding}
use Rattle.rw_send.specs.inner.EpochSizes.{KeepsEpochSizes}
use Rattle.rw_send.specs.inner.FeedErrors.{IsIntact}
use Rattle.rw_send.specs.inner.Turns.{Goes, HaltsAt, Keeps, Reshards}
use Rattle.rw_send.proofs.EpochLemmas.{compared_resolved, last_compared, last_same, last_stays, next_resolved, still_resolved}
use Rattle.rw_send.proofs.EpochSizeLemmas.{sizes_begun, sizes_on, sizes_set, sizes_stay}
use Rattle.rw_send.proofs.FeedErrorLemmas.{count_so, fails_so, feed_halts, flush_halts, halts, live_no_more}
use Rattle.rw_send.proofs.IntactLemmas.{sound_fed}
use Rattle.rw_send.proofs.MealLemmas.{fed_next, fed_piece, joins_or_not, part_next, part_piece}
use Rattle.rw_send.proofs.ShortLemmas.{short_fed}
use Rattle.rw_send.proofs.StepLemmas.{stays}

-- the first bytes of a short buffer are a short piece
pub short_piece : (n : ℕ) (buf items : List ℕ) → items ≡ take n buf → n ≤ length buf → length buf ≤ 65536 → length items ≤ 65536
short_piece n buf items is within small =
    let e = ap (λ (b : List ℕ). length b) is in
    let l = length-take-le n buf within in
    omega (arith, e, l, within, small)

-- the shards stay, and as many pieces as were fed are short and sound
pub record IsSame {T : Type 0} (sharding : Sharding) (old new : Shipping T) : Type 0 where
  pub setup : setup_of new.log ≡ setup_of old.log
  pub fleet : new.fleet ≡ record old.fleet { current = new.fleet.current }
  pub len : length new.fleet.current ≡ length old.fleet.current
  pub shards : length old.fleet.current ≡ sharding.shards
  pub limit : new.fault ≡ None → new.limit ≡ old.limit
  pub short : (c : Bool) → IsShortLog c old.log.pieces → IsShortLog c new.log.pieces
  pub but_last : AreSoundButLast old.log.pieces → AreSoundButLast new.log.pieces

-- the number of shards is set at the end of a segment, and then that is fed
pub record IsTurning {T : Type 0} (sharding next : Sharding) (old mid new : Shipping T) (r : Result (Unit {0}) FeedFault) : Type 0 where
  pub put : HasPutAll old
  pub set : IsSet sharding.fewest sharding.most old mid
  pub shards : next.shards ≡ length mid.fleet.current
  pub range : (next.fewest ≡ sharding.fewest) × (next.most ≡ sharding.most)
  pub config : mid.fleet.config ≡ old.fleet.config
  pub stays : StaysOpen mid new
  pub joins : Joins mid.log new.log next_segment r
  pub intact : IsIntact old

pub range_on : (sharding next : Sharding) (r : Result Sharding FeedError) → (next.fewest ≡ sharding.fewest) × (next.most ≡ sharding.most)
    → IfOk r (λ s. (s.fewest ≡ next.fewest) × (s.most ≡ next.most)) → IfOk r (λ s. (s.fewest ≡ sharding.fewest) × (s.most ≡ sharding.most))
range_on sharding next (Ok s) e h = (h.0 ∙ e.0, h.1 ∙ e.1)
range_on sharding next (Err h) e g = tt

module _ {T : Type 0} where
  still_ended : (sharding : Sharding) (old new : Shipping T) → IsSame sharding old new → AreResolved old.fleet.ended → AreResolved new.fleet.ended
  still_ended sharding old new m done = subst AreResolved (sym (ap (λ (f : Shards T). f.ended) m.fleet)) done

  keeps_err : (sharding : Sharding) (old new : Shipping T) (h : FeedError) → IsSame sharding old new → Keeps sharding old new (Err h)
  keeps_err sharding old new h m = record {
    kept = (m.setup, ap (λ (f : Shards T). f.config) m.fleet);
    limit = m.limit;
    shards = tt;
    range = tt;
    number = λ _. count_so (m.len ∙ m.shards) sharding.some sharding.few;
    sizes = λ _. sizes_stay sharding.fewest sharding.most old.fleet new.fleet m.fleet m.len;
    live = tt;
    intact = tt;
    short = m.short;
    but_last = m.but_last;
    last = λ done. last_same new (still_ended sharding old new m done) (count_so (m.len ∙ m.shards) sharding.some sharding.few);
    resolved = λ _. tt;
  }

  keeps_ok : (sharding : Sharding) (old new : Shipping T) → IsSame sharding old new → new.fault ≡ None → IsIntact new → Keeps sharding old new (Ok sharding)
  keeps_ok sharding old new m live intact = record {
    kept = (m.setup, ap (λ (f : Shards T). f.config) m.fleet);
    limit = m.limit;
    shards = m.len ∙ m.shards;
    range = (refl, refl);
    number = λ _. count_so (m.len ∙ m.shards) sharding.some sharding.few;
    sizes = λ _. sizes_stay sharding.fewest sharding.most old.fleet new.fleet m.fleet m.len;
    live = live;
    intact = intact;
    short = m.short;
    but_last = m.but_last;
    last = λ done. last_same new (still_ended sharding old new m done) (count_so (m.len ∙ m.shards) sharding.some sharding.few);
    resolved = λ done. still_ended sharding old new m done;
  }

  -- ---- some bytes

  pub same_fed : (sharding : Sharding) (old new : Shipping T) (p : Piece) (r : Result (Unit {0}) FeedFault) → StaysOpen old new → length old.fleet.current ≡ sharding.shards
      → ((c : Bool) → IsShortLog c old.log.pieces → IsShortLog c new.log.pieces) → Joins old.log new.log p r → IsIntact old → IsSame sharding old new
  same_fed sharding old new p r st shards short joins intact = record {
    setup = st.setup;
    fleet = st.fleet;
    len = st.shards;
    shards = shards;
    limit = λ _. st.limit;
    short = short;
    but_last = λ _. sound_fed old.log new.log p r joins intact;
  }

  same_stays : (sharding : Sharding) (s : Shipping T) → length s.fleet.current ≡ sharding.shards → IsSame sharding s s
  same_stays sharding s shards = record { setup = refl; fleet = refl; len = refl; shards = shards; limit = λ _. refl; short = λ c h. h; but_last = λ h. h }

  -- there is no memory for them
  pub piece_refused : (n : ℕ) (buf : List ℕ) (sharding : Sharding) (s : Shipping T) → length s.fleet.current ≡ sharding.shards → Goes (turn.Piece n) buf sharding s s (Err error.Failed)
  piece_refused n buf sharding s shards = record {
    keeps = keeps_err sharding s s error.Failed (same_stays sharding s shards);
    done = tt;
    start = tt;
    fed = tt;
    part = inl refl;
    halts = inr (tt, refl);
    halted = stays s;
  }

  pub piece_fails : (n : ℕ) (buf items : List ℕ) (sharding : Sharding) (old new : Shipping T) (e : FeedFault) → items ≡ take n buf → StaysOpen old new → IsSame sharding old new
      → Joins old.log new.log (bytes items) (Err e) → Feeds new (Err e) → Goes (turn.Piece n) buf sharding old new (Err (feed_error_of e))
  piece_fails n buf items sharding old new e is st m joins feeds = record {
    keeps = keeps_err sharding old new (feed_error_of e) m;
    done = tt;
    start = tt;
    fed = tt;
    part = part_piece old.log.pieces new.log.pieces (take n buf) (subst (λ (b : List ℕ). (new.log.pieces ≡ old.log.pieces) ⊎ (new.log.pieces ≡ old.log.pieces ++ bytes b ∷ [])) is (joins_or_not old.log new.log (bytes items) e joins));
    halts = feed_halts (turn.Piece n) old new e feeds;
    halted = st;
  }

  pub piece_goes : (n : ℕ) (buf items : List ℕ) (sharding : Sharding) (old new : Shipping T) → items ≡ take n buf → StaysOpen old new → IsSame sharding old new
      → new.log.pieces ≡ old.log.pieces ++ bytes items ∷ [] → new.fault ≡ None → IsIntact new → Goes (turn.Piece n) buf sharding old new (Ok sharding)
  piece_goes n buf items sharding old new is st m joins live intact = record {
    keeps = keeps_ok sharding old new m live intact;
    done = st;
    start = (refl, refl);
    fed = fed_piece old.log.pieces new.log.pieces (take n buf) (subst (λ (b : List ℕ). new.log.pieces ≡ old.log.pieces ++ bytes b ∷ []) is joins);
    part = tt;
    halts = tt;
    halted = tt;
  }

  -- ---- the end of a segment

  pub keeps_unset : (sharding : Sharding) (old new : Shipping T) → PlacesAll old.log old.fleet → new.log ≡ old.log → new.limit ≡ old.limit → (new.fleet ≡ old.fleet) ⊎ HasCompared old.fleet new.fleet
      → new.fleet.config ≡ old.fleet.config → IsSome new.fault → length old.fleet.current ≡ sharding.shards → Keeps sharding old new (Err error.Failed)
  keeps_unset sharding old new placed log limit compared config failed shards = record {
    kept = (ap (λ (l : Sorting). (l.choice, l.labels)) log, config);
    limit = λ _. limit;
    shards = tt;
    range = tt;
    number = λ none. live_no_more new.fault failed none;
    sizes = λ none. live_no_more new.fault failed none;
    live = tt;
    intact = tt;
    short = λ c h. subst (λ (l : Sorting). IsShortLog c l.pieces) (sym log) h;
    but_last = λ h. subst (λ (l : Sorting). AreSoundButLast l.pieces) (sym log) h;
    last = λ done. last_compared old new done (count_so shards sharding.some sharding.few) placed log compared;
    resolved = λ _. tt;
  }

  -- the number of shards cannot be set
  pub over_unset : (buf : List ℕ) (sharding : Sharding) (old new : Shipping T) → HasPutAll old → new.log ≡ old.log → new.limit ≡ old.limit → (new.fleet ≡ old.fleet) ⊎ HasCompared old.fleet new.fleet
      → new.fleet.config ≡ old.fleet.config → IsSome new.fault → length old.fleet.current ≡ sharding.shards → Goes turn.Over buf sharding old new (Err error.Failed)
  over_unset buf sharding old new put log limit compared config failed shards = record {
    keeps = keeps_unset sharding old new put.1 log limit compared config failed shards;
    done = tt;
    start = tt;
    fed = tt;
    part = inl (ap (λ (l : Sorting). meal_of l.pieces) log);
    halts = inl failed;
    halted = inl (record { put = put; pieces = ap (λ (l : Sorting). l.pieces) log; how = inl (record { log = log; limit = limit; fleet = compared }) });
  }

  turned_intact : (sharding next : Sharding) (old mid new : Shipping T) (r : Result (Unit {0}) FeedFault) → IsTurning sharding next old mid new r → IsIntact mid
  turned_intact sharding next old mid new r t = subst (λ (l : Sorting). fault l.pieces ≡ None) (sym t.set.log) t.intact

  turned_sizes : (sharding next : Sharding) (old mid new : Shipping T) (r : Result (Unit {0}) FeedFault) → IsTurning sharding next old mid new r → KeepsEpochSizes sharding.fewest sharding.most old.fleet new.fleet
  turned_sizes sharding next old mid new r t =
      sizes_begun sharding.fewest sharding.most old mid new (sizes_set sharding.fewest sharding.most old mid sharding.range.1 t.put.1 t.set) t.stays

  turned_lap : (sharding next : Sharding) (old mid new : Shipping T) (r : Result (Unit {0}) FeedFault) → IsTurning sharding next old mid new r → new.log.pieces ≡ mid.log.pieces ++ next_segment ∷ []
      → IsLap sharding.fewest sharding.most old new
  turned_lap sharding next old mid new r t joined = record {
    put = t.put;
    between = mid;
    set = t.set;
    stays = t.stays;
    begins = ([], joined ∙ ap (λ (l : Sorting). l.pieces ++ next_segment ∷ []) t.set.log ∙ sym (append-nil (old.log.pieces ++ next_segment ∷ [])));
    ends = ap (λ (m : Meal). m.whole) (fed_next old.log.pieces mid.log.pieces new.log.pieces (ap (λ (l : Sorting). l.pieces) t.set.log) joined);
  }

  turned_short : (sharding next : Sharding) (old mid new : Shipping T) (r : Result (Unit {0}) FeedFault) → IsTurning sharding next old mid new r → (c : Bool) → IsShortLog c old.log.pieces → IsShortLog c new.log.pieces
  turned_short sharding next old mid new r t c h = short_fed mid.log new.log next_segment r t.joins tt c (subst (λ (l : Sorting). IsShortLog c l.pieces) (sym t.set.log) h)

  over_part : (sharding next : Sharding) (old mid new : Shipping T) (r : Result (Unit {0}) FeedFault) → IsTurning sharding next old mid new r → (new.log.pieces ≡ mid.log.pieces) ⊎ (new.log.pieces ≡ mid.log.pieces ++ next_segment ∷ [])
      → HasBroken sharding.fewest sharding.most old new ⊎ IsLap sharding.fewest sharding.most old new
  over_part sharding next old mid new r t (inl same) = inl (record { put = t.put; pieces = same ∙ ap (λ (l : Sorting). l.pieces) t.set.log; how = inr (mid, t.set, t.stays) })
  over_part sharding next old mid new r t (inr joined) = inr (turned_lap sharding next old mid new r t joined)

  pub over_fails : (buf : List ℕ) (sharding next : Sharding) (old mid new : Shipping T) (e : FeedFault) → IsTurning sharding next old mid new (Err e) → Feeds new (Err e)
      → Goes turn.Over buf sharding old new (Err (feed_error_of e))
  over_fails buf sharding next old mid new e t feeds =
      let joins = joins_or_not mid.log new.log next_segment e t.joins in
      let number = count_so (sym t.shards) next.some next.few in
      record {
        keeps = record {
          kept = (t.stays.setup ∙ ap (λ (l : Sorting). (l.choice, l.labels)) t.set.log, ap (λ (f : Shards T). f.config) t.stays.fleet ∙ t.config);
          limit = λ _. t.stays.limit ∙ t.set.limit;
          shards = tt;
          range = tt;
          number = λ _. count_so (t.stays.shards ∙ sym t.shards) next.some next.few;
          sizes = λ _. turned_sizes sharding next old mid new (Err e) t;
          live = tt;
          intact = tt;
          short = turned_short sharding next old mid new (Err e) t;
          but_last = λ _. sound_fed mid.log new.log next_segment (Err e) t.joins (turned_intact sharding next old mid new (Err e) t);
          last = λ done. last_stays mid new t.stays (next_resolved old mid t.set.epoch done) number;
          resolved = λ _. tt;
        };
        done = tt;
        start = tt;
        fed = tt;
        part = part_next old.log.pieces mid.log.pieces new.log.pieces (ap (λ (l : Sorting). l.pieces) t.set.log) joins;
        halts = feed_halts turn.Over old new e feeds;
        halted = over_part sharding next old mid new (Err e) t joins;
      }

  pub over_goes : (buf : List ℕ) (sharding next : Sharding) (old mid new : Shipping T) → IsTurning sharding next old mid new (Ok tt) → (next.placed ≡ sharding.placed) × (next.resolved ≡ sharding.resolved)
      → new.fault ≡ None → IsIntact new → Goes turn.Over buf sharding old new (Ok next)
  over_goes buf sharding next old mid new t start live intact =
      let number = count_so (sym t.shards) next.some next.few in
      record {
        keeps = record {
          kept = (t.stays.setup ∙ ap (λ (l : Sorting). (l.choice, l.labels)) t.set.log, ap (λ (f : Shards T). f.config) t.stays.fleet ∙ t.config);
          limit = λ _. t.stays.limit ∙ t.set.limit;
          shards = t.stays.shards ∙ sym t.shards;
          range = t.range;
          number = λ _. count_so (t.stays.shards ∙ sym t.shards) next.some next.few;
          sizes = λ _. turned_sizes sharding next old mid new (Ok tt) t;
          live = live;
          intact = intact;
          short = turned_short sharding next old mid new (Ok tt) t;
          but_last = λ _. sound_fed mid.log new.log next_segment (Ok tt) t.joins (turned_intact sharding next old mid new (Ok tt) t);
          last = λ done. last_stays mid new t.stays (next_resolved old mid t.set.epoch done) number;
          resolved = λ done. still_resolved mid new t.stays (next_resolved old mid t.set.epoch done);
        };
        done = turned_lap sharding next old mid new (Ok tt) t t.joins;
        start = start;
        fed = fed_next old.log.pieces mid.log.pieces new.log.pieces (ap (λ (l : Sorting). l.pieces) t.set.log) t.joins;
        part = tt;
        halts = tt;
        halted = tt;
      }

  -- ---- a flush

  pub same_flushed : (sharding : Sharding) (old new : Shipping T) → new.log ≡ old.log → new.fleet ≡ record old.fleet { current = new.fleet.current } → length new.fleet.current ≡ length old.fleet.current
      → length old.fleet.current ≡ sharding.shards → (new.fault ≡ None → new.limit ≡ old.limit) → IsSame sharding old new
  same_flushed sharding old new log fleet len shards limit = record {
    setup = ap (λ (l : Sorting). (l.choice, l.labels)) log;
    fleet = fleet;
    len = len;
    shards = shards;
    limit = limit;
    short = λ c h. subst (λ (l : Sorting). IsShortLog c l.pieces) (sym log) h;
    but_last = λ h. subst (λ (l : Sorting). AreSoundButLast l.pieces) (sym log) h;
  }

  pub no_limit : (new old : Shipping T) (e : FeedFault) → FailsBy new.fault e → new.fault ≡ None → new.limit ≡ old.limit
  no_limit new old e fails none = live_no_more new.fault (fails_so new.fault e fails) none

  pub flush_fails : (buf : List ℕ) (sharding : Sharding) (old new : Shipping T) (e : FeedFault) → new.log ≡ old.log → IsSame sharding old new → FailsBy new.fault e
      → Goes turn.Flush buf sharding old new (Err (feed_error_of e))
  flush_fails buf sharding old new e log m fails = record {
    keeps = keeps_err sharding old new (feed_error_of e) m;
    done = tt;
    start = tt;
    fed = tt;
    part = inl (ap (λ (l : Sorting). meal_of l.pieces) log);
    halts = flush_halts turn.Flush old new e fails;
    halted = tt;
  }

  pub flush_goes : (buf : List ℕ) (sharding : Sharding) (old new : Shipping T) → new.log ≡ old.log → IsSame sharding old new → new.fleet.current ≡ map marked old.fleet.current → new.fault ≡ None → IsIntact old
      → Goes turn.Flush buf sharding old new (Ok sharding)
  flush_goes buf sharding old new log m marks live intact = record {
    keeps = keeps_ok sharding old new m live (subst (λ (l : Sorting). fault l.pieces ≡ None) (sym log) intact);
    done = marks;
    start = (refl, refl);
    fed = ap (λ (l : Sorting). meal_of l.pieces) log;
    part = tt;
    halts = tt;
    halted = tt;
  }

  -- ---- after the number of shards may have been set

  halts_from : (t : Turn) (old mid new : Shipping T) (h : FeedError) → mid.log ≡ old.log → HaltsAt t mid new h → HaltsAt t old new h
  halts_from t old mid new (error.Damaged f) same h = h
  halts_from t old mid new error.Failed same (inl f) = inl f
  halts_from t old mid new error.Failed same (inr (is, e)) = inr (is, e ∙ ap (λ (l : Sorting). l.pieces) same)
  halts_from t old mid new error.Unreadable same h = h
  halts_from t old mid new (error.Missing n) same h = h
  halts_from t old mid new error.Aborted same h = h

  pub all_halt_from : (t : Turn) (old mid new : Shipping T) (r : Result Sharding FeedError) → mid.log ≡ old.log → IfErr r (HaltsAt t mid new) → IfErr r (HaltsAt t old new)
  all_halt_from t old mid new (Ok x) same h = tt
  all_halt_from t old mid new (Err y) same h = halts_from t old mid new y same h

  pub unset_reshards : (t : Turn) (buf : List ℕ) (sharding : Sharding) (old new : Shipping T) → PlacesAll old.log old.fleet → new.log ≡ old.log → new.limit ≡ old.limit → (new.fleet ≡ old.fleet) ⊎ HasCompared old.fleet new.fleet
      → new.fleet.config ≡ old.fleet.config → IsSome new.fault → length old.fleet.current ≡ sharding.shards → Reshards t buf sharding old new (Err error.Failed)
  unset_reshards t buf sharding old new placed log limit compared config failed shards = record {
    keeps = keeps_unset sharding old new placed log limit compared config failed shards;
    fed = tt;
    part = inl (ap (λ (l : Sorting). meal_of l.pieces) log);
    halts = inl failed;
  }

  pub on_reshards : (t : Turn) (buf : List ℕ) (sharding next : Sharding) (old mid new : Shipping T) (r : Result Sharding FeedError) → mid.log ≡ old.log → mid.limit ≡ old.limit
      → (mid.fleet ≡ old.fleet) ⊎ HasCompared old.fleet mid.fleet → mid.fleet.config ≡ old.fleet.config → length mid.fleet.current ≡ next.shards → (next.fewest ≡ sharding.fewest) × (next.most ≡ sharding.most)
      → KeepsEpochSizes sharding.fewest sharding.most old.fleet mid.fleet → Reshards t buf next mid new r → Reshards t buf sharding old new r
  on_reshards t buf sharding next old mid new r log limit compared config shards range sizes goes =
      let keeps = goes.keeps in
      let number = count_so shards next.some next.few in
      record {
        keeps = record {
          kept = (keeps.kept.0 ∙ ap (λ (l : Sorting). (l.choice, l.labels)) log, keeps.kept.1 ∙ config);
          limit = λ live. keeps.limit live ∙ limit;
          shards = keeps.shards;
          range = range_on sharding next r range keeps.range;
          number = keeps.number;
          sizes = λ live. sizes_on sharding.fewest sharding.most next.fewest next.most old.fleet mid.fleet new.fleet range sizes (keeps.sizes live);
          live = keeps.live;
          intact = keeps.intact;
          short = λ c h. keeps.short c (subst (λ (l : Sorting). IsShortLog c l.pieces) (sym log) h);
          but_last = λ h. keeps.but_last (subst (λ (l : Sorting). AreSoundButLast l.pieces) (sym log) h);
          last = λ done. keeps.last (compared_resolved old mid compared number.0 done);
          resolved = λ done. keeps.resolved (compared_resolved old mid compared number.0 done);
        };
        fed = subst (λ (l : Sorting). OnOk r (meal_of new.log.pieces ≡ given_by t buf (meal_of l.pieces))) log goes.fed;
        part = subst (λ (l : Sorting). OnErr r ((meal_of new.log.pieces ≡ meal_of l.pieces) ⊎ (meal_of new.log.pieces ≡ given_by t buf (meal_of l.pieces)))) log goes.part;
        halts = all_halt_from t old mid new r log goes.halts;
      }

ok_in : Sharding → Result Sharding FeedError → Sharding
ok_in other (Ok s) = s
ok_in other (Err h) = other

abbrev pub answers : Sharding → Result Sharding FeedError
answers s = Ok s

pub same_ok : (a b : Sharding) → answers a ≡ answers b → a ≡ b
unfolding ok_in
same_ok a b e = ap (ok_in a) e

-- if no number was to be set
pub goes_so : {T : Type 0} (t : Turn) (buf : List ℕ) (sharding next : Sharding) (old mid new : Shipping T) (r : Result Sharding FeedError) → next ≡ sharding → mid ≡ old → Goes t buf next mid new r
    → Goes t buf sharding old new r
goes_so {T} t buf sharding next old mid new r s m goes =
    subst (λ (a : Sharding). Goes t buf a old new r) s (subst (λ (x : Shipping T). Goes t buf next x new r) m goes)

pub failed_not : (s : Sharding) (h : FeedError) → halts h ≡ answers s → ⊥
failed_not s h e = cc

pub no_answer : (P : Sharding → Type 0) (r : Result Sharding FeedError) (h : FeedError) → IsErrAnd r (λ y. y ≡ h) → IfOk r P
no_answer P (Ok s) h is = absurd is
no_answer P (Err e) h is = tt

-- the load by which the clock asked stays
pub asked_by : {T : Type 0} (fleet : Shards T) (next : Sharding) (load : Load) (r : Result Sharding FeedError) → IsLoad fleet load → next.placed ≡ load.placed → next.resolved ≡ load.resolved
    → IfOk r (λ s. (s.placed ≡ next.placed) × (s.resolved ≡ next.resolved)) → IfOk r (λ s. (load : Load) × IsLoad fleet load × (s.placed ≡ load.placed) × (s.resolved ≡ load.resolved))
asked_by fleet next load (Ok s) is placed resolved start = (load, is, start.0 ∙ placed, start.1 ∙ resolved)
asked_by fleet next load (Err h) is placed resolved start = tt
