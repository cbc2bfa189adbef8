-- A piece that was fed over several epochs.
use Rattle.std.proofs.Common.{◌≡◌, ◌⊎◌, inl, inr, ℕ, zero, suc, ◌+◌, ◌≤◌, Bool, true, false, List, [], ◌∷◌, ◌++◌, length, Option, None, Some, Result, Ok, Err, IfErr, IfOk, OnOk, refl, sym, ap, ◌∙◌, subst, arith}
use Rattle.std.specs.Prelude.{OnErr}
use Rattle.rw_wal_format.specs.Pieces.{Piece, fault}
use Rattle.rw_fleet.specs.Fleets.{Shards}
use Rattle.rw_fleet.specs.Work.{AreResolved}
use Rattle.rw_follow.specs.Turns.{given_by}
use Rattle.rw_follow.specs.declared.follower.Turn.{Turn}
use Rattle.rw_sender.specs.Feeders.{Sorting, setup_of}
use Rattle.rw_sender.specs.Placement.{IsShardCount}
use Rattle.rw_sender.specs.Shipping.{Feeds, HasCompared, Joins, PlacesAll, Shipping}
use Rattle.rw_sender.specs.Skews.{GoesOver, GoesWhole, HasTurned, IsRenewed}
use Rattle.rw_sender.specs.declared.shipper.FeedFault.{FeedFault}
use Rattle.rw_sender.proofs.shared.SkewLemmas.{len_turned, len_whole}
use Rattle.rw_send.specs.EpochSizes.{HasEpochSizes}
use Rattle.rw_send.specs.FeedErrors.{feed_error_of}
use Rattle.rw_send.specs.Segments.{IsShortLog, IsShortPiece, AreSoundButLast, meal_of}
use Rattle.rw_send.specs.Sending.{is_undivided}
use Rattle.rw_send.specs.Steps.{HasLastEpoch, IsNextEpoch, IsSet}
use Rattle.rw_send.specs.declared.feed_error.FeedError.{FeedError}
use Rattle.rw_send.specs.declared.sharding.Sharding.{Sharding}
use Rattle.rw_send.specs.inner.EpochSizes.{KeepsEpochSizes}
use Rattle.rw_send.specs.inner.FeedErrors.{IsIntact}
use Rattle.rw_send.specs.inner.Turns.{Goes, HaltsAt, IsFedOver, Keeps, Reshards}
use Rattle.rw_send.proofs.EpochLemmas.{last_compared, last_same}
use Rattle.rw_send.proofs.EpochSizeLemmas.{sizes_next, sizes_same, sizes_stay, wanted_bounds}
use Rattle.rw_send.proofs.FeedErrorLemmas.{count_so, feed_halts}
use Rattle.rw_send.proofs.IntactLemmas.{sound_fed}
use Rattle.rw_send.proofs.MealLemmas.{joins_or_not}
use Rattle.rw_send.proofs.ShortLemmas.{short_fed}

-- no bound is asked for, and nothing but a stop
pub undivided_so : (most : Option ℕ) (quiet : Bool) → is_undivided most quiet ≡ true → (most ≡ None) × (quiet ≡ true)
undivided_so None quiet h = (refl, h)
undivided_so (Some n) quiet h = absurd (let e : false ≡ true = h in cc)

module _ {T : Type 0} where
  as_next : (was now : Shards T) → IsRenewed was now → IsNextEpoch was now
  as_next was now h = record { compared = h.compared; resolved = h.resolved; epoch = h.epoch; fresh = h.fresh }

  config_turned : (limit : Option ℕ) (most n : ℕ) (a b : Shards T) → HasTurned limit most n a b → b.config ≡ a.config
  config_turned limit most zero a b h = ap (λ (s : Shards T). s.config) h
  config_turned limit most (suc n) a b h = h.4.config ∙ ap (λ (s : Shards T). s.config) h.3.putting.fleet ∙ config_turned limit most n a h.0 h.2

  -- the configuration stays
  pub config_over : (limit : Option ℕ) (most : ℕ) (log : Sorting) (a b : Shards T) → GoesOver limit most log a b → b.config ≡ a.config
  config_over limit most log a b h =
      elim h.shut [
        | inl same ↦ ap (λ (s : Shards T). s.config) same
        | inr shut ↦ shut.2
      ] ∙ ap (λ (s : Shards T). s.config) h.putting.fleet ∙ config_turned limit most h.epochs a h.begun h.turned

  resolved_turned : (limit : Option ℕ) (most n : ℕ) (a b : Shards T) → HasTurned limit most n a b → AreResolved a.ended → AreResolved b.ended
  resolved_turned limit most zero a b h done = subst (λ (s : Shards T). AreResolved s.ended) (sym h) done
  resolved_turned limit most (suc n) a b h done = h.4.resolved

  pub resolved_whole : (limit : Option ℕ) (most : ℕ) (a b : Shards T) → GoesWhole limit most a b → AreResolved a.ended → AreResolved b.ended
  resolved_whole limit most a b h done = subst AreResolved (sym (ap (λ (s : Shards T). s.ended) h.within.putting.fleet)) (resolved_turned limit most h.epochs a h.begun h.turned done)

  -- each epoch has as many shards as the first one
  sizes_turned : (fewest greatest : ℕ) (limit : Option ℕ) (most n : ℕ) (a b : Shards T) → fewest ≤ length a.current → length a.current ≤ greatest → HasTurned limit most n a b → KeepsEpochSizes fewest greatest a b
  sizes_turned fewest greatest limit most zero a b low high h = sizes_same fewest greatest a b h
  sizes_turned fewest greatest limit most (suc n) a b low high h = λ first sizes.
      let before = sizes_turned fewest greatest limit most n a h.0 low high h.2 first sizes in
      let put = sizes_stay fewest greatest h.0 h.1 h.3.putting.fleet h.3.putting.len first before in
      let len = h.4.len ∙ h.3.putting.len ∙ len_turned limit most n a h.0 h.2 in
      sizes_next first fewest greatest h.1 b put h.4.own (as_next h.1 b h.4) (omega (arith, len, low)) (omega (arith, len, high))

  pub sizes_whole : (fewest greatest : ℕ) (limit : Option ℕ) (most : ℕ) (a b : Shards T) → fewest ≤ length a.current → length a.current ≤ greatest → GoesWhole limit most a b → KeepsEpochSizes fewest greatest a b
  sizes_whole fewest greatest limit most a b low high h = λ first sizes.
      sizes_stay fewest greatest h.begun b h.within.putting.fleet h.within.putting.len first (sizes_turned fewest greatest limit most h.epochs a h.begun low high h.turned first sizes)

  -- the last epoch, which may have ended because the next one could not be begun
  last_shut : (new : Shipping T) (last : Shards T) → AreResolved last.ended → IsShardCount (length last.current) → (new.fleet ≡ last) ⊎ (PlacesAll new.log last × HasCompared last new.fleet × (new.fleet.config ≡ last.config)) → HasLastEpoch new
  last_shut new last done number (inl same) = last_same new (subst (λ (s : Shards T). AreResolved s.ended) (sym same) done) (subst (λ (s : Shards T). IsShardCount (length s.current)) (sym same) number)
  last_shut new last done number (inr shut) = last_compared (record new { fleet = last }) new done number shut.0 refl (inr shut.1)

  pub last_over : (limit : Option ℕ) (most : ℕ) (old new : Shipping T) → AreResolved old.fleet.ended → IsShardCount (length old.fleet.current) → GoesOver limit most new.log old.fleet new.fleet → HasLastEpoch new
  last_over limit most old new done number h =
      last_shut new h.last (subst AreResolved (sym (ap (λ (s : Shards T). s.ended) h.putting.fleet)) (resolved_turned limit most h.epochs old.fleet h.begun h.turned done))
      (subst IsShardCount (sym (h.putting.len ∙ len_turned limit most h.epochs old.fleet h.begun h.turned)) number) h.shut

-- what was fed, and what that keeps
pub record IsFeeding {T : Type 0} (sharding : Sharding) (piece : Piece) (most : ℕ) (old new : Shipping T) (r : Result (Unit {0}) FeedFault) : Type 0 where
  pub setup : setup_of new.log ≡ setup_of old.log
  pub limit : new.limit ≡ old.limit
  pub over : GoesOver old.limit most new.log old.fleet new.fleet
  pub whole : new.fault ≡ None → GoesWhole old.limit most old.fleet new.fleet
  pub shards : length old.fleet.current ≡ sharding.shards
  pub bounds : (sharding.fewest ≤ sharding.shards) × (sharding.shards ≤ sharding.most)
  pub intact : IsIntact old
  pub short : IsShortPiece piece
  pub joins : Joins old.log new.log piece r
  pub feeds : Feeds new r

module _ {T : Type 0} where
  number_fed : (sharding : Sharding) (piece : Piece) (most : ℕ) (old new : Shipping T) (r : Result (Unit {0}) FeedFault) → IsFeeding sharding piece most old new r → IsShardCount (length old.fleet.current)
  number_fed sharding piece most old new r f = count_so f.shards sharding.some sharding.few

  sizes_fed : (sharding : Sharding) (piece : Piece) (most : ℕ) (old new : Shipping T) (r : Result (Unit {0}) FeedFault) → IsFeeding sharding piece most old new r → new.fault ≡ None → KeepsEpochSizes sharding.fewest sharding.most old.fleet new.fleet
  sizes_fed sharding piece most old new r f live =
      let len = f.shards in
      let low = f.bounds.0 in
      let high = f.bounds.1 in
      sizes_whole sharding.fewest sharding.most old.limit most old.fleet new.fleet (omega (arith, len, low)) (omega (arith, len, high)) (f.whole live)

  pub fed_fails : (sharding : Sharding) (piece : Piece) (most : ℕ) (old new : Shipping T) (e : FeedFault) → IsFeeding sharding piece most old new (Err e) → IsFedOver sharding piece old new (Err (feed_error_of e))
  fed_fails sharding piece most old new e f = record {
    keeps = record {
      kept = (f.setup, config_over old.limit most new.log old.fleet new.fleet f.over);
      limit = λ _. f.limit;
      shards = tt;
      range = tt;
      number = λ live. subst IsShardCount (sym (len_whole old.limit most old.fleet new.fleet (f.whole live))) (number_fed sharding piece most old new (Err e) f);
      sizes = sizes_fed sharding piece most old new (Err e) f;
      live = tt;
      intact = tt;
      short = short_fed old.log new.log piece (Err e) f.joins f.short;
      but_last = λ _. sound_fed old.log new.log piece (Err e) f.joins f.intact;
      last = λ done. last_over old.limit most old new done (number_fed sharding piece most old new (Err e) f) f.over;
      resolved = λ _. tt;
    };
    joined = tt;
    part = joins_or_not old.log new.log piece e f.joins;
    halts = λ t. feed_halts t old new e f.feeds;
  }

  pub fed_goes : (sharding : Sharding) (piece : Piece) (most : ℕ) (old new : Shipping T) → IsFeeding sharding piece most old new (Ok tt) → IsFedOver sharding piece old new (Ok sharding)
  fed_goes sharding piece most old new f = record {
    keeps = record {
      kept = (f.setup, config_over old.limit most new.log old.fleet new.fleet f.over);
      limit = λ _. f.limit;
      shards = len_whole old.limit most old.fleet new.fleet (f.whole f.feeds.1) ∙ f.shards;
      range = (refl, refl);
      number = λ live. subst IsShardCount (sym (len_whole old.limit most old.fleet new.fleet (f.whole live))) (number_fed sharding piece most old new (Ok tt) f);
      sizes = sizes_fed sharding piece most old new (Ok tt) f;
      live = f.feeds.1;
      intact = f.feeds.0.fault_is;
      short = short_fed old.log new.log piece (Ok tt) f.joins f.short;
      but_last = λ _. sound_fed old.log new.log piece (Ok tt) f.joins f.intact;
      last = λ done. last_over old.limit most old new done (number_fed sharding piece most old new (Ok tt) f) f.over;
      resolved = λ done. resolved_whole old.limit most old.fleet new.fleet (f.whole f.feeds.1) done;
    };
    joined = f.joins;
    part = tt;
    halts = λ t. tt;
  }

  joined_meal : (t : Turn) (buf : List ℕ) (old new : Shipping T) (piece : Piece) (r : Result Sharding FeedError) → ((ps : List Piece) → ps ≡ old.log.pieces ++ piece ∷ [] → meal_of ps ≡ given_by t buf (meal_of old.log.pieces))
      → OnOk r (new.log.pieces ≡ old.log.pieces ++ piece ∷ []) → OnOk r (meal_of new.log.pieces ≡ given_by t buf (meal_of old.log.pieces))
  joined_meal t buf old new piece (Ok s) gives joined = gives new.log.pieces joined
  joined_meal t buf old new piece (Err h) gives joined = tt

  part_of : (t : Turn) (buf : List ℕ) (old new : Shipping T) (piece : Piece) → ((ps : List Piece) → ps ≡ old.log.pieces ++ piece ∷ [] → meal_of ps ≡ given_by t buf (meal_of old.log.pieces))
      → (new.log.pieces ≡ old.log.pieces) ⊎ (new.log.pieces ≡ old.log.pieces ++ piece ∷ []) → (meal_of new.log.pieces ≡ meal_of old.log.pieces) ⊎ (meal_of new.log.pieces ≡ given_by t buf (meal_of old.log.pieces))
  part_of t buf old new piece gives (inl same) = inl (ap meal_of same)
  part_of t buf old new piece gives (inr joined) = inr (gives new.log.pieces joined)

  part_meal : (t : Turn) (buf : List ℕ) (old new : Shipping T) (piece : Piece) (r : Result Sharding FeedError) → ((ps : List Piece) → ps ≡ old.log.pieces ++ piece ∷ [] → meal_of ps ≡ given_by t buf (meal_of old.log.pieces))
      → OnErr r ((new.log.pieces ≡ old.log.pieces) ⊎ (new.log.pieces ≡ old.log.pieces ++ piece ∷ [])) → OnErr r ((meal_of new.log.pieces ≡ meal_of old.log.pieces) ⊎ (meal_of new.log.pieces ≡ given_by t buf (meal_of old.log.pieces)))
  part_meal t buf old new piece (Ok s) gives part = tt
  part_meal t buf old new piece (Err h) gives part = part_of t buf old new piece gives part

  -- a turn is done that gives this piece
  pub fed_reshards : (t : Turn) (buf : List ℕ) (sharding : Sharding) (old new : Shipping T) (piece : Piece) (r : Result Sharding FeedError) → ((ps : List Piece) → ps ≡ old.log.pieces ++ piece ∷ [] → meal_of ps ≡ given_by t buf (meal_of old.log.pieces))
      → IsFedOver sharding piece old new r → Reshards t buf sharding old new r
  fed_reshards t buf sharding old new piece r gives f = record {
    keeps = f.keeps;
    fed = joined_meal t buf old new piece r gives f.joined;
    part = part_meal t buf old new piece r gives f.part;
    halts = f.halts t;
  }

  pub as_reshards : (t : Turn) (buf : List ℕ) (sharding : Sharding) (old new : Shipping T) (r : Result Sharding FeedError) → Goes t buf sharding old new r → Reshards t buf sharding old new r
  as_reshards t buf sharding old new r g = record { keeps = g.keeps; fed = g.fed; part = g.part; halts = g.halts }

-- what is answered is what was worked with
pub start_so : (r : Result Sharding FeedError) (next sharding : Sharding) → IfOk r (λ s. s ≡ next) → (next.placed ≡ sharding.placed) × (next.resolved ≡ sharding.resolved) → IfOk r (λ s. (s.placed ≡ sharding.placed) × (s.resolved ≡ sharding.resolved))
start_so (Ok s) next sharding same start = (ap (λ (x : Sharding). x.placed) same ∙ start.0, ap (λ (x : Sharding). x.resolved) same ∙ start.1)
start_so (Err h) next sharding same start = tt

-- as many shards as are wanted are within the bounds
pub bounds_set : {T : Type 0} (sharding next : Sharding) (old new : Shipping T) → IsSet sharding.fewest sharding.most old new → next.shards ≡ length new.fleet.current → (next.fewest ≡ sharding.fewest) × (next.most ≡ sharding.most) → (next.fewest ≤ next.shards) × (next.shards ≤ next.most)
bounds_set sharding next old new set shards range =
    let within = wanted_bounds (length old.fleet.current) set.load.placed set.load.resolved set.load.backlog sharding.fewest sharding.most sharding.range.1 in
    let low = within.0 in
    let high = within.1 in
    let is = set.shards in
    let fewest = range.0 in
    let most = range.1 in
    (omega (arith, low, is, shards, fewest), omega (arith, high, is, shards, most))
