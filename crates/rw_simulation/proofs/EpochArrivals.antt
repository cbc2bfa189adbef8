-- An epoch whose shards are put all that they will be put before their workers begin, so that
-- requests may come in whatever order.
use Rattle.std.proofs.Common.{◌≡◌, ℕ, ◌<◌, ◌≤◌, ◌+◌, ◌++◌, ◌∷◌, false, List, [], map, length, Option, None, Some, slice_get, refl, sym, ap, ◌∙◌, subst, arith, append_assoc, length-append}
use Rattle.std.specs.FinMap.{empty}
use Rattle.std.specs.List.{AllByRecursion}
use Rattle.std.proofs.lemmas.Bool.{both_ways}
use Rattle.std.proofs.lemmas.List.{map-append}
use Rattle.std.proofs.lemmas.Option.{slice_get_within}
use Rattle.rw_types.specs.declared.entry.Entry.{Entry}
use Rattle.rw_types.specs.Gathering.{gather_from}
use Rattle.rw_wal_format.specs.Pieces.{Piece, entries}
use Rattle.rw_ledger.specs.Names.{Named}
use Rattle.rw_plain_queue.specs.History.{EndIsLast}
use Rattle.rw_plain_queue.specs.declared.item.Item.{Item}
use Rattle.rw_plain_queue.specs.declared.item.Item.TheVariants.{End}
use Rattle.rw_shard_core.specs.Shard.{Core}
use Rattle.rw_worker.specs.Transcript.{Exchange}
use Rattle.rw_worker.specs.Steps.{Step, working, AreSteps, after, items_of, exchanges_of}
use Rattle.rw_head.specs.Head.{State}
use Rattle.rw_fleet.specs.ShardHistories.{ShardHistory}
use Rattle.rw_sender.specs.Logs.{sent_of}
use Rattle.rw_sender.specs.Placement.{IsDealt}
use Rattle.rw_machine.specs.Shards.{Shard, samples_waiting as waiting_in}
use Rattle.rw_machine.specs.Worlds.{Setup, Request, World}
use Rattle.rw_machine.proofs.shared.Lists.{Lists}
use Rattle.rw_machine.proofs.shared.Places.{get_some}
use Rattle.rw_restarts.specs.Arrivals.{Arrival}
use Rattle.rw_simulation.specs.Freely.{Happening, IsOwn, run_freely}
use Rattle.rw_simulation.specs.WorkerRuns.{queued, IsShardNumbered, sent_bytes, request_in}
use Rattle.rw_simulation.specs.Tallies.{Past, requests_of}
use Rattle.rw_simulation.specs.EpochRuns.{ShardFate, AreUnsent, IsAllPut, Reaches}
use Rattle.rw_simulation.specs.FleetRuns.{IsShardRun, fate_of, shard_fate_by, fate_at}
use Rattle.rw_simulation.specs.OneReceivers.{IsOneReceiver}
use Rattle.rw_simulation.proofs.Tallies.{Names, lists-at}
use Rattle.rw_simulation.proofs.FleetRuns.{fleet-run}
use Rattle.rw_simulation.proofs.ReshardRuns.{BeginsEpoch}
use Rattle.rw_simulation.proofs.EndRuns.{HasCome, IsOver, counted}
use Rattle.rw_simulation.proofs.OwnRuns.{OwnRun, own-run}
use Rattle.rw_simulation.proofs.Arrived.{AreRead, none-read, IsSentAs, HasArrived, still-at}
use Rattle.rw_simulation.proofs.Arriving.{AnyWork, AtWorks, HasGone, epoch-goes}

-- all that a shard is put
abbrev pub put_by : Option ShardHistory → List Item
put_by None = []
put_by (Some l) = l.put

-- to which it comes before its worker begins
abbrev pub first_at : List ShardHistory → ℕ → ShardFate
first_at lanes = fate_at lanes (λ k. []) (λ k. put_by (slice_get lanes k))

unsent : (lanes : List ShardHistory) → AreUnsent (first_at lanes)
unsent lanes k = by_lane (slice_get lanes k)
  where
    by_lane : (o : Option ShardHistory) → (shard_fate_by o [] (put_by o)).requests ≡ []
    by_lane None = refl
    by_lane (Some l) = refl

-- if nothing is sent, all that is sent is read again
none-sent : (rs : List Request) → map sent_bytes rs ≡ [] → AreRead rs
none-sent [] e = none-read
none-sent (r ∷ rs) e = let no : ⊥ = cc in absurd no

-- by which End it was ended its worker does not change
pub same-end : (lanes : List ShardHistory) (steps : ℕ → List Step) (left : ℕ → List Item) (k : ℕ) → (first_at lanes k).end ≡ (fate_at lanes steps left k).end
same-end lanes steps left k = by_lane (slice_get lanes k)
  where
    by_lane : (o : Option ShardHistory) → (shard_fate_by o [] (put_by o)).end ≡ (shard_fate_by o (steps k) (left k)).end
    by_lane None = refl
    by_lane (Some l) = refl

none_behind : (xs ys : List Item) → xs ++ ys ≡ [] → xs ≡ []
none_behind [] ys e = refl
none_behind (x ∷ xs) ys e = let no : ⊥ = cc in absurd no

last_before : (xs ys : List Item) → EndIsLast (xs ++ ys) → EndIsLast xs
last_before xs ys h before rest kind e = none_behind rest ys (h before (rest ++ ys) kind (ap (λ (zs : List Item). zs ++ ys) e ∙ append_assoc before (End kind ∷ rest) ys))

pub kept-count : (c : Setup) (s : Shard) → Lists c s → length s.put ≡ length s.core.resolved + (length s.core.batch + (length s.core.builder + length (waiting_in s.queue)))
kept-count c s h =
    counted (length s.put) (length s.core.taken) (length (waiting_in s.queue)) (length s.core.resolved) (length (s.core.batch ++ s.core.builder)) (length s.core.batch) (length s.core.builder) (length (waiting_in s.queue))
    (ap length h.queued ∙ length-append s.core.taken (waiting_in s.queue))
    (ap length h.held ∙ length-append s.core.resolved (s.core.batch ++ s.core.builder))
    (length-append s.core.batch s.core.builder)
    refl

module _ (c : Setup) (exs : ℕ → ℕ → List Exchange) (arrivals : List Arrival) (heads : ℕ → State) (one : IsOneReceiver c exs arrivals heads) where
  abbrev pub Arrived : ℕ → World → Type 0
  Arrived m w = HasArrived c exs arrivals heads one m w

  -- what was sent stays sent
  pub sent-own : (past : Past) (epoch n : ℕ) (w v : World) (hs : List Happening) → ((e k i : ℕ) (x : Exchange) → e < epoch → slice_get (exs e k) i ≡ Some x → IsSentAs (requests_of e k w.requests) i x) → AllByRecursion IsOwn hs → run_freely c hs w ≡ v
      → (e k i : ℕ) (x : Exchange) → e < epoch → slice_get (exs e k) i ≡ Some x → IsSentAs (requests_of e k v.requests) i x
  sent-own past epoch n w v hs sent own is e k i x lt got = let h = sent e k i x lt got in (h.0, ap (λ (rs : List Request). slice_get (requests_of e k rs) i) requests ∙ still-at e k i w.requests r.grows.more h.0 h.1, h.2, h.3)
    where
      r : OwnRun c hs w
      r = own-run c hs w own

      requests : v.requests ≡ w.requests ++ r.grows.more
      requests = ap (λ (x : World). x.requests) (sym is) ∙ r.grows.requests

  -- ---- all is put
  pub put-first : (past : Past) (pieces : List Piece) (epoch : ℕ) (lanes : List ShardHistory) (before es rest : List Entry) (w : World) → 1 ≤ c.capacity → 1 ≤ c.batch → 1 ≤ length lanes → IsDealt epoch lanes (gather_from (sent_of c.choice) before es)
      → ((k : ℕ) (l : ShardHistory) → slice_get lanes k ≡ Some l → IsShardRun c epoch k l [] (put_by (slice_get lanes k))) → BeginsEpoch c past pieces epoch (length lanes) before w → entries pieces ≡ before ++ (es ++ rest)
      → Reaches (AreUnsent (first_at lanes)) c w (IsAllPut c past pieces epoch (length lanes) (first_at lanes) (before ++ es))
  put-first past pieces epoch lanes before es rest w room batch some dealt runs b begins = fleet-run c past pieces epoch lanes (λ k. []) (λ k. put_by (slice_get lanes k)) before es w room batch some (record {
    going = b.going;
    pieces_are = b.pieces_are;
    epoch_is = b.epoch_is;
    shards = b.shards;
    placed = b.placed_are;
    rest = rest;
    begins = begins;
    series = b.series;
    counted = b.counted;
    tallied = b.tallied;
    unsent = b.unsent;
    dealt = dealt;
    runs = runs;
  })

  pub put-quiet : (lanes : List ShardHistory) (w : World) (P : World → Type 0) → (r : Reaches (AreUnsent (first_at lanes)) c w P) → AllByRecursion IsOwn r.events
  put-quiet lanes w P r = r.own (unsent lanes)

  -- ---- and then the workers work
  module _ (past : Past) (epoch : ℕ) (lanes : List ShardHistory) (steps : ℕ → List Step) (left : ℕ → List Item) (placed : List Entry) (u : World) (alive : u.killed ≡ false) (within : (k i : ℕ) (x : Exchange) → slice_get (exs epoch k) i ≡ Some x → k < length lanes)
      (told : (k : ℕ) (l : ShardHistory) → slice_get lanes k ≡ Some l → exchanges_of (steps k) ≡ exs epoch k) (runs : (k : ℕ) (l : ShardHistory) → slice_get lanes k ≡ Some l → IsShardRun c epoch k l (steps k) (left k)) where
    abbrev pub n : ℕ
    n = length lanes

    abbrev pub fates : ℕ → ShardFate
    fates = fate_at lanes steps left

    pub tells : (k : ℕ) → k < n → (fates k).requests ≡ map request_in (exs epoch k)
    tells k lt = let l = get_some lanes k lt in subst (λ (o : Option ShardHistory). (shard_fate_by o (steps k) (left k)).requests ≡ map request_in (exs epoch k)) (sym l.1) (ap (map request_in) (told k l.0 l.1))

    abbrev pub Works : ℕ → ℕ → World → Type 0
    Works = AtWorks c exs arrivals heads one past epoch n fates placed u alive within tells

    abbrev pub Gone : Type 0
    Gone = HasGone c exs arrivals heads one past epoch n fates placed u alive within tells

    begins-work : (k : ℕ) (w : World) (parts : ℕ → Names) (s : Shard) (l : ShardHistory) → slice_get lanes k ≡ Some l → Lists c s → HasCome epoch k w.requests (parts k) s (fate_of l [] l.put) → AnyWork c exs arrivals heads one past epoch n fates placed u alive within tells k (requests_of epoch k w.requests) (parts k) s
    begins-work k w parts s l lane lists come = record {
      held = None;
      steps = steps k;
      sent = [];
      work = record {
        rest = s;
        ledger = begun;
        is = refl;
        numbered = subst (IsShardNumbered k) (sym come.core) (record { number = run.shard_is; batch = tt; builder = tt });
        epoch_is = ap (λ (x : Core). x.epoch) come.core ∙ run.epoch_is;
        allowed = subst (λ (x : Core). AreSteps (working x begun) (steps k)) (sym come.core) run.allowed;
        queue = come.queue ∙ ap (map queued) run.split ∙ map-append queued (items_of (steps k)) (left k) ∙ sym (ap (λ (o : Option ShardHistory). map queued (items_of (steps k)) ++ (shard_fate_by o (steps k) (left k)).left) lane);
        put = come.put ∙ sym (ap (λ (o : Option ShardHistory). (shard_fate_by o (steps k) (left k)).put) lane);
        worker = ap (λ (x : Core). after (working x begun) (steps k)) come.core ∙ sym (ap (λ (o : Option ShardHistory). (shard_fate_by o (steps k) (left k)).worker) lane);
        part_is = come.part_is;
        bytes = come.requests_are;
        exchanges = told k l lane;
        last = tt;
        can_end = record {
          kept = kept-count c s lists;
          ended = λ e. absurd (both_ways s.core.ended (ap (λ (x : Core). x.ended) come.core) e);
          last = last_before (items_of (steps k)) (left k) (subst EndIsLast run.split run.history.ending);
        };
      };
    }
      where
        run : IsShardRun c epoch k l (steps k) (left k)
        run = runs k l lane

        begun : Named
        begun = record { names = empty; room = 0 }

    none_below : (k : ℕ) → k < 0 → ⊥
    none_below k lt = omega arith

    pub goes : (m : ℕ) (w : World) → m ≤ length arrivals → IsOver c past epoch n (first_at lanes) placed u w → Arrived m w
        → ((e k i : ℕ) (x : Exchange) → e < epoch → slice_get (exs e k) i ≡ Some x → IsSentAs (requests_of e k w.requests) i x) → Gone
    goes m w few over arrived earlier = epoch-goes c exs arrivals heads one past epoch n fates placed u alive within tells m w few (record {
      same = over.same;
      count = over.count;
      parts = over.parts;
      tallied = over.tallied;
      each = λ k s at.
          let l = get_some lanes k (subst (λ (i : ℕ). k < i) over.count (slice_get_within w.shards k s at)) in
          begins-work k w over.parts s l.0 l.1 (lists-at c w over.tallied.reached k s at) (subst (λ (o : Option ShardHistory). HasCome epoch k w.requests (over.parts k) s (shard_fate_by o [] (put_by o))) l.1 (over.done k s at));
      done = λ k s at lt. absurd (none_below k lt);
      arrived = arrived;
      read = read;
      earlier = earlier;
    })
      where
        read : (k : ℕ) → k < n → AreRead (requests_of epoch k w.requests)
        read k lt = let s = get_some w.shards k (subst (λ (i : ℕ). k < i) (sym over.count) lt) in none-sent (requests_of epoch k w.requests) ((over.done k s.0 s.1).requests_are ∙ unsent lanes k)
