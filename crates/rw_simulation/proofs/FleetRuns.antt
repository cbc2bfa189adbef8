-- What a shard of the fleet was put, and did, is what a shard of the machine may be put and do.
use Rattle.std.proofs.Common.{◌≡◌, ℕ, zero, suc, ◌+◌, ◌<◌, ◌≤◌, true, false, not, ◌||◌, nat_le, List, [], ◌∷◌, ◌++◌, map, length, Option, Some, None, slice_get, refl, sym, ap, ◌∙◌, subst, arith, inl}
use Rattle.std.proofs.lemmas.Bool.{lt-leb, both_ways}
use Rattle.std.proofs.lemmas.List.{map-append}
use Rattle.std.specs.FinMap.{empty}
use Rattle.rw_types.specs.declared.entry.Entry.{Entry}
use Rattle.rw_types.specs.declared.place.Place.{Place}
use Rattle.rw_types.specs.Gathering.{gather_from}
use Rattle.rw_wal_format.specs.Pieces.{Piece}
use Rattle.rw_plain_queue.specs.Items.{places_in}
use Rattle.rw_plain_queue.specs.History.{EndIsLast}
use Rattle.rw_plain_queue.specs.declared.item.Item.{Item}
use Rattle.rw_plain_queue.specs.declared.item.Item.TheVariants.{Sample, Flush, End}
use Rattle.rw_shard_core.specs.Shard.{new_core}
use Rattle.rw_worker.specs.Setups.{start_of}
use Rattle.rw_worker.specs.Steps.{Working, Step, Takes, Freezes, Sends, Waits, AreSteps, after, items_of, exchanges_of, new_working}
use Rattle.rw_fleet.specs.ShardHistories.{ShardHistory}
use Rattle.rw_sender.specs.Logs.{Sent, sent_of}
use Rattle.rw_sender.specs.Placement.{samples_put, of_shard}
use Rattle.rw_machine.specs.Shards.{Shard, new_shard}
use Rattle.rw_machine.specs.Worlds.{Setup, Request, World, new_shards}
use Rattle.rw_machine.proofs.shared.Places.{get_some}
use Rattle.rw_machine.proofs.shared.Resolves.{length_new}
use Rattle.rw_simulation.specs.WorkerRuns.{queued, sent_bytes, request_in}
use Rattle.rw_simulation.specs.Tallies.{Past, requests_of}
use Rattle.rw_simulation.specs.EpochRuns.{StartsByTaking, AreNext, IsOnTheWay, IsOnTheWayWith, IsUnderWay}
use Rattle.rw_simulation.specs.FleetRuns.{IsShardRun, fate_of, shard_fate_by, fate_at, IsBeginning, IsFleetRun}
use Rattle.rw_simulation.proofs.MarkRuns.{whole-epoch-run}

next_of : (epoch k n : ℕ) (xs : List Item) → ((j : ℕ) (p : Place) → slice_get (places_in xs) j ≡ Some p → (p.epoch ≡ epoch) × (p.shard ≡ k)) → ((j : ℕ) (p : Place) → slice_get (places_in xs) j ≡ Some p → p.seq ≡ n + j) → EndIsLast xs → AreNext epoch k n xs
next_of epoch k n [] named numbered last = tt
next_of epoch k n (Sample place t word labels ∷ xs) named numbered last = (
  (named 0 place refl).0,
  (named 0 place refl).1,
  (let q = numbered 0 place refl in omega arith),
  next_of epoch k (suc n) xs (λ j p e. named (suc j) p e) (λ j p e. let q = numbered (suc j) p e in omega arith) (λ before after kind e. last (Sample place t word labels ∷ before) after kind (ap (λ ys. Sample place t word labels ∷ ys) e)),
)
next_of epoch k n (Flush ∷ xs) named numbered last = next_of epoch k n xs named numbered (λ before after kind e. last (Flush ∷ before) after kind (ap (λ ys. Flush ∷ ys) e))
next_of epoch k n (End kind ∷ xs) named numbered last = last [] xs kind refl

-- what is fresh has nothing to freeze or to send
-- and has room for a sample
fresh_takes : (n : ℕ) → 1 ≤ n → not (nat_le n 0 || false) ≡ true
fresh_takes n some = rw (lt-leb n 0 some) refl

starts_fresh : (c : Setup) (epoch k : ℕ) (ss : List Step) → 1 ≤ c.batch → AreSteps (new_working c.target epoch k c.batch) ss → StartsByTaking ss
starts_fresh c epoch k [] some h = tt
starts_fresh c epoch k (Takes x ∷ ss) some h = tt
starts_fresh c epoch k (Freezes ∷ ss) some h = let never : false ≡ true = h.0.1 in cc
starts_fresh c epoch k (Sends e ∷ ss) some h = let never : false ≡ true = h.0.0 in cc
starts_fresh c epoch k (Waits ∷ ss) some h = absurd (both_ways (not (nat_le c.batch 0 || false)) h.0 (fresh_takes c.batch some))

run-on-the-way : (c : Setup) (epoch k : ℕ) (requests : List Request) (l : ShardHistory) (steps : List Step) (rest : List Item) → 1 ≤ c.batch → requests_of epoch k requests ≡ [] → IsShardRun c epoch k l steps rest
    → IsOnTheWayWith c epoch k requests empty (new_shard (new_core c.target epoch k c.batch)) (samples_put l) (fate_of l steps rest)
run-on-the-way c epoch k requests l steps rest some unsent h = record {
  way = on-the-way;
  part_is = refl;
}
  where
    same_length : (xs : List Item) → length xs ≡ length (map queued xs)
    same_length [] = refl
    same_length (x ∷ xs) = ap suc (same_length xs)

    zero_plus : (j : ℕ) → j ≡ 0 + j
    zero_plus j = omega arith

    start_is : start_of l.setup ≡ new_working c.target epoch k c.batch
    start_is = λ i. new_working (h.target i) (h.epoch_is i) (h.shard_is i) (h.batch i)

    allowed : AreSteps (new_working c.target epoch k c.batch) steps
    allowed = subst (λ (w : Working). AreSteps w steps) start_is h.allowed

    on-the-way : IsOnTheWay c epoch k requests (new_shard (new_core c.target epoch k c.batch)) (samples_put l) (fate_of l steps rest)
    on-the-way = record {
      coming = record { ledger = record { names = empty; room = 0 }; puts = l.put; steps = steps; left = map queued rest };
      ready = record {
        numbered = record { number = refl; batch = tt; builder = tt };
        allowed = allowed;
        split = ap (map queued) h.split ∙ map-append queued (items_of steps) rest;
        eager = inl refl;
        starts = starts_fresh c epoch k steps some allowed;
        within = subst (λ (m : ℕ). m ≤ c.capacity) (same_length rest) h.within;
        unended = refl;
        running = refl;
      };
      next = next_of epoch k 0 l.put h.history.named (λ j p e. h.history.numbered j p e ∙ zero_plus j) h.history.ending;
      sent = refl;
      put = refl;
      end = refl;
      worker = ap (λ (w : Working). after w steps) (sym start_is);
      left = refl;
      epoch_is = refl;
      requests_are = ap (λ (rs : List Request). map sent_bytes rs ++ map request_in (exchanges_of steps)) unsent;
    }

get_new : (c : Setup) (epoch k n i : ℕ) (s : Shard) → slice_get (new_shards c epoch k n) i ≡ Some s → (i < n) × (s ≡ new_shard (new_core c.target epoch (k + i) c.batch))
get_new c epoch k zero i s e = let no : None ≡ Some s → ⊥ = λ h. cc in absurd (no e)
get_new c epoch k (suc n) zero s e = let same : new_shard (new_core c.target epoch k c.batch) ≡ s = cc in (omega arith, sym same ∙ ap (λ (m : ℕ). new_shard (new_core c.target epoch m c.batch)) (plus_zero k))
  where
    plus_zero : (k : ℕ) → k ≡ k + 0
    plus_zero k = omega arith
get_new c epoch k (suc n) (suc i) s e = let h = get_new c epoch (suc k) n i s e in ((let lt = h.0 in omega arith), h.1 ∙ ap (λ (m : ℕ). new_shard (new_core c.target epoch m c.batch)) (shift k i))
  where
    shift : (k i : ℕ) → suc k + i ≡ k + suc i
    shift k i = omega arith

under-way : (c : Setup) (past : Past) (pieces : List Piece) (epoch : ℕ) (lanes : List ShardHistory) (steps : ℕ → List Step) (left : ℕ → List Item) (before es : List Entry) (w : World) → 1 ≤ c.batch → IsBeginning c past pieces epoch lanes steps left before es w
    → IsUnderWay c past pieces epoch (length lanes) (fate_at lanes steps left) before es w
under-way c past pieces epoch lanes steps left before es w some h = record {
  going = h.going;
  pieces_are = h.pieces_are;
  epoch_is = h.epoch_is;
  count = ap length h.shards ∙ length_new c epoch 0 (length lanes);
  placed = h.placed;
  rest = h.rest;
  begins = h.begins;
  series = h.series;
  counted = h.counted;
  parts = λ k. empty;
  tallied = h.tallied;
  shards = by_shard;
}
  where
    no_plus : (k : ℕ) → 0 + k ≡ k
    no_plus k = omega arith

    by_shard : (k : ℕ) (s : Shard) → slice_get w.shards k ≡ Some s → IsOnTheWayWith c epoch k w.requests empty s (of_shard (length lanes) k (gather_from (sent_of c.choice) before es)) (fate_at lanes steps left k)
    by_shard k s e =
        let new = get_new c epoch 0 (length lanes) k s (ap (λ ss. slice_get ss k) (sym h.shards) ∙ e) in
        let lane = get_some lanes k new.0 in
        let own : s ≡ new_shard (new_core c.target epoch k c.batch) = new.1 ∙ ap (λ (m : ℕ). new_shard (new_core c.target epoch m c.batch)) (no_plus k) in
        subst (λ (t : Shard). IsOnTheWayWith c epoch k w.requests empty t (of_shard (length lanes) k (gather_from (sent_of c.choice) before es)) (fate_at lanes steps left k)) (sym own)
        (subst (λ (o : Option ShardHistory). IsOnTheWayWith c epoch k w.requests empty (new_shard (new_core c.target epoch k c.batch)) (of_shard (length lanes) k (gather_from (sent_of c.choice) before es)) (shard_fate_by o (steps k) (left k))) (sym lane.1)
        (subst (λ (xs : List Sent). IsOnTheWayWith c epoch k w.requests empty (new_shard (new_core c.target epoch k c.batch)) xs (fate_of lane.0 (steps k) (left k))) (h.dealt.each k lane.0 lane.1).2
        (run-on-the-way c epoch k w.requests lane.0 (steps k) (left k) some (h.unsent k) (h.runs k lane.0 lane.1))))

pub fleet-run : (c : Setup) (past : Past) → IsFleetRun c past
fleet-run c past pieces epoch lanes steps left before es w room batch shards h =
    whole-epoch-run c past pieces epoch (length lanes) (fate_at lanes steps left) before es w room shards (under-way c past pieces epoch lanes steps left before es w batch h)
