-- The number of shards changes: the current ones are ended once all is resolved, and the next ones
-- begin.
use Rattle.std.proofs.Common.{◌≡◌, ℕ, suc, ◌<◌, ◌≤◌, ◌&&◌, Bool, true, false, not, cond, nat_le, List, [], ◌∷◌, ◌++◌, length, None, Some, is_some, refl, ap, ◌∙◌}
use Rattle.std.specs.FinMap.{empty}
use Rattle.std.proofs.lemmas.Bool.{le-leb, and_from}
use Rattle.rw_types.specs.declared.entry.Entry.{Entry}
use Rattle.rw_wal_format.specs.Pieces.{Piece}
use Rattle.rw_series_cache.specs.Numbers.{series_of}
use Rattle.rw_plain_queue.specs.declared.item.Kind.TheVariants as kind
use Rattle.rw_sender.specs.Logs.{filtered}
use Rattle.rw_machine.specs.Shards.{Shard, shard_end}
use Rattle.rw_machine.specs.Worlds.{Setup, World, new_shards, is_finished, all_drained}
use Rattle.rw_machine.specs.Steps.{happens, shard_mark, restart_as, unless_over}
use Rattle.rw_machine.specs.declared.event.Event.TheVariants as event
use Rattle.rw_simulation.specs.Freely.{Of, run_freely}
use Rattle.rw_simulation.specs.Tallies.{Past, IsTallied, requests_of}
use Rattle.rw_simulation.specs.EpochRuns.{ShardFate, AreUnsent, IsAllPut, Reaches}
use Rattle.rw_simulation.proofs.Changes.{run-append}
use Rattle.rw_simulation.proofs.EntryRuns.{over_not}
use Rattle.rw_simulation.proofs.Tallies.{Passes, later-requests, lists-at, tallied-still, tallied-next}
use Rattle.rw_simulation.proofs.EndRuns.{IsResolvedFate, IsOver, end-all, tallies-at, drained-all}

-- the machine at the start of an epoch of this many shards, with these entries placed; nothing was
-- sent in it
pub record BeginsEpoch (c : Setup) (past : Past) (pieces : List Piece) (epoch m : ℕ) (placed : List Entry) (w : World) : Type 0 where
  pub going : (w.killed ≡ false) × (w.closed ≡ None) × (w.draining ≡ None)
  pub pieces_are : w.pieces ≡ pieces
  pub epoch_is : w.epoch ≡ epoch
  pub shards : w.shards ≡ new_shards c epoch 0 m
  pub placed_are : w.placed ≡ length placed
  pub series : w.series ≡ series_of c.choice placed
  pub counted : w.filtered ≡ length (filtered c.choice placed)
  pub tallied : IsTallied c past epoch m placed (λ k. empty) w
  pub unsent : (k : ℕ) → requests_of epoch k w.requests ≡ []

-- ---- it is asked for
module _ (c : Setup) (past : Past) (pieces : List Piece) (epoch n m : ℕ) (fates : ℕ → ShardFate) (placed : List Entry) (least : 1 ≤ m) (most : m ≤ 1000) (w : World) (put : IsAllPut c past pieces epoch n fates placed w) where
  abbrev pub draining : World
  draining = record w { draining = Some m }

  may_ask : (not (is_some w.draining) && (not (is_finished w) && (nat_le 1 m && nat_le m 1000))) ≡ true
  may_ask = and_from (not (is_some w.draining)) (not (is_finished w) && (nat_le 1 m && nat_le m 1000)) (rw put.under.going.2 refl)
      (and_from (not (is_finished w)) (nat_le 1 m && nat_le m 1000) (rw put.under.going.1 refl) (and_from (nat_le 1 m) (nat_le m 1000) (le-leb 1 m least) (le-leb m 1000 most)))

  asked : happens c w (event.Reshard m) ≡ draining
  asked = ap (unless_over c w (event.Reshard m)) (over_not w put.under.going.0 put.under.going.1) ∙ ap (λ (b : Bool). cond b draining w) may_ask

  asks : (t : Shard) → shard_mark draining t ≡ shard_end kind.Reshard t
  asks t = rw put.under.going.1 refl

  -- each shard is ended
  pub drain-run : 1 ≤ c.capacity → ((k : ℕ) → k < n → (fates k).end ≡ Some kind.Reshard) → Reaches (AreUnsent fates) c w (IsOver c past epoch n fates placed draining)
  drain-run some ends = record { events = Of (event.Reshard m) ∷ ended.events; world = ended.world; is = ap (run_freely c ended.events) asked ∙ ended.is; holds = ended.holds; own = λ quiet. (tt, ended.own quiet) }
    where
      ended : Reaches (AreUnsent fates) c draining (IsOver c past epoch n fates placed draining)
      ended = end-all c past epoch n fates placed kind.Reshard ends draining put.under.going.0 asks some put.under.count put.under.parts
          (tallied-still c past epoch n placed put.under.parts w draining (Of (event.Reshard m) ∷ []) put.under.tallied asked refl refl) put.each

-- ---- the shards are over, and the next ones take over
module _ (c : Setup) (past next_past : Past) (pieces : List Piece) (epoch n m : ℕ) (first fates : ℕ → ShardFate) (placed : List Entry) (resolved : (k : ℕ) → k < n → IsResolvedFate (fates k)) (w : World) (put : IsAllPut c past pieces epoch n first placed w)
    (passes : Passes c past epoch n next_past (λ k. (fates k).worker.ledger.names) (λ k. (fates k).requests)) (over : World) (over-is : IsOver c past epoch n fates placed (record w { draining = Some m }) over) where
  abbrev pub next : World
  next = record over { epoch = suc over.epoch; shards = new_shards c (suc over.epoch) 0 m; draining = None }

  alive-still : over.killed ≡ false
  alive-still = ap (λ (x : World). x.killed) over-is.same ∙ put.under.going.0

  unclosed-still : over.closed ≡ None
  unclosed-still = ap (λ (x : World). x.closed) over-is.same ∙ put.under.going.1

  may_restart : (not (is_finished over) && all_drained over) ≡ true
  may_restart = and_from (not (is_finished over)) (all_drained over) (rw unclosed-still refl) (drained-all c epoch n fates over.requests over-is.parts over.shards over-is.count (lists-at c over over-is.tallied.reached) over-is.done resolved)

  pub restarts : happens c over event.Restart ≡ next
  restarts =
      ap (unless_over c over event.Restart) (over_not over alive-still unclosed-still)
      ∙ ap (restart_as c over) (ap (λ (x : World). x.draining) over-is.same)
      ∙ ap (λ (b : Bool). cond b next over) may_restart

  epoch-is : over.epoch ≡ epoch
  epoch-is = ap (λ (x : World). x.epoch) over-is.same ∙ put.under.epoch_is

  pub next-begins : BeginsEpoch c next_past pieces (suc epoch) m placed next
  next-begins = record {
    going = (alive-still, unclosed-still, refl);
    pieces_are = ap (λ (x : World). x.pieces) over-is.same ∙ put.under.pieces_are;
    epoch_is = ap suc epoch-is;
    shards = ap (λ (e : ℕ). new_shards c (suc e) 0 m) epoch-is;
    placed_are = ap (λ (x : World). x.placed) over-is.same ∙ put.under.placed;
    series = ap (λ (x : World). x.series) over-is.same ∙ put.under.series;
    counted = ap (λ (x : World). x.filtered) over-is.same ∙ put.under.counted;
    tallied = tallied-next c past epoch n next_past placed over-is.parts (λ k. (fates k).worker.ledger.names) (λ k. (fates k).requests) over next (Of event.Restart ∷ []) m over-is.tallied restarts refl refl
        (tallies-at epoch n fates over.requests over-is.parts over.shards over-is.count over-is.done) passes;
    unsent = λ k. later-requests past epoch n k over.requests over-is.tallied.owned;
  }

module _ (c : Setup) (past next_past : Past) (pieces : List Piece) (epoch n m : ℕ) (fates : ℕ → ShardFate) (placed : List Entry) (some : 1 ≤ c.capacity) (least : 1 ≤ m) (most : m ≤ 1000)
    (ends : (k : ℕ) → k < n → (fates k).end ≡ Some kind.Reshard) (resolved : (k : ℕ) → k < n → IsResolvedFate (fates k)) (w : World) (put : IsAllPut c past pieces epoch n fates placed w)
    (passes : Passes c past epoch n next_past (λ k. (fates k).worker.ledger.names) (λ k. (fates k).requests)) where
  closing : Reaches (AreUnsent fates) c w (IsOver c past epoch n fates placed (draining c past pieces epoch n m fates placed least most w put))
  closing = drain-run c past pieces epoch n m fates placed least most w put some ends

  pub reshard-run : Reaches ⊥ c w (BeginsEpoch c next_past pieces (suc epoch) m placed)
  reshard-run = record {
    events = closing.events ++ Of event.Restart ∷ [];
    world = next c past next_past pieces epoch n m fates fates placed resolved w put passes closing.world closing.holds;
    is = run-append c closing.events (Of event.Restart ∷ []) w ∙ ap (run_freely c (Of event.Restart ∷ [])) closing.is
        ∙ restarts c past next_past pieces epoch n m fates fates placed resolved w put passes closing.world closing.holds;
    holds = next-begins c past next_past pieces epoch n m fates fates placed resolved w put passes closing.world closing.holds;
    own = λ no. absurd no;
  }
