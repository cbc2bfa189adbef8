-- The shards of the last epoch are ended in order, once the whole log is placed.
use Rattle.std.proofs.Common.{◌≡◌, ℕ, suc, ◌<◌, ◌≤◌, ◌==◌, Bool, true, cond, List, [], ◌∷◌, length, Some, is_some, refl, sym, ap, ◌∙◌}
use Rattle.std.specs.List.{list_all}
use Rattle.std.specs.FinMap.{empty}
use Rattle.std.proofs.lemmas.Bool.{eq-eqb}
use Rattle.rw_types.specs.declared.entry.Entry.{Entry}
use Rattle.rw_wal_format.specs.Pieces.{Piece, entries, fault}
use Rattle.rw_plain_queue.specs.declared.item.Kind.TheVariants as kind
use Rattle.rw_machine.specs.Shards.{Shard, is_drained, shard_end, shard_flush}
use Rattle.rw_machine.specs.Worlds.{Setup, World, log, ended_as, report}
use Rattle.rw_machine.specs.Steps.{happens, shard_mark, unless_over}
use Rattle.rw_machine.specs.declared.event.Event.TheVariants as event
use Rattle.rw_simulation.specs.Freely.{Of, run_freely}
use Rattle.rw_simulation.specs.Tallies.{Past, IsTallied}
use Rattle.rw_simulation.specs.EpochRuns.{ShardFate, AreUnsent, IsAllPut, Reaches}
use Rattle.rw_simulation.proofs.EntryRuns.{over_not}
use Rattle.rw_simulation.proofs.EndRuns.{IsResolvedFate, IsOver, end-all, tallies-at, drained-all}
use Rattle.rw_simulation.proofs.Tallies.{Passes, lists-at, tallied-still, tallied-next}

-- all that was placed is resolved
pub record HasEnded (c : Setup) (pieces : List Piece) (epoch : ℕ) (placed : List Entry) (past : Past) (w : World) : Type 0 where
  pub drained : list_all is_drained w.shards ≡ true
  pub reported : report w ≡ Some (ended_as (fault pieces) (length placed))
  pub tallied : IsTallied c past (suc epoch) 0 placed (λ k. empty) w
  pub pieces_are : w.pieces ≡ pieces
  pub placed_are : w.placed ≡ length placed

module _ (c : Setup) (past : Past) (pieces : List Piece) (epoch n : ℕ) (first : ℕ → ShardFate) (placed : List Entry) (whole : entries pieces ≡ placed) (put : World) (is : IsAllPut c past pieces epoch n first placed put) where
  abbrev pub closed : World
  closed = record put { closed = Some (length (log put)) }

  closes : happens c put event.Close ≡ closed
  closes = ap (unless_over c put event.Close) (over_not put is.under.going.0 is.under.going.1) ∙ rw is.under.going.1 refl

  all-placed : (put.placed == length (log put)) ≡ true
  all-placed = eq-eqb put.placed (length (log put)) (is.under.placed ∙ ap length (sym whole) ∙ ap (λ (ps : List Piece). length (entries ps)) (sym is.under.pieces_are))

  asks : (t : Shard) → shard_mark closed t ≡ shard_end kind.Orderly t
  asks t = ap (λ (b : Bool). cond b (shard_end kind.Orderly t) (cond (is_some put.draining) (shard_end kind.Reshard t) (shard_flush t))) all-placed

  pub orderly-run : 1 ≤ c.capacity → ((k : ℕ) → k < n → (first k).end ≡ Some kind.Orderly) → Reaches (AreUnsent first) c put (IsOver c past epoch n first placed closed)
  orderly-run room ends = record { events = Of event.Close ∷ ended.events; world = ended.world; is = ap (run_freely c ended.events) closes ∙ ended.is; holds = ended.holds; own = λ quiet. (tt, ended.own quiet) }
    where
      ended : Reaches (AreUnsent first) c closed (IsOver c past epoch n first placed closed)
      ended = end-all c past epoch n first placed kind.Orderly ends closed is.under.going.0 asks room is.under.count is.under.parts
          (tallied-still c past epoch n placed is.under.parts put closed (Of event.Close ∷ []) is.under.tallied closes refl refl) is.each

  -- the shards have come to these fates
  pub has-ended : (next_past : Past) (fates : ℕ → ShardFate) → ((k : ℕ) → k < n → IsResolvedFate (fates k)) → Passes c past epoch n next_past (λ k. (fates k).worker.ledger.names) (λ k. (fates k).requests) → (over : World) → IsOver c past epoch n fates placed closed over
      → HasEnded c pieces epoch placed next_past over
  has-ended next_past fates resolved passes over at = record {
    drained = drained;
    reported = ap report at.same ∙ rw (is.under.going.0, all-placed, drained) refl
        ∙ ap Some (ap (λ (ps : List Piece). ended_as (fault ps) put.placed) is.under.pieces_are ∙ ap (λ (i : ℕ). ended_as (fault pieces) i) is.under.placed);
    tallied = tallied-next c past epoch n next_past placed at.parts (λ k. (fates k).worker.ledger.names) (λ k. (fates k).requests) over over [] 0 at.tallied refl refl refl
        (tallies-at epoch n fates over.requests at.parts over.shards at.count at.done) passes;
    pieces_are = ap (λ (x : World). x.pieces) at.same ∙ is.under.pieces_are;
    placed_are = ap (λ (x : World). x.placed) at.same ∙ is.under.placed;
  }
    where
      drained : list_all is_drained over.shards ≡ true
      drained = drained-all c epoch n fates over.requests at.parts over.shards at.count (lists-at c over at.tallied.reached) at.done resolved
