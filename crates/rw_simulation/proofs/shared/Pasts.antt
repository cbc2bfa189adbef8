-- What is known of the epochs that are over, by the shards that were joined.
use Rattle.std.proofs.Common.{◌≡◌, ◌⊎◌, inl, inr, ℕ, zero, suc, ◌<◌, List, [], ◌∷◌, ◌++◌, length, map, Some, slice_get, refl, sym, ap, ◌∙◌, subst, arith}
use Rattle.std.specs.FinMap.{empty, get}
use Rattle.std.proofs.lemmas.Option.{same_Some, none-some, slice_get_within}
use Rattle.rw_types.proofs.shared.AllLemmas.{AllByRecursion-weaker}
use Rattle.rw_relabel.specs.declared.choice.Choice.{Choice}
use Rattle.rw_ledger.specs.declared.ledger.Reason.{Reason}
use Rattle.rw_ledger.specs.Names.{Named}
use Rattle.rw_worker.specs.Transcript.{Exchange}
use Rattle.rw_worker.specs.Steps.{exchanges_of}
use Rattle.rw_fleet.specs.Work.{IsWorked, AreWorked, finished_of, queue_of_ends}
use Rattle.rw_fleet.specs.declared.joined.StoppedShard.{StoppedShard}
use Rattle.rw_fleet.specs.declared.joined.Finished.{Finished}
use Rattle.rw_sender.specs.Logs.{named, dropped}
use Rattle.rw_sender.specs.Reports.{part_of, parts_of, workers_of}
use Rattle.rw_sender.specs.Shipping.{Shipping, HasStopped}
use Rattle.rw_sender.specs.declared.report.Report.{Report}
use Rattle.rw_machine.specs.Worlds.{Setup, Request, World}
use Rattle.rw_machine.proofs.shared.Places.{get_some}
use Rattle.rw_restarts.specs.Listed.{IsNamedIn}
use Rattle.rw_restarts.proofs.shared.ListLemmas.{get-first, get-second, get-either, get_map, map_get}
use Rattle.rw_simulation.specs.WorkerRuns.{sent_bytes, request_in}
use Rattle.rw_simulation.specs.Tallies.{Past, requests_of, IsNamedSo, IsOwned, IsTallied}
use Rattle.rw_simulation.specs.EpochRuns.{ShardFate}
use Rattle.rw_simulation.specs.StoppedRuns.{NamesAll, IsOfOne, SendsAll}
use Rattle.rw_simulation.proofs.Tallies.{Names, Passes}

module _ {T : Type 0} (tells : T → Type 0) (seen : T → List Exchange) where
  -- one of these shards is of this epoch, and has this number
  pub record IsAmong (js : List (StoppedShard T)) (e k : ℕ) (j : StoppedShard T) : Type 0 where
    pub i : ℕ
    pub at : slice_get js i ≡ Some j
    pub epoch_is : j.worker.value.queue.epoch ≡ e
    pub shard_is : j.worker.value.queue.shard ≡ k

  -- their names, what their transports recorded, and which they are
  abbrev pub past_of : List (StoppedShard T) → Past
  past_of js = record {
    named = λ p reason. (i : ℕ) × (j : StoppedShard T) × (slice_get js i ≡ Some j) × (get j.part.names p ≡ Some reason);
    sent = λ e k bytes. (j : StoppedShard T) × IsAmong js e k j × tells j.finished.transport × (bytes ≡ map request_in (seen j.finished.transport));
    has = λ e k. (j : StoppedShard T) × IsAmong js e k j;
  }

  -- the shard's fate is what it reports
  pub record ReportsAt (epoch k : ℕ) (f : ShardFate) (j : StoppedShard T) : Type 0 where
    pub epoch_is : j.worker.value.queue.epoch ≡ epoch
    pub shard_is : j.worker.value.queue.shard ≡ k
    pub part_is : f.worker.ledger.names ≡ j.part.names
    pub sent_is : tells j.finished.transport → f.requests ≡ map request_in (seen j.finished.transport)

  -- an epoch more is over
  pub passes-of : (c : Setup) (epoch n : ℕ) (done js : List (StoppedShard T)) (fates : ℕ → ShardFate) → length js ≡ n → ((k : ℕ) (j : StoppedShard T) → slice_get js k ≡ Some j → ReportsAt epoch k (fates k) j)
      → Passes c (past_of done) epoch n (past_of (done ++ js)) (λ k. (fates k).worker.ledger.names) (λ k. (fates k).requests)
  passes-of c epoch n done js fates count reports = record { named = named_so; names = names_so; sends = sends_so; had = had_so; has = has_so }
    where
      found : (k : ℕ) → k < n → (j : StoppedShard T) × (slice_get js k ≡ Some j)
      found k lt = get_some js k (subst (λ (m : ℕ). k < m) (sym count) lt)

      within : (k : ℕ) (j : StoppedShard T) → slice_get js k ≡ Some j → k < n
      within k j e = subst (λ (m : ℕ). k < m) count (slice_get_within js k j e)

      named_so : (p : ℕ) (reason : Reason) → (past_of done).named p reason ⊎ ((k : ℕ) × (k < n) × (get (fates k).worker.ledger.names p ≡ Some reason)) → (past_of (done ++ js)).named p reason
      named_so p reason (inl (i, j, e, h)) = (i, j, get-first done js i j e, h)
      named_so p reason (inr (k, lt, h)) = let g = found k lt in let at = get-second done js k g.0 g.1 in (at.0, g.0, at.1, ap (λ (m : Names). get m p) (sym (reports k g.0 g.1).part_is) ∙ h)

      names_so : (p : ℕ) (reason : Reason) → (past_of (done ++ js)).named p reason → (past_of done).named p reason ⊎ ((k : ℕ) × (k < n) × (get (fates k).worker.ledger.names p ≡ Some reason))
      names_so p reason (i, j, e, h) = by_place (get-either done js i j e)
        where
          by_place : (slice_get done i ≡ Some j) ⊎ ((k : ℕ) × (slice_get js k ≡ Some j)) → (past_of done).named p reason ⊎ ((k : ℕ) × (k < n) × (get (fates k).worker.ledger.names p ≡ Some reason))
          by_place (inl at) = inl (i, j, at, h)
          by_place (inr (k, at)) = inr (k, within k j at, ap (λ (m : Names). get m p) (reports k j at).part_is ∙ h)

      sends_so : (e k : ℕ) (bytes : List (List ℕ)) → (past_of (done ++ js)).sent e k bytes → (past_of done).sent e k bytes ⊎ ((e ≡ epoch) × (k < n) × (bytes ≡ (fates k).requests))
      sends_so e k bytes (j, a, t, h) = by_place (get-either done js a.i j a.at)
        where
          by_place : (slice_get done a.i ≡ Some j) ⊎ ((m : ℕ) × (slice_get js m ≡ Some j)) → (past_of done).sent e k bytes ⊎ ((e ≡ epoch) × (k < n) × (bytes ≡ (fates k).requests))
          by_place (inl at) = inl (j, record { i = a.i; at = at; epoch_is = a.epoch_is; shard_is = a.shard_is }, t, h)
          by_place (inr (m, at)) =
              let r = reports m j at in
              let same : k ≡ m = sym a.shard_is ∙ r.shard_is in
              inr (sym a.epoch_is ∙ r.epoch_is, subst (λ (i : ℕ). i < n) (sym same) (within m j at), h ∙ sym (r.sent_is t) ∙ ap (λ (i : ℕ). (fates i).requests) (sym same))

      had_so : (e k : ℕ) → (past_of done).has e k → (past_of (done ++ js)).has e k
      had_so e k (j, a) = (j, record { i = a.i; at = get-first done js a.i j a.at; epoch_is = a.epoch_is; shard_is = a.shard_is })

      has_so : (k : ℕ) → k < n → (past_of (done ++ js)).has epoch k
      has_so k lt = let g = found k lt in let r = reports k g.0 g.1 in let at = get-second done js k g.0 g.1 in (g.0, record { i = at.0; at = at.1; epoch_is = r.epoch_is; shard_is = r.shard_is })

  module _ (is_for : ℕ → ℕ → T → Type 0) where
    -- what a worker's transport recorded are the exchanges of its steps
    pub seen-is : (j : StoppedShard T) (h : IsWorked tells seen is_for j) → tells j.finished.transport → seen j.finished.transport ≡ exchanges_of h.report.steps
    seen-is j h t = (h.report.made.adds t).1 ∙ ap (λ (es : List Exchange). es ++ exchanges_of h.report.steps) h.none

    pub worked-at : (js : List (StoppedShard T)) → AreWorked tells seen is_for js → (i : ℕ) (j : StoppedShard T) → slice_get js i ≡ Some j → IsWorked tells seen is_for j
    worked-at [] h i j e = absurd (none-some j e)
    worked-at (x ∷ xs) h zero j e = subst (IsWorked tells seen is_for) (same_Some _ _ e) h.0
    worked-at (x ∷ xs) h (suc i) j e = worked-at xs h.1 i j e

    -- ---- all of them
    module _ (c : Setup) (s : Shipping T) (r : Report T) (h : HasStopped tells seen is_for s r) (choice : c.choice ≡ s.log.choice) (epoch : ℕ) (w : World) (t : IsTallied c (past_of h.joined) epoch 0 s.log.placed (λ k. empty) w) where
      own_names : h.own.names ≡ named (dropped c.choice s.log.placed)
      own_names = h.names ∙ ap (λ (ch : Choice). named (dropped ch s.log.placed)) (sym choice)

      no_shard : {X : Type 0} (k : ℕ) → k < 0 → X
      no_shard k lt = absurd (omega arith)

      in_parts : (p : ℕ) (reason : Reason) → IsNamedSo c (past_of h.joined) 0 s.log.placed (λ k. empty) p reason → IsNamedIn (h.own ∷ map part_of h.joined) p reason
      in_parts p reason (inl own) = (0, h.own, refl, ap (λ (m : Names). get m p) own_names ∙ own)
      in_parts p reason (inr (inl (i, j, e, named_so))) = (suc i, j.part, get_map part_of h.joined i j e, named_so)
      in_parts p reason (inr (inr (k, lt, e))) = no_shard k lt

      of_parts : (p : ℕ) (reason : Reason) → IsNamedIn (h.own ∷ map part_of h.joined) p reason → IsNamedSo c (past_of h.joined) 0 s.log.placed (λ k. empty) p reason
      of_parts p reason (zero, part, e, named_so) = inl (ap (λ (m : Names). get m p) (sym own_names) ∙ ap (λ (n : Named). get n.names p) (same_Some _ _ e) ∙ named_so)
      of_parts p reason (suc i, part, e, named_so) = let g = map_get part_of h.joined i part e in inr (inl (i, g.0, g.1, ap (λ (n : Named). get n.names p) g.2 ∙ named_so))

      pub names-all : NamesAll w.names (parts_of r)
      names-all = subst (NamesAll w.names) (sym h.parts) (λ p reason. (λ e. in_parts p reason (t.named p reason e), λ n. t.names p reason (of_parts p reason n)))

      queue-at : (j : StoppedShard T) (i : ℕ) → slice_get h.joined i ≡ Some j → queue_of_ends j.finished.ends ≡ j.worker.value.queue
      queue-at j i e = (worked-at h.joined h.worked i j e).queue

      sends-each : (k : ℕ) (f : Finished T) → slice_get (map finished_of h.joined) k ≡ Some f → tells f.transport → map sent_bytes (requests_of (queue_of_ends f.ends).epoch (queue_of_ends f.ends).shard w.requests) ≡ map request_in (seen f.transport)
      sends-each k f e told = let g = map_get finished_of h.joined k f e in
          subst (λ (x : Finished T). tells x.transport → map sent_bytes (requests_of (queue_of_ends x.ends).epoch (queue_of_ends x.ends).shard w.requests) ≡ map request_in (seen x.transport)) g.2
          (λ tells_so. ap (λ q. map sent_bytes (requests_of q.epoch q.shard w.requests)) (queue-at g.0 k g.1)
          ∙ (t.sent g.0.worker.value.queue.epoch g.0.worker.value.queue.shard (map request_in (seen g.0.finished.transport)) (g.0, record { i = k; at = g.1; epoch_is = refl; shard_is = refl }, tells_so, refl)).1) told

      one-of : (q : Request) → IsOwned (past_of h.joined) epoch 0 q → IsOfOne (map finished_of h.joined) q
      one-of q (inl (lt, h')) = let j = h'.0 in let a = h'.1 in (a.i, j.finished, get_map finished_of h.joined a.i j a.at, sym (ap (λ x. x.epoch) (queue-at j a.i a.at) ∙ a.epoch_is), sym (ap (λ x. x.shard) (queue-at j a.i a.at) ∙ a.shard_is))
      one-of q (inr (same, lt)) = no_shard q.id.shard lt

      pub sends-all : SendsAll tells seen w.requests (workers_of r)
      sends-all = subst (SendsAll tells seen w.requests) (sym h.workers) (record { each = sends-each; owned = AllByRecursion-weaker (IsOwned (past_of h.joined) epoch 0) (IsOfOne (map finished_of h.joined)) one-of w.requests t.owned })
