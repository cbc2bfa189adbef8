-- A shard that has stopped is a shard of the machine.
use Rattle.std.proofs.Common.{◌≡◌, ℕ, ◌≤◌, true, List, [], ◌∷◌, Result, Ok, Err, refl, sym, ◌∙◌, subst, append-nil, append_assoc, arith, length, length-append, ◌++◌, ◌+◌, ap}
use Rattle.rw_retry.specs.Judgements.{judgement_of}
use Rattle.rw_retry.specs.declared.judgement.Judgement.{Judgement}
use Rattle.rw_retry.specs.declared.judgement.Judgement.TheVariants.{Done, Again, Refused}
use Rattle.rw_plain_queue.specs.Items.{Placed, samples_in}
use Rattle.rw_plain_queue.specs.History.{IsHistory}
use Rattle.rw_plain_queue.specs.declared.item.Item.{Item}
use Rattle.rw_plain_queue.specs.declared.item.Item.TheVariants.{Sample, Flush, End}
use Rattle.rw_shard_core.specs.Shard.{Core, settle}
use Rattle.rw_worker.specs.declared.transport.Reply.{Reply}
use Rattle.rw_worker.specs.declared.transport.Lost.{Lost}
use Rattle.rw_worker.specs.Setups.{start_of}
use Rattle.rw_worker.specs.Steps.{Working, Step, Takes, Freezes, Sends, Waits, AreSteps, after, after_step, items_of}
use Rattle.rw_worker.specs.Transcript.{Exchange}
use Rattle.rw_fleet.specs.declared.joined.StoppedShard.{StoppedShard}
use Rattle.rw_fleet.specs.Work.{IsWorked, is_compared, lane_of, put_of, taken_of}
use Rattle.rw_machine.specs.Worlds.{Setup}
use Rattle.rw_restarts.proofs.shared.EndLemmas.{same_items}
use Rattle.rw_simulation.specs.FleetRuns.{IsShardRun}
use Rattle.rw_simulation.specs.StoppedShards.{IsShardOf, StopsAsShard}
use Rattle.rw_simulation.proofs.WorkerSteps.{sent_core}
use Rattle.rw_simulation.proofs.WorkerLists.{answered_core, core_after, after-is}

-- ---- what a worker has taken
taken_settle : (j : Judgement) (c : Core) → (settle j (sent_core c)).taken ≡ c.taken
taken_settle Done c = refl
taken_settle Again c = refl
taken_settle Refused c = refl

taken_answered : (a : Result Reply Lost) (c : Core) → (answered_core a c).taken ≡ c.taken
taken_answered (Ok r) c = taken_settle (judgement_of r.status) c
taken_answered (Err lost) c = refl

taken-step : (s : Step) (c : Core) → (core_after s c).taken ≡ c.taken ++ samples_in (items_of (s ∷ []))
taken-step (Takes (Sample place t word labels)) c = refl
taken-step (Takes Flush) c = sym (append-nil c.taken)
taken-step (Takes (End kind)) c = sym (append-nil c.taken)
taken-step Freezes c = sym (append-nil c.taken)
taken-step (Sends e) c = taken_answered e.answer c ∙ sym (append-nil c.taken)
taken-step Waits c = sym (append-nil c.taken)

samples-cons : (s : Step) (ss : List Step) → samples_in (items_of (s ∷ [])) ++ samples_in (items_of ss) ≡ samples_in (items_of (s ∷ ss))
samples-cons (Takes (Sample place t word labels)) ss = refl
samples-cons (Takes Flush) ss = refl
samples-cons (Takes (End kind)) ss = refl
samples-cons Freezes ss = refl
samples-cons (Sends e) ss = refl
samples-cons Waits ss = refl

taken-after : (w : Working) (ss : List Step) → AreSteps w ss → (after w ss).core.taken ≡ w.core.taken ++ samples_in (items_of ss)
taken-after w [] h = sym (append-nil w.core.taken)
taken-after w (s ∷ ss) h =
    taken-after (after_step s w) ss h.1
    ∙ ap (λ (xs : List Placed). xs ++ samples_in (items_of ss)) (ap (λ (k : Core). k.taken) (after-is s w.core w.ledger h.0) ∙ taken-step s w.core)
    ∙ append_assoc w.core.taken (samples_in (items_of (s ∷ []))) (samples_in (items_of ss))
    ∙ ap (λ (xs : List Placed). w.core.taken ++ xs) (samples-cons s ss)

pub has-taken : {T : Type 0} (tells : T → Type 0) (seen : T → List Exchange) (is_for : ℕ → ℕ → T → Type 0) (j : StoppedShard T) (h : IsWorked tells seen is_for j) → (after (start_of j.worker.value) h.report.steps).core.taken ≡ samples_in (taken_of j.finished.ends)
has-taken tells seen is_for j h = taken-after (start_of j.worker.value) h.report.steps h.report.made.allowed ∙ ap samples_in (h.report.made.items ∙ sym h.taken)

rest_within : (put taken rest : ℕ) (capacity n : ℕ) → put ≡ taken + rest → put ≤ taken + capacity → capacity ≡ n → rest ≤ n
rest_within put taken rest capacity n sum most same = omega arith

module _ {T : Type 0} (tells : T → Type 0) (seen : T → List Exchange) (is_for : ℕ → ℕ → T → Type 0) (j : StoppedShard T) (c : Setup) (epoch k : ℕ) (h : IsWorked tells seen is_for j) (own : IsShardOf c epoch k j) where
  -- these items were left
  with_rest : (rest : List Item) → put_of j.finished.ends ≡ taken_of j.finished.ends ++ rest → IsShardRun c epoch k (lane_of j) h.report.steps rest
  with_rest rest is = record {
    target = own.target;
    batch = own.batch;
    epoch_is = own.epoch_is;
    shard_is = own.shard_is;
    history = subst (λ (m : ℕ). IsHistory m k (put_of j.finished.ends)) own.epoch_is
        (subst (λ (m : ℕ). IsHistory j.worker.value.queue.epoch m (put_of j.finished.ends)) own.shard_is h.history);
    allowed = h.report.made.allowed;
    split = is ∙ ap (λ (xs : List Item). xs ++ rest) (h.taken ∙ sym h.report.made.items);
    within = rest_within (length (put_of j.finished.ends)) (length (taken_of j.finished.ends)) (length rest) j.worker.value.queue.capacity c.capacity
        (ap length is ∙ length-append (taken_of j.finished.ends) rest) h.within own.capacity;
  }

  -- nothing is left if the ends were compared
  pub compared-is-run : is_compared j.finished.ends ≡ true → IsShardRun c epoch k (lane_of j) h.report.steps []
  compared-is-run compared = with_rest [] (same_items j.finished.ends compared ∙ sym (append-nil (taken_of j.finished.ends)))

  pub with-what-is-left : IsShardRun c epoch k (lane_of j) h.report.steps h.begins.0
  with-what-is-left = with_rest h.begins.0 h.begins.1

pub stops-as-shard : {T : Type 0} (tells : T → Type 0) (seen : T → List Exchange) (is_for : ℕ → ℕ → T → Type 0) (j : StoppedShard T) → StopsAsShard tells seen is_for j
stops-as-shard tells seen is_for j c epoch k h own = record {
  steps = h.report.steps;
  rest = h.begins.0;
  run = with-what-is-left tells seen is_for j c epoch k h own;
  part = h.report.names;
}
