use Rattle.std.proofs.Common.{◌≡◌, ℕ, rules, refl, sym, ap, ◌∙◌, subst}
use Rattle.rw_shard_queue.specs.Ends.{QueueId}
use Rattle.rw_worker.specs.Setups.{WorkerSetup}
use Rattle.rw_fleet.specs.inner.Positions.{Positions}
use Rattle.rw_fleet.specs.Work.{positions_in}
use Rattle.rw_fleet.proofs.SoftLemmas.{unended_nil}
use Rattle.rw_fleet.proofs.running_shard.RunningShard.open.Goals as goal

made_for : {T : Type 0} (is_for : ℕ → ℕ → T → Type 0) (epoch shard : ℕ) (q : QueueId) (asked begun : T) → is_for epoch shard asked → q.epoch ≡ epoch → q.shard ≡ shard → begun ≡ asked → is_for q.epoch q.shard begun
made_for is_for epoch shard q asked begun made e s same =
    subst (λ x. is_for q.epoch q.shard x) (sym same) (subst (λ n. is_for q.epoch n asked) (sym s) (subst (λ n. is_for n shard asked) (sym e) made))

pub invariant_of-result : goal.invariant_of-result
invariant_of-result g c =
    let queue = c.in_ok-feed.ensures in
    let window = c.in_ok-window.ensures in
    let begun = c.of-begun.ensures in
    let handle = c.in_ok-handle.ensures in
    let capacity = ap (λ (s : WorkerSetup). s.queue.capacity) begun ∙ ap (λ (q : QueueId). q.capacity) (c.in-Ok.ensures.queue ∙ sym queue.same) ∙ queue.most in
    let batch = ap (λ (s : WorkerSetup). s.batch) begun ∙ c.in-Ok.ensures.batch ∙ search rules in
    let same = ap (λ (s : WorkerSetup). s.queue) begun ∙ c.in-Ok.ensures.queue ∙ sym queue.same in (
      ap (λ (p : Positions). p.all) window ∙ sym (ap positions_in queue.empty.0),
      sym queue.queue.0,
      sym queue.queue.1,
      same,
      handle.worker ∙ sym begun,
      ap g.T.Transport.seen handle.transport ∙ c.requires.unused,
      unended_nil _ queue.empty.0,
      ap (λ (p : Positions). p.most) window ∙ rw (capacity, batch) refl,
      made_for g.T.Transport.is_for _ _ c.of-begun.result.value.queue _ _ c.requires.made (ap (λ (q : QueueId). q.epoch) same ∙ queue.queue.0) (ap (λ (q : QueueId). q.shard) same ∙ queue.queue.1) handle.transport,
    )
