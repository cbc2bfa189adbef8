use Rattle.std.proofs.Common.{◌≡◌, ℕ, List, ◌<◌, None, false, length, ap, sym, subst, ◌∙◌, rules, arith}
use Rattle.rw_batch.specs.Batches.{Building, Frozen, batch_of}
use Rattle.rw_batch.specs.Grouping.{message}
use Rattle.rw_write_request.specs.Spells.{Spells}
use Rattle.rw_plain_queue.specs.Items.{samples_in}
use Rattle.rw_shard_core.proofs.shared.KeptLemmas.{kept_freeze, freezes, core_frozen, room_frozen, all_pending}
use Rattle.rw_shard_core.proofs.shard.ShardCore.freeze.Goals.{in-Some-1, in-None-3}
use Rattle.rw_shard_core.proofs.shard.ShardCore.freeze.Goals as goal

pub invariant_of-self : goal.invariant_of-self
invariant_of-self c =
    let s = c.self.inside in
    kept_freeze s.target s.epoch s.shard s.full s.builder c.replace.new.dest s.current c.in-Ok.batch c.in_ok-request.field-0.request s.last (samples_in s.taken) (samples_in s.resolved) (samples_in s.pending)
    c.self.invariant (search rules) (search rules) (c.replace.ensures.after ∙ c.in_ok-next.ensures) (c.in-Ok.ensures.batch ∙ ap batch_of c.replace.ensures.value)
    (subst (λ (bytes : List ℕ). Spells bytes (message s.builder.samples)) (c.in_ok-request.ensures.body ∙ sym (ap (λ (f : Frozen). f.body) (c.in-Ok.ensures.batch ∙ ap batch_of c.replace.ensures.value))) c.in_ok-request.ensures.spells)
    c.in_ok-request.ensures.request

pub returns-in-Ok-clause-done : goal.returns-in-Ok-clause-done
returns-in-Ok-clause-done c =
    let s = c.self.inside in
    let none : s.current ≡ None = search rules in
    let alive : s.killed ≡ false = search rules in
    let waiting : length s.builder.samples ≡ length (samples_in s.pending) =
    all_pending s.target s.epoch s.shard s.full s.builder s.current s.last (samples_in s.taken) (samples_in s.resolved) (samples_in s.pending) c.self.invariant none in
    let held : 0 < length s.builder.samples = search rules in
    let some : 0 < length (samples_in s.pending) = omega (arith, waiting, held) in
    rw (← c.self.view_is) (sym (freezes s.target s.epoch s.shard s.full (samples_in s.taken) (samples_in s.resolved) (samples_in s.pending) s.current s.marked s.ended s.killed none alive some))

pub returns-in-Ok-clause-core : goal.returns-in-Ok-clause-core
returns-in-Ok-clause-core c =
    let s = c.self.inside in
    let none : s.current ≡ None = search rules in
    let alive : s.killed ≡ false = search rules in
    let waiting : length s.builder.samples ≡ length (samples_in s.pending) =
    all_pending s.target s.epoch s.shard s.full s.builder s.current s.last (samples_in s.taken) (samples_in s.resolved) (samples_in s.pending) c.self.invariant none in
    let held : 0 < length s.builder.samples = search rules in
    let some : 0 < length (samples_in s.pending) = omega (arith, waiting, held) in
    rw (← c.self.view_is)
    (core_frozen s.target s.epoch s.shard s.full (samples_in s.taken) (samples_in s.resolved) (samples_in s.pending) s.current s.marked s.ended s.killed c.in-Ok.batch c.in_ok-request.field-0.request none alive some)

pub returns-in-Ok-clause-ledger : goal.returns-in-Ok-clause-ledger
returns-in-Ok-clause-ledger c =
    let s = c.self.inside in
    let none : s.current ≡ None = search rules in
    let alive : s.killed ≡ false = search rules in
    let waiting : length s.builder.samples ≡ length (samples_in s.pending) =
    all_pending s.target s.epoch s.shard s.full s.builder s.current s.last (samples_in s.taken) (samples_in s.resolved) (samples_in s.pending) c.self.invariant none in
    let held : 0 < length s.builder.samples = search rules in
    let some : 0 < length (samples_in s.pending) = omega (arith, waiting, held) in
    rw (← c.self.view_is)
    (room_frozen s.target s.epoch s.shard s.full (samples_in s.taken) (samples_in s.resolved) (samples_in s.pending) s.current s.marked s.ended s.killed c.args.ledger.now c.freeze_with.new.ledger (length c.replace.result.samples)
    none alive some (ap (λ (b : Building). length b.samples) c.replace.ensures.value ∙ waiting) c.in-Ok.ensures.names c.in-Ok.ensures.room)

pub returns-in-Err-clause-err : goal.returns-in-Err-clause-err
returns-in-Err-clause-err c = elim c.match-request.branch [ in-Some-1 w ↦ w.self-is ∙ c.self.view_is | in-None-3 w ↦ w.self-is ∙ c.self.view_is ]
