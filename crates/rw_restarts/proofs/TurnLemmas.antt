-- The requests of a worker go through its samples in order.
use Rattle.std.proofs.Common.{◌≡◌, Bool, true, false, not, ◌&&◌, ◌==◌, cond, List, [], ◌∷◌, ◌++◌, append-nil, append_assoc, Result, Ok, Err, refl, sym, ap, ◌∙◌, subst}
use Rattle.std.proofs.lemmas.Bool.{and_from, and_parts, cond-true, not-true}
use Rattle.std.proofs.lemmas.List.{append_cancel_left}
use Rattle.std.proofs.lemmas.Bool.Decides.{Decides-eqb}
use Rattle.rw_retry.specs.Judgements.{judgement_of}
use Rattle.rw_retry.specs.declared.judgement.Judgement.{Judgement}
use Rattle.rw_retry.specs.declared.judgement.Judgement.TheVariants.{Done, Again, Refused}
use Rattle.rw_plain_queue.specs.Items.{Placed, samples_in}
use Rattle.rw_plain_queue.specs.declared.item.Item.TheVariants.{Sample, Flush, End}
use Rattle.rw_batch.specs.declared.batch.BatchId.{BatchId}
use Rattle.rw_shard_core.specs.Shard.{Core, is_empty, pending, batch_id, same_id, can_freeze, freeze, can_send, send, awaits, lose, again, resolve, settle, is_answer, reply, placed}
use Rattle.rw_shard_core.proofs.shared.EmptyLemmas.{nil_from_empty}
use Rattle.rw_worker.specs.declared.transport.Reply.{Reply}
use Rattle.rw_worker.specs.declared.transport.Lost.{Lost}
use Rattle.rw_worker.specs.Setups.{WorkerSetup, start_of}
use Rattle.rw_worker.specs.Steps.{Working, Step, Takes, Freezes, Sends, Waits, AreSteps, after, after_step, after_attempt, items_of, exchanges_of}
use Rattle.rw_worker.specs.Transcript.{is_again, is_again_by}
use Rattle.rw_restarts.specs.Workers.{SendInOrder, WorkerSendsInOrder}

pub same_id_own : (d : BatchId) → same_id d d ≡ true
same_id_own d = and_from (d.epoch == d.epoch && d.shard == d.shard) (d.seq == d.seq) (and_from (d.epoch == d.epoch) (d.shard == d.shard) ((Decides-eqb d.epoch d.epoch).1 refl) ((Decides-eqb d.shard d.shard).1 refl)) ((Decides-eqb d.seq d.seq).1 refl)

-- what is still to come: the open batch, the builder, and what is yet taken
abbrev pub to_come : Core → List Step → List Placed
to_come c ss = c.batch ++ (c.builder ++ samples_in (items_of ss))

abbrev Goes : Core → List Step → List Placed → Type 0
Goes c ss last = SendInOrder c.target (to_come c ss) (exchanges_of ss) last

-- ---- an attempt
abbrev pub sent : Core → Core
sent c = record c { waiting = true }

pub sends : (c : Core) → can_send c ≡ true → send c ≡ sent c
sends c h = cond-true (can_send c) (sent c) c h

is_open : (c : Core) → can_send c ≡ true → (not c.killed ≡ true) × (not (is_empty c.batch) ≡ true)
is_open c h =
    let first = and_parts (not c.killed) (not (is_empty c.batch) && not c.waiting) h in
    (first.0, (and_parts (not (is_empty c.batch)) (not c.waiting) first.1).0)

pub waits : (c : Core) → can_send c ≡ true → awaits (sent c) ≡ true
waits c h = and_from (not c.killed) (not (is_empty c.batch) && true) (is_open c h).0 (and_from (not (is_empty c.batch)) true (is_open c h).1 refl)

-- what a core comes to by an answer
abbrev pub after_answer : Bool → Core → Core
after_answer b c = cond b (again (sent c)) (resolve (sent c))

settles : (j : Judgement) (c : Core) → settle j (sent c) ≡ after_answer (is_again_by j) c
settles Done c = refl
settles Again c = refl
settles Refused c = refl

pub answers : (answer : Result Reply Lost) (w : Working) → can_send w.core ≡ true → (after_attempt answer (record w { core = send w.core })).core ≡ after_answer (is_again answer) w.core
answers (Ok r) w h =
    ap (λ (k : Core). reply (batch_id k.batch) r.status k) (sends w.core h)
    ∙ cond-true (is_answer (batch_id w.core.batch) (sent w.core)) (settle (judgement_of r.status) (sent w.core)) (sent w.core)
    (and_from (awaits (sent w.core)) (same_id (batch_id w.core.batch) (batch_id w.core.batch)) (waits w.core h) (same_id_own (batch_id w.core.batch)))
    ∙ settles (judgement_of r.status) w.core
answers (Err lost) w h = ap lose (sends w.core h) ∙ cond-true (awaits (sent w.core)) (again (sent w.core)) (sent w.core) (waits w.core h)

by_again : (b : Bool) (c : Core) (ss : List Step) (last : List Placed) → Goes (after_answer b c) ss last
    → SendInOrder c.target (cond b (to_come c ss) (c.builder ++ samples_in (items_of ss))) (exchanges_of ss) last
by_again true c ss last h = h
by_again false c ss last h = h

-- ---- a builder is frozen
abbrev pub frozen : Core → Core
frozen c = record c { builder = []; marked = false; batch = c.builder; waiting = false }

freezes : (c : Core) (ss : List Step) (last : List Placed) → can_freeze c ≡ true → Goes (freeze c) ss last → Goes c ss last
freezes c ss last h goes =
    let none : c.batch ≡ [] = nil_from_empty c.batch (and_parts (is_empty c.batch) (not (is_empty c.builder)) (and_parts (not c.killed) (is_empty c.batch && not (is_empty c.builder)) h).1).0 in
    subst (λ ys. SendInOrder c.target ys (exchanges_of ss) last) (ap (λ ys. ys ++ (c.builder ++ samples_in (items_of ss))) (sym none))
    (subst (λ (k : Core). Goes k ss last) (cond-true (can_freeze c) (frozen c) c h) goes)

-- ---- all steps
goes : (w : Working) (ss : List Step) → AreSteps w ss → Goes w.core ss (pending (after w ss).core)
goes w [] h = ap (λ ys. w.core.batch ++ ys) (append-nil w.core.builder)
goes w (Takes (Sample place t word labels) ∷ ss) h =
    subst (λ ys. SendInOrder w.core.target (w.core.batch ++ ys) (exchanges_of ss) (pending (after w (Takes (Sample place t word labels) ∷ ss)).core))
    (append_assoc w.core.builder (placed place t word labels.value ∷ []) (samples_in (items_of ss)))
    (goes (after_step (Takes (Sample place t word labels)) w) ss h.1)
goes w (Takes Flush ∷ ss) h = goes (after_step (Takes Flush) w) ss h.1
goes w (Takes (End kind) ∷ ss) h = goes (after_step (Takes (End kind)) w) ss h.1
goes w (Freezes ∷ ss) h = freezes w.core ss (pending (after w (Freezes ∷ ss)).core) h.0.1 (goes (after_step Freezes w) ss h.1)
goes w (Sends e ∷ ss) h = (
  w.core.batch,
  w.core.builder ++ samples_in (items_of ss),
  refl,
  not-true (is_empty w.core.batch) (is_open w.core h.0.0).1,
  h.0.2,
  h.0.1,
  by_again (is_again e.answer) w.core ss (pending (after w (Sends e ∷ ss)).core)
      (subst (λ (k : Core). Goes k ss (pending (after w (Sends e ∷ ss)).core)) (answers e.answer w h.0.0) (goes (after_step (Sends e) w) ss h.1)),
)
goes w (Waits ∷ ss) h = goes w ss h.1

pub sends-in-order : (setup : WorkerSetup) (steps : List Step) → WorkerSendsInOrder setup steps
sends-in-order setup steps h = goes (start_of setup) steps h

-- ---- what is resolved, and what is pending
abbrev so_far : List Step → Core → List Placed
so_far ss c = c.resolved ++ to_come c ss

by_answer : (b : Bool) (c : Core) (ss : List Step) → so_far ss c ≡ so_far ss (after_answer b c)
by_answer true c ss = refl
by_answer false c ss = sym (append_assoc c.resolved c.batch (c.builder ++ samples_in (items_of ss)))

by_freezing : (c : Core) (ss : List Step) → can_freeze c ≡ true → so_far ss c ≡ so_far ss (freeze c)
by_freezing c ss h =
    let none : c.batch ≡ [] = nil_from_empty c.batch (and_parts (is_empty c.batch) (not (is_empty c.builder)) (and_parts (not c.killed) (is_empty c.batch && not (is_empty c.builder)) h).1).0 in
    ap (λ ys. c.resolved ++ (ys ++ (c.builder ++ samples_in (items_of ss)))) none ∙ ap (so_far ss) (sym (cond-true (can_freeze c) (frozen c) c h))

resolves : (w : Working) (ss : List Step) → AreSteps w ss → so_far ss w.core ≡ (after w ss).core.resolved ++ pending (after w ss).core
resolves w [] h = ap (λ ys. w.core.resolved ++ (w.core.batch ++ ys)) (append-nil w.core.builder)
resolves w (Takes (Sample place t word labels) ∷ ss) h =
    ap (λ ys. w.core.resolved ++ (w.core.batch ++ ys)) (sym (append_assoc w.core.builder (placed place t word labels.value ∷ []) (samples_in (items_of ss))))
    ∙ resolves (after_step (Takes (Sample place t word labels)) w) ss h.1
resolves w (Takes Flush ∷ ss) h = resolves (after_step (Takes Flush) w) ss h.1
resolves w (Takes (End kind) ∷ ss) h = resolves (after_step (Takes (End kind)) w) ss h.1
resolves w (Freezes ∷ ss) h = by_freezing w.core ss h.0.1 ∙ resolves (after_step Freezes w) ss h.1
resolves w (Sends e ∷ ss) h = by_answer (is_again e.answer) w.core ss ∙ ap (so_far ss) (sym (answers e.answer w h.0.0)) ∙ resolves (after_step (Sends e) w) ss h.1
resolves w (Waits ∷ ss) h = resolves w ss h.1

-- if all that was taken is resolved, nothing is pending
pub nothing-pending : (setup : WorkerSetup) (steps : List Step) → AreSteps (start_of setup) steps → (after (start_of setup) steps).core.resolved ≡ samples_in (items_of steps) → pending (after (start_of setup) steps).core ≡ []
nothing-pending setup steps h all =
    let c : Core = (after (start_of setup) steps).core in
    append_cancel_left c.resolved (pending c) [] (sym (resolves (start_of setup) steps h) ∙ sym all ∙ sym (append-nil c.resolved))

-- what is resolved comes first of what was taken
pub resolved-first : (setup : WorkerSetup) (steps : List Step) → AreSteps (start_of setup) steps
    → samples_in (items_of steps) ≡ (after (start_of setup) steps).core.resolved ++ pending (after (start_of setup) steps).core
resolved-first setup steps h = resolves (start_of setup) steps h
