-- What a worker's step leaves of its shard: its number, and the lengths of its lists.
use Rattle.std.proofs.Common.{◌≡◌, ℕ, suc, ◌+◌, Bool, true, false, not, ◌&&◌, ◌==◌, List, [], ◌∷◌, ◌++◌, map, length, Result, Ok, Err, refl, sym, ap, ◌∙◌, length-append, arith}
use Rattle.std.proofs.lemmas.Bool.{ne_eqb, not-true, and_parts}
use Rattle.rw_ledger.specs.Names.{Named}
use Rattle.rw_retry.specs.Judgements.{judgement_of}
use Rattle.rw_retry.specs.declared.judgement.Judgement.{Judgement}
use Rattle.rw_retry.specs.declared.judgement.Judgement.TheVariants.{Done, Again, Refused}
use Rattle.rw_plain_queue.specs.Items.{Placed, is_end}
use Rattle.rw_plain_queue.specs.History.{EndIsLast}
use Rattle.rw_plain_queue.specs.declared.item.Item.{Item}
use Rattle.rw_plain_queue.specs.declared.item.Item.TheVariants.{Sample, Flush, End}
use Rattle.rw_shard_core.specs.Shard.{Core, take_item, send, is_empty, settle, lose, again, placed, reply, batch_id}
use Rattle.rw_worker.specs.declared.transport.Reply.{Reply}
use Rattle.rw_worker.specs.declared.transport.Lost.{Lost}
use Rattle.rw_worker.specs.Steps.{Working, working, Step, Takes, Freezes, Sends, Waits, MayStep, AreSteps, after, after_step, after_attempt, items_of}
use Rattle.rw_machine.specs.Shards.{Shard, Queued, is_drained, samples_waiting}
use Rattle.rw_machine.proofs.shared.Others.{no_batch}
use Rattle.rw_simulation.specs.WorkerRuns.{queued, AreOfShard, IsShardNumbered, CanEnd}
use Rattle.rw_simulation.proofs.WorkerSteps.{sent-is, sent_core, sent_awaits, sent_answers, send_parts}

of-append : (epoch i : ℕ) (xs ys : List Placed) → AreOfShard epoch i xs → AreOfShard epoch i ys → AreOfShard epoch i (xs ++ ys)
of-append epoch i [] ys h k = k
of-append epoch i (x ∷ xs) ys h k = (h.0, h.1, of-append epoch i xs ys h.2 k)

-- the core after an answer
abbrev pub answered_core : Result Reply Lost → Core → Core
answered_core (Ok r) c = settle (judgement_of r.status) (sent_core c)
answered_core (Err lost) c = again (sent_core c)

-- and after a step that may be made
abbrev pub core_after : Step → Core → Core
core_after (Takes x) c = take_item x c
core_after Freezes c = record c { builder = []; marked = false; batch = c.builder; waiting = false }
core_after (Sends e) c = answered_core e.answer c
core_after Waits c = c

pub after-is : (st : Step) (c : Core) (l : Named) → MayStep st c → (after_step st (working c l)).core ≡ core_after st c
after-is (Takes x) c l may = refl
after-is Freezes c l may = rw may.1 refl
after-is Waits c l may = refl
after-is (Sends e) c l may = by_answer e.answer
  where
    by_answer : (a : Result Reply Lost) → (after_attempt a (working (send c) l)).core ≡ answered_core a c
    by_answer (Ok r) = ap (λ (k : Core). reply (batch_id k.batch) r.status k) (sent-is c may.0) ∙ rw (sent_answers c may.0) refl
    by_answer (Err lost) = ap lose (sent-is c may.0) ∙ rw (sent_awaits c may.0) refl

numbered_settle : (i : ℕ) (j : Judgement) (c : Core) → IsShardNumbered i c → IsShardNumbered i (settle j (sent_core c))
numbered_settle i Done c h = record { number = h.number; batch = tt; builder = h.builder }
numbered_settle i Refused c h = record { number = h.number; batch = tt; builder = h.builder }
numbered_settle i Again c h = record { number = h.number; batch = h.batch; builder = h.builder }

pub numbered-after : (i : ℕ) (st : Step) (c : Core) → MayStep st c → IsShardNumbered i c → IsShardNumbered i (core_after st c)
numbered-after i (Takes (Sample place t word labels)) c may h = record { number = h.number; batch = h.batch; builder = of-append c.epoch i c.builder (placed place t word labels.value ∷ []) h.builder (may.1.0, may.1.1 ∙ h.number, tt) }
numbered-after i (Takes Flush) c may h = record { number = h.number; batch = h.batch; builder = h.builder }
numbered-after i (Takes (End kind)) c may h = record { number = h.number; batch = h.batch; builder = h.builder }
numbered-after i Freezes c may h = record { number = h.number; batch = h.builder; builder = tt }
numbered-after i Waits c may h = h
numbered-after i (Sends e) c may h = by_answer e.answer
  where
    by_answer : (a : Result Reply Lost) → IsShardNumbered i (answered_core a c)
    by_answer (Ok r) = numbered_settle i (judgement_of r.status) c h
    by_answer (Err lost) = record { number = h.number; batch = h.batch; builder = h.builder }

epoch_settle : (j : Judgement) (c : Core) → (settle j (sent_core c)).epoch ≡ c.epoch
epoch_settle Done c = refl
epoch_settle Refused c = refl
epoch_settle Again c = refl

-- a shard stays in its epoch
epoch-after : (st : Step) (c : Core) → (core_after st c).epoch ≡ c.epoch
epoch-after (Takes (Sample place t word labels)) c = refl
epoch-after (Takes Flush) c = refl
epoch-after (Takes (End kind)) c = refl
epoch-after Freezes c = refl
epoch-after Waits c = refl
epoch-after (Sends e) c = by_answer e.answer
  where
    by_answer : (a : Result Reply Lost) → (answered_core a c).epoch ≡ c.epoch
    by_answer (Ok r) = epoch_settle (judgement_of r.status) c
    by_answer (Err lost) = refl

pub epoch-step : (st : Step) (w : Working) → MayStep st w.core → (after_step st w).core.epoch ≡ w.core.epoch
epoch-step st w may = ap (λ (k : Core). k.epoch) (after-is st w.core w.ledger may) ∙ epoch-after st w.core

pub epoch-all : (w : Working) (ss : List Step) → AreSteps w ss → (after w ss).core.epoch ≡ w.core.epoch
epoch-all w [] h = refl
epoch-all w (s ∷ ss) h = epoch-all (after_step s w) ss h.1 ∙ epoch-step s w h.0

-- how many samples a shard holds, by its core and its queue
abbrev pub count : Core → List Queued → ℕ
count c q = length c.resolved + (length c.batch + (length c.builder + length (samples_waiting q)))

pub no_items : (x : Item) (xs : List Item) → x ∷ xs ≡ [] → ⊥
no_items x xs e = cc

some_length : (xs : List Placed) → is_empty xs ≡ false → (n : ℕ) × (length xs ≡ suc n)
some_length [] e = absurd (cc)
some_length (x ∷ xs) e = (length xs, refl)

not_drained : (s : Shard) → (length s.core.resolved ≡ length s.put → ⊥) → is_drained s ≡ false
not_drained s differ = by_ended s.core.ended (ne_eqb (length s.core.resolved) (length s.put) differ)
  where
    by_ended : (b : Bool) → (length s.core.resolved == length s.put) ≡ false → (b && (length s.core.resolved == length s.put)) ≡ false
    by_ended true e = e
    by_ended false e = refl

-- it is not drained before a step that is an event
pub goes-on : (s : Shard) (st : Step) (ss : List Step) → (st ≡ Waits → ⊥) → MayStep st s.core → CanEnd s (st ∷ ss) → is_drained s ≡ false
goes-on s Waits ss acts may h = absurd (acts refl)
goes-on s (Takes x) ss acts may h = by_ended s.core.ended refl
  where
    by_ended : (b : Bool) → s.core.ended ≡ b → is_drained s ≡ false
    by_ended true e = absurd (no_items x (items_of ss) (h.ended e))
    by_ended false e = rw e refl
goes-on s Freezes ss acts may h =
    let n = some_length s.core.builder (not-true (is_empty s.core.builder) (and_parts (is_empty s.core.batch) (not (is_empty s.core.builder)) (and_parts (not s.core.killed) (is_empty s.core.batch && not (is_empty s.core.builder)) may.1).1).1) in
    let m = n.1 in let k = h.kept in not_drained s (λ e. omega arith)
goes-on s (Sends x) ss acts may h =
    let n = some_length s.core.batch (send_parts s.core may.0).some in
    let m = n.1 in let k = h.kept in not_drained s (λ e. omega arith)

ended_settle : (j : Judgement) (c : Core) → (settle j (sent_core c)).ended ≡ c.ended
ended_settle Done c = refl
ended_settle Refused c = refl
ended_settle Again c = refl

-- a step that takes no End does not end the shard
abbrev pub takes_end : Step → Bool
takes_end (Takes x) = is_end x
takes_end Freezes = false
takes_end (Sends e) = false
takes_end Waits = false

pub ended-after : (st : Step) (c : Core) → takes_end st ≡ false → (core_after st c).ended ≡ c.ended
ended-after (Takes (Sample place t word labels)) c e = refl
ended-after (Takes Flush) c e = refl
ended-after (Takes (End kind)) c e = let never : true ≡ false = e in cc
ended-after Freezes c e = refl
ended-after Waits c e = refl
ended-after (Sends x) c e = by_answer x.answer
  where
    by_answer : (a : Result Reply Lost) → (answered_core a c).ended ≡ c.ended
    by_answer (Ok r) = ended_settle (judgement_of r.status) c
    by_answer (Err lost) = refl

-- the first item was taken
count_take : (x : Item) (c : Core) (q : List Queued) → count (take_item x c) q ≡ count c (queued x ∷ q)
count_take (Sample place t word labels) c q = let m = length-append c.builder (placed place t word labels.value ∷ []) in omega arith
count_take Flush c q = refl
count_take (End kind) c q = refl

count_settle : (j : Judgement) (c : Core) (q : List Queued) → count (settle j (sent_core c)) q ≡ count c q
count_settle Done c q = let m = length-append c.resolved c.batch in omega arith
count_settle Refused c q = let m = length-append c.resolved c.batch in omega arith
count_settle Again c q = refl

pub last_tail : (x : Item) (xs : List Item) → EndIsLast (x ∷ xs) → EndIsLast xs
last_tail x xs h before after kind e = h (x ∷ before) after kind (ap (λ ys. x ∷ ys) e)

pub can-end-after : (s : Shard) (st : Step) (ss : List Step) (rest : List Queued) → s.queue ≡ map queued (items_of (st ∷ ss)) ++ rest → MayStep st s.core → CanEnd s (st ∷ ss)
    → CanEnd (record s { queue = map queued (items_of ss) ++ rest; core = core_after st s.core }) ss
can-end-after s (Takes x) ss rest q may h = record {
  kept = h.kept ∙ ap (count s.core) q ∙ sym (count_take x s.core (map queued (items_of ss) ++ rest));
  ended = by_item x h.last;
  last = last_tail x (items_of ss) h.last;
}
  where
    open_still : s.core.ended ≡ true → items_of ss ≡ []
    open_still e = absurd (no_items x (items_of ss) (h.ended e))

    by_item : (y : Item) → EndIsLast (y ∷ items_of ss) → (take_item y s.core).ended ≡ true → items_of ss ≡ []
    by_item (Sample place t word labels) last e = open_still e
    by_item Flush last e = open_still e
    by_item (End kind) last e = last [] (items_of ss) kind refl
can-end-after s Freezes ss rest q may h = record {
  kept = let none = ap length (no_batch s.core may.1) in h.kept ∙ ap (count s.core) q ∙ frozen (map queued (items_of ss) ++ rest) none;
  ended = h.ended;
  last = h.last;
}
  where
    frozen : (p : List Queued) → length s.core.batch ≡ 0 → count s.core p ≡ count (core_after Freezes s.core) p
    frozen p none = omega arith
can-end-after s Waits ss rest q may h = record { kept = h.kept ∙ ap (count s.core) q; ended = h.ended; last = h.last }
can-end-after s (Sends e) ss rest q may h = by_answer e.answer
  where
    by_answer : (a : Result Reply Lost) → CanEnd (record s { queue = map queued (items_of ss) ++ rest; core = answered_core a s.core }) ss
    by_answer (Ok r) = record {
      kept = h.kept ∙ ap (count s.core) q ∙ sym (count_settle (judgement_of r.status) s.core (map queued (items_of ss) ++ rest));
      ended = λ d. h.ended (sym (ended_settle (judgement_of r.status) s.core) ∙ d);
      last = h.last;
    }
    by_answer (Err lost) = record { kept = h.kept ∙ ap (count s.core) q; ended = h.ended; last = h.last }
