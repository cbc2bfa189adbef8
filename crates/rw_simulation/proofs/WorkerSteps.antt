-- A worker's steps are events of its shard.
use Rattle.std.proofs.Common.{◌≡◌, ℕ, true, false, not, ◌&&◌, List, [], ◌∷◌, ◌++◌, length, Some, Result, Ok, Err, slice_get, refl, sym, ap, ◌∙◌, append-nil}
use Rattle.std.specs.Ordering.{nat_cmp}
use Rattle.std.specs.FinMap.{FinMap}
use Rattle.std.proofs.lemmas.Bool.{not-true, and_parts}
use Rattle.rw_ledger.specs.declared.ledger.Reason.{Reason}
use Rattle.rw_ledger.specs.Names.{Named}
use Rattle.rw_retry.specs.Judgements.{judgement_of}
use Rattle.rw_plain_queue.specs.Items.{Placed}
use Rattle.rw_plain_queue.specs.declared.item.Item.{Item}
use Rattle.rw_plain_queue.specs.declared.item.Item.TheVariants.{Sample, Flush, End}
use Rattle.rw_shard_core.specs.Shard.{Core, can_take, take_item, freeze, can_send, send, awaits, is_answer, is_empty, batch_id, settle, lose, reply, reply_names}
use Rattle.rw_worker.specs.declared.transport.Reply.{Reply}
use Rattle.rw_worker.specs.declared.transport.Lost.{Lost}
use Rattle.rw_worker.specs.Transcript.{exchange_of}
use Rattle.rw_worker.specs.Steps.{Working, working, Step, Takes, Freezes, Sends, Waits, MayStep, AreSteps, after, after_step, after_attempt}
use Rattle.rw_machine.specs.Shards.{Shard, Queued, shard_take, shard_freeze, shard_send, shard_lost, take_front, with_core}
use Rattle.rw_machine.specs.Worlds.{Setup, Request, World, is_over}
use Rattle.rw_machine.specs.Worlds as worlds
use Rattle.rw_machine.specs.Steps.{change, happens, unless_over, names_after_reply, request_by, send_batch, take_reply, reply_to, turned_away}
use Rattle.rw_machine.specs.declared.event.Event.TheVariants as event
use Rattle.rw_simulation.specs.Freely.{Answered, run_freely, happens_freely}
use Rattle.rw_simulation.specs.WorkerRuns.{queued, step_happenings, answer_happenings, IsAfter, IsIdOf, IsShardNumbered, AreOfShard, answer_names, step_names, steps_names}
use Rattle.rw_simulation.proofs.Changes.{change-is, change-get, change-twice, get-last, Goes, not-over}
use Rattle.rw_shard_core.proofs.shared.NamingLemmas.{settle_names-room}
use Rattle.rw_shard_core.proofs.shared.StepGuards.{same_id-self}

pub take-is : (s : Shard) (x : Item) (rest : List Queued) → s.queue ≡ queued x ∷ rest → can_take s.core ≡ true → shard_take s ≡ record s { queue = rest; core = take_item x s.core }
take-is s x rest q can = rw can (ap (λ xs. take_front xs s) q ∙ front x)
  where
    front : (x : Item) → take_front (queued x ∷ rest) s ≡ record s { queue = rest; core = take_item x s.core }
    front (Sample place t word labels) = refl
    front Flush = refl
    front (End kind) = refl

-- a world whose shard i, names, requests and replies are these
abbrev pub moved : World → ℕ → Shard → FinMap nat_cmp Reason → List Request → List worlds.Reply → World
moved w i t names requests replies = record w { shards = change i (λ _. t) w.shards; names = names; requests = requests; replies = replies }

no_more : (w : World) (i : ℕ) (t : Shard) → record w { shards = change i (λ _. t) w.shards } ≡ moved w i t w.names (w.requests ++ []) (w.replies ++ [])
no_more w i t = ap (λ rs. moved w i t w.names rs w.replies) (sym (append-nil w.requests)) ∙ ap (λ rs. moved w i t w.names (w.requests ++ []) rs) (sym (append-nil w.replies))

pub take-step : (c : Setup) (w : World) (i : ℕ) (s : Shard) (l : Named) (x : Item) (rest : List Queued) → slice_get w.shards i ≡ Some s → Goes w s → s.queue ≡ queued x ∷ rest → MayStep (Takes x) s.core
    → IsAfter w i s l (Takes x ∷ []) rest (run_freely c (step_happenings w i (Takes x)) w)
take-step c w i s l x rest e goes q may = record {
  requests = [];
  replies = [];
  is = ap (unless_over c w (event.Take i)) (not-over w i s e goes)
      ∙ ap (λ ss. record w { shards = ss }) (change-is shard_take i w.shards s e ∙ ap (λ t. change i (λ _. t) w.shards) (take-is s x rest q may.0))
      ∙ no_more w i (record s { queue = rest; core = take_item x s.core });
  ledger_is = refl;
  sent = refl;
  ids = tt;
}

pub freeze-step : (c : Setup) (w : World) (i : ℕ) (s : Shard) (l : Named) (rest : List Queued) → slice_get w.shards i ≡ Some s → Goes w s → s.queue ≡ rest → MayStep Freezes s.core
    → IsAfter w i s l (Freezes ∷ []) rest (run_freely c (step_happenings w i Freezes) w)
freeze-step c w i s l rest e goes q may = record {
  requests = [];
  replies = [];
  is = ap (unless_over c w (event.Freeze i)) (not-over w i s e goes)
      ∙ ap (λ ss. record w { shards = ss }) (change-is shard_freeze i w.shards s e ∙ ap (λ (xs : List Queued). change i (λ _. record s { queue = xs; core = freeze s.core }) w.shards) q)
      ∙ no_more w i (record s { queue = rest; core = freeze s.core });
  ledger_is = rw may.1 refl;
  sent = refl;
  ids = tt;
}

-- an attempt of the open batch
abbrev pub sent_core : Core → Core
sent_core c = record c { waiting = true }

abbrev pub sent_shard : Shard → Shard
sent_shard s = record s { core = sent_core s.core }

pub sent-is : (c : Core) → can_send c ≡ true → send c ≡ sent_core c
sent-is c can = rw can refl

pub record SendParts (c : Core) : Type 0 where
  pub alive : c.killed ≡ false
  pub some : is_empty c.batch ≡ false

pub send_parts : (c : Core) → can_send c ≡ true → SendParts c
send_parts c can = let both = (and_parts (not c.killed) (not (is_empty c.batch) && not c.waiting) can).1 in record {
  alive = not-true c.killed (and_parts (not c.killed) (not (is_empty c.batch) && not c.waiting) can).0;
  some = not-true (is_empty c.batch) (and_parts (not (is_empty c.batch)) (not c.waiting) both).0;
}

pub sent_awaits : (c : Core) → can_send c ≡ true → awaits (sent_core c) ≡ true
sent_awaits c can = let p = send_parts c can in rw (p.alive, p.some) refl

pub sent_answers : (c : Core) → can_send c ≡ true → is_answer (batch_id c.batch) (sent_core c) ≡ true
sent_answers c can = rw (sent_awaits c can) (same_id-self (batch_id c.batch))

-- the names of a worker's part, after a step that may be made
pub ledger-step : (st : Step) (w : Working) → MayStep st w.core → (after_step st w).ledger.names ≡ step_names st w.core w.ledger.names
ledger-step (Takes x) w may = refl
ledger-step Freezes w may = rw may.1 refl
ledger-step Waits w may = refl
ledger-step (Sends e) w may = by_answer e.answer
  where
    by_answer : (a : Result Reply Lost) → (after_attempt a (working (send w.core) w.ledger)).ledger.names ≡ answer_names a w.core.batch w.ledger.names
    by_answer (Ok r) = ap (λ (k : Core). (reply_names (batch_id k.batch) r.status k w.ledger).names) (sent-is w.core may.0) ∙ rw (sent_answers w.core may.0) (settle_names-room (judgement_of r.status) r.status w.core.batch w.ledger)
    by_answer (Err lost) = refl

pub ledger-all : (w : Working) (ss : List Step) → AreSteps w ss → (after w ss).ledger.names ≡ steps_names ss w w.ledger.names
ledger-all w [] h = refl
ledger-all w (s ∷ ss) h = ledger-all (after_step s w) ss h.1 ∙ ap (steps_names ss (after_step s w)) (ledger-step s w h.0)

batch_ids : (epoch i : ℕ) (xs : List Placed) → is_empty xs ≡ false → AreOfShard epoch i xs → ((batch_id xs).epoch ≡ epoch) × ((batch_id xs).shard ≡ i)
batch_ids epoch i [] some h = absurd (cc)
batch_ids epoch i (x ∷ xs) some h = (h.0, h.1)

module _ (c : Setup) (w : World) (i : ℕ) (s : Shard) (e : slice_get w.shards i ≡ Some s) (goes : Goes w s) (numbered : IsShardNumbered i s.core) (can : can_send s.core ≡ true) where
  abbrev pub request : Request
  request = request_by s

  -- the request is out
  abbrev pub out : World
  out = moved w i (sent_shard s) w.names (w.requests ++ request ∷ []) w.replies

  pub out_is : happens c w (event.Send i) ≡ out
  out_is =
      ap (unless_over c w (event.Send i)) (not-over w i s e goes)
      ∙ ap (send_batch w i) e
      ∙ rw can refl
      ∙ ap (λ ss. record w { requests = w.requests ++ request ∷ []; shards = ss }) (change-is shard_send i w.shards s e ∙ ap (λ (k : Core). change i (λ _. record s { core = k }) w.shards) (sent-is s.core can))

  pub own_ids : IsIdOf s.core.epoch i request
  own_ids = batch_ids s.core.epoch i s.core.batch (send_parts s.core can).some numbered.batch

  out_get : slice_get out.shards i ≡ Some (sent_shard s)
  out_get = change-get (sent_shard s) i w.shards s e

  out_over : is_over out ≡ false
  out_over = not-over out i (sent_shard s) out_get goes

  pub lost_is : happens c out (event.Lost i) ≡ moved w i (record s { core = lose (sent_core s.core) }) w.names (w.requests ++ request ∷ []) w.replies
  lost_is =
      ap (unless_over c out (event.Lost i)) out_over
      ∙ ap (λ ss. record out { shards = ss }) (change-is shard_lost i out.shards (sent_shard s) out_get ∙ change-twice (sent_shard s) (shard_lost (sent_shard s)) i w.shards)

  abbrev answer : ℕ → worlds.Reply
  answer status = record { id = batch_id s.core.batch; status = status }

  -- it was answered
  abbrev back : ℕ → World
  back status = record out { replies = w.replies ++ answer status ∷ [] }

  back_is : (status : ℕ) → happens_freely c out (Answered (length w.requests) status) ≡ back status
  back_is status = ap (turned_away out status) (get-last w.requests request)

  abbrev pub settled_shard : ℕ → Shard
  settled_shard status = record s { core = settle (judgement_of status) (sent_core s.core) }

  abbrev done : ℕ → World
  done status = moved w i (settled_shard status) (names_after_reply status s.core.batch w.names) (w.requests ++ request ∷ []) (w.replies ++ answer status ∷ [])

  reply_is : (status : ℕ) → happens c (back status) (event.Reply (length w.replies)) ≡ done status
  reply_is status =
      ap (unless_over c (back status) (event.Reply (length w.replies))) (not-over (back status) i (sent_shard s) out_get goes)
      ∙ ap (take_reply (back status)) (get-last w.replies (answer status))
      ∙ ap (reply_to (back status) (answer status)) (ap (slice_get out.shards) at_own ∙ out_get)
      ∙ rw (sent_answers s.core can) refl
      ∙ ap (λ (k : ℕ). record (back status) { names = names_after_reply status s.core.batch w.names; shards = change k (with_core (settle (judgement_of status))) out.shards }) at_own
      ∙ ap (λ ss. record (back status) { names = names_after_reply status s.core.batch w.names; shards = ss })
      (change-is (with_core (settle (judgement_of status))) i out.shards (sent_shard s) out_get ∙ change-twice (sent_shard s) (settled_shard status) i w.shards)
    where
      at_own : (batch_id s.core.batch).shard ≡ i
      at_own = own_ids.1

  pub send-step : (l : Named) (rest : List Queued) (bytes : List ℕ) (a : Result Reply Lost) → s.queue ≡ rest → MayStep (Sends (exchange_of bytes a)) s.core
      → IsAfter w i s l (Sends (exchange_of bytes a) ∷ []) rest (run_freely c (step_happenings w i (Sends (exchange_of bytes a))) w)
  send-step l rest bytes (Ok r) q may = record {
    requests = request ∷ [];
    replies = answer r.status ∷ [];
    is = ap (λ v. run_freely c (answer_happenings w i (Ok r)) v) out_is
        ∙ ap (λ v. happens c v (event.Reply (length w.replies))) (back_is r.status)
        ∙ reply_is r.status
        ∙ ap (λ (t : Shard). moved w i t (names_after_reply r.status s.core.batch w.names) (w.requests ++ request ∷ []) (w.replies ++ answer r.status ∷ [])) (ap (λ (xs : List Queued). record s { queue = xs; core = settle (judgement_of r.status) (sent_core s.core) }) q ∙ ap (λ (k : Core). record s { queue = rest; core = k }) core_is);
    ledger_is = ledger-step (Sends (exchange_of bytes (Ok r))) (working s.core l) may;
    sent = ap (λ (x : List ℕ). x ∷ []) (sym may.1);
    ids = (own_ids, tt);
  }
    where
      core_is : settle (judgement_of r.status) (sent_core s.core) ≡ reply (batch_id (send s.core).batch) r.status (send s.core)
      core_is = sym (ap (λ (k : Core). reply (batch_id k.batch) r.status k) (sent-is s.core can) ∙ rw (sent_answers s.core can) refl)
  send-step l rest bytes (Err lost) q may = record {
    requests = request ∷ [];
    replies = [];
    is = ap (λ v. run_freely c (answer_happenings w i (Err lost)) v) out_is
        ∙ lost_is
        ∙ ap (λ (t : Shard). moved w i t w.names (w.requests ++ request ∷ []) w.replies) (ap (λ (xs : List Queued). record s { queue = xs; core = lose (sent_core s.core) }) q ∙ ap (λ (k : Core). record s { queue = rest; core = lose k }) (sym (sent-is s.core can)))
        ∙ ap (λ rs. moved w i (record s { queue = rest; core = lose (send s.core) }) w.names (w.requests ++ request ∷ []) rs) (sym (append-nil w.replies));
    ledger_is = refl;
    sent = ap (λ (x : List ℕ). x ∷ []) (sym may.1);
    ids = (own_ids, tt);
  }
