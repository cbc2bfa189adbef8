-- The bytes of each request.
use Rattle.std.proofs.Common.{◌≡◌, ℕ, suc, Bool, true, false, cond, List, [], ◌∷◌, take, Option, Some, None, is_some, slice_get, refl, sym, ap, ◌∙◌, ℤ, ◌&&◌, not, nat_le}
use Rattle.rw_retry.specs.Judgements.{judgement_of}
use Rattle.rw_retry.specs.declared.judgement.Judgement.{Judgement}
use Rattle.rw_retry.specs.declared.judgement.Judgement.TheVariants.{Again, Done, Refused}
use Rattle.std.specs.List.{AllByRecursion}
use Rattle.rw_machine.proofs.shared.Ids.{one_batch}
use Rattle.rw_machine.proofs.shared.Steps.{always, Each, each_change, each_new}
use Rattle.rw_machine.specs.declared.event.Event.{Event}
use Rattle.rw_machine.specs.declared.event.Event.TheVariants as event
use Rattle.rw_machine.specs.declared.event.How.{How}
use Rattle.rw_machine.specs.declared.event.How.TheVariants.{Busy, Plain, OutOfMemory}
use Rattle.rw_machine.specs.Promises.{CarriesItsBatch, CarriesEachBatch, HasOneBatchEachId, SendsSameBytes}
use Rattle.rw_machine.specs.Shards.{EndMark, FlushMark, One, Queued, Shard, has_room, shard_end, shard_flush, shard_freeze, shard_lost, shard_put, shard_send, shard_take, take_front, with_core}
use Rattle.rw_machine.specs.Steps.{act, arrive, changed, flush_shard, shard_mark, next_sample, place, place_entry, place_kept, place_sample, put_if_room, reply_to, request_by, restart_as, run, send_batch, shard_of_labels, take_reply}
use Rattle.rw_machine.specs.Worlds.{Reply, Request, Setup, World, is_finished, log, start}
use Rattle.rw_shard_core.specs.Shard.{Core, again, awaits, body_of, can_freeze, can_send, can_take, settle}
use Rattle.rw_shard_core.specs.SentRequest.{request_of}
use Rattle.rw_shard_core.specs.declared.config.Target.{Target}
use Rattle.rw_series_cache.specs.Known.{Bad, Filtered, Kept, Standing, Unknown, known}
use Rattle.rw_series_cache.specs.Rising.{rises}
use Rattle.rw_plain_queue.specs.declared.item.Kind.TheVariants as kind
use Rattle.rw_types.specs.Labels.{Labels}
use Rattle.rw_types.specs.declared.entry.Entry.{Entry}
use Rattle.rw_types.specs.declared.entry.Entry.TheVariants.{Def, Sample}
use Rattle.rw_types.proofs.shared.AllLemmas.{AllByRecursion-append, AllByRecursion-get}
use Rattle.rw_types.proofs.shared.Booleans.{either}

-- a step of a shard that sends to the same target
abbrev Stays : (Shard → Shard) → Type 0
Stays f = (s : Shard) → (f s).core.target ≡ s.core.target

flush_stays : (c : Setup) (w : World) → Stays (flush_shard c w)
flush_stays c w s = either (λ (t : Shard). t.core.target ≡ s.core.target) (not s.end_put && has_room c.capacity s) (shard_mark w s) s (λ _. by_mark) (λ _. refl)
  where
    by_mark : (shard_mark w s).core.target ≡ s.core.target
    by_mark = either (λ (t : Shard). t.core.target ≡ s.core.target) (is_finished w) (shard_end kind.Orderly s) (cond (is_some w.draining) (shard_end kind.Reshard s) (shard_flush s))
        (λ _. refl)
        (λ _. either (λ (t : Shard). t.core.target ≡ s.core.target) (is_some w.draining) (shard_end kind.Reshard s) (shard_flush s) (λ _. refl) (λ _. refl))

front_stays : (q : List Queued) → Stays (take_front q)
front_stays [] s = refl
front_stays (One x ∷ q) s = refl
front_stays (FlushMark ∷ q) s = refl
front_stays (EndMark k ∷ q) s = refl

take_stays : Stays shard_take
take_stays s = either (λ (t : Shard). t.core.target ≡ s.core.target) (can_take s.core) (take_front s.queue s) s (λ _. front_stays s.queue s) (λ _. refl)

freeze_stays : Stays shard_freeze
freeze_stays s = either (λ (k : Core). k.target ≡ s.core.target) (can_freeze s.core) (record s.core { builder = []; marked = false; batch = s.core.builder; waiting = false }) s.core (λ _. refl) (λ _. refl)

send_stays : Stays shard_send
send_stays s = either (λ (k : Core). k.target ≡ s.core.target) (can_send s.core) (record s.core { waiting = true }) s.core (λ _. refl) (λ _. refl)

lost_stays : Stays shard_lost
lost_stays s = either (λ (k : Core). k.target ≡ s.core.target) (awaits s.core) (again s.core) s.core (λ _. refl) (λ _. refl)

settle_stays : (d : Judgement) → Stays (with_core (settle d))
settle_stays Done s = refl
settle_stays Refused s = refl
settle_stays Again s = refl

-- each shard sends to the target that was set, and so did those before it
pub record Sound (c : Setup) (shards : List Shard) (requests : List Request) : Type 0 where
  pub targets : Each (λ i s. s.core.target ≡ c.target) shards
  pub bytes : AllByRecursion (CarriesItsBatch c) requests

abbrev pub Carries : Setup → World → Type 0
Carries c w = Sound c w.shards w.requests

change_carries : (c : Setup) (w : World) (i : ℕ) (f : Shard → Shard) → Stays f → Carries c w → Carries c (changed w i f)
change_carries c w i f stays at = record { targets = each_change (λ j s. s.core.target ≡ c.target) f i w.shards at.targets (λ s _ h. stays s ∙ h); bytes = at.bytes }

place_carries : (c : Setup) (w : World) → Carries c w → Carries c (place c w)
place_carries c w at = either (Carries c) (is_some w.draining) w (place_entry c w (slice_get (log w) w.placed)) (λ _. at) (λ _. by_entry (slice_get (log w) w.placed))
  where
    by_shard : (i : ℕ) (l : Labels) (t : ℤ) (word : ℕ) (o : Option Shard) → Carries c (put_if_room c w i l t word o)
    by_shard i l t word None = at
    by_shard i l t word (Some s) = either (Carries c) (has_room c.capacity s) _ w (λ _. change_carries c w i (shard_put (next_sample w i l t word s)) (λ u. refl) at) (λ _. at)

    by_rising : (l : Labels) (t : ℤ) (word : ℕ) (b : Bool) → Carries c (place_kept c w l t word b)
    by_rising l t word true = by_shard (shard_of_labels w l) l t word (slice_get w.shards (shard_of_labels w l))
    by_rising l t word false = at

    by_known : (t : ℤ) (word : ℕ) (k : Standing) → Carries c (place_sample c w t word k)
    by_known t word Unknown = at
    by_known t word (Bad f) = at
    by_known t word Filtered = at
    by_known t word (Kept l) = by_rising l t word (rises c.choice (take w.placed (log w)) l t)

    by_entry : (o : Option Entry) → Carries c (place_entry c w o)
    by_entry None = at
    by_entry (Some (Def r l)) = at
    by_entry (Some (Sample r t word)) = by_known t word (known c.choice (take w.placed (log w)) r)

-- the target of the shard is the one that was set
send_carries : (c : Setup) (w : World) (i : ℕ) (o : Option Shard) → slice_get w.shards i ≡ o → Carries c w → Carries c (send_batch w i o)
send_carries c w i None e at = at
send_carries c w i (Some s) e at = either (Carries c) (can_send s.core) _ w
    (λ _. record {
      targets = each_change (λ j u. u.core.target ≡ c.target) shard_send i w.shards at.targets (λ u _ h. send_stays u ∙ h);
      bytes = AllByRecursion-append (CarriesItsBatch c) w.requests (request_by s ∷ []) at.bytes (ap (λ (t : Target). request_of t.host t.path (body_of s.core.batch)) (at.targets i s e), tt);
    })
    (λ _. at)

reply_carries : (c : Setup) (w : World) (o : Option Reply) → Carries c w → Carries c (take_reply w o)
reply_carries c w None at = at
reply_carries c w (Some a) at = by_shard (slice_get w.shards a.id.shard)
  where
    by_shard : (o : Option Shard) → Carries c (reply_to w a o)
    by_shard None = at
    by_shard (Some s) = either (Carries c) _ _ w (λ _. change_carries c w a.id.shard (with_core (settle (judgement_of a.status))) (settle_stays (judgement_of a.status)) at) (λ _. at)

pub act_carries : (c : Setup) (w : World) (e : Event) → Carries c w → Carries c (act c w e)
act_carries c w (event.Feed piece) at = either (Carries c) (is_some w.closed) w _ (λ _. at) (λ _. at)
act_carries c w event.Place at = place_carries c w at
act_carries c w (event.Flush i) at = change_carries c w i (flush_shard c w) (flush_stays c w) at
act_carries c w (event.Take i) at = change_carries c w i shard_take take_stays at
act_carries c w (event.Freeze i) at = change_carries c w i shard_freeze freeze_stays at
act_carries c w (event.Send i) at = send_carries c w i (slice_get w.shards i) refl at
act_carries c w (event.Arrive k how) at = by_request how (slice_get w.requests k)
  where
    by_request : (how : How) (o : Option Request) → Carries c (arrive c w how o)
    by_request how None = at
    by_request Plain (Some r) = at
    by_request Busy (Some r) = at
    by_request OutOfMemory (Some r) = at
act_carries c w (event.Reply k) at = reply_carries c w (slice_get w.replies k) at
act_carries c w (event.Lost i) at = change_carries c w i shard_lost lost_stays at
act_carries c w (event.Reshard n) at = either (Carries c) (not (is_some w.draining) && (not (is_finished w) && (nat_le 1 n && nat_le n 1000))) _ w (λ _. at) (λ _. at)
act_carries c w event.Restart at = by_draining w.draining
  where
    by_draining : (o : Option ℕ) → Carries c (restart_as c w o)
    by_draining None = at
    by_draining (Some n) = either (Carries c) _ _ w (λ _. record { targets = each_new (λ i s. s.core.target ≡ c.target) c (suc w.epoch) 0 (λ i. refl) n; bytes = at.bytes }) (λ _. at)
act_carries c w event.Close at = either (Carries c) (is_some w.closed) w _ (λ _. at) (λ _. at)
act_carries c w event.Kill at = at

pub carries_start : (c : Setup) → Carries c (start c)
carries_start c = record { targets = each_new (λ i s. s.core.target ≡ c.target) c 0 0 (λ i. refl) c.shards; bytes = tt }

pub carries_is : (c : Setup) (w : World) → Carries c w → CarriesEachBatch c w
carries_is c w at k r e = AllByRecursion-get (CarriesItsBatch c) w.requests k r at.bytes e

pub same_bytes : (c : Setup) (w : World) → Carries c w → HasOneBatchEachId w → SendsSameBytes w
same_bytes c w at one i j r q r_at q_at ids =
    carries_is c w at i r r_at ∙ ap (λ b. request_of c.target.host c.target.path (body_of b)) (one i j r q r_at q_at ids) ∙ sym (carries_is c w at j q q_at)

carries_at : (c : Setup) (events : List Event) → Carries c (run c events (start c))
carries_at c events = always (Carries c) c (act_carries c) events (start c) (carries_start c)

pub carries_each : (c : Setup) (events : List Event) → CarriesEachBatch c (run c events (start c))
carries_each c events = carries_is c (run c events (start c)) (carries_at c events)

pub sends_same : (c : Setup) (events : List Event) → SendsSameBytes (run c events (start c))
sends_same c events = same_bytes c (run c events (start c)) (carries_at c events) (one_batch c events)
