-- Nothing that was sent or answered is removed.
use Rattle.std.proofs.Common.{ℕ, ◌&&◌, not, nat_le, List, [], ◌∷◌, ◌++◌, Option, Some, None, is_some, slice_get, refl}
use Rattle.rw_types.specs.Beginnings.{Begins}
use Rattle.rw_types.proofs.shared.BeginningLemmas.{begins_itself, begins_twice}
use Rattle.rw_types.proofs.shared.Booleans.{either}
use Rattle.rw_batch.specs.declared.batch.BatchId.{BatchId}
use Rattle.rw_shard_core.specs.Shard.{can_send}
use Rattle.rw_head.specs.Head.{Answer}
use Rattle.rw_machine.proofs.shared.Frames.{place_frame, reply_frame, restart_frame}
use Rattle.rw_machine.proofs.shared.Steps.{always}
use Rattle.rw_machine.specs.Shards.{Shard}
use Rattle.rw_machine.specs.Steps.{act, with_answer, arrive, endpoint_answer, request_by, run, send_batch}
use Rattle.rw_machine.specs.Worlds.{Request, Setup, World, is_finished}
use Rattle.rw_machine.specs.declared.event.Event.{Event}
use Rattle.rw_machine.specs.declared.event.Event.TheVariants as event
use Rattle.rw_machine.specs.declared.event.How.{How}
use Rattle.rw_machine.specs.declared.event.How.TheVariants.{Busy, Plain, OutOfMemory}

begins_more : {A : Type 0} (xs ys more : List A) → Begins xs ys → Begins xs (ys ++ more)
begins_more xs ys more b = begins_twice xs ys (ys ++ more) b (more, refl)

module _ (c : Setup) (w : World) where
  -- a world has the requests and the replies of `w`, and perhaps more after them
  abbrev OnlyAdds : World → Type 0
  OnlyAdds v = Begins w.requests v.requests × Begins w.replies v.replies

  send_adds : (v : World) (i : ℕ) (o : Option Shard) → OnlyAdds v → OnlyAdds (send_batch v i o)
  send_adds v i None at = at
  send_adds v i (Some s) at = either OnlyAdds (can_send s.core) _ v (λ _. (begins_more w.requests v.requests (request_by s ∷ []) at.0, at.1)) (λ _. at)

  answer_adds : (v : World) (id : BatchId) (a : Answer) → OnlyAdds v → OnlyAdds (with_answer v id a)
  answer_adds v id a at = (at.0, begins_more w.replies v.replies (record { id = id; status = a.status } ∷ []) at.1)

  arrive_adds : (v : World) (how : How) (o : Option Request) → OnlyAdds v → OnlyAdds (arrive c v how o)
  arrive_adds v how None at = at
  arrive_adds v Plain (Some r) at = answer_adds v r.id (endpoint_answer c v.head r.batch) at
  arrive_adds v Busy (Some r) at = answer_adds v r.id (record { status = 429; head = v.head }) at
  arrive_adds v OutOfMemory (Some r) at = answer_adds v r.id (record { status = 503; head = v.head }) at

  act_adds : (v : World) (e : Event) → OnlyAdds v → OnlyAdds (act c v e)
  act_adds v (event.Feed piece) at = either OnlyAdds (is_some v.closed) v _ (λ _. at) (λ _. at)
  act_adds v event.Place at = place_frame OnlyAdds c v (λ shards series names filtered placed. at)
  act_adds v (event.Flush i) at = at
  act_adds v (event.Take i) at = at
  act_adds v (event.Freeze i) at = at
  act_adds v (event.Send i) at = send_adds v i (slice_get v.shards i) at
  act_adds v (event.Arrive k how) at = arrive_adds v how (slice_get v.requests k) at
  act_adds v (event.Reply k) at = reply_frame OnlyAdds v (slice_get v.replies k) (λ shards names. at)
  act_adds v (event.Lost i) at = at
  act_adds v (event.Reshard n) at = either OnlyAdds (not (is_some v.draining) && (not (is_finished v) && (nat_le 1 n && nat_le n 1000))) _ v (λ _. at) (λ _. at)
  act_adds v event.Restart at = restart_frame OnlyAdds c v v.draining (λ epoch shards draining. at)
  act_adds v event.Close at = either OnlyAdds (is_some v.closed) v _ (λ _. at) (λ _. at)
  act_adds v event.Kill at = at

  run_adds : (events : List Event) → OnlyAdds (run c events w)
  run_adds events = always OnlyAdds c act_adds events w (begins_itself w.requests, begins_itself w.replies)

pub requests_stay : (c : Setup) (events : List Event) (w : World) → Begins w.requests (run c events w).requests
requests_stay c events w = (run_adds c w events).0

pub replies_stay : (c : Setup) (events : List Event) (w : World) → Begins w.replies (run c events w).replies
replies_stay c events w = (run_adds c w events).1
