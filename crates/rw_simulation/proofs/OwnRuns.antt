-- Events of the sender's own answer nothing.
use Rattle.std.proofs.Common.{◌≡◌, ◌&&◌, not, nat_le, List, [], ◌∷◌, ◌++◌, Option, Some, None, is_some, slice_get, refl, sym, ap, ◌∙◌, append-nil, append_assoc}
use Rattle.std.specs.List.{AllByRecursion}
use Rattle.rw_shard_core.specs.Shard.{can_send}
use Rattle.rw_machine.specs.Shards.{Shard}
use Rattle.rw_machine.specs.Worlds.{Setup, Request, World, is_finished, is_over}
use Rattle.rw_machine.specs.Steps.{act, happens, run, request_by, send_batch}
use Rattle.rw_machine.specs.declared.event.Event.{Event}
use Rattle.rw_machine.specs.declared.event.Event.TheVariants as event
use Rattle.rw_machine.proofs.shared.Steps.{unless}
use Rattle.rw_machine.proofs.shared.Frames.{place_frame, reply_frame, restart_frame}
use Rattle.rw_simulation.specs.Freely.{Happening, Of, Answered, IsOwn, run_freely}
use Rattle.rw_types.proofs.shared.Booleans.{either}

-- no reply is made and the head stays; requests may come after those that there are
pub record Grows (w v : World) : Type 0 where
  pub replies : v.replies ≡ w.replies
  pub head : v.head ≡ w.head
  pub more : List Request
  pub requests : v.requests ≡ w.requests ++ more

same : (w : World) → Grows w w
same w = record { replies = refl; head = refl; more = []; requests = sym (append-nil w.requests) }

still : (w v : World) → v.replies ≡ w.replies → v.head ≡ w.head → v.requests ≡ w.requests → Grows w v
still w v a b e = record { replies = a; head = b; more = []; requests = e ∙ sym (append-nil w.requests) }

both : (u v w : World) → Grows u v → Grows v w → Grows u w
both u v w g h = record {
  replies = h.replies ∙ g.replies;
  head = h.head ∙ g.head;
  more = g.more ++ h.more;
  requests = h.requests ∙ ap (λ (rs : List Request). rs ++ h.more) g.requests ∙ append_assoc u.requests g.more h.more;
}

own-act : (c : Setup) (w : World) (e : Event) → IsOwn (Of e) → Grows w (act c w e)
own-act c w (event.Feed piece) o = either (Grows w) (is_some w.closed) w _ (λ _. same w) (λ _. still w _ refl refl refl)
own-act c w event.Place o = place_frame (Grows w) c w (λ shards series names filtered placed. still w _ refl refl refl)
own-act c w (event.Flush i) o = still w _ refl refl refl
own-act c w (event.Take i) o = still w _ refl refl refl
own-act c w (event.Freeze i) o = still w _ refl refl refl
own-act c w (event.Send i) o = by_shard (slice_get w.shards i)
  where
    by_shard : (o : Option Shard) → Grows w (send_batch w i o)
    by_shard None = same w
    by_shard (Some s) = either (Grows w) (can_send s.core) _ w (λ _. record { replies = refl; head = refl; more = request_by s ∷ []; requests = refl }) (λ _. same w)
own-act c w (event.Arrive k how) o = absurd o
own-act c w (event.Reply k) o = reply_frame (Grows w) w (slice_get w.replies k) (λ shards names. still w _ refl refl refl)
own-act c w (event.Lost i) o = still w _ refl refl refl
own-act c w (event.Reshard n) o = either (Grows w) (not (is_some w.draining) && (not (is_finished w) && (nat_le 1 n && nat_le n 1000))) _ w (λ _. still w _ refl refl refl) (λ _. same w)
own-act c w event.Restart o = restart_frame (Grows w) c w w.draining (λ epoch shards draining. still w _ refl refl refl)
own-act c w event.Close o = either (Grows w) (is_some w.closed) w _ (λ _. same w) (λ _. still w _ refl refl refl)
own-act c w event.Kill o = still w _ refl refl refl

own-happens : (c : Setup) (w : World) (e : Event) → IsOwn (Of e) → Grows w (happens c w e)
own-happens c w e o = unless (Grows w) c w e (is_over w) (same w) (own-act c w e o)

-- they are a schedule of the machine
pub record OwnRun (c : Setup) (hs : List Happening) (w : World) : Type 0 where
  pub events : List Event
  pub is : run c events w ≡ run_freely c hs w
  pub grows : Grows w (run_freely c hs w)

pub own-run : (c : Setup) (hs : List Happening) (w : World) → AllByRecursion IsOwn hs → OwnRun c hs w
own-run c [] w h = record { events = []; is = refl; grows = same w }
own-run c (Of e ∷ hs) w h = let r = own-run c hs (happens c w e) h.1 in record {
  events = e ∷ r.events;
  is = r.is;
  grows = both w (happens c w e) (run_freely c hs (happens c w e)) (own-happens c w e h.0) r.grows;
}
own-run c (Answered k status ∷ hs) w h = absurd h.0
