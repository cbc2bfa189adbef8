-- What is true of a receiver that refused messages, whatever it held before, and whatever it is
-- sent.
use Rattle.std.specs.Prelude.{◌≡◌, ℕ, suc, List, length, Some, true, slice_get}
use Rattle.std.specs.List.{AllByRecursion}
use Rattle.rw_types.specs.Beginnings.{Begins}
use Rattle.rw_types.specs.Labels.{Labels}
use Rattle.rw_retry.specs.declared.judgement.Judgement.{Judgement}
use Rattle.rw_retry.specs.declared.judgement.Judgement.TheVariants.{Done}
use Rattle.rw_head.specs.Growth.{EachRises}
use Rattle.rw_head.specs.Order.{Point, holds}
use Rattle.rw_head.specs.Store.{list_of}
use Rattle.rw_head.specs.Verdicts.{LabelLimits}
use Rattle.rw_restarts.specs.Parts.{points_in}
use Rattle.rw_restarts.specs.Runs.{SenderRun, SentMessage, IsSentBy}
use Rattle.rw_restarts.specs.Receivers.{ReceiverEvent, ReceiverState, Happens, IsAnsweredAmong}

-- A receiver that held lists that rise, and was sent the messages of these runs. They need not be
-- over one log.
pub record IsAnyReceiver (limits : LabelLimits) (runs : List SenderRun)
    (events : List ReceiverEvent) (states : ℕ → ReceiverState) : Type 0 where
  pub rises : EachRises (states 0).store
  pub acknowledged : (l : Labels)
      → Begins (list_of (states 0).acknowledged l) (list_of (states 0).store l)
  pub happens : (at : ℕ) (event : ReceiverEvent) → slice_get events at ≡ Some event
      → Happens limits runs event (states at) (states (suc at))
  pub answers : (i n : ℕ) (run : SenderRun) (x : SentMessage) (judgement : Judgement)
      → IsSentBy runs i n run x → x.judgement ≡ Some judgement
      → IsAnsweredAmong events (length events) i n judgement

-- Each list rises. What was acknowledged before is in its place. Each sample that was acknowledged
-- in a run is held; so what is missing then was not acknowledged in any.
pub record HoldsAcknowledged (runs : List SenderRun) (first held : ReceiverState) : Type 0 where
  pub in_order : EachRises held.store
  pub stays : (l : Labels) → Begins (list_of first.acknowledged l) (list_of held.store l)
  pub taken : (i n : ℕ) (run : SenderRun) (x : SentMessage) (l : Labels) → IsSentBy runs i n run x
      → x.judgement ≡ Some Done
      → AllByRecursion (λ (p : Point). holds p (list_of held.store l) ≡ true)
      (points_in l x.message)
