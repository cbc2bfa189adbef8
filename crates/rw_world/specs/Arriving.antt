-- The requests of a sender, and the answers of a receiver to them.
use Rattle.std.specs.Prelude.{◌≡◌, ℕ, ◌<◌, ◌^◌, ◌⊎◌, Bool, List, length, Some, slice_get}
use Rattle.rw_shard_core.specs.Shard.{IsReadAgain}
use Rattle.rw_head.specs.Head.{State, Answer, answer}
use Rattle.rw_endpoint.specs.Alone.{IsOneRequest, IsOneRefusal}
use Rattle.rw_endpoint.specs.declared.intake.Intake.{Intake}
use Rattle.rw_machine.specs.Worlds.{Setup, World, Request}
use Rattle.rw_machine.specs.Steps.{with_answer, happens}
use Rattle.rw_machine.specs.declared.event.Event.TheVariants as event
use Rattle.rw_machine.specs.declared.event.How.TheVariants.{Plain}

-- what the endpoint answers to these bytes: they are one request, and the head answers its body; or
-- its head is refused with a status
abbrev pub IsAnswerTo : List ℕ → Intake → State → List ℕ → Answer → Type 0
IsAnswerTo path intake h bytes a =
    ((body : List ℕ) × IsOneRequest path intake bytes body × (a ≡ answer h body))
    ⊎ ((status : ℕ) × IsOneRefusal path intake bytes status × (a ≡ record { status = status; head = h }))

-- the request of this number, which arrives, is answered as the endpoint answers its bytes, whether
-- that takes Snappy blocks or not
abbrev pub IsAnsweredAsBytes : Setup → World → ℕ → Request → Type 0
IsAnsweredAsBytes c w k r = (snappy : Bool) → (a : Answer) × IsAnswerTo c.target.path (record { limit = c.max_body; snappy = snappy }) w.head r.bytes a
    × (happens c w (event.Arrive k Plain) ≡ with_answer w r.id a)

-- so is each one of fewer than 2^63 bytes
abbrev pub AnswersBytes : Setup → World → Type 0
AnswersBytes c w = (k : ℕ) (r : Request) → slice_get w.requests k ≡ Some r → length r.bytes < 2 ^ 63 → IsAnsweredAsBytes c w k r

-- and each one whose body is read as the message of its batch
abbrev pub AnswersRead : Setup → World → Type 0
AnswersRead c w = (k : ℕ) (r : Request) → slice_get w.requests k ≡ Some r → IsReadAgain r.batch → length r.bytes < 2 ^ 63 → IsAnsweredAsBytes c w k r
