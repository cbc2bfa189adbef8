-- A head over a journal as a receiver that is started again.
use Rattle.std.specs.Prelude.{◌≡◌, ◌≢◌, ℕ, Ok}
use Rattle.rw_write_request.specs.Message.{WriteRequest}
use Rattle.rw_retry.specs.declared.judgement.Judgement.{Judgement}
use Rattle.rw_retry.specs.declared.judgement.Judgement.TheVariants.{Done, Again, Refused}
use Rattle.rw_head.specs.Head.{State, IsStatus, answer_to}
use Rattle.rw_head.specs.Store.{Store}

-- What `KeptHead::admit` says of its answer to this message (`statuses`, `status`, `head`,
-- `unavailable`): it is that of a head without a journal, or 503, after which it is as it was.
pub record IsAdmission (old : State) (m : WriteRequest) (status : ℕ) (new : State) : Type 0 where
  pub statuses : IsStatus status
  pub judged : status ≢ 503
      → (status ≡ (answer_to old (Ok m)).status) × (new ≡ (answer_to old (Ok m)).head)
  pub unavailable : status ≡ 503 → new ≡ old

-- what is acknowledged after an answer: all that is held then, or what was acknowledged before
abbrev pub acknowledged_after : Judgement → Store → Store → Store
acknowledged_after Done old held = held
acknowledged_after Again old held = old
acknowledged_after Refused old held = old
