-- The answers of a head to request bodies (Remote-Write 1.0, RFC 9110, RFC 6585).
use Rattle.std.specs.Prelude.{◌≡◌, ◌⊎◌, ℕ, ◌-◌, nat_lt, if◌then◌else◌, List, Result, Ok, Err}
use Rattle.rw_write_request.specs.Message.{WriteRequest}
use Rattle.rw_write_request.specs.Read.{read}
use Rattle.rw_write_request.specs.declared.fault.WireFault.{WireFault}
use Rattle.rw_head.specs.declared.verdict.Verdict.{Verdict}
use Rattle.rw_head.specs.declared.verdict.Verdict.TheVariants.{Stored, BadBody, BadLabels, OverLimit, OutOfOrder, NoMemory}
use Rattle.rw_head.specs.Store.{Store}
use Rattle.rw_head.specs.Verdicts.{LabelLimits, Judged, apply}

-- what a head holds, which label sets it takes, and how many requests it still answers without a
-- look at them
pub record State : Type 0 where
  pub store : Store
  pub limits : LabelLimits
  pub busy : ℕ

-- the body spells a message
abbrev pub SpellsMessage : List ℕ → Type 0
SpellsMessage body = (m : WriteRequest) × (read body ≡ Ok m)

-- 204 No Content, 400 Bad Request or 503 Service Unavailable
abbrev pub status_of : Verdict → ℕ
status_of (Stored n) = 204
status_of BadBody = 400
status_of BadLabels = 400
status_of OverLimit = 400
status_of OutOfOrder = 400
status_of NoMemory = 503

-- a status, and the head after it
pub record Answer : Type 0 where
  pub status : ℕ
  pub head : State

abbrev pub answered : State → Judged → Answer
answered h j = record { status = status_of j.verdict; head = record h { store = j.store } }

-- the verdict on a body, with the store after it: a body that is not a message is bad
abbrev pub judged_body : State → Result WriteRequest WireFault → Judged
judged_body h (Ok m) = apply h.limits h.store m
judged_body h (Err e) = record { verdict = BadBody; store = h.store }

-- the answer to what was read of a body: while the head is busy, 429 Too Many Requests, whatever it
-- is
abbrev pub answer_to : State → Result WriteRequest WireFault → Answer
answer_to h found =
    if nat_lt 0 h.busy then record { status = 429; head = record h { busy = h.busy - 1 } }
    else answered h (judged_body h found)

-- the answer to a body, if memory suffices
abbrev pub answer : State → List ℕ → Answer
answer h body = answer_to h (read body)

-- the statuses that a head answers
abbrev pub IsStatus : ℕ → Type 0
IsStatus n = (n ≡ 204) ⊎ ((n ≡ 400) ⊎ ((n ≡ 429) ⊎ (n ≡ 503)))
