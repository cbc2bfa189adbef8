-- How much a head may hold. A request that would take it above that is answered with 503 Service
-- Unavailable (RFC 9110).
use Rattle.std.specs.Prelude.{◌⊎◌, ℕ, ◌-◌, ◌^◌, ◌≤◌, nat_lt, Bool, ◌&&◌, ◌||◌, if◌then◌else◌, List, length}
use Rattle.rw_head.specs.declared.capacity.Admission.{Admission}
use Rattle.rw_head.specs.declared.capacity.Admission.TheVariants.{Answered, Full}
use Rattle.rw_head.specs.declared.capacity.Capacity.{Capacity}
use Rattle.rw_head.specs.Head.{State, Answer, answer}
use Rattle.rw_head.specs.Store.{Store, total, label_sets}

-- the greatest capacity: no head holds more
abbrev pub unlimited : Capacity
unlimited = record { max_samples = 2 ^ 64 - 1; max_series = 2 ^ 64 - 1 }

-- the number of label sets that have samples
abbrev pub series_count : Store → ℕ
series_count store = length (label_sets store)

-- a count grew, and is above its limit
abbrev pub is_above : ℕ → ℕ → ℕ → Bool
is_above limit old new = nat_lt old new && nat_lt limit new

-- the second store has more samples or more label sets than the first one and than the capacity
abbrev pub exceeds : Capacity → Store → Store → Bool
exceeds capacity old new =
    is_above capacity.max_samples (total old) (total new)
    || is_above capacity.max_series (series_count old) (series_count new)

-- a count that grew is not above its limit
abbrev pub IsWithin : ℕ → ℕ → ℕ → Type 0
IsWithin limit old new = (new ≤ old) ⊎ (new ≤ limit)

-- what was added to the first store did not take it above the capacity
pub record StaysWithin (capacity : Capacity) (old new : Store) : Type 0 where
  pub samples : IsWithin capacity.max_samples (total old) (total new)
  pub series : IsWithin capacity.max_series (series_count old) (series_count new)

-- the status of a request
abbrev pub status_of_admission : Admission → ℕ
status_of_admission (Answered status) = status
status_of_admission Full = 503

-- the answer, unless the head after it would be above the capacity
abbrev pub unless_above : Capacity → State → Answer → Answer
unless_above capacity head answer =
    if exceeds capacity head.store answer.head.store then record { status = 503; head = head }
    else answer

-- the answer of a head with this capacity to a body, if memory suffices
abbrev pub answer_within : Capacity → State → List ℕ → Answer
answer_within capacity head body = unless_above capacity head (answer head body)
