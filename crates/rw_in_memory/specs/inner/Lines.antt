-- Inner definitions beside those of Lines.antt: only invariants, private functions and
-- proofs use them.
use Rattle.std.specs.Prelude.{◌≡◌, ℕ, ◌≤◌, List, length, Option, None, Some}
use Rattle.rw_head.specs.Head.{State}
use Rattle.rw_recv_head.specs.Seats.{Seated, HasAsked}

-- the seat was asked for this body, which is within the limit, and returned that status; or it was
-- not asked
abbrev pub IsAskedOnce : State → ℕ → Seated → List ℕ → Option ℕ → Seated → Type 0
IsAskedOnce opening limit old body None new = new ≡ old
IsAskedOnce opening limit old body (Some status) new = (length body ≤ limit) × HasAsked opening old body status new
