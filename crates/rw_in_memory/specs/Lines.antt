-- A transport whose requests go to an endpoint in the same process, which asks a seat of a shared
-- head.
use Rattle.std.specs.Prelude.{◌≡◌, ℕ, List, [], ◌∷◌, true, ⊤}
use Rattle.rw_types.specs.Requests.{is_host_name}
use Rattle.rw_shard_core.specs.SentRequest.{request_of}
use Rattle.rw_worker.specs.Transcript.{Exchange}
use Rattle.rw_head.specs.Head.{State}
use Rattle.rw_recv_head.specs.Seats.{Seated}
use Rattle.rw_simulation.specs.Seatings.{IsSeatOf}

-- the seat that it asks, and the exchanges so far
pub record SeatLine : Type 0 where
  pub seat : Seated
  pub seen : List Exchange

-- these are requests that a sender makes for this path
abbrev pub AreMade : List ℕ → List Exchange → Type 0
AreMade path [] = ⊤
AreMade path (x ∷ xs) = ((host : List ℕ) × (body : List ℕ) × (is_host_name host ≡ true) × (x.request ≡ request_of host path body)) × AreMade path xs

-- If its requests are such, the seat was asked for them, and for nothing else. The endpoint has
-- this path, and reads bodies of at most this many bytes.
abbrev pub IsSeatLine : State → List ℕ → ℕ → SeatLine → Type 0
IsSeatLine opening path limit line = AreMade path line.seen → IsSeatOf path limit opening line.seen line.seat
