-- Whether a receiver may have taken a batch whose attempts it has not acknowledged.
use Rattle.std.specs.Prelude.{ℕ, Bool, true, ◌==◌, ◌||◌, ◌&&◌, Option, None, Some}

-- what came of an attempt that wrote something: no reply, or the status of one. A gateway answers
-- 502 and 504 if the server that it has asked gave it no valid reply in time (RFC 9110, section
-- 15.6).
abbrev pub may_be_taken : Bool → Option ℕ → Bool
may_be_taken before None = true
may_be_taken before (Some status) = before || status == 502 || status == 504

-- the batch is refused as one that is not valid, or that the receiver holds already, and it may
-- hold it
abbrev pub is_unsure : Bool → ℕ → Bool
is_unsure before status = before && status == 400
