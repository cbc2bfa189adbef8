-- A failure that a receiver repeats: for how long each answer was the same 5xx with the same text.
use Rattle.std.specs.Prelude.{ℕ, ◌-◌, List, Bool, ◌&&◌, ◌==◌, false, nat_le, Option, None, Some, if◌then◌else◌}
use Rattle.std.specs.Str.{bytes_eq}

-- the first answer of those that are the same, and when it came
pub record Repeat : Type 0 where
  pub status : ℕ
  pub text : List ℕ
  pub since : ℕ

abbrev pub is_server_error : ℕ → Bool
is_server_error status = nat_le 500 status && nat_le status 599

-- an answer of this time begins a failure, or repeats the one before
abbrev pub repeated : Option Repeat → ℕ → ℕ → List ℕ → Option Repeat
repeated None now status text = Some (record { status = status; text = text; since = now })
repeated (Some r) now status text =
    if r.status == status && bytes_eq r.text text then Some r
    else Some (record { status = status; text = text; since = now })

abbrev pub after_answer : Option Repeat → ℕ → ℕ → List ℕ → Option Repeat
after_answer last now status text = if is_server_error status then repeated last now status text else None

-- there is one, for at least this long
abbrev pub is_given_up : ℕ → Option Repeat → ℕ → Bool
is_given_up most None now = false
is_given_up most (Some r) now = nat_le most (now - r.since)
