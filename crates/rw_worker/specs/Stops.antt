-- What makes a worker stop before its End.
use Rattle.std.specs.Prelude.{◌≡◌, ◌⊎◌, ℕ, Option, IfSome, IsSome, ⊤}
use Rattle.rw_worker.specs.declared.report.TakingEnd.{TakingEnd}
use Rattle.rw_worker.specs.declared.report.TakingEnd.TheVariants.{Ended, Killed}

-- a stop flag that was read as set: which one, and how many samples were resolved then
pub record StopRead : Type 0 where
  pub flag : ℕ
  pub resolved : ℕ

-- nothing was resolved since the stop flag was read as set, or since the feeder was found gone
abbrev pub IsStill : Option StopRead → Option ℕ → ℕ → Type 0
IsStill stopped gone resolved = IfSome stopped (λ (s : StopRead). s.resolved ≡ resolved)
    × IfSome gone (λ (n : ℕ). n ≡ resolved)

-- an end is given up only if the stop flag was read as set or the feeder was found gone
abbrev pub HasReason : TakingEnd → Option StopRead → Option ℕ → Type 0
HasReason (Ended kind d) stopped _ = ⊤
HasReason (Killed d) stopped gone = IsSome stopped ⊎ IsSome gone
