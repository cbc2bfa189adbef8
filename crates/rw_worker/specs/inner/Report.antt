-- Inner definitions beside those of Report.antt: only invariants, private functions and
-- proofs use them.
use Rattle.std.specs.Prelude.{◌≡◌, ℕ, None, IfSome, ⊤}
use Rattle.rw_worker.specs.declared.state.Intake.{Intake}
use Rattle.rw_worker.specs.declared.state.Sending.{Sending}
use Rattle.rw_worker.specs.declared.state.Progress.{Progress}
use Rattle.rw_worker.specs.declared.state.Progress.TheVariants.{Goes, Stops}
use Rattle.rw_worker.specs.Report.{given_back}
use Rattle.rw_worker.specs.Stops.{StopRead}

-- no stop flag was read as set
abbrev pub IsNotStopped : Progress → Type 0
IsNotStopped (Goes i) = ⊤
IsNotStopped (Stops end stopped _) = stopped ≡ None

-- a worker that reports a stop flag read this one, and has done nothing since
abbrev pub IsStoppedAt : {T : Type 0} → ℕ → Intake → Sending T → Progress → Sending T → Type 0
IsStoppedAt flag i s (Goes j) v = ⊤
IsStoppedAt flag i s (Stops end stopped _) v = IfSome stopped (λ (f : StopRead). (f ≡ record { flag = flag; resolved = s.resolved }) × (end ≡ given_back i) × (v ≡ s))
