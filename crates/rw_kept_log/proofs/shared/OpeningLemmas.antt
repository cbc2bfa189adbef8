-- The segments of a log, read one after the other.
use Rattle.std.proofs.Common.{ℕ, List, [], ◌∷◌, ◌++◌}
use Rattle.std.specs.List.{AllByRecursion}
use Rattle.rw_kept_log.specs.Journal.{Segments}
use Rattle.rw_kept_log.specs.TornLogs.{AllBefore}

pub before_of : (P : List ℕ → Type 0) (done : Segments) (t : List ℕ) → AllByRecursion P done → AllBefore P (done ++ t ∷ [])
before_of P [] t all = tt
before_of P (d ∷ []) t all = (all.0, tt)
before_of P (d ∷ e ∷ ds) t all = (all.0, before_of P (e ∷ ds) t all.1)
