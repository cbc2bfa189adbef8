-- Inner definitions beside those of Exposition.antt: only invariants, private functions and
-- proofs use them.
use Rattle.std.specs.Prelude.{ℕ, List}
use Rattle.std.specs.Borrow.{Bor}
use Rattle.rw_metrics.specs.Exposition.{Metric, Family}

abbrev pub metric_of : Bor (List ℕ) × Bor (List ℕ) × Bor (List ℕ) → Metric
metric_of m = (m.0.now, m.1.now, m.2.now)

abbrev pub family_of : Bor (List ℕ) × Bor (List ℕ) × Bor (List ℕ) × Bor (List ℕ) → Family
family_of f = (f.0.now, f.1.now, f.2.now, f.3.now)
