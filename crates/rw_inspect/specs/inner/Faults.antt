-- Inner definitions beside those of Faults.antt: only private functions and proofs use them.
use Rattle.std.specs.Prelude.{ℕ, List, Bool}
use Rattle.std.specs.Borrow.{Bor}
use Rattle.rw_inspect.specs.Faults.{FaultShape}

abbrev pub around_of : Bor (List ℕ) × Bor (List ℕ) → List ℕ × List ℕ
around_of around = (around.0.now, around.1.now)

abbrev pub shape_of : (Bor (List ℕ) × Bor (List ℕ)) × (Bor (List ℕ) × Bor (List ℕ) × Bor (List ℕ) × Bor (List ℕ)) × (Bor (List ℕ) × Bor (List ℕ)) × Bool → FaultShape
shape_of f = record {
  said = around_of f.0;
  place = (f.1.0.now, f.1.1.now, f.1.2.now, f.1.3.now);
  next = around_of f.2;
  is_json = f.3;
}
