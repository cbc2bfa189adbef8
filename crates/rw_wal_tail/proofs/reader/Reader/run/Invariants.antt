use Rattle.std.proofs.Common.{ℕ}
use Rattle.rw_wal_tail.specs.inner.Steps.{Same, IsKept, weight}
use Rattle.rw_wal_tail.proofs.reader.Reader.run.Given as goal

-- nothing that is still read has changed, and there is room as before
abbrev pub invariant-loop-self : goal.invariant-loop-self
invariant-loop-self l = record {
  same : Same l.initial.self l.self;
  kept : (n : ℕ) → IsKept n l.initial.self → IsKept n l.self;
}

abbrev pub decreases-loop-self : goal.decreases-loop-self
decreases-loop-self l = weight l.self
