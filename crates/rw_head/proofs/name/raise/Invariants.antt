use Rattle.std.proofs.Common.{◌≡◌, ◌≤◌, ℕ, ◌<◌, get_or}
use Rattle.rw_head.specs.inner.Keys.{raised_byte}
use Rattle.rw_head.proofs.name.raise.Given as goal

abbrev pub invariant-loop-byte : goal.invariant-loop-byte
invariant-loop-byte l = record {
  done : (k : ℕ) → k < l.byte-index → get_or l.bytes k 0 ≡ raised_byte (get_or l.initial.bytes k 0);
  rest : (k : ℕ) → l.byte-index ≤ k → get_or l.bytes k 0 ≡ get_or l.initial.bytes k 0;
}
